use Rattle.std.proofs.Common.{◌∙◌, sym}
use Rattle.std.specs.Char.{is_ascii_digit}
use Rattle.lg_circ.proofs.Digits.{numbered_from, numbered_none}
use Rattle.lg_circ.proofs.character.decimal.Goals as goal

pub returns-then-are_decimal : goal.returns-then-are_decimal
returns-then-are_decimal c = numbered_from is_ascii_digit 10 c.args.digits.now c.number.result c.from_u32.result (sym c.are_decimal.ensures ∙ c.if-are_decimal.true) c.number.ensures c.from_u32.ensures.value c.from_u32.ensures.cases

pub returns-else-are_decimal : goal.returns-else-are_decimal
returns-else-are_decimal c = numbered_none is_ascii_digit 10 c.args.digits.now (sym c.are_decimal.ensures ∙ c.if-are_decimal.false)

use Rattle.std.proofs.Common.{◌∙◌, sym}
use Rattle.std.specs.Char.{is_ascii_hexdigit}
use Rattle.lg_circ.proofs.Digits.{numbered_from, numbered_none}
use Rattle.lg_circ.proofs.character.hexadecimal.Goals as goal

pub returns-then-are_hexadecimal : goal.returns-then-are_hexadecimal
returns-then-are_hexadecimal c = numbered_from is_ascii_hexdigit 16 c.args.digits.now c.number.result c.from_u32.result (sym c.are_hexadecimal.ensures ∙ c.if-are_hexadecimal.true) c.number.ensures c.from_u32.ensures.value c.from_u32.ensures.cases

pub returns-else-are_hexadecimal : goal.returns-else-are_hexadecimal
returns-else-are_hexadecimal c = numbered_none is_ascii_hexdigit 16 c.args.digits.now (sym c.are_hexadecimal.ensures ∙ c.if-are_hexadecimal.false)

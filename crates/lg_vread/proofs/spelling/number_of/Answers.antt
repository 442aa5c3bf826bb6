use Rattle.std.proofs.Common.{◌≡◌, ℕ, ◌<◌, true, false, List, get_or, length, sym, ◌∙◌, subst}
use Rattle.std.specs.Str.{all_ascii_digits}
use Rattle.std.specs.Str.Parse.{ParsesUnsigned}
use Rattle.std.proofs.lemmas.Bool.{false≢true}
use Rattle.lg_vread.proofs.Numbers.{parsed, digits_utf8, leading_zero, no_number}
use Rattle.lg_vread.proofs.spelling.number_of.Goals as goal

pub returns-then-not-are_digits : goal.returns-then-not-are_digits
returns-then-not-are_digits c =
    let no : all_ascii_digits c.args.word.now ≡ false = cc in
    sym (no_number c.args.word.now no)

pub returns-then-has_leading_zero : goal.returns-then-has_leading_zero
returns-then-has_leading_zero c =
    let lead = c.has_leading_zero.ensures.0 c.if-has_leading_zero.true in
    sym (leading_zero c.args.word.now lead.0 lead.1)

pub returns-in-Ok : goal.returns-in-Ok
returns-in-Ok c =
    let digits : all_ascii_digits c.args.word.now ≡ true = cc in
    let lead : get_or c.args.word.now 0 0 ≡ 48 → 1 < length c.args.word.now → ⊥ = λ z long. false≢true (sym c.if-has_leading_zero.false ∙ c.has_leading_zero.ensures.1 (z, long)) in
    c.ok.ensures.value ∙ parsed c.args.word.now c.parse.result (subst (λ (w : List ℕ). ParsesUnsigned 128 10 w c.parse.result) c.in-Ok.ensures.cases.0 c.parse.ensures.value.0) digits lead

pub returns-in-Err : goal.returns-in-Err
returns-in-Err c =
    let digits : all_ascii_digits c.args.word.now ≡ true = cc in
    absurd (c.in-Err.ensures.cases.0 (digits_utf8 c.args.word.now digits))

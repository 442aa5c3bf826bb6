use Rattle.std.proofs.Common.{◌≡◌, Bool, ◌&&◌, ◌||◌, List, map, sym, ap, ◌∙◌}
use Rattle.std.specs.Prelude.{not}
use Rattle.std.specs.List.{list_all}
use Rattle.lg_vtree.specs.declared.expr.Expr.{Expr, out-Expr}
use Rattle.lg_vrules.specs.Inside.{holds_inside}
use Rattle.lg_vrules.specs.Rules.{divides_safely, is_division, is_divisor}
use Rattle.lg_vrules.proofs.DivisorLemmas.{safely-Join, safely-Binary}
use Rattle.lg_vrules.proofs.divisors.+divisors.Goals as goal

abbrev safely : Expr → Bool
safely e = holds_inside divides_safely e

three : {a b c x y z : Bool} → a ≡ x → b ≡ y → c ≡ z → (a && (b && c)) ≡ (x && (y && z))
three e f g = λ i. e i && (f i && g i)

pub divides_safely-returns-in-Join : goal.divides_safely-returns-in-Join
divides_safely-returns-in-Join t c =
    let j = c.in-Join in
    three (c.all_divide_safely.ensures ∙ ap (λ (es : List Expr). list_all (λ safe. safe) (map safely es)) c.as_slice.ensures)
    (c.divides_safely-in-Join.ensures ∙ ap safely c.get-in-Join.ensures)
    (c.divides_safely-in-Join-2.ensures ∙ ap safely c.get-in-Join-2.ensures)
    ∙ (sym (safely-Join j.first j.second j.more) ∙ ap safely (sym j.is))

pub divides_safely-returns-in-Binary : goal.divides_safely-returns-in-Binary
divides_safely-returns-in-Binary t c =
    let b = c.in-Binary in
    three (c.is_safe.ensures ∙ ap (λ (e : Expr). not (is_division b.operator) || is_divisor (out-Expr e)) c.get-in-Binary.ensures)
    (c.divides_safely-in-Binary.ensures ∙ ap safely c.get-in-Binary-2.ensures)
    (c.divides_safely-in-Binary-2.ensures ∙ ap safely c.get-in-Binary-3.ensures)
    ∙ (sym (safely-Binary b.left b.operator b.right) ∙ ap safely (sym b.is))

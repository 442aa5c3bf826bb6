-- Expressions that are not the same, and what they divide by.
use Rattle.std.proofs.Common.{◌≡◌, suc, Bool, true, false, ◌&&◌, ◌||◌, List, [], ◌∷◌, length, map, refl, sym, ap, ◌∙◌}
use Rattle.std.specs.Prelude.{not}
use Rattle.std.specs.List.{list_all}
use Rattle.lg_vtree.specs.declared.expr.Operator.{Operator}
use Rattle.lg_vtree.specs.declared.expr.Expr.{Expr, out-Expr}
use Rattle.lg_vtree.specs.declared.expr.Expr.TheOpen.{Expr-F}
use Rattle.lg_vtree.specs.declared.expr.Expr.TheVariants.{rolls-Join, rolls-Binary}
use Rattle.lg_vtree.specs.declared.expr.Expr.TheVariants as expr
use Rattle.lg_vrules.specs.Rules.{same_each, is_division, is_divisor, divides_safely}
use Rattle.lg_vrules.specs.Inside.{holds_inside}
use Rattle.lg_vrules.proofs.InsideLemmas.{inside-roll}

and_false : (b : Bool) → (b && false) ≡ false
and_false true = refl
and_false false = refl

pub apart : (tests : List (Expr → Bool)) (es : List Expr) → (length tests ≡ length es → ⊥) → same_each tests es ≡ false
apart [] [] differ = absurd (differ refl)
apart [] (e ∷ es) differ = refl
apart (test ∷ tests) [] differ = refl
apart (test ∷ tests) (e ∷ es) differ = ap (λ (b : Bool). test e && b) (apart tests es (λ f. differ (ap suc f))) ∙ and_false (test e)

-- what an expression divides by inside, of the two forms that say more than their parts

abbrev safely : Expr → Bool
safely e = holds_inside divides_safely e

pub safely-Join : (a b : Expr) (more : List Expr) → safely (expr.Join a b more) ≡ (list_all (λ safe. safe) (map safely more) && (safely a && safely b))
safely-Join a b more = ap safely (sym (rolls-Join a b more)) ∙ inside-roll divides_safely (Expr-F.Join a b more)

pub safely-Binary : (a : Expr) (op : Operator) (b : Expr) → safely (expr.Binary a op b) ≡ ((not (is_division op) || is_divisor (out-Expr b)) && (safely a && safely b))
safely-Binary a op b = ap safely (sym (rolls-Binary a op b)) ∙ inside-roll divides_safely (Expr-F.Binary a op b)

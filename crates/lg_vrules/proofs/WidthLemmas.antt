-- Widths of joined words.
use Rattle.std.proofs.Common.{◌≡◌, ℕ, ◌+◌, ◌*◌, ◌/◌, ◌^◌, ◌<◌, ◌≤◌, nat_eq, nat_lt, Bool, true, false, rules, arith, pow_pos, List, ◌∷◌, map, Option, Some, refl, sym, ap, ◌∙◌}
use native.Mathlib.Nat.{div-lt_iff_lt-mul}
use Rattle.std.specs.Prelude.{option_and_then}
use Rattle.lg_vtree.specs.declared.expr.Expr.{Expr, fold-Expr}
use Rattle.lg_vtree.specs.declared.expr.Expr.TheFolds.{fold-roll-Expr}
use Rattle.lg_vtree.specs.declared.expr.Expr.TheOpen.{Expr-F}
use Rattle.lg_vtree.specs.declared.expr.Expr.TheVariants.{rolls-Join}
use Rattle.lg_vtree.specs.declared.expr.Expr.TheVariants as expr
use Rattle.lg_vrules.specs.Rules.{form_width, expr_width, sum_of, at_most_128}

pub width-Join : (width : List ℕ → ℕ) (a b : Expr) (more : List Expr)
    → expr_width width (expr.Join a b more) ≡ option_and_then at_most_128 (sum_of (expr_width width a ∷ expr_width width b ∷ map (expr_width width) more))
width-Join width a b more =
    ap (fold-Expr (Option ℕ) (form_width width)) (sym (rolls-Join a b more)) ∙ fold-roll-Expr (Option ℕ) (form_width width) (Expr-F.Join a b more)

pub joined : (a b : Option ℕ) (rest : List (Option ℕ)) (x y z : ℕ) → a ≡ Some x → b ≡ Some y → sum_of rest ≡ Some z → option_and_then at_most_128 (sum_of (a ∷ b ∷ rest)) ≡ at_most_128 (x + (y + z))
joined a b rest x y z e f g = rw (e, f, g) refl

-- a value has at most so many bits where nothing is left above them
pub fits_by_quotient : (value width : ℕ) → nat_eq (value / 2 ^ width) 0 ≡ nat_lt value (2 ^ width)
fits_by_quotient value width = same (nat_eq (value / 2 ^ width) 0) (nat_lt value (2 ^ width)) refl refl
  where
    some : 0 < 2 ^ width
    some = pow_pos width

    same : (x y : Bool) → nat_eq (value / 2 ^ width) 0 ≡ x → nat_lt value (2 ^ width) ≡ y → nat_eq (value / 2 ^ width) 0 ≡ nat_lt value (2 ^ width)
    same true true e f = e ∙ sym f
    same true false e f =
        let none : value / 2 ^ width ≡ 0 = search rules in
        let small : value < 1 * 2 ^ width = (div-lt_iff_lt-mul some).0 (omega (arith, none)) in
        let high : 2 ^ width ≤ value = search rules in
        absurd (omega (arith, small, high))
    same false true e f =
        let small : value < 2 ^ width = search rules in
        let none : value / 2 ^ width < 1 = (div-lt_iff_lt-mul some).1 (omega (arith, small)) in
        let apart : value / 2 ^ width ≡ 0 → ⊥ = search rules in
        absurd (apart (omega (arith, none)))
    same false false e f = e ∙ sym f

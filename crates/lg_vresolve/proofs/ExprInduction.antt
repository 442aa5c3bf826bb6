-- What holds of an expression where it holds of the parts of its form holds of each expression.
use Rattle.std.proofs.Common.{◌≡◌, ℕ, zero, suc, ◌≤◌, List, [], ◌∷◌, map, sym, ap, subst, ◌∙◌, arith}
use Rattle.std.specs.List.{AllByRecursion}
use Rattle.lg_vtree.specs.declared.expr.Expr.{Expr, roll-Expr, out-Expr, roll-out-Expr}
use Rattle.lg_vtree.specs.declared.expr.Expr.TheFolds.{map-Expr, fold-roll-Expr}
use Rattle.lg_vtree.specs.declared.expr.Expr.TheOpen.{Expr-F}
use Rattle.lg_vtree.specs.Depth.{greatest, form_depth, depth}
use Rattle.lg_vtree.proofs.Unrolled.{some_depth}

-- the expressions right below a form
abbrev pub parts : Expr-F Expr → List Expr
parts (Expr-F.Const c) = []
parts (Expr-F.Whole name) = []
parts (Expr-F.Bit name index) = []
parts (Expr-F.Part name high low) = []
parts (Expr-F.Item name e) = e ∷ []
parts (Expr-F.Join a b more) = a ∷ b ∷ more
parts (Expr-F.Not e) = e ∷ []
parts (Expr-F.Binary a op b) = a ∷ b ∷ []
parts (Expr-F.Choice c a b) = c ∷ a ∷ b ∷ []

module _ (P : Expr → Type 0) (by_form : (f : Expr-F Expr) → AllByRecursion P (parts f) → P (roll-Expr f)) where
  of_parts : (n : ℕ) → ((e : Expr) → depth e ≤ n → P e) → (f : Expr-F Expr) → form_depth (map-Expr Expr ℕ depth f) ≤ suc n → AllByRecursion P (parts f)
  of_parts n inner (Expr-F.Const c) deep = tt
  of_parts n inner (Expr-F.Whole name) deep = tt
  of_parts n inner (Expr-F.Bit name index) deep = tt
  of_parts n inner (Expr-F.Part name high low) deep = tt
  of_parts n inner (Expr-F.Item name e) deep = (inner e (omega arith), tt)
  of_parts n inner (Expr-F.Join a b more) deep = (inner a (omega arith), (inner b (omega arith), all more (omega arith)))
    where
      all : (es : List Expr) → greatest (map depth es) ≤ n → AllByRecursion P es
      all [] d = tt
      all (e ∷ es) d = (inner e (omega arith), all es (omega arith))
  of_parts n inner (Expr-F.Not e) deep = (inner e (omega arith), tt)
  of_parts n inner (Expr-F.Binary a op b) deep = (inner a (omega arith), (inner b (omega arith), tt))
  of_parts n inner (Expr-F.Choice c a b) deep = (inner c (omega arith), (inner a (omega arith), (inner b (omega arith), tt)))

  form_deep : (f : Expr-F Expr) → depth (roll-Expr f) ≡ form_depth (map-Expr Expr ℕ depth f)
  unfolding depth
  form_deep f = fold-roll-Expr ℕ form_depth f

  at_depth : (n : ℕ) (e : Expr) → depth e ≤ n → P e
  at_depth zero e deep = absurd (some_depth e deep)
  at_depth (suc n) e deep =
      let here : form_depth (map-Expr Expr ℕ depth (out-Expr e)) ≤ suc n = subst (λ k. k ≤ suc n) (ap depth (sym (roll-out-Expr e)) ∙ form_deep (out-Expr e)) deep in
      subst P (roll-out-Expr e) (by_form (out-Expr e) (of_parts n (at_depth n) (out-Expr e) here))

  pub by_forms : (e : Expr) → P e
  by_forms e = at_depth (depth e) e (omega arith)

-- What holds at each form inside an expression, form by form.
use Rattle.std.proofs.Common.{◌≡◌, ℕ, zero, suc, ◌≤◌, Bool, ◌&&◌, List, [], ◌∷◌, map, refl, sym, ap, subst, ◌∙◌, arith}
use Rattle.lg_vtree.specs.declared.expr.Expr.{Expr, roll-Expr, out-Expr, roll-out-Expr}
use Rattle.lg_vtree.specs.declared.expr.Expr.TheFolds.{map-Expr, fold-roll-Expr}
use Rattle.lg_vtree.specs.declared.expr.Expr.TheOpen.{Expr-F}
use Rattle.lg_vtree.specs.Depth.{greatest, form_depth, depth}
use Rattle.lg_vrules.specs.Inside.{all_pass, form_inside, folded, holds_inside}

map_map : {A B C : Type 0} (g : B → C) (h : A → B) (xs : List A) → map g (map h xs) ≡ map (λ x. g (h x)) xs
map_map g h [] = refl
map_map g h (x ∷ xs) = ap (λ ys. g (h x) ∷ ys) (map_map g h xs)

-- one map after another over the parts of a form
map_twice : {A B C : Type 0} (g : B → C) (h : A → B) (f : Expr-F A) → map-Expr B C g (map-Expr A B h f) ≡ map-Expr A C (λ x. g (h x)) f
map_twice g h (Expr-F.Const c) = refl
map_twice g h (Expr-F.Whole name) = refl
map_twice g h (Expr-F.Bit name index) = refl
map_twice g h (Expr-F.Part name high low) = refl
map_twice g h (Expr-F.Item name e) = refl
map_twice g h (Expr-F.Join a b more) = ap (λ ys. Expr-F.Join (g (h a)) (g (h b)) ys) (map_map g h more)
map_twice g h (Expr-F.Not e) = refl
map_twice g h (Expr-F.Binary a op b) = refl
map_twice g h (Expr-F.Choice c a b) = refl

module _ (here : Expr-F Expr → Bool) where
  abbrev pub first : Expr → Expr
  first e = (folded here e).0

  rebuilt-form : (f : Expr-F Expr) → first (roll-Expr f) ≡ roll-Expr (map-Expr Expr Expr first f)
  rebuilt-form f =
      ap (λ (p : Expr × Bool). p.0) (fold-roll-Expr (Expr × Bool) (form_inside here) f)
      ∙ ap roll-Expr (map_twice (λ (p : Expr × Bool). p.0) (folded here) f)

  depth-roll : (f : Expr-F Expr) → depth (roll-Expr f) ≡ form_depth (map-Expr Expr ℕ depth f)
  unfolding depth
  depth-roll f = fold-roll-Expr ℕ form_depth f

  same_parts : (n : ℕ) → ((e : Expr) → depth e ≤ n → first e ≡ e) → (f : Expr-F Expr) → form_depth (map-Expr Expr ℕ depth f) ≤ suc n → map-Expr Expr Expr first f ≡ f
  same_parts n inner (Expr-F.Const c) deep = refl
  same_parts n inner (Expr-F.Whole name) deep = refl
  same_parts n inner (Expr-F.Bit name index) deep = refl
  same_parts n inner (Expr-F.Part name high low) deep = refl
  same_parts n inner (Expr-F.Item name e) deep = ap (λ x. Expr-F.Item name x) (inner e (omega arith))
  same_parts n inner (Expr-F.Join a b more) deep = λ i. Expr-F.Join (inner a (omega arith) i) (inner b (omega arith) i) (all more (omega arith) i)
    where
      all : (es : List Expr) → greatest (map depth es) ≤ n → map first es ≡ es
      all [] d = refl
      all (e ∷ es) d = λ i. inner e (omega arith) i ∷ all es (omega arith) i
  same_parts n inner (Expr-F.Not e) deep = ap (λ x. Expr-F.Not x) (inner e (omega arith))
  same_parts n inner (Expr-F.Binary a op b) deep = λ i. Expr-F.Binary (inner a (omega arith) i) op (inner b (omega arith) i)
  same_parts n inner (Expr-F.Choice c a b) deep = λ i. Expr-F.Choice (inner c (omega arith) i) (inner a (omega arith) i) (inner b (omega arith) i)

  some_depth : (f : Expr-F ℕ) → form_depth f ≤ 0 → ⊥
  some_depth (Expr-F.Const c) d = absurd (omega (arith, d))
  some_depth (Expr-F.Whole name) d = absurd (omega (arith, d))
  some_depth (Expr-F.Bit name index) d = absurd (omega (arith, d))
  some_depth (Expr-F.Part name high low) d = absurd (omega (arith, d))
  some_depth (Expr-F.Item name e) d = absurd (omega (arith, d))
  some_depth (Expr-F.Join a b more) d = absurd (omega (arith, d))
  some_depth (Expr-F.Not e) d = absurd (omega (arith, d))
  some_depth (Expr-F.Binary a op b) d = absurd (omega (arith, d))
  some_depth (Expr-F.Choice c a b) d = absurd (omega (arith, d))

  at_depth : (n : ℕ) (e : Expr) → depth e ≤ n → first e ≡ e
  at_depth zero e d = absurd (some_depth (map-Expr Expr ℕ depth (out-Expr e)) (subst (λ k. k ≤ 0) (ap depth (sym (roll-out-Expr e)) ∙ depth-roll (out-Expr e)) d))
  at_depth (suc n) e d =
      let f = out-Expr e in
      let deep : form_depth (map-Expr Expr ℕ depth f) ≤ suc n = subst (λ k. k ≤ suc n) (ap depth (sym (roll-out-Expr e)) ∙ depth-roll f) d in
      ap first (sym (roll-out-Expr e)) ∙ (rebuilt-form f ∙ (ap roll-Expr (same_parts n (at_depth n) f deep) ∙ roll-out-Expr e))

  -- what the fold gives back is the expression
  pub rebuilt : (e : Expr) → first e ≡ e
  rebuilt e = at_depth (depth e) e (omega arith)

  -- a test that holds inside an expression holds at its form and inside its parts
  pub inside-roll : (f : Expr-F Expr) → holds_inside here (roll-Expr f) ≡ (here f && all_pass (map-Expr Expr Bool (holds_inside here) f))
  inside-roll f =
      let depths = form_depth (map-Expr Expr ℕ depth f) in
      let same : map-Expr Expr Expr first f ≡ f = same_parts depths (λ e d. rebuilt e) f (omega arith) in
      ap (λ (p : Expr × Bool). p.1) (fold-roll-Expr (Expr × Bool) (form_inside here) f)
      ∙ (λ i. here ((map_twice (λ (p : Expr × Bool). p.0) (folded here) f ∙ same) i) && all_pass (map_twice (λ (p : Expr × Bool). p.1) (folded here) f i))

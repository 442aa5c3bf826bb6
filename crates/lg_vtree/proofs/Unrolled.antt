-- The tokens and the depth of an expression, by its form.
use Rattle.std.proofs.Common.{◌≡◌, ℕ, ◌+◌, ◌≤◌, max, List, [], ◌∷◌, ◌++◌, map, refl, sym, ap, ◌∙◌, append_assoc, arith, subst}
use Rattle.std.specs.Prelude.{codes}
use Rattle.std.specs.List.{flat_map}
use Rattle.lg_vtree.specs.declared.expr.Constant.{Constant}
use Rattle.lg_vtree.specs.declared.expr.Operator.{Operator}
use Rattle.lg_vtree.specs.declared.expr.Expr.{Expr, fold-Expr, roll-Expr, out-Expr, roll-out-Expr}
use Rattle.lg_vtree.specs.declared.expr.Expr.TheFolds.{fold-roll-Expr}
use Rattle.lg_vtree.specs.declared.expr.Expr.TheOpen.{Expr-F}
use Rattle.lg_vtree.specs.declared.expr.Expr.TheVariants.{rolls-Const, rolls-Whole, rolls-Bit, rolls-Part, rolls-Item, rolls-Join, rolls-Not, rolls-Binary, rolls-Choice}
use Rattle.lg_vtree.specs.declared.expr.Expr.TheVariants as expr
use Rattle.lg_vtree.specs.Grammar.{Token, Fixed, Named, Sized, form_tokens, expr_tokens}
use Rattle.lg_vtree.specs.Depth.{greatest, form_depth, depth}

-- the tokens and the depth of an expression, by its form

pub tokens-roll : (f : Expr-F Expr) (e : Expr) → roll-Expr f ≡ e → expr_tokens e ≡ form_tokens (Rattle.lg_vtree.specs.declared.expr.Expr.TheFolds.map-Expr _ (List Token) expr_tokens f)
unfolding expr_tokens
tokens-roll f e r = ap (λ x. fold-Expr (List Token) form_tokens x) (sym r) ∙ fold-roll-Expr (List Token) form_tokens f

pub depth-roll : (f : Expr-F Expr) (e : Expr) → roll-Expr f ≡ e → depth e ≡ form_depth (Rattle.lg_vtree.specs.declared.expr.Expr.TheFolds.map-Expr _ ℕ depth f)
unfolding depth
depth-roll f e r = ap (λ x. fold-Expr ℕ form_depth x) (sym r) ∙ fold-roll-Expr ℕ form_depth f

pub tokens-Const : (c : Constant) → expr_tokens (expr.Const c) ≡ Sized c ∷ []
tokens-Const c = tokens-roll (Expr-F.Const c) (expr.Const c) (rolls-Const c)

pub tokens-Whole : (name : List ℕ) → expr_tokens (expr.Whole name) ≡ Named name ∷ []
tokens-Whole name = tokens-roll (Expr-F.Whole name) (expr.Whole name) (rolls-Whole name)

pub tokens-Bit : (name : List ℕ) (index : ℕ) → expr_tokens (expr.Bit name index) ≡ form_tokens (Expr-F.Bit name index)
tokens-Bit name index = tokens-roll (Expr-F.Bit name index) (expr.Bit name index) (rolls-Bit name index)

pub tokens-Part : (name : List ℕ) (high low : ℕ) → expr_tokens (expr.Part name high low) ≡ form_tokens (Expr-F.Part name high low)
tokens-Part name high low = tokens-roll (Expr-F.Part name high low) (expr.Part name high low) (rolls-Part name high low)

pub tokens-Item : (name : List ℕ) (e : Expr) → expr_tokens (expr.Item name e) ≡ form_tokens (Expr-F.Item name (expr_tokens e))
tokens-Item name e = tokens-roll (Expr-F.Item name e) (expr.Item name e) (rolls-Item name e)

pub tokens-Join : (a b : Expr) (more : List Expr) → expr_tokens (expr.Join a b more) ≡ form_tokens (Expr-F.Join (expr_tokens a) (expr_tokens b) (map expr_tokens more))
tokens-Join a b more = tokens-roll (Expr-F.Join a b more) (expr.Join a b more) (rolls-Join a b more)

pub tokens-Not : (e : Expr) → expr_tokens (expr.Not e) ≡ form_tokens (Expr-F.Not (expr_tokens e))
tokens-Not e = tokens-roll (Expr-F.Not e) (expr.Not e) (rolls-Not e)

pub tokens-Binary : (a : Expr) (op : Operator) (b : Expr) → expr_tokens (expr.Binary a op b) ≡ form_tokens (Expr-F.Binary (expr_tokens a) op (expr_tokens b))
tokens-Binary a op b = tokens-roll (Expr-F.Binary a op b) (expr.Binary a op b) (rolls-Binary a op b)

pub tokens-Choice : (c a b : Expr) → expr_tokens (expr.Choice c a b) ≡ form_tokens (Expr-F.Choice (expr_tokens c) (expr_tokens a) (expr_tokens b))
tokens-Choice c a b = tokens-roll (Expr-F.Choice c a b) (expr.Choice c a b) (rolls-Choice c a b)

pub depth-Item : (name : List ℕ) (e : Expr) → depth (expr.Item name e) ≡ depth e + 1
depth-Item name e = depth-roll (Expr-F.Item name e) (expr.Item name e) (rolls-Item name e)

pub depth-Join : (a b : Expr) (more : List Expr) → depth (expr.Join a b more) ≡ greatest (depth a ∷ depth b ∷ map depth more) + 1
depth-Join a b more = depth-roll (Expr-F.Join a b more) (expr.Join a b more) (rolls-Join a b more)

pub depth-Not : (e : Expr) → depth (expr.Not e) ≡ depth e + 1
depth-Not e = depth-roll (Expr-F.Not e) (expr.Not e) (rolls-Not e)

pub depth-Binary : (a : Expr) (op : Operator) (b : Expr) → depth (expr.Binary a op b) ≡ max (depth a) (depth b) + 1
depth-Binary a op b = depth-roll (Expr-F.Binary a op b) (expr.Binary a op b) (rolls-Binary a op b)

pub depth-Choice : (c a b : Expr) → depth (expr.Choice c a b) ≡ max (depth c) (max (depth a) (depth b)) + 1
depth-Choice c a b = depth-roll (Expr-F.Choice c a b) (expr.Choice c a b) (rolls-Choice c a b)

-- an expression's tokens

abbrev pub others_tokens : List Expr → List Token
others_tokens more = flat_map (λ (e : Expr). Fixed (codes ",") ∷ expr_tokens e) more

others-map : (more : List Expr) → flat_map (λ (e : List Token). Fixed (codes ",") ∷ e) (map expr_tokens more) ≡ others_tokens more
others-map [] = refl
others-map (e ∷ more) = ap (λ r. (Fixed (codes ",") ∷ expr_tokens e) ++ r) (others-map more)

pub join_spelled : (a b : Expr) (more : List Expr) (rest : List Token) → expr_tokens (expr.Join a b more) ++ rest ≡ Fixed (codes "{") ∷ (expr_tokens a ++ Fixed (codes ",") ∷ (expr_tokens b ++ (others_tokens more ++ Fixed (codes "}") ∷ rest)))
join_spelled a b more rest =
    ap (λ t. t ++ rest) (tokens-Join a b more)
    ∙ ap (λ o. (Fixed (codes "{") ∷ (expr_tokens a ++ Fixed (codes ",") ∷ (expr_tokens b ++ (o ++ Fixed (codes "}") ∷ [])))) ++ rest) (others-map more)
    ∙ ap (λ t. Fixed (codes "{") ∷ t) (append_assoc (expr_tokens a) (Fixed (codes ",") ∷ (expr_tokens b ++ (others_tokens more ++ Fixed (codes "}") ∷ []))) rest)
    ∙ ap (λ t. Fixed (codes "{") ∷ (expr_tokens a ++ Fixed (codes ",") ∷ t)) (append_assoc (expr_tokens b) (others_tokens more ++ Fixed (codes "}") ∷ []) rest ∙ ap (λ t. expr_tokens b ++ t) (append_assoc (others_tokens more) (Fixed (codes "}") ∷ []) rest))

-- no expression has depth 0
pub some_depth : (e : Expr) → depth e ≤ 0 → ⊥
some_depth e h = subst (λ x. depth x ≤ 0 → ⊥) (roll-out-Expr e) (by_form (out-Expr e)) h
  where
    by_form : (f : Expr-F Expr) → depth (roll-Expr f) ≤ 0 → ⊥
    by_form (Expr-F.Const c) h = omega (arith, h, depth-roll (Expr-F.Const c) (roll-Expr (Expr-F.Const c)) refl)
    by_form (Expr-F.Whole name) h = omega (arith, h, depth-roll (Expr-F.Whole name) (roll-Expr (Expr-F.Whole name)) refl)
    by_form (Expr-F.Bit name index) h = omega (arith, h, depth-roll (Expr-F.Bit name index) (roll-Expr (Expr-F.Bit name index)) refl)
    by_form (Expr-F.Part name high low) h = omega (arith, h, depth-roll (Expr-F.Part name high low) (roll-Expr (Expr-F.Part name high low)) refl)
    by_form (Expr-F.Item name e) h = omega (arith, h, depth-roll (Expr-F.Item name e) (roll-Expr (Expr-F.Item name e)) refl)
    by_form (Expr-F.Join a b more) h = omega (arith, h, depth-roll (Expr-F.Join a b more) (roll-Expr (Expr-F.Join a b more)) refl)
    by_form (Expr-F.Not e) h = omega (arith, h, depth-roll (Expr-F.Not e) (roll-Expr (Expr-F.Not e)) refl)
    by_form (Expr-F.Binary a op b) h = omega (arith, h, depth-roll (Expr-F.Binary a op b) (roll-Expr (Expr-F.Binary a op b)) refl)
    by_form (Expr-F.Choice c a b) h = omega (arith, h, depth-roll (Expr-F.Choice c a b) (roll-Expr (Expr-F.Choice c a b)) refl)

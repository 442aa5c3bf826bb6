-- Expressions: what is read is spelled so, and what is spelled so is read again.
use Rattle.std.proofs.Common.{◌≡◌, ℕ, zero, suc, ◌+◌, ◌≤◌, max, false, cond, List, [], ◌∷◌, ◌++◌, length, map, Option, Some, None, refl, sym, ap, ◌∙◌, append_assoc, arith, inl, inr, subst}
use Rattle.std.specs.Prelude.{codes}
use Rattle.std.specs.List.{flat_map, AllByRecursion}
use Rattle.std.proofs.lemmas.Bool.{cond-false}
use Rattle.lg_vtree.specs.declared.expr.Constant.{Constant}
use Rattle.lg_vtree.specs.declared.expr.Operator.{Operator}
use Rattle.lg_vtree.specs.declared.expr.Expr.{Expr, fold-Expr, roll-Expr, out-Expr, roll-out-Expr, out-roll-Expr}
use Rattle.lg_vtree.specs.declared.expr.Expr.TheFolds.{fold-roll-Expr}
use Rattle.lg_vtree.specs.declared.expr.Expr.TheOpen.{Expr-F}
use Rattle.lg_vtree.specs.declared.expr.Expr.TheVariants.{rolls-Const, rolls-Whole, rolls-Bit, rolls-Part, rolls-Item, rolls-Join, rolls-Not, rolls-Binary, rolls-Choice}
use Rattle.lg_vtree.specs.declared.expr.Expr.TheVariants as expr
use Rattle.lg_vtree.specs.Printed.{operator_text}
use Rattle.lg_vtree.specs.Grammar.{Token, Fixed, Named, Number, Sized, form_tokens, expr_tokens}
use Rattle.lg_vtree.specs.Depth.{greatest, form_depth, depth}
use Rattle.lg_vread.specs.Reading.{◌>>=◌, is_at, tail, after, name_at, number_at, operator_at, many_at, not_at, binary_at, choice_at, operation_at, other_at, join_at, bits_at, item_at, select_at, named_at, plain_at, paren_at, form_at, expr_at}
use Rattle.lg_vtree.proofs.Unrolled.{tokens-roll, depth-roll, tokens-Const, tokens-Whole, tokens-Bit, tokens-Part, tokens-Item, tokens-Join, tokens-Not, tokens-Binary, tokens-Choice, depth-Item, depth-Join, depth-Not, depth-Binary, depth-Choice, others_tokens, join_spelled, some_depth}
use Rattle.lg_vread.proofs.Steps.{bind_some, bind_at, chosen, at_takes, after_takes, name_takes, number_takes, operator_takes, operator_again, operator_no_question, operator_no_bracket, part, Taken, IsReader, many_takes, all_again}

-- what the first token of an expression is not
pub record BeginsExpr (ts : List Token) : Type 0 where
  pub number : number_at ts ≡ None
  pub tilde : is_at (codes "~") ts ≡ false

begins-form : (f : Expr-F Expr) (rest : List Token) → BeginsExpr (expr_tokens (roll-Expr f) ++ rest)
begins-form (Expr-F.Const c) rest = subst (λ t. BeginsExpr (t ++ rest)) (sym (tokens-roll (Expr-F.Const c) (roll-Expr (Expr-F.Const c)) refl)) (record { number = refl; tilde = refl })
begins-form (Expr-F.Whole name) rest = subst (λ t. BeginsExpr (t ++ rest)) (sym (tokens-roll (Expr-F.Whole name) (roll-Expr (Expr-F.Whole name)) refl)) (record { number = refl; tilde = refl })
begins-form (Expr-F.Bit name index) rest = subst (λ t. BeginsExpr (t ++ rest)) (sym (tokens-roll (Expr-F.Bit name index) (roll-Expr (Expr-F.Bit name index)) refl)) (record { number = refl; tilde = refl })
begins-form (Expr-F.Part name high low) rest = subst (λ t. BeginsExpr (t ++ rest)) (sym (tokens-roll (Expr-F.Part name high low) (roll-Expr (Expr-F.Part name high low)) refl)) (record { number = refl; tilde = refl })
begins-form (Expr-F.Item name e) rest = subst (λ t. BeginsExpr (t ++ rest)) (sym (tokens-roll (Expr-F.Item name e) (roll-Expr (Expr-F.Item name e)) refl)) (record { number = refl; tilde = refl })
begins-form (Expr-F.Join a b more) rest = subst (λ t. BeginsExpr (t ++ rest)) (sym (tokens-roll (Expr-F.Join a b more) (roll-Expr (Expr-F.Join a b more)) refl)) (record { number = refl; tilde = refl })
begins-form (Expr-F.Not e) rest = subst (λ t. BeginsExpr (t ++ rest)) (sym (tokens-roll (Expr-F.Not e) (roll-Expr (Expr-F.Not e)) refl)) (record { number = refl; tilde = refl })
begins-form (Expr-F.Binary a op b) rest = subst (λ t. BeginsExpr (t ++ rest)) (sym (tokens-roll (Expr-F.Binary a op b) (roll-Expr (Expr-F.Binary a op b)) refl)) (record { number = refl; tilde = refl })
begins-form (Expr-F.Choice c a b) rest = subst (λ t. BeginsExpr (t ++ rest)) (sym (tokens-roll (Expr-F.Choice c a b) (roll-Expr (Expr-F.Choice c a b)) refl)) (record { number = refl; tilde = refl })

pub begins_expr : (e : Expr) (rest : List Token) → BeginsExpr (expr_tokens e ++ rest)
begins_expr e rest = subst (λ x. BeginsExpr (expr_tokens x ++ rest)) (roll-out-Expr e) (begins-form (out-Expr e) rest)

-- each of some numbers is at most the greatest
pub each_least : (n : ℕ) (es : List Expr) → greatest (map depth es) ≤ n → AllByRecursion (λ e. depth e ≤ n) es
each_least n [] h = tt
each_least n (e ∷ es) h = (omega arith, each_least n es (omega arith))

pub greatest_least : (n : ℕ) (es : List Expr) → AllByRecursion (λ e. depth e ≤ n) es → greatest (map depth es) ≤ n
greatest_least n [] h = omega arith
greatest_least n (e ∷ es) h = omega (arith, h.0, greatest_least n es h.1)

-- before what may follow an expression
abbrev pub Follows : List Token → Type 0
Follows ts = is_at (codes "[") ts ≡ false

abbrev pub IsDeep : ℕ → Expr → Type 0
IsDeep n e = depth e ≤ n

pub index-item : (inner : List Token → Option (Expr × List Token)) (name : List ℕ) (ts : List Token) → number_at ts ≡ None → select_at inner name ts ≡ item_at inner name ts
unfolding select_at
index-item inner name [] e = refl
index-item inner name (Fixed word ∷ ts) e = refl
index-item inner name (Named other ∷ ts) e = refl
index-item inner name (Number n ∷ ts) e = absurd cc
index-item inner name (Sized c ∷ ts) e = refl

module _ (inner : List Token → Option (Expr × List Token)) (n : ℕ) (is : IsReader inner expr_tokens (IsDeep n) Follows) where
  abbrev IsTaken : List Token → Expr × List Token → Type 0
  IsTaken = Taken expr_tokens (IsDeep (suc n))

  not_takes : (ts : List Token) (x : Expr × List Token) → not_at inner ts ≡ Some x → IsTaken (Fixed (codes "(") ∷ Fixed (codes "~") ∷ ts) x
  unfolding not_at
  not_takes ts x e =
      let a = bind_some (inner ts) (λ e. after (codes ")") e.1 >>= λ end. Some (expr.Not e.0, end)) x e in
      let b = bind_some (after (codes ")") a.0.1) (λ end. Some (expr.Not a.0.0, end)) x a.2 in
      let made : (expr.Not a.0.0, b.0) ≡ x = cc b.2 in
      let first = is.takes ts a.0 a.1 in
      let close = after_takes (codes ")") a.0.1 b.0 b.1 in
      subst (IsTaken (Fixed (codes "(") ∷ Fixed (codes "~") ∷ ts)) made (
        ap (λ r. Fixed (codes "(") ∷ Fixed (codes "~") ∷ r) (part (expr_tokens a.0.0) (Fixed (codes ")") ∷ []) ts a.0.1 b.0 first.0 close) ∙ ap (λ t. t ++ b.0) (sym (tokens-Not a.0.0)),
        omega (arith, first.1, depth-Not a.0.0),
      )

  not_again : (e : Expr) (rest : List Token) → IsDeep (suc n) (expr.Not e) → form_at inner (expr_tokens (expr.Not e) ++ rest) ≡ Some (expr.Not e, rest)
  unfolding form_at paren_at not_at
  not_again e rest deep =
      let behind : List Token = Fixed (codes ")") ∷ rest in
      ap (λ t. form_at inner (t ++ rest)) (tokens-Not e)
      ∙ ap (λ ts. not_at inner ts) (append_assoc (expr_tokens e) (Fixed (codes ")") ∷ []) rest)
      ∙ bind_at (inner (expr_tokens e ++ behind)) (λ e. after (codes ")") e.1 >>= λ end. Some (expr.Not e.0, end)) (e, behind) (is.again e behind (omega (arith, deep, depth-Not e)) refl)

  binary_takes : (left : Expr) (before ts : List Token) (x : Expr × List Token) → binary_at inner left ts ≡ Some x → IsDeep n left → before ≡ expr_tokens left ++ ts → IsTaken (Fixed (codes "(") ∷ before) x
  unfolding binary_at
  binary_takes left before ts x e deep whole =
      let a = bind_some (operator_at ts) (λ op. inner op.1 >>= λ right. after (codes ")") right.1 >>= λ end. Some (expr.Binary left op.0 right.0, end)) x e in
      let b = bind_some (inner a.0.1) (λ right. after (codes ")") right.1 >>= λ end. Some (expr.Binary left a.0.0 right.0, end)) x a.2 in
      let c = bind_some (after (codes ")") b.0.1) (λ end. Some (expr.Binary left a.0.0 b.0.0, end)) x b.2 in
      let made : (expr.Binary left a.0.0 b.0.0, c.0) ≡ x = cc c.2 in
      let op = operator_takes ts a.0 a.1 in
      let right = is.takes a.0.1 b.0 b.1 in
      let close = after_takes (codes ")") b.0.1 c.0 c.1 in
      let sign : Token = Fixed (operator_text a.0.0) in
      let second = part (expr_tokens b.0.0) (Fixed (codes ")") ∷ []) a.0.1 b.0.1 c.0 right.0 close in
      let first = part (expr_tokens left) (sign ∷ (expr_tokens b.0.0 ++ Fixed (codes ")") ∷ [])) before ts c.0 whole (op ∙ ap (λ r. sign ∷ r) second) in
      subst (IsTaken (Fixed (codes "(") ∷ before)) made (
        ap (λ r. Fixed (codes "(") ∷ r) first ∙ ap (λ t. t ++ c.0) (sym (tokens-Binary left a.0.0 b.0.0)),
        omega (arith, deep, right.1, depth-Binary left a.0.0 b.0.0),
      )

  binary_again : (a : Expr) (op : Operator) (b : Expr) (rest : List Token) → IsDeep (suc n) (expr.Binary a op b) → form_at inner (expr_tokens (expr.Binary a op b) ++ rest) ≡ Some (expr.Binary a op b, rest)
  unfolding form_at paren_at operation_at binary_at
  binary_again a op b rest deep =
      let end : List Token = Fixed (codes ")") ∷ rest in
      let right : List Token = expr_tokens b ++ end in
      let middle : List Token = Fixed (operator_text op) ∷ right in
      let start : List Token = expr_tokens a ++ middle in
      let d = depth-Binary a op b in
      let grouped : (expr_tokens a ++ Fixed (operator_text op) ∷ (expr_tokens b ++ Fixed (codes ")") ∷ [])) ++ rest ≡ start =
      append_assoc (expr_tokens a) (Fixed (operator_text op) ∷ (expr_tokens b ++ Fixed (codes ")") ∷ [])) rest ∙ ap (λ r. expr_tokens a ++ Fixed (operator_text op) ∷ r) (append_assoc (expr_tokens b) (Fixed (codes ")") ∷ []) rest) in
      let go : Expr × List Token → Option (Expr × List Token) = λ first. cond (is_at (codes "?") first.1) (choice_at inner first.0 (tail first.1)) (binary_at inner first.0 first.1) in
      ap (λ t. form_at inner (t ++ rest)) (tokens-Binary a op b)
      ∙ ap (λ ts. paren_at inner ts) grouped
      ∙ cond-false (is_at (codes "~") start) (not_at inner (tail start)) (operation_at inner start) (begins_expr a middle).tilde
      ∙ bind_at (inner start) go (a, middle) (is.again a middle (omega (arith, deep, d)) (follows_operator op right))
      ∙ cond-false (is_at (codes "?") middle) (choice_at inner a right) (binary_at inner a middle) (operator_no_question op)
      ∙ bind_at (operator_at middle) (λ op. inner op.1 >>= λ right. after (codes ")") right.1 >>= λ end. Some (expr.Binary a op.0 right.0, end)) (op, right) (operator_again op right)
      ∙ bind_at (inner right) (λ right. after (codes ")") right.1 >>= λ end. Some (expr.Binary a op right.0, end)) (b, end) (is.again b end (omega (arith, deep, d)) refl)
    where
      follows_operator : (op : Operator) (r : List Token) → is_at (codes "[") (Fixed (operator_text op) ∷ r) ≡ false
      follows_operator op r = operator_no_bracket op

  choice_takes : (condition : Expr) (before ts : List Token) (x : Expr × List Token) → choice_at inner condition ts ≡ Some x → IsDeep n condition → before ≡ expr_tokens condition ++ Fixed (codes "?") ∷ ts → IsTaken (Fixed (codes "(") ∷ before) x
  unfolding choice_at
  choice_takes condition before ts x e deep whole =
      let a = bind_some (inner ts) (λ first. after (codes ":") first.1 >>= λ colon. inner colon >>= λ second. after (codes ")") second.1 >>= λ end. Some (expr.Choice condition first.0 second.0, end)) x e in
      let b = bind_some (after (codes ":") a.0.1) (λ colon. inner colon >>= λ second. after (codes ")") second.1 >>= λ end. Some (expr.Choice condition a.0.0 second.0, end)) x a.2 in
      let c = bind_some (inner b.0) (λ second. after (codes ")") second.1 >>= λ end. Some (expr.Choice condition a.0.0 second.0, end)) x b.2 in
      let d = bind_some (after (codes ")") c.0.1) (λ end. Some (expr.Choice condition a.0.0 c.0.0, end)) x c.2 in
      let made : (expr.Choice condition a.0.0 c.0.0, d.0) ≡ x = cc d.2 in
      let yes_part = is.takes ts a.0 a.1 in
      let colon = after_takes (codes ":") a.0.1 b.0 b.1 in
      let no_part = is.takes b.0 c.0 c.1 in
      let close = after_takes (codes ")") c.0.1 d.0 d.1 in
      let third = part (expr_tokens c.0.0) (Fixed (codes ")") ∷ []) b.0 c.0.1 d.0 no_part.0 close in
      let second = part (expr_tokens a.0.0) (Fixed (codes ":") ∷ (expr_tokens c.0.0 ++ Fixed (codes ")") ∷ [])) ts a.0.1 d.0 yes_part.0 (colon ∙ ap (λ r. Fixed (codes ":") ∷ r) third) in
      let first = part (expr_tokens condition) (Fixed (codes "?") ∷ (expr_tokens a.0.0 ++ Fixed (codes ":") ∷ (expr_tokens c.0.0 ++ Fixed (codes ")") ∷ []))) before (Fixed (codes "?") ∷ ts) d.0 whole (ap (λ r. Fixed (codes "?") ∷ r) second) in
      subst (IsTaken (Fixed (codes "(") ∷ before)) made (
        ap (λ r. Fixed (codes "(") ∷ r) first ∙ ap (λ t. t ++ d.0) (sym (tokens-Choice condition a.0.0 c.0.0)),
        omega (arith, deep, yes_part.1, no_part.1, depth-Choice condition a.0.0 c.0.0),
      )

  choice_again : (c a b : Expr) (rest : List Token) → IsDeep (suc n) (expr.Choice c a b) → form_at inner (expr_tokens (expr.Choice c a b) ++ rest) ≡ Some (expr.Choice c a b, rest)
  unfolding form_at paren_at operation_at choice_at
  choice_again c a b rest deep =
      let end : List Token = Fixed (codes ")") ∷ rest in
      let last : List Token = expr_tokens b ++ end in
      let colon : List Token = Fixed (codes ":") ∷ last in
      let middle : List Token = expr_tokens a ++ colon in
      let question : List Token = Fixed (codes "?") ∷ middle in
      let start : List Token = expr_tokens c ++ question in
      let d = depth-Choice c a b in
      let grouped : (expr_tokens c ++ Fixed (codes "?") ∷ (expr_tokens a ++ Fixed (codes ":") ∷ (expr_tokens b ++ Fixed (codes ")") ∷ []))) ++ rest ≡ start =
      append_assoc (expr_tokens c) (Fixed (codes "?") ∷ (expr_tokens a ++ Fixed (codes ":") ∷ (expr_tokens b ++ Fixed (codes ")") ∷ []))) rest
      ∙ ap (λ r. expr_tokens c ++ Fixed (codes "?") ∷ r) (append_assoc (expr_tokens a) (Fixed (codes ":") ∷ (expr_tokens b ++ Fixed (codes ")") ∷ [])) rest ∙ ap (λ r. expr_tokens a ++ Fixed (codes ":") ∷ r) (append_assoc (expr_tokens b) (Fixed (codes ")") ∷ []) rest)) in
      let go : Expr × List Token → Option (Expr × List Token) = λ first. cond (is_at (codes "?") first.1) (choice_at inner first.0 (tail first.1)) (binary_at inner first.0 first.1) in
      ap (λ t. form_at inner (t ++ rest)) (tokens-Choice c a b)
      ∙ ap (λ ts. paren_at inner ts) grouped
      ∙ cond-false (is_at (codes "~") start) (not_at inner (tail start)) (operation_at inner start) (begins_expr c question).tilde
      ∙ bind_at (inner start) go (c, question) (is.again c question (omega (arith, deep, d)) refl)
      ∙ bind_at (inner middle) (λ first. after (codes ":") first.1 >>= λ colon. inner colon >>= λ second. after (codes ")") second.1 >>= λ end. Some (expr.Choice c first.0 second.0, end)) (a, colon) (is.again a colon (omega (arith, deep, d)) refl)
      ∙ bind_at (inner last) (λ second. after (codes ")") second.1 >>= λ end. Some (expr.Choice c a second.0, end)) (b, end) (is.again b end (omega (arith, deep, d)) refl)

  operation_takes : (ts : List Token) (x : Expr × List Token) → operation_at inner ts ≡ Some x → IsTaken (Fixed (codes "(") ∷ ts) x
  unfolding operation_at
  operation_takes ts x e =
      let a = bind_some (inner ts) (λ first. cond (is_at (codes "?") first.1) (choice_at inner first.0 (tail first.1)) (binary_at inner first.0 first.1)) x e in
      let first = is.takes ts a.0 a.1 in
      elim (chosen (is_at (codes "?") a.0.1) (choice_at inner a.0.0 (tail a.0.1)) (binary_at inner a.0.0 a.0.1) (Some x) a.2) as (λ _. IsTaken (Fixed (codes "(") ∷ ts) x) [
        | inl w ↦ choice_takes a.0.0 ts (tail a.0.1) x w.1 first.1 (first.0 ∙ ap (λ r. expr_tokens a.0.0 ++ r) (at_takes (codes "?") a.0.1 w.0))
        | inr w ↦ binary_takes a.0.0 ts a.0.1 x w.1 first.1 first.0
      ]

  paren_takes : (ts : List Token) (x : Expr × List Token) → paren_at inner ts ≡ Some x → IsTaken (Fixed (codes "(") ∷ ts) x
  unfolding paren_at
  paren_takes ts x e = elim (chosen (is_at (codes "~") ts) (not_at inner (tail ts)) (operation_at inner ts) (Some x) e) as (λ _. IsTaken (Fixed (codes "(") ∷ ts) x) [
    | inl w ↦ subst (λ r. IsTaken (Fixed (codes "(") ∷ r) x) (sym (at_takes (codes "~") ts w.0)) (not_takes (tail ts) x w.1)
    | inr w ↦ operation_takes ts x w.1
  ]

  pub other_reader : IsReader (other_at inner) (λ e. Fixed (codes ",") ∷ expr_tokens e) (IsDeep n) Follows
  unfolding other_at
  other_reader = record {
    takes = λ ts x e.
        let a = bind_some (after (codes ",") ts) inner x e in
        let first = is.takes a.0 x a.2 in
        (after_takes (codes ",") ts a.0 a.1 ∙ ap (λ r. Fixed (codes ",") ∷ r) first.0, first.1);
    again = λ e rest deep next. is.again e rest deep next;
  }

  join_takes : (ts : List Token) (x : Expr × List Token) → join_at inner ts ≡ Some x → IsTaken (Fixed (codes "{") ∷ ts) x
  unfolding join_at
  join_takes ts x e =
      let others : List Token → Option (List Expr × List Token) = λ ts. many_at (is_at (codes ",")) (other_at inner) (suc (length ts)) ts in
      let a = bind_some (inner ts) (λ first. other_at inner first.1 >>= λ second. others second.1 >>= λ more. after (codes "}") more.1 >>= λ end. Some (expr.Join first.0 second.0 more.0, end)) x e in
      let b = bind_some (other_at inner a.0.1) (λ second. others second.1 >>= λ more. after (codes "}") more.1 >>= λ end. Some (expr.Join a.0.0 second.0 more.0, end)) x a.2 in
      let c = bind_some (others b.0.1) (λ more. after (codes "}") more.1 >>= λ end. Some (expr.Join a.0.0 b.0.0 more.0, end)) x b.2 in
      let d = bind_some (after (codes "}") c.0.1) (λ end. Some (expr.Join a.0.0 b.0.0 c.0.0, end)) x c.2 in
      let made : (expr.Join a.0.0 b.0.0 c.0.0, d.0) ≡ x = cc d.2 in
      let first = is.takes ts a.0 a.1 in
      let second = other_reader.takes a.0.1 b.0 b.1 in
      let more = many_takes (is_at (codes ",")) (other_at inner) (λ e. Fixed (codes ",") ∷ expr_tokens e) (IsDeep n) Follows other_reader (suc (length b.0.1)) b.0.1 c.0 c.1 in
      let close = after_takes (codes "}") c.0.1 d.0 d.1 in
      subst (IsTaken (Fixed (codes "{") ∷ ts)) made (
        ap (λ r. Fixed (codes "{") ∷ r) (first.0 ∙ ap (λ r. expr_tokens a.0.0 ++ r) (second.0 ∙ ap (λ r. (Fixed (codes ",") ∷ expr_tokens b.0.0) ++ r) (more.0 ∙ ap (λ r. others_tokens c.0.0 ++ r) close)))
            ∙ sym (join_spelled a.0.0 b.0.0 c.0.0 d.0),
        omega (arith, first.1, second.1, greatest_least n c.0.0 more.1, depth-Join a.0.0 b.0.0 c.0.0),
      )

  join_again : (a b : Expr) (more : List Expr) (rest : List Token) → IsDeep (suc n) (expr.Join a b more) → form_at inner (expr_tokens (expr.Join a b more) ++ rest) ≡ Some (expr.Join a b more, rest)
  unfolding form_at join_at
  join_again a b more rest deep =
      let others : List Token → Option (List Expr × List Token) = λ ts. many_at (is_at (codes ",")) (other_at inner) (suc (length ts)) ts in
      let end : List Token = Fixed (codes "}") ∷ rest in
      let last : List Token = others_tokens more ++ end in
      let middle : List Token = Fixed (codes ",") ∷ (expr_tokens b ++ last) in
      let start : List Token = expr_tokens a ++ middle in
      let d = depth-Join a b more in
      let next : Follows last = elim more as (λ es. Follows (others_tokens es ++ end)) [ [] ↦ refl | e ∷ es ↦ refl ] in
      ap (form_at inner) (join_spelled a b more rest)
      ∙ bind_at (inner start) (λ first. other_at inner first.1 >>= λ second. others second.1 >>= λ more. after (codes "}") more.1 >>= λ end. Some (expr.Join first.0 second.0 more.0, end)) (a, middle) (is.again a middle (omega (arith, deep, d)) refl)
      ∙ bind_at (other_at inner middle) (λ second. others second.1 >>= λ more. after (codes "}") more.1 >>= λ end. Some (expr.Join a second.0 more.0, end)) (b, last) (other_reader.again b last (omega (arith, deep, d)) next)
      ∙ bind_at (others last) (λ more. after (codes "}") more.1 >>= λ end. Some (expr.Join a b more.0, end)) (more, end)
      (all_again (is_at (codes ",")) (other_at inner) (λ e. Fixed (codes ",") ∷ expr_tokens e) (IsDeep n) Follows other_reader (λ e r. refl) (λ e r. refl) (λ e. omega arith) more end (each_least n more (omega (arith, deep, d))) refl refl)

  bits_takes : (name : List ℕ) (number : ℕ) (ts : List Token) (x : Expr × List Token) → bits_at name number ts ≡ Some x → IsTaken (Named name ∷ Fixed (codes "[") ∷ Number number ∷ ts) x
  unfolding bits_at
  bits_takes name number ts x e = elim (chosen (is_at (codes ":") ts) (number_at (tail ts) >>= λ low. after (codes "]") low.1 >>= λ end. Some (expr.Part name number low.0, end)) (after (codes "]") ts >>= λ end. Some (expr.Bit name number, end)) (Some x) e)
      as (λ _. IsTaken (Named name ∷ Fixed (codes "[") ∷ Number number ∷ ts) x) [
        | inl w ↦
            let a = bind_some (number_at (tail ts)) (λ low. after (codes "]") low.1 >>= λ end. Some (expr.Part name number low.0, end)) x w.1 in
            let b = bind_some (after (codes "]") a.0.1) (λ end. Some (expr.Part name number a.0.0, end)) x a.2 in
            let made : (expr.Part name number a.0.0, b.0) ≡ x = cc b.2 in
            let spelled : ts ≡ Fixed (codes ":") ∷ Number a.0.0 ∷ Fixed (codes "]") ∷ b.0 = at_takes (codes ":") ts w.0 ∙ ap (λ r. Fixed (codes ":") ∷ r) (number_takes (tail ts) a.0 a.1 ∙ ap (λ r. Number a.0.0 ∷ r) (after_takes (codes "]") a.0.1 b.0 b.1)) in
            subst (IsTaken (Named name ∷ Fixed (codes "[") ∷ Number number ∷ ts)) made (ap (λ r. Named name ∷ Fixed (codes "[") ∷ Number number ∷ r) spelled ∙ ap (λ t. t ++ b.0) (sym (tokens-Part name number a.0.0)), omega (arith, depth-roll (Expr-F.Part name number a.0.0) (expr.Part name number a.0.0) (rolls-Part name number a.0.0)))
        | inr w ↦
            let b = bind_some (after (codes "]") ts) (λ end. Some (expr.Bit name number, end)) x w.1 in
            let made : (expr.Bit name number, b.0) ≡ x = cc b.2 in
            subst (IsTaken (Named name ∷ Fixed (codes "[") ∷ Number number ∷ ts)) made (ap (λ r. Named name ∷ Fixed (codes "[") ∷ Number number ∷ r) (after_takes (codes "]") ts b.0 b.1) ∙ ap (λ t. t ++ b.0) (sym (tokens-Bit name number)), omega (arith, depth-roll (Expr-F.Bit name number) (expr.Bit name number) (rolls-Bit name number)))
      ]

  item_takes : (name : List ℕ) (ts : List Token) (x : Expr × List Token) → item_at inner name ts ≡ Some x → IsTaken (Named name ∷ Fixed (codes "[") ∷ ts) x
  unfolding item_at
  item_takes name ts x e =
      let a = bind_some (inner ts) (λ address. after (codes "]") address.1 >>= λ end. Some (expr.Item name address.0, end)) x e in
      let b = bind_some (after (codes "]") a.0.1) (λ end. Some (expr.Item name a.0.0, end)) x a.2 in
      let made : (expr.Item name a.0.0, b.0) ≡ x = cc b.2 in
      let first = is.takes ts a.0 a.1 in
      let close = after_takes (codes "]") a.0.1 b.0 b.1 in
      subst (IsTaken (Named name ∷ Fixed (codes "[") ∷ ts)) made (
        ap (λ r. Named name ∷ Fixed (codes "[") ∷ r) (part (expr_tokens a.0.0) (Fixed (codes "]") ∷ []) ts a.0.1 b.0 first.0 close) ∙ ap (λ t. t ++ b.0) (sym (tokens-Item name a.0.0)),
        omega (arith, first.1, depth-Item name a.0.0),
      )

  select_takes : (name : List ℕ) (ts : List Token) (x : Expr × List Token) → select_at inner name ts ≡ Some x → IsTaken (Named name ∷ Fixed (codes "[") ∷ ts) x
  unfolding select_at
  select_takes name [] x e = item_takes name [] x e
  select_takes name (Fixed word ∷ ts) x e = item_takes name (Fixed word ∷ ts) x e
  select_takes name (Named other ∷ ts) x e = item_takes name (Named other ∷ ts) x e
  select_takes name (Number number ∷ ts) x e = bits_takes name number ts x e
  select_takes name (Sized c ∷ ts) x e = item_takes name (Sized c ∷ ts) x e

  named_takes : (ts : List Token) (x : Expr × List Token) → named_at inner ts ≡ Some x → IsTaken ts x
  unfolding named_at
  named_takes ts x e =
      let a = bind_some (name_at ts) (λ name. cond (is_at (codes "[") name.1) (select_at inner name.0 (tail name.1)) (Some (expr.Whole name.0, name.1))) x e in
      let first = name_takes ts a.0 a.1 in
      elim (chosen (is_at (codes "[") a.0.1) (select_at inner a.0.0 (tail a.0.1)) (Some (expr.Whole a.0.0, a.0.1)) (Some x) a.2) as (λ _. IsTaken ts x) [
        | inl w ↦ subst (λ r. IsTaken r x) (sym (first ∙ ap (λ r. Named a.0.0 ∷ r) (at_takes (codes "[") a.0.1 w.0))) (select_takes a.0.0 (tail a.0.1) x w.1)
        | inr w ↦
            let made : (expr.Whole a.0.0, a.0.1) ≡ x = cc w.1 in
            subst (IsTaken ts) made (first ∙ ap (λ t. t ++ a.0.1) (sym (tokens-Whole a.0.0)), omega (arith, depth-roll (Expr-F.Whole a.0.0) (expr.Whole a.0.0) (rolls-Whole a.0.0)))
      ]

  plain_takes : (ts : List Token) (x : Expr × List Token) → plain_at inner ts ≡ Some x → IsTaken ts x
  unfolding plain_at
  plain_takes [] x e = named_takes [] x e
  plain_takes (Fixed word ∷ ts) x e = named_takes (Fixed word ∷ ts) x e
  plain_takes (Named name ∷ ts) x e = named_takes (Named name ∷ ts) x e
  plain_takes (Number number ∷ ts) x e = named_takes (Number number ∷ ts) x e
  plain_takes (Sized c ∷ ts) x e =
      let made : (expr.Const c, ts) ≡ x = cc e in
      subst (IsTaken (Sized c ∷ ts)) made (ap (λ t. t ++ ts) (sym (tokens-Const c)), omega (arith, depth-roll (Expr-F.Const c) (expr.Const c) (rolls-Const c)))

  form_takes : (ts : List Token) (x : Expr × List Token) → form_at inner ts ≡ Some x → IsTaken ts x
  unfolding form_at
  form_takes ts x e = elim (chosen (is_at (codes "(") ts) (paren_at inner (tail ts)) (cond (is_at (codes "{") ts) (join_at inner (tail ts)) (plain_at inner ts)) (Some x) e) as (λ _. IsTaken ts x) [
    | inl w ↦ subst (λ r. IsTaken r x) (sym (at_takes (codes "(") ts w.0)) (paren_takes (tail ts) x w.1)
    | inr w ↦ elim (chosen (is_at (codes "{") ts) (join_at inner (tail ts)) (plain_at inner ts) (Some x) w.1) as (λ _. IsTaken ts x) [
      | inl v ↦ subst (λ r. IsTaken r x) (sym (at_takes (codes "{") ts v.0)) (join_takes (tail ts) x v.1)
      | inr v ↦ plain_takes ts x v.1
    ]
  ]

  item_again : (name : List ℕ) (e : Expr) (rest : List Token) → IsDeep (suc n) (expr.Item name e) → form_at inner (expr_tokens (expr.Item name e) ++ rest) ≡ Some (expr.Item name e, rest)
  unfolding form_at plain_at named_at item_at
  item_again name e rest deep =
      let end : List Token = Fixed (codes "]") ∷ rest in
      let start : List Token = expr_tokens e ++ end in
      ap (λ t. form_at inner (t ++ rest)) (tokens-Item name e)
      ∙ ap (λ ts. select_at inner name ts) (append_assoc (expr_tokens e) (Fixed (codes "]") ∷ []) rest)
      ∙ index-item inner name start (begins_expr e end).number
      ∙ bind_at (inner start) (λ address. after (codes "]") address.1 >>= λ end. Some (expr.Item name address.0, end)) (e, end) (is.again e end (omega (arith, deep, depth-Item name e)) refl)

  whole_again : (name : List ℕ) (rest : List Token) → Follows rest → form_at inner (expr_tokens (expr.Whole name) ++ rest) ≡ Some (expr.Whole name, rest)
  unfolding form_at plain_at named_at
  whole_again name rest next =
      ap (λ t. form_at inner (t ++ rest)) (tokens-Whole name) ∙ cond-false (is_at (codes "[") rest) (select_at inner name (tail rest)) (Some (expr.Whole name, rest)) next

  bit_again : (name : List ℕ) (index : ℕ) (rest : List Token) → form_at inner (expr_tokens (expr.Bit name index) ++ rest) ≡ Some (expr.Bit name index, rest)
  unfolding form_at plain_at named_at select_at bits_at
  bit_again name index rest = ap (λ t. form_at inner (t ++ rest)) (tokens-Bit name index)

  part_again : (name : List ℕ) (high low : ℕ) (rest : List Token) → form_at inner (expr_tokens (expr.Part name high low) ++ rest) ≡ Some (expr.Part name high low, rest)
  unfolding form_at plain_at named_at select_at bits_at
  part_again name high low rest = ap (λ t. form_at inner (t ++ rest)) (tokens-Part name high low)

  const_again : (c : Constant) (rest : List Token) → form_at inner (expr_tokens (expr.Const c) ++ rest) ≡ Some (expr.Const c, rest)
  unfolding form_at plain_at
  const_again c rest = ap (λ t. form_at inner (t ++ rest)) (tokens-Const c)

  -- an expression is read again
  abbrev Again : Expr → Type 0
  Again e = (rest : List Token) → IsDeep (suc n) e → Follows rest → form_at inner (expr_tokens e ++ rest) ≡ Some (e, rest)

  form_again : (f : Expr-F Expr) → Again (roll-Expr f)
  form_again (Expr-F.Const c) = subst Again (sym (rolls-Const c)) (λ rest deep next. const_again c rest)
  form_again (Expr-F.Whole name) = subst Again (sym (rolls-Whole name)) (λ rest deep next. whole_again name rest next)
  form_again (Expr-F.Bit name index) = subst Again (sym (rolls-Bit name index)) (λ rest deep next. bit_again name index rest)
  form_again (Expr-F.Part name high low) = subst Again (sym (rolls-Part name high low)) (λ rest deep next. part_again name high low rest)
  form_again (Expr-F.Item name e) = subst Again (sym (rolls-Item name e)) (λ rest deep next. item_again name e rest deep)
  form_again (Expr-F.Join a b more) = subst Again (sym (rolls-Join a b more)) (λ rest deep next. join_again a b more rest deep)
  form_again (Expr-F.Not e) = subst Again (sym (rolls-Not e)) (λ rest deep next. not_again e rest deep)
  form_again (Expr-F.Binary a op b) = subst Again (sym (rolls-Binary a op b)) (λ rest deep next. binary_again a op b rest deep)
  form_again (Expr-F.Choice c a b) = subst Again (sym (rolls-Choice c a b)) (λ rest deep next. choice_again c a b rest deep)

  form_reader : IsReader (form_at inner) expr_tokens (IsDeep (suc n)) Follows
  form_reader = record {
    takes = form_takes;
    again = λ e rest deep next. subst Again (roll-out-Expr e) (form_again (out-Expr e)) rest deep next;
  }

-- expressions are read exactly
pub expr_reader : (n : ℕ) → IsReader (expr_at n) expr_tokens (IsDeep n) Follows
unfolding expr_at
expr_reader zero = record { takes = λ ts x e. absurd cc; again = λ e rest deep next. absurd (some_depth e deep) }
expr_reader (suc n) = form_reader (expr_at n) n (expr_reader n)

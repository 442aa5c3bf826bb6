-- What a reader has before it, where it is an operator, a certain name, or nothing.
use Rattle.std.proofs.Common.{◌≡◌, ℕ, suc, eqb, Bool, true, false, cond, List, [], ◌∷◌, length, map, Option, Some, None, refl, sym, ap, ◌∙◌, arith}
use Rattle.std.specs.Str.{bytes_eq}
use Rattle.std.proofs.lemmas.Bool.{cond-true, cond-false}
use Rattle.std.proofs.lemmas.Bool.Decides.{nat_tests}
use Rattle.std.proofs.lemmas.Option.{none-some}
use Rattle.lg_vtree.specs.declared.expr.Operator.{Operator}
use Rattle.lg_vtree.specs.declared.expr.Operator.TheVariants as operator
use Rattle.lg_vread.specs.declared.reader.Reader.{Reader}
use Rattle.lg_vtree.specs.Token.{is_name}
use Rattle.lg_vtree.specs.Printed.{operator_text}
use Rattle.lg_vtree.specs.Grammar.{Token, Fixed}
use Rattle.lg_vread.specs.Lexing.{lexemes, is_fixed, token_of, first_word, left, behind}
use Rattle.lg_vread.specs.Reading.{◌>>=◌, is_at, name_at, operator_of, operators, operator_at, after_name}
use Rattle.lg_vread.proofs.Steps.{bind_at, same_bytes, bytes_again, at_takes, operator_of_takes, operator_takes, operator_again}
use Rattle.lg_vread.proofs.Taking.{at_is, tail_is, name_comes, no_name}

operator_fixed : (op : Operator) → is_fixed (operator_text op) ≡ true
operator_fixed operator.And = refl
operator_fixed operator.Or = refl
operator_fixed operator.Xor = refl
operator_fixed operator.Add = refl
operator_fixed operator.Subtract = refl
operator_fixed operator.Multiply = refl
operator_fixed operator.Divide = refl
operator_fixed operator.Remainder = refl
operator_fixed operator.Equal = refl
operator_fixed operator.Less = refl
operator_fixed operator.ShiftLeft = refl
operator_fixed operator.ShiftRight = refl

operator_known : (op : Operator) → operator_of operators (operator_text op) ≡ Some op
operator_known operator.And = refl
operator_known operator.Or = refl
operator_known operator.Xor = refl
operator_known operator.Add = refl
operator_known operator.Subtract = refl
operator_known operator.Multiply = refl
operator_known operator.Divide = refl
operator_known operator.Remainder = refl
operator_known operator.Equal = refl
operator_known operator.Less = refl
operator_known operator.ShiftLeft = refl
operator_known operator.ShiftRight = refl

pub operator_comes : (r : Reader) (op : Operator) → operator_of operators r.token.now ≡ Some op → operator_at (left r) ≡ Some (op, behind r)
operator_comes r op e =
    let text = operator_text op in
    let spelled = operator_of_takes operators r.token.now op e in
    let here : is_at text (left r) ≡ true = sym (at_is text r (operator_fixed op)) ∙ ap (λ w. bytes_eq w text) spelled ∙ bytes_again text in
    ap operator_at (at_takes text (left r) here ∙ ap (λ ts. Fixed text ∷ ts) (tail_is text r here)) ∙ operator_again op (behind r)

pub no_operator : (r : Reader) → operator_of operators r.token.now ≡ None → operator_at (left r) ≡ None
no_operator r e = by_case (operator_at (left r)) refl
  where
    by_case : (o : Option (Operator × List Token)) → operator_at (left r) ≡ o → o ≡ None
    by_case None is = refl
    by_case (Some x) is =
        let text = operator_text x.0 in
        let here : is_at text (left r) ≡ true = ap (is_at text) (operator_takes (left r) x is) ∙ bytes_again text in
        let spelled = same_bytes r.token.now text (at_is text r (operator_fixed x.0) ∙ here) in
        absurd (none-some x.0 (sym e ∙ ap (operator_of operators) spelled ∙ operator_known x.0))

pub this_name : (r : Reader) (name : List ℕ) → is_name name ≡ true → bytes_eq r.token.now name ≡ true → after_name name (left r) ≡ Some (behind r)
unfolding after_name
this_name r name h e =
    let named : is_name r.token.now ≡ true = ap is_name (same_bytes r.token.now name e) ∙ h in
    bind_at (name_at (left r)) (λ x. cond (bytes_eq x.0 name) (Some x.1) None) (r.token.now, behind r) (name_comes r named)
    ∙ cond-true (bytes_eq r.token.now name) (Some (behind r)) None e

pub other_name : (r : Reader) (name : List ℕ) → bytes_eq r.token.now name ≡ false → after_name name (left r) ≡ None
unfolding after_name
other_name r name e = by_case (is_name r.token.now) refl
  where
    by_case : (b : Bool) → is_name r.token.now ≡ b → (name_at (left r) >>= λ x. cond (bytes_eq x.0 name) (Some x.1) None) ≡ None
    by_case true named =
        bind_at (name_at (left r)) (λ x. cond (bytes_eq x.0 name) (Some x.1) None) (r.token.now, behind r) (name_comes r named)
        ∙ cond-false (bytes_eq r.token.now name) (Some (behind r)) None e
    by_case false named = ap (λ (o : Option (List ℕ × List Token)). o >>= λ x. cond (bytes_eq x.0 name) (Some x.1) None) (no_name r named)

none_word : (word : List ℕ) (words : List (List ℕ)) → eqb (length (map token_of (first_word word words))) 0 ≡ eqb (length word) 0
none_word [] words = refl
none_word (c ∷ cs) words = some (length (map token_of words)) ∙ sym (some (length cs))
  where
    some : (n : ℕ) → eqb (suc n) 0 ≡ false
    some n = grind (arith, nat_tests)

pub none_left : (r : Reader) → eqb (length (left r)) 0 ≡ eqb (length r.token.now) 0
unfolding left
none_left r = none_word r.token.now (lexemes r.rest.now)

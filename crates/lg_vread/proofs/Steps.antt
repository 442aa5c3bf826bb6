-- Steps of a reading, forwards and backwards.
use Rattle.std.proofs.Common.{◌≡◌, ℕ, zero, suc, ◌<◌, Bool, true, false, cond, eqb, List, [], ◌∷◌, ◌++◌, length, Option, Some, None, refl, sym, ap, ◌∙◌, append_assoc, arith, rules, inl, inr, ◌⊎◌, subst}
use Rattle.std.specs.Prelude.{codes}
use Rattle.std.specs.List.{flat_map, AllByRecursion}
use Rattle.std.specs.Str.{bytes_eq}
use Rattle.std.proofs.lemmas.List.{length-append}
use Rattle.std.proofs.lemmas.Bool.{cond-true, cond-false, false≢true}
use Rattle.std.proofs.lemmas.Slice.Eq.{bytes_eq-Decides}
use Rattle.lg_vtree.specs.declared.expr.Constant.{Constant}
use Rattle.lg_vtree.specs.declared.expr.Operator.{Operator}
use Rattle.lg_vtree.specs.declared.expr.Operator.TheVariants as operator
use Rattle.lg_vtree.specs.Printed.{operator_text}
use Rattle.lg_vtree.specs.Grammar.{Token, Fixed, Named, Number, Sized}
use Rattle.lg_vread.specs.Reading.{◌>>=◌, is_at, tail, after, name_at, number_at, constant_at, operator_of, operators, operator_at, after_number, after_name, many_at}

pub bind_some : {A B : Type 0} (o : Option A) (f : A → Option B) (y : B) → (o >>= f) ≡ Some y → (x : A) × (o ≡ Some x) × (f x ≡ Some y)
bind_some None f y e = absurd cc
bind_some (Some x) f y e = (x, refl, e)

pub bind_at : {A B : Type 0} (o : Option A) (f : A → Option B) (x : A) → o ≡ Some x → (o >>= f) ≡ f x
bind_at o f x e = ap (λ p. p >>= f) e

pub chosen : {A : Type 0} (b : Bool) (x y z : A) → cond b x y ≡ z → ((b ≡ true) × (x ≡ z)) ⊎ ((b ≡ false) × (y ≡ z))
chosen true x y z e = inl (refl, e)
chosen false x y z e = inr (refl, e)

pub guarded : {A : Type 0} (b : Bool) (x y : A) → cond b (Some x) None ≡ Some y → (b ≡ true) × (x ≡ y)
guarded true x y e = (refl, cc)
guarded false x y e = absurd cc

pub same_bytes : (a b : List ℕ) → bytes_eq a b ≡ true → a ≡ b
same_bytes a b e = (bytes_eq-Decides a b).0 e

pub bytes_again : (a : List ℕ) → bytes_eq a a ≡ true
bytes_again a = (bytes_eq-Decides a a).1 refl

pub at_takes : (text : List ℕ) (ts : List Token) → is_at text ts ≡ true → ts ≡ Fixed text ∷ tail ts
at_takes text [] e = absurd (false≢true e)
at_takes text (Fixed word ∷ ts) e = ap (λ w. Fixed w ∷ ts) (same_bytes word text e)
at_takes text (Named name ∷ ts) e = absurd (false≢true e)
at_takes text (Number n ∷ ts) e = absurd (false≢true e)
at_takes text (Sized c ∷ ts) e = absurd (false≢true e)

pub after_takes : (text : List ℕ) (ts rest : List Token) → after text ts ≡ Some rest → ts ≡ Fixed text ∷ rest
after_takes text ts rest e =
    let g = guarded (is_at text ts) (tail ts) rest e in
    at_takes text ts g.0 ∙ ap (λ r. Fixed text ∷ r) g.1

pub name_takes : (ts : List Token) (x : List ℕ × List Token) → name_at ts ≡ Some x → ts ≡ Named x.0 ∷ x.1
name_takes [] x e = absurd cc
name_takes (Fixed word ∷ ts) x e = absurd cc
name_takes (Named name ∷ ts) x e = let p : (name, ts) ≡ x = cc in ap (λ (y : List ℕ × List Token). Named y.0 ∷ y.1) p
name_takes (Number n ∷ ts) x e = absurd cc
name_takes (Sized c ∷ ts) x e = absurd cc

pub number_takes : (ts : List Token) (x : ℕ × List Token) → number_at ts ≡ Some x → ts ≡ Number x.0 ∷ x.1
number_takes [] x e = absurd cc
number_takes (Fixed word ∷ ts) x e = absurd cc
number_takes (Named name ∷ ts) x e = absurd cc
number_takes (Number n ∷ ts) x e = let p : (n, ts) ≡ x = cc in ap (λ (y : ℕ × List Token). Number y.0 ∷ y.1) p
number_takes (Sized c ∷ ts) x e = absurd cc

pub constant_takes : (ts : List Token) (x : Constant × List Token) → constant_at ts ≡ Some x → ts ≡ Sized x.0 ∷ x.1
constant_takes [] x e = absurd cc
constant_takes (Fixed word ∷ ts) x e = absurd cc
constant_takes (Named name ∷ ts) x e = absurd cc
constant_takes (Number n ∷ ts) x e = absurd cc
constant_takes (Sized c ∷ ts) x e = let p : (c, ts) ≡ x = cc in ap (λ (y : Constant × List Token). Sized y.0 ∷ y.1) p

pub after_number_takes : (n : ℕ) (ts rest : List Token) → after_number n ts ≡ Some rest → ts ≡ Number n ∷ rest
unfolding after_number
after_number_takes n ts rest e =
    let a = bind_some (number_at ts) (λ x. cond (eqb x.0 n) (Some x.1) None) rest e in
    let g = guarded (eqb a.0.0 n) a.0.1 rest a.2 in
    let same : a.0.0 ≡ n = search rules in
    let first = number_takes ts a.0 a.1 in
    first ∙ ap (λ m. Number m ∷ a.0.1) same ∙ ap (λ r. Number n ∷ r) g.1

pub after_name_takes : (name : List ℕ) (ts rest : List Token) → after_name name ts ≡ Some rest → ts ≡ Named name ∷ rest
unfolding after_name
after_name_takes name ts rest e =
    let a = bind_some (name_at ts) (λ x. cond (bytes_eq x.0 name) (Some x.1) None) rest e in
    let g = guarded (bytes_eq a.0.0 name) a.0.1 rest a.2 in
    name_takes ts a.0 a.1 ∙ ap (λ m. Named m ∷ a.0.1) (same_bytes a.0.0 name g.0) ∙ ap (λ r. Named name ∷ r) g.1

pub operator_of_takes : (ops : List Operator) (word : List ℕ) (op : Operator) → operator_of ops word ≡ Some op → word ≡ operator_text op
operator_of_takes [] word op e = absurd cc
operator_of_takes (o ∷ ops) word op e = elim (chosen (bytes_eq word (operator_text o)) (Some o) (operator_of ops word) (Some op) e) [
  | inl w ↦ let p : o ≡ op = cc w.1 in same_bytes word (operator_text o) w.0 ∙ ap operator_text p
  | inr w ↦ operator_of_takes ops word op w.1
]

pub operator_takes : (ts : List Token) (x : Operator × List Token) → operator_at ts ≡ Some x → ts ≡ Fixed (operator_text x.0) ∷ x.1
unfolding operator_at
operator_takes [] x e = absurd cc
operator_takes (Fixed word ∷ ts) x e =
    let a = bind_some (operator_of operators word) (λ op. Some (op, ts)) x e in
    let p : (a.0, ts) ≡ x = cc a.2 in
    ap (λ w. Fixed w ∷ ts) (operator_of_takes operators word a.0 a.1) ∙ ap (λ (y : Operator × List Token). Fixed (operator_text y.0) ∷ y.1) p
operator_takes (Named name ∷ ts) x e = absurd cc
operator_takes (Number n ∷ ts) x e = absurd cc
operator_takes (Sized c ∷ ts) x e = absurd cc

pub operator_again : (op : Operator) (ts : List Token) → operator_at (Fixed (operator_text op) ∷ ts) ≡ Some (op, ts)
unfolding operator_at
operator_again operator.And ts = refl
operator_again operator.Or ts = refl
operator_again operator.Xor ts = refl
operator_again operator.Add ts = refl
operator_again operator.Subtract ts = refl
operator_again operator.Multiply ts = refl
operator_again operator.Divide ts = refl
operator_again operator.Remainder ts = refl
operator_again operator.Equal ts = refl
operator_again operator.Less ts = refl
operator_again operator.ShiftLeft ts = refl
operator_again operator.ShiftRight ts = refl

pub operator_no_question : (op : Operator) → bytes_eq (operator_text op) (codes "?") ≡ false
operator_no_question operator.And = refl
operator_no_question operator.Or = refl
operator_no_question operator.Xor = refl
operator_no_question operator.Add = refl
operator_no_question operator.Subtract = refl
operator_no_question operator.Multiply = refl
operator_no_question operator.Divide = refl
operator_no_question operator.Remainder = refl
operator_no_question operator.Equal = refl
operator_no_question operator.Less = refl
operator_no_question operator.ShiftLeft = refl
operator_no_question operator.ShiftRight = refl

pub operator_no_bracket : (op : Operator) → bytes_eq (operator_text op) (codes "[") ≡ false
operator_no_bracket operator.And = refl
operator_no_bracket operator.Or = refl
operator_no_bracket operator.Xor = refl
operator_no_bracket operator.Add = refl
operator_no_bracket operator.Subtract = refl
operator_no_bracket operator.Multiply = refl
operator_no_bracket operator.Divide = refl
operator_no_bracket operator.Remainder = refl
operator_no_bracket operator.Equal = refl
operator_no_bracket operator.Less = refl
operator_no_bracket operator.ShiftLeft = refl
operator_no_bracket operator.ShiftRight = refl

-- a part, and what follows it
pub part : (e x ts r rest : List Token) → ts ≡ e ++ r → r ≡ x ++ rest → ts ≡ (e ++ x) ++ rest
part e x ts r rest p q = p ∙ ap (λ t. e ++ t) q ∙ sym (append_assoc e x rest)

-- the front of the tokens is spelled by what was read, which is good
abbrev pub Taken : {A : Type 0} → (A → List Token) → (A → Type 0) → List Token → A × List Token → Type 0
Taken tokens Good ts x = (ts ≡ tokens x.0 ++ x.1) × Good x.0

-- reading takes what is spelled so and is good, and nothing else, before tokens that may follow
pub record IsReader {A : Type 0} (read : List Token → Option (A × List Token)) (tokens : A → List Token) (Good : A → Type 0) (Follows : List Token → Type 0) : Type 0 where
  pub takes : (ts : List Token) (x : A × List Token) → read ts ≡ Some x → Taken tokens Good ts x
  pub again : (x : A) (rest : List Token) → Good x → Follows rest → read (tokens x ++ rest) ≡ Some (x, rest)

pub many_step : {A : Type 0} (goes : List Token → Bool) (one : List Token → Option (A × List Token)) (n : ℕ) (ts : List Token) → goes ts ≡ true → many_at goes one (suc n) ts ≡ (one ts >>= λ first. many_at goes one n first.1 >>= λ others. Some (first.0 ∷ others.0, others.1))
unfolding many_at
many_step goes one n ts e = cond-true (goes ts) (one ts >>= λ first. many_at goes one n first.1 >>= λ others. Some (first.0 ∷ others.0, others.1)) (Some ([], ts)) e

pub many_stop : {A : Type 0} (goes : List Token → Bool) (one : List Token → Option (A × List Token)) (n : ℕ) (ts : List Token) → goes ts ≡ false → many_at goes one (suc n) ts ≡ Some ([], ts)
unfolding many_at
many_stop goes one n ts e = cond-false (goes ts) (one ts >>= λ first. many_at goes one n first.1 >>= λ others. Some (first.0 ∷ others.0, others.1)) (Some ([], ts)) e

module _ {A : Type 0} (goes : List Token → Bool) (one : List Token → Option (A × List Token)) (tokens : A → List Token) (Good : A → Type 0) (Follows : List Token → Type 0) (is : IsReader one tokens Good Follows) where
  pub many_takes : (n : ℕ) (ts : List Token) (x : List A × List Token) → many_at goes one n ts ≡ Some x → Taken (flat_map tokens) (AllByRecursion Good) ts x
  unfolding many_at
  many_takes zero ts x e = absurd cc
  many_takes (suc n) ts x e = elim (chosen (goes ts) (one ts >>= λ first. many_at goes one n first.1 >>= λ others. Some (first.0 ∷ others.0, others.1)) (Some ([], ts)) (Some x) e) as (λ _. Taken (flat_map tokens) (AllByRecursion Good) ts x) [
    | inl w ↦
        let a = bind_some (one ts) (λ first. many_at goes one n first.1 >>= λ others. Some (first.0 ∷ others.0, others.1)) x w.1 in
        let b = bind_some (many_at goes one n a.0.1) (λ others. Some (a.0.0 ∷ others.0, others.1)) x a.2 in
        let first = is.takes ts a.0 a.1 in
        let others = many_takes n a.0.1 b.0 b.1 in
        let made : (a.0.0 ∷ b.0.0, b.0.1) ≡ x = cc b.2 in
        subst (Taken (flat_map tokens) (AllByRecursion Good) ts) made (first.0 ∙ ap (λ r. tokens a.0.0 ++ r) others.0 ∙ sym (append_assoc (tokens a.0.0) (flat_map tokens b.0.0) b.0.1), (first.1, others.1))
    | inr w ↦ let made : ([], ts) ≡ x = cc w.1 in subst (Taken (flat_map tokens) (AllByRecursion Good) ts) made (refl, tt)
  ]

  pub many_again : ((x : A) (r : List Token) → goes (tokens x ++ r) ≡ true) → ((x : A) (r : List Token) → Follows (tokens x ++ r)) → (n : ℕ) (xs : List A) (rest : List Token) → AllByRecursion Good xs → goes rest ≡ false → Follows rest → length xs < n
      → many_at goes one n (flat_map tokens xs ++ rest) ≡ Some (xs, rest)
  many_again opens follows zero xs rest good stop next lt = absurd (omega arith)
  many_again opens follows (suc n) [] rest good stop next lt = many_stop goes one n rest stop
  many_again opens follows (suc n) (x ∷ xs) rest good stop next lt =
      let after_it : List Token = flat_map tokens xs ++ rest in
      let here : Follows after_it = elim xs as (λ ys. Follows (flat_map tokens ys ++ rest)) [ [] ↦ next | y ∷ ys ↦ subst Follows (sym (append_assoc (tokens y) (flat_map tokens ys) rest)) (follows y (flat_map tokens ys ++ rest)) ] in
      ap (many_at goes one (suc n)) (append_assoc (tokens x) (flat_map tokens xs) rest)
      ∙ many_step goes one n (tokens x ++ after_it) (opens x after_it)
      ∙ bind_at (one (tokens x ++ after_it)) (λ first. many_at goes one n first.1 >>= λ others. Some (first.0 ∷ others.0, others.1)) (x, after_it) (is.again x after_it good.0 here)
      ∙ bind_at (many_at goes one n after_it) (λ others. Some (x ∷ others.0, others.1)) (xs, rest) (many_again opens follows n xs rest good.1 stop next (omega arith))

  -- there are enough tokens for each
  pub many_fit : ((x : A) → 0 < length (tokens x)) → (xs : List A) (rest : List Token) → length xs < suc (length (flat_map tokens xs ++ rest))
  many_fit some [] rest = omega arith
  many_fit some (x ∷ xs) rest = omega (arith, some x, many_fit some xs rest, length-append (tokens x ++ flat_map tokens xs) rest, length-append (tokens x) (flat_map tokens xs), length-append (flat_map tokens xs) rest)

  pub all_again : ((x : A) (r : List Token) → goes (tokens x ++ r) ≡ true) → ((x : A) (r : List Token) → Follows (tokens x ++ r)) → ((x : A) → 0 < length (tokens x)) → (xs : List A) (rest : List Token) → AllByRecursion Good xs → goes rest ≡ false → Follows rest
      → many_at goes one (suc (length (flat_map tokens xs ++ rest))) (flat_map tokens xs ++ rest) ≡ Some (xs, rest)
  all_again opens follows some xs rest good stop next = many_again opens follows (suc (length (flat_map tokens xs ++ rest))) xs rest good stop next (many_fit some xs rest)

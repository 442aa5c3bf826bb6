-- The steps of the loops over ports and parts.
use Rattle.std.proofs.Common.{◌≡◌, ℕ, ◌+◌, ◌<◌, ◌≤◌, Bool, true, false, List, [], ◌∷◌, ◌++◌, length, take, get_or, map, sym, ◌∙◌, ap, refl, arith}
use Rattle.std.specs.Prelude.{◌&&◌, ◌||◌, ◌==◌, nat_le}
use Rattle.std.specs.List.{enumerate_from, list_all}
use Rattle.std.proofs.lemmas.Bool.{cases_Bool}
use Rattle.std.proofs.Common.{inl, inr, take_all}
use Rattle.std.proofs.lemmas.Bool.Decides.{nat_tests}
use Rattle.std.proofs.lemmas.List.{map_more, get_or-map, length-map}
use Rattle.std.proofs.lemmas.List.Folds.{list_all_at}
use Rattle.std.proofs.lemmas.List.FromFn.{get_or-enumerate_from, length-enumerate_from}
use Rattle.lg_value.specs.Word.{IsWidth}
use Rattle.lg_timing.specs.Circuit.{Port, Part}
use Rattle.lg_timing.specs.Instant.{Numbered}
use Rattle.lg_instants.specs.Plain.{is_width, is_port}

-- what passes for all elements passes for one of them
pub list_all-at : {X : Type 0} (p : X → Bool) (xs : List X) (i : ℕ) (x : X) → list_all p xs ≡ true → i < length xs → x ≡ get_or xs i x → p x ≡ true
list_all-at p xs i x all inside is =
    elim (cases_Bool (p x)) [
      | inl passes ↦ passes
      | inr fails ↦
          let bad = list_all_at p xs i x inside (ap p (sym is) ∙ fails) in absurd (cc (bad, all))
    ]

-- the same, where the elements have a meaning
pub list_all-meaning : {P X : Type 0} (meaning : P → X) (p : X → Bool) (xs : List P) (i : ℕ) (x : P) → list_all p (map meaning xs) ≡ true → i < length xs → x ≡ get_or xs i x → p (meaning x) ≡ true
list_all-meaning meaning p xs i x all inside is =
    list_all-at p (map meaning xs) i (meaning x) all (simp length-map inside)
    (sym (get_or-map meaning xs i x (meaning x) inside ∙ ap meaning (sym is)))

and-left : (a b : Bool) → (a && b) ≡ true → a ≡ true
and-left true b h = refl
and-left false b h = h

and-right : (a b : Bool) → (a && b) ≡ true → b ≡ true
and-right true b h = h
and-right false b h = absurd (cc h)

pub IsWidth-from_test : (n : ℕ) → is_width n ≡ true → IsWidth n
IsWidth-from_test n h =
    let low : nat_le 1 n ≡ true = and-left (nat_le 1 n) (nat_le n 64) h in
    let high : nat_le n 64 ≡ true = and-right (nat_le 1 n) (nat_le n 64) h in
    (grind (arith, nat_tests), grind (arith, nat_tests))

pub IsWidth-from_port : (p : Port) → is_port p ≡ true → IsWidth p.width
IsWidth-from_port p h =
    IsWidth-from_test p.width (and-left (is_width p.width) (length p.nets == 0 || length p.nets == p.width) h)

-- a port with nets has 1 to 64 of them
pub is_width-of_nets : (p : Port) → is_port p ≡ true → 0 < length p.nets → is_width (length p.nets) ≡ true
is_width-of_nets p h some =
    let width = and-left (is_width p.width) (length p.nets == 0 || length p.nets == p.width) h in
    let either = and-right (is_width p.width) (length p.nets == 0 || length p.nets == p.width) h in
    let same : length p.nets ≡ p.width = grind (arith, nat_tests) in
    rw same width

-- one part more
pub numbered_more : {P X : Type 0} (meaning : P → Part) (f : Numbered → X) (xs : List P) (i : ℕ) (x : P) → x ≡ get_or xs i x → i < length xs
    → map f (take (i + 1) (enumerate_from 0 (map meaning xs))) ≡ map f (take i (enumerate_from 0 (map meaning xs))) ++ f (i, meaning x) ∷ []
numbered_more meaning f xs i x is inside =
    let parts = map meaning xs in
    let there : i < length parts = simp length-map inside in
    let one = get_or-enumerate_from 0 parts i (i, meaning x) there in
    let at = get_or-map meaning xs i x (meaning x) inside ∙ ap meaning (sym is) in
    let zero : 0 + i ≡ i = omega arith in
    let same : get_or (enumerate_from 0 parts) i (i, meaning x) ≡ (i, meaning x) = one ∙ ap (λ (k : ℕ). (k, get_or parts i (meaning x))) zero ∙ ap (λ (p : Part). (i, p)) at in
    map_more f (enumerate_from 0 parts) i (i, meaning x) (rw (length-enumerate_from 0 parts) there)
    ∙ ap (λ (p : Numbered). map f (take i (enumerate_from 0 parts)) ++ f p ∷ []) same

-- all parts
pub numbered_all : {P X : Type 0} (meaning : P → Part) (f : Numbered → X) (xs : List P) (i : ℕ) → length xs ≤ i
    → map f (take i (enumerate_from 0 (map meaning xs))) ≡ map f (enumerate_from 0 (map meaning xs))
numbered_all meaning f xs i all =
    let long : length (enumerate_from 0 (map meaning xs)) ≤ i = simp (length-enumerate_from, length-map) all in
    ap (map f) (take_all i (enumerate_from 0 (map meaning xs)) long)

-- the element of a list that another list is
pub element-along : {X : Type 0} (xs ys : List X) (i : ℕ) (x : X) → xs ≡ ys → x ≡ get_or xs i x → x ≡ get_or ys i x
element-along xs ys i x same is = is ∙ ap (λ l. get_or l i x) same

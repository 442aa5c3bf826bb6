-- Rising lists.
use Rattle.std.proofs.Common.{◌≡◌, ◌<◌, Bool, true, ltb, List, [], ◌∷◌, ◌++◌, map, refl, sym, ap, ◌∙◌, subst, arith, ◌⊎◌, inl, inr}
use Rattle.std.proofs.lemmas.Bool.{cases_Bool, ltb-true, ltb-false, lt-ltb, le-ltb, both_ways}
use Rattle.lg_queue.specs.Order.{StandsIn, IsRising, with_value, IsOrder}

pub stands_left : {X : Type 0} (x : X) (xs ys : List X) → StandsIn x xs → StandsIn x (xs ++ ys)
stands_left x [] ys h = absurd h
stands_left x (z ∷ xs) ys (inl e) = inl e
stands_left x (z ∷ xs) ys (inr h) = inr (stands_left x xs ys h)

pub stands_right : {X : Type 0} (x : X) (xs ys : List X) → StandsIn x ys → StandsIn x (xs ++ ys)
stands_right x [] ys h = h
stands_right x (z ∷ xs) ys h = inr (stands_right x xs ys h)

pub stands_cases : {X : Type 0} (x : X) (xs ys : List X) → StandsIn x (xs ++ ys) → StandsIn x xs ⊎ StandsIn x ys
stands_cases x [] ys h = inr h
stands_cases x (z ∷ xs) ys (inl e) = inl (inl e)
stands_cases x (z ∷ xs) ys (inr h) = elim (stands_cases x xs ys h) [ inl k ↦ inl (inr k) | inr k ↦ inr k ]

-- what stands in a list that a function made
pub stands_in_map : {X Y : Type 0} (f : X → Y) (y : Y) (xs : List X) → StandsIn y (map f xs) → (x : X) × StandsIn x xs × (y ≡ f x)
stands_in_map f y [] h = absurd h
stands_in_map f y (x ∷ xs) (inl e) = (x, inl refl, e)
stands_in_map f y (x ∷ xs) (inr h) = let k = stands_in_map f y xs h in (k.0, inr k.1, k.2)

pub map_stands : {X Y : Type 0} (f : X → Y) (x : X) (xs : List X) → StandsIn x xs → StandsIn (f x) (map f xs)
map_stands f x [] h = absurd h
map_stands f x (z ∷ xs) (inl e) = inl (ap f e)
map_stands f x (z ∷ xs) (inr h) = inr (map_stands f x xs h)

pub rising_append : {X : Type 0} (before : X → X → Bool) (xs ys : List X) → IsRising before xs → IsRising before ys
    → ((x y : X) → StandsIn x xs → StandsIn y ys → before x y ≡ true) → IsRising before (xs ++ ys)
rising_append before [] ys h k across = k
rising_append before (x ∷ xs) ys h k across = (
  (λ y stands. elim (stands_cases y xs ys stands) [ inl s ↦ h.0 y s | inr s ↦ across x y (inl refl) s ]),
  rising_append before xs ys h.1 k (λ z y s t. across z y (inr s) t),
)

-- a function that keeps the order of a list's values
pub rising_map : {X Y : Type 0} (before : X → X → Bool) (before' : Y → Y → Bool) (f : X → Y) (xs : List X) → IsRising before xs
    → ((x y : X) → StandsIn x xs → StandsIn y xs → before x y ≡ true → before' (f x) (f y) ≡ true) → IsRising before' (map f xs)
rising_map before before' f [] h keeps = tt
rising_map before before' f (x ∷ xs) h keeps = (
  (λ y stands. let k = stands_in_map f y xs stands in subst (λ z. before' (f x) z ≡ true) (sym k.2) (keeps x k.0 (inl refl) (inr k.1) (h.0 k.0 k.1))),
  rising_map before before' f xs h.1 (λ a b s t. keeps a b (inr s) (inr t)),
)

-- no value of a rising list stands in it twice
pub first_once : {X : Type 0} (before : X → X → Bool) → IsOrder before → (x : X) (xs : List X) → IsRising before (x ∷ xs) → StandsIn x xs → ⊥
first_once before order x xs h stands = both_ways (before x x) (order.irreflexive x) (h.0 x stands)

-- two rising lists whose first values stand in one another begin alike
same_first : {X : Type 0} (before : X → X → Bool) → IsOrder before → (x y : X) (xs ys : List X) → IsRising before (x ∷ xs) → IsRising before (y ∷ ys)
    → StandsIn x (y ∷ ys) → StandsIn y (x ∷ xs) → x ≡ y
same_first before order x y xs ys h k (inl e) t = e
same_first before order x y xs ys h k (inr s) (inl e) = sym e
same_first before order x y xs ys h k (inr s) (inr t) =
    absurd (both_ways (before x x) (order.irreflexive x) (order.transitive x y x (h.0 y t) (k.0 x s)))

-- what stands in the rest of one of two rising lists that begin alike stands in the rest of the other
in_rest : {X : Type 0} (before : X → X → Bool) → IsOrder before → (x y : X) (xs ys : List X) → x ≡ y → IsRising before (x ∷ xs) → (z : X) → StandsIn z xs → StandsIn z (y ∷ ys) → StandsIn z ys
in_rest before order x y xs ys e h z s (inl same) = absurd (first_once before order x xs h (subst (λ v. StandsIn v xs) (same ∙ sym e) s))
in_rest before order x y xs ys e h z s (inr t) = t

-- rising lists of the same values are one
pub same_rising : {X : Type 0} (before : X → X → Bool) → IsOrder before → (xs ys : List X) → IsRising before xs → IsRising before ys
    → ((z : X) → StandsIn z xs → StandsIn z ys) → ((z : X) → StandsIn z ys → StandsIn z xs) → xs ≡ ys
same_rising before order [] [] h k there back = refl
same_rising before order [] (y ∷ ys) h k there back = absurd (back y (inl refl))
same_rising before order (x ∷ xs) [] h k there back = absurd (there x (inl refl))
same_rising before order (x ∷ xs) (y ∷ ys) h k there back =
    let first : x ≡ y = same_first before order x y xs ys h k (there x (inl refl)) (back y (inl refl)) in
    let rest : xs ≡ ys = same_rising before order xs ys h.1 k.1
    (λ z s. in_rest before order x y xs ys first h z s (there z (inr s)))
    (λ z s. in_rest before order y x ys xs (sym first) k z s (back z (inr s))) in
    cc

-- what stands in a list with a value more
pub stands_in_with : {X : Type 0} (before : X → X → Bool) (x : X) (ys : List X) (z : X) → StandsIn z (with_value before x ys) → (z ≡ x) ⊎ StandsIn z ys
stands_in_with before x [] z h = h
stands_in_with before x (y ∷ ys) z h = elim (cases_Bool (before x y)) [
  | inl t ↦ rw t at h
  | inr f ↦ elim (cases_Bool (before y x)) [
    | inl u ↦ elim (rw (f, u) at h) [ inl e ↦ inr (inl e) | inr s ↦ elim (stands_in_with before x ys z s) [ inl e ↦ inl e | inr k ↦ inr (inr k) ] ]
    | inr u ↦ inr (rw (f, u) at h)
  ]
]

pub with_stands : {X : Type 0} (before : X → X → Bool) (x : X) (ys : List X) (z : X) → StandsIn z ys → StandsIn z (with_value before x ys)
with_stands before x [] z h = absurd h
with_stands before x (y ∷ ys) z h = elim (cases_Bool (before x y)) [
  | inl t ↦ rw t (inr h)
  | inr f ↦ elim (cases_Bool (before y x)) [
    | inl u ↦ rw (f, u) (elim h [ inl e ↦ inl e | inr s ↦ inr (with_stands before x ys z s) ])
    | inr u ↦ rw (f, u) h
  ]
]

pub with_stands_itself : {X : Type 0} (before : X → X → Bool) → IsOrder before → (x : X) (ys : List X) → StandsIn x (with_value before x ys)
with_stands_itself before order x [] = inl refl
with_stands_itself before order x (y ∷ ys) = elim (cases_Bool (before x y)) [
  | inl t ↦ rw t (inl refl)
  | inr f ↦ elim (cases_Bool (before y x)) [
    | inl u ↦ rw (f, u) (inr (with_stands_itself before order x ys))
    | inr u ↦ rw (f, u) (inl (order.total x y f u))
  ]
]

pub with_rising : {X : Type 0} (before : X → X → Bool) → IsOrder before → (x : X) (ys : List X) → IsRising before ys → IsRising before (with_value before x ys)
with_rising before order x [] h = ((λ y s. absurd s), tt)
with_rising before order x (y ∷ ys) h = elim (cases_Bool (before x y)) [
  | inl t ↦ rw t ((λ z s. elim s [ inl e ↦ subst (λ v. before x v ≡ true) (sym e) t | inr k ↦ order.transitive x y z t (h.0 z k) ]), h)
  | inr f ↦ elim (cases_Bool (before y x)) [
    | inl u ↦ rw (f, u) ((λ z s. elim (stands_in_with before x ys z s) [ inl e ↦ subst (λ v. before y v ≡ true) (sym e) u | inr k ↦ h.0 z k ]), with_rising before order x ys h.1)
    | inr u ↦ rw (f, u) h
  ]
]

-- numbers are in order
pub order_of_numbers : IsOrder ltb
order_of_numbers = record {
  irreflexive = λ x. le-ltb x x (omega arith);
  transitive = λ x y z h k. let a : x < y = ltb-true x y h in let b : y < z = ltb-true y z k in lt-ltb x z (omega arith);
  total = λ x y h k. omega (arith, ltb-false x y h, ltb-false y x k);
}

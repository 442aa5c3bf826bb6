-- What stands in a list that was made from others.
use Rattle.std.proofs.Common.{◌≡◌, ℕ, zero, suc, ◌+◌, Bool, true, false, cond, List, [], ◌∷◌, ◌++◌, map, filter, Some, refl, sym, ap, subst, ◌∙◌, arith, inl, inr, ◌⊎◌}
use Rattle.std.specs.Prelude.{slice_get, Contains}
use Rattle.std.specs.List.{AllByRecursion, list_all, flat_map, enumerate_from}
use Rattle.std.proofs.lemmas.Bool.{and_from}
use Rattle.std.proofs.lemmas.Option.{same_Some, slice_get-get_or, get_or_from_slice_get, slice_get_within}

-- the item is one of these
abbrev pub IsItem : {A : Type 0} → List A → A → Type 0
IsItem [] x = ⊥
IsItem (y ∷ ys) x = (x ≡ y) ⊎ IsItem ys x

pub item_at : {A : Type 0} (xs : List A) (i : ℕ) (x : A) → slice_get xs i ≡ Some x → IsItem xs x
item_at [] i x e = absurd (cc e)
item_at (y ∷ ys) zero x e = inl (sym (same_Some y x e))
item_at (y ∷ ys) (suc i) x e = inr (item_at ys i x e)

pub at_item : {A : Type 0} (xs : List A) (x : A) → IsItem xs x → (i : ℕ) × (slice_get xs i ≡ Some x)
at_item [] x h = absurd h
at_item (y ∷ ys) x (inl e) = (0, ap Some (sym e))
at_item (y ∷ ys) x (inr h) = let there = at_item ys x h in (suc there.0, there.1)

pub contains_item : {A : Type 0} (xs : List A) (x : A) → Contains xs x → IsItem xs x
contains_item xs x (i, less, e) = item_at xs i x (slice_get-get_or xs i x less ∙ ap Some e)

pub item_contains : {A : Type 0} (xs : List A) (x : A) → IsItem xs x → Contains xs x
item_contains xs x here = let at = at_item xs x here in (at.0, slice_get_within xs at.0 x at.1, get_or_from_slice_get xs at.0 x x at.1)

pub item_left : {A : Type 0} (xs ys : List A) (x : A) → IsItem xs x → IsItem (xs ++ ys) x
item_left [] ys x h = absurd h
item_left (y ∷ xs) ys x (inl e) = inl e
item_left (y ∷ xs) ys x (inr h) = inr (item_left xs ys x h)

pub item_right : {A : Type 0} (xs ys : List A) (x : A) → IsItem ys x → IsItem (xs ++ ys) x
item_right [] ys x h = h
item_right (y ∷ xs) ys x h = inr (item_right xs ys x h)

pub item_either : {A : Type 0} (xs ys : List A) (x : A) → IsItem (xs ++ ys) x → IsItem xs x ⊎ IsItem ys x
item_either [] ys x h = inr h
item_either (y ∷ xs) ys x (inl e) = inl (inl e)
item_either (y ∷ xs) ys x (inr h) = elim (item_either xs ys x h) [ inl a ↦ inl (inr a) | inr b ↦ inr b ]

pub item_of_map : {A B : Type 0} (f : A → B) (xs : List A) (y : B) → IsItem (map f xs) y → (x : A) × IsItem xs x × (y ≡ f x)
item_of_map f [] y h = absurd h
item_of_map f (x ∷ xs) y (inl e) = (x, inl refl, e)
item_of_map f (x ∷ xs) y (inr h) = let r = item_of_map f xs y h in (r.0, inr r.1, r.2)

pub map_item : {A B : Type 0} (f : A → B) (xs : List A) (x : A) → IsItem xs x → IsItem (map f xs) (f x)
map_item f [] x h = absurd h
map_item f (y ∷ xs) x (inl e) = inl (ap f e)
map_item f (y ∷ xs) x (inr h) = inr (map_item f xs x h)

pub item_of_flat : {A B : Type 0} (f : A → List B) (xs : List A) (y : B) → IsItem (flat_map f xs) y → (x : A) × IsItem xs x × IsItem (f x) y
item_of_flat f [] y h = absurd h
item_of_flat f (x ∷ xs) y h = elim (item_either (f x) (flat_map f xs) y h) [
  | inl here ↦ (x, inl refl, here)
  | inr there ↦ let r = item_of_flat f xs y there in (r.0, inr r.1, r.2)
]

pub flat_item : {A B : Type 0} (f : A → List B) (xs : List A) (x : A) (y : B) → IsItem xs x → IsItem (f x) y → IsItem (flat_map f xs) y
flat_item f [] x y h here = absurd h
flat_item f (z ∷ xs) x y (inl e) here = item_left (f z) (flat_map f xs) y (subst (λ w. IsItem (f w) y) e here)
flat_item f (z ∷ xs) x y (inr h) here = item_right (f z) (flat_map f xs) y (flat_item f xs x y h here)

pub item_of_numbered : {A : Type 0} (k : ℕ) (xs : List A) (e : ℕ × A) → IsItem (enumerate_from k xs) e → (i : ℕ) × (e.0 ≡ k + i) × (slice_get xs i ≡ Some e.1)
item_of_numbered k [] e h = absurd h
item_of_numbered k (x ∷ xs) e (inl f) = (0, ap (λ (p : ℕ × _). p.0) f ∙ omega arith, ap (λ (p : ℕ × _). Some p.1) (sym f))
item_of_numbered k (x ∷ xs) e (inr h) = let r = item_of_numbered (k + 1) xs e h in (suc r.0, omega (arith, r.1), r.2)

numbered_item : {A : Type 0} (k : ℕ) (xs : List A) (i : ℕ) (x : A) → slice_get xs i ≡ Some x → IsItem (enumerate_from k xs) (k + i, x)
numbered_item k [] i x e = absurd (cc e)
numbered_item k (y ∷ ys) zero x e = let index : k + 0 ≡ k = omega arith in let same = sym (same_Some y x e) in inl (λ i. (index i, same i))
numbered_item {A = A} k (y ∷ ys) (suc i) x e = inr (subst (λ (j : ℕ). IsItem (enumerate_from (k + 1) ys) (j, x)) (omega arith) (numbered_item (k + 1) ys i x e))

pub numbered_at : {A : Type 0} (xs : List A) (i : ℕ) (x : A) → slice_get xs i ≡ Some x → IsItem (enumerate_from 0 xs) (i, x)
numbered_at {A = A} xs i x e = let index : 0 + i ≡ i = omega arith in subst (λ (j : ℕ). IsItem (enumerate_from 0 xs) (j, x)) index (numbered_item 0 xs i x e)

pub item_of_filter : {A : Type 0} (test : A → Bool) (xs : List A) (x : A) → IsItem (filter test xs) x → IsItem xs x × (test x ≡ true)
item_of_filter test [] x h = absurd h
item_of_filter {A = A} test (y ∷ ys) x h = by (test y) refl h (λ g. item_of_filter test ys x g)
  where
    by : (b : Bool) → test y ≡ b → IsItem (cond b (y ∷ filter test ys) (filter test ys)) x → (IsItem (filter test ys) x → IsItem ys x × (test x ≡ true)) → IsItem (y ∷ ys) x × (test x ≡ true)
    by true e (inl f) rest = (inl f, ap test f ∙ e)
    by true e (inr g) rest = let r = rest g in (inr r.0, r.1)
    by false e g rest = let r = rest g in (inr r.0, r.1)

pub filter_item : {A : Type 0} (test : A → Bool) (xs : List A) (x : A) → IsItem xs x → test x ≡ true → IsItem (filter test xs) x
filter_item test [] x h pass = absurd h
filter_item {A = A} test (y ∷ ys) x (inl f) pass = rw (sym (ap test f) ∙ pass) (inl f)
filter_item {A = A} test (y ∷ ys) x (inr h) pass = by (test y) refl (filter_item test ys x h pass)
  where
    by : (b : Bool) → test y ≡ b → IsItem (filter test ys) x → IsItem (filter test (y ∷ ys)) x
    by true e rest = rw e (inr rest)
    by false e rest = rw e rest

-- a test that each item passes
pub all_items : {A : Type 0} (test : A → Bool) (xs : List A) → ((x : A) → IsItem xs x → test x ≡ true) → list_all test xs ≡ true
all_items test [] each = refl
all_items test (x ∷ xs) each = and_from (test x) (list_all test xs) (each x (inl refl)) (all_items test xs (λ y h. each y (inr h)))

pub each_item : {A : Type 0} (P : A → Type 0) (xs : List A) → ((x : A) → IsItem xs x → P x) → AllByRecursion P xs
each_item P [] each = tt
each_item P (x ∷ xs) each = (each x (inl refl), each_item P xs (λ y h. each y (inr h)))

pub at_each : {A : Type 0} (P : A → Type 0) (xs : List A) → AllByRecursion P xs → (x : A) → IsItem xs x → P x
at_each P [] all x here = absurd here
at_each P (y ∷ xs) all x (inl e) = subst P (sym e) all.0
at_each P (y ∷ xs) all x (inr here) = at_each P xs all.1 x here

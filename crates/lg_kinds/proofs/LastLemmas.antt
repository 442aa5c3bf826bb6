-- Where the last element of a list stands that gives something.
use Rattle.std.proofs.Common.{◌≡◌, ◌∙◌, sym, ap, ℕ, suc, Bool, true, false, true≢false, cond, ◌||◌, List, [], ◌∷◌, ◌++◌, length, Option, Some, None, is_some, refl}
use Rattle.std.specs.Prelude.{option_map, if◌then◌else◌, slice_get}
use Rattle.std.specs.Option.{option_or, option_and_then}
use Rattle.lg_kinds.specs.Latest.{last_place}
use Rattle.lg_kinds.specs.PortTable.{last_given}

-- the place of an element that gives something
abbrev place_if : Bool → ℕ → Option ℕ
place_if given place = if given then Some place else None

next_if : (given : Bool) (place : ℕ) → option_map (λ i. suc i) (place_if given place) ≡ place_if given (suc place)
next_if true place = refl
next_if false place = refl

alone : {B : Type 0} (a : Option B) → a ≡ option_or a None
alone None = refl
alone (Some x) = refl

grouped : {B : Type 0} (a b c : Option B) → option_or (option_or a b) c ≡ option_or a (option_or b c)
grouped None b c = refl
grouped (Some x) b c = refl

each_next : (a b : Option ℕ) → option_map (λ i. suc i) (option_or a b) ≡ option_or (option_map (λ i. suc i) a) (option_map (λ i. suc i) b)
each_next None b = refl
each_next (Some x) b = refl

-- one element more
last_place-more : {A B : Type 0} (f : A → Option B) (xs : List A) (x : A) → last_place f (xs ++ x ∷ []) ≡ option_or (place_if (is_some (f x)) (length xs)) (last_place f xs)
last_place-more f [] x = alone (place_if (is_some (f x)) 0)
last_place-more f (y ∷ xs) x =
    let here = place_if (is_some (f y)) 0 in
    let new = place_if (is_some (f x)) (length xs) in
    ap (λ (o : Option ℕ). option_or (option_map (λ i. suc i) o) here) (last_place-more f xs x)
    ∙ ap (λ (o : Option ℕ). option_or o here) (each_next new (last_place f xs))
    ∙ grouped (option_map (λ i. suc i) new) (option_map (λ i. suc i) (last_place f xs)) here
    ∙ ap (λ (o : Option ℕ). option_or o (option_or (option_map (λ i. suc i) (last_place f xs)) here)) (next_if (is_some (f x)) (length xs))

-- one element more, which gives something where a test holds, and whose place was put there
pub last_place-put : {A B : Type 0} (f : A → Option B) (xs : List A) (x : A) (place : ℕ) (test : Bool) (v : B) (old new : Option ℕ) → f x ≡ cond test (Some v) None → length xs ≡ place → old ≡ last_place f xs → new ≡ cond test (Some place) old → new ≡ last_place f (xs ++ x ∷ [])
last_place-put f xs x place true v old new g l o n =
    n ∙ ap Some (sym l) ∙ sym (last_place-more f xs x ∙ ap (λ (b : Bool). option_or (place_if b (length xs)) (last_place f xs)) (ap is_some g))
last_place-put f xs x place false v old new g l o n =
    n ∙ o ∙ sym (last_place-more f xs x ∙ ap (λ (b : Bool). option_or (place_if b (length xs)) (last_place f xs)) (ap is_some g))

-- one element more, which gives nothing
pub last_place-kept : {A B : Type 0} (f : A → Option B) (xs : List A) (x : A) (old : Option ℕ) → f x ≡ None → old ≡ last_place f xs → old ≡ last_place f (xs ++ x ∷ [])
last_place-kept f xs x old g o =
    o ∙ sym (last_place-more f xs x ∙ ap (λ (b : Bool). option_or (place_if b (length xs)) (last_place f xs)) (ap is_some g))

pub some_or : {B : Type 0} (a b : Option B) → is_some (option_or a b) ≡ (is_some a || is_some b)
some_or None b = refl
some_or (Some x) b = refl

pub some_next : (o : Option ℕ) → is_some (option_map (λ i. suc i) o) ≡ is_some o
some_next None = refl
some_next (Some i) = refl

some_if : (given : Bool) → is_some (place_if given 0) ≡ given
some_if true = refl
some_if false = refl

-- a place is known where something is given
pub some_given : {A B : Type 0} (f : A → Option B) (xs : List A) → is_some (last_place f xs) ≡ is_some (last_given f xs)
some_given f [] = refl
some_given f (x ∷ xs) =
    some_or (option_map (λ i. suc i) (last_place f xs)) (place_if (is_some (f x)) 0)
    ∙ ap (λ (b : Bool). b || is_some (place_if (is_some (f x)) 0)) (some_next (last_place f xs) ∙ some_given f xs)
    ∙ ap (λ (b : Bool). is_some (last_given f xs) || b) (some_if (is_some (f x)))
    ∙ sym (some_or (last_given f xs) (f x))

-- what stands at the last place gives what is given last
last_found : {A B : Type 0} (f : A → Option B) (xs : List A) → option_and_then f (option_and_then (slice_get xs) (last_place f xs)) ≡ last_given f xs
last_found f [] = refl
last_found {A = A} {B = B} f (x ∷ xs) = by_parts (last_place f xs) (f x) (last_given f xs) refl refl refl (some_given f xs) (last_found f xs)
  where
    by_parts : (o : Option ℕ) (g given : Option B) → o ≡ last_place f xs → g ≡ f x → given ≡ last_given f xs → is_some (last_place f xs) ≡ is_some (last_given f xs) → option_and_then f (option_and_then (slice_get xs) (last_place f xs)) ≡ last_given f xs
        → option_and_then f (option_and_then (slice_get (x ∷ xs)) (option_or (option_map (λ i. suc i) (last_place f xs)) (place_if (is_some (f x)) 0))) ≡ option_or (last_given f xs) (f x)
    by_parts (Some j) g (Some v) p q r s h = rw (← p, ← r) (rw (← p, ← r) at h)
    by_parts (Some j) g None p q r s h = let no : true ≡ false = ap is_some p ∙ s ∙ sym (ap is_some r) in absurd (true≢false no)
    by_parts None g (Some v) p q r s h = let no : true ≡ false = ap is_some r ∙ sym s ∙ sym (ap is_some p) in absurd (true≢false no)
    by_parts None (Some w) None p q r s h = rw (← p, ← r, ← q) (sym q)
    by_parts None None None p q r s h = rw (← p, ← r, ← q) refl

-- what was looked up at the last place gives what is given last
pub looked_up : {A B : Type 0} (f : A → Option B) (xs : List A) (place : Option ℕ) (o : Option A) → place ≡ last_place f xs → o ≡ option_and_then (slice_get xs) place → option_and_then f o ≡ last_given f xs
looked_up f xs place o p q = ap (option_and_then f) (q ∙ ap (option_and_then (slice_get xs)) p) ∙ last_found f xs

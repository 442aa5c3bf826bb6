-- What each element of a name gives, as the loops collect it.
use Rattle.std.proofs.Common.{◌≡◌, ℕ, suc, ◌+◌, ◌<◌, Bool, true, false, List, [], ◌∷◌, ◌++◌, length, get_or, drop, Option, Some, None, refl, sym, ap, ◌∙◌, append_assoc, drop-cons, add-one}
use Rattle.std.specs.Prelude.{filter}
use Rattle.std.proofs.lemmas.Bool.{cond-true, cond-false}
use Rattle.lg_circ.specs.Meaning.{◌>>=◌, each}

abbrev with_each : {B : Type 0} → List B → Option (List B) → Option (List B)
with_each front read = read >>= λ xs. Some (front ++ xs)

-- what the elements before gave, and what those from here give, are the whole
pub record Collects {A B : Type 0} (p : A → Bool) (f : A → Option B) (front : List B) (i : ℕ) (xs : List A) : Type 0 where
  pub same : with_each front (each f (filter p (drop i xs))) ≡ each f (filter p xs)

regroup : {B : Type 0} (front : List B) (y : B) (read : Option (List B)) → with_each front (read >>= λ ys. Some (y ∷ ys)) ≡ with_each (front ++ y ∷ []) read
regroup front y None = refl
regroup front y (Some ys) = ap (λ (zs : List _). Some zs) (sym (append_assoc front (y ∷ []) ys))

dropped : {A : Type 0} (xs : List A) (i : ℕ) (x : A) → i < length xs → x ≡ get_or xs i x → drop i xs ≡ x ∷ drop (i + 1) xs
dropped xs i x lt at = drop-cons xs i x lt ∙ ap (λ (y : _). y ∷ drop (suc i) xs) (sym at) ∙ ap (λ (n : ℕ). x ∷ drop n xs) (sym (add-one i))

filter_in : {A : Type 0} (p : A → Bool) (xs : List A) (i : ℕ) (x : A) → i < length xs → x ≡ get_or xs i x → p x ≡ true → filter p (drop i xs) ≡ x ∷ filter p (drop (i + 1) xs)
filter_in p xs i x lt at e = ap (filter p) (dropped xs i x lt at) ∙ cond-true (p x) (x ∷ filter p (drop (i + 1) xs)) (filter p (drop (i + 1) xs)) e

filter_out : {A : Type 0} (p : A → Bool) (xs : List A) (i : ℕ) (x : A) → i < length xs → x ≡ get_or xs i x → p x ≡ false → filter p (drop i xs) ≡ filter p (drop (i + 1) xs)
filter_out p xs i x lt at e = ap (filter p) (dropped xs i x lt at) ∙ cond-false (p x) (x ∷ filter p (drop (i + 1) xs)) (filter p (drop (i + 1) xs)) e

pub collect_in : {A B : Type 0} (p : A → Bool) (f : A → Option B) (front : List B) (i : ℕ) (xs : List A) (x : A) (y : B) → i < length xs → x ≡ get_or xs i x → p x ≡ true → f x ≡ Some y → Collects p f front i xs → Collects p f (front ++ y ∷ []) (i + 1) xs
collect_in p f front i xs x y lt at e read so_far =
    let rest = filter p (drop (i + 1) xs) in
    let step : each f (filter p (drop i xs)) ≡ (each f rest >>= λ ys. Some (y ∷ ys)) = ap (each f) (filter_in p xs i x lt at e) ∙ ap (λ (o : Option _). o >>= λ z. each f rest >>= λ ys. Some (z ∷ ys)) read in
    record { same = sym (regroup front y (each f rest)) ∙ ap (with_each front) (sym step) ∙ so_far.same }

pub collect_out : {A B : Type 0} (p : A → Bool) (f : A → Option B) (front : List B) (i : ℕ) (xs : List A) (x : A) → i < length xs → x ≡ get_or xs i x → p x ≡ false → Collects p f front i xs → Collects p f front (i + 1) xs
collect_out p f front i xs x lt at e so_far = record { same = ap (λ (ys : List _). with_each front (each f ys)) (sym (filter_out p xs i x lt at e)) ∙ so_far.same }

-- Classes numbered by first appearance.
use Rattle.std.specs.Prelude.{◌≡◌, ℕ, ◌<◌, ◌↔◌, ◌⊎◌, List, length, slice_get, slice_index, slice_index_or, slice_set, Option, Some, None}

-- Items that are together have one number, and others have different ones; a number appears only after all
-- lesser ones have, and `count` is how many there are.
pub record IsNumbering {A : Type 0} (Together : A → A → Type 0) (items : List A) (numbers : List ℕ) (count : ℕ) : Type 0 where
  pub one_each : length numbers ≡ length items
  pub classes : (i j : ℕ) (a b : A) → slice_get items i ≡ Some a → slice_get items j ≡ Some b
      → (slice_index numbers i ≡ slice_index numbers j) ↔ Together a b
  pub below : (i : ℕ) → i < length numbers → slice_index numbers i < count
  pub in_order : (i n : ℕ) → i < length numbers → n < slice_index numbers i → (j : ℕ) × (j < i) × (slice_index numbers j ≡ n)
  pub all_appear : (n : ℕ) → n < count → (j : ℕ) × (j < length numbers) × (slice_index numbers j ≡ n)

-- the number of a label that has one, or the next number for one that has none
abbrev pub NumbersNext : List (Option ℕ) → List (Option ℕ) → ℕ → ℕ → ℕ → Type 0
NumbersNext old new label next number =
    ((slice_index_or old label None ≡ Some number) × (new ≡ old))
    ⊎ ((slice_index_or old label None ≡ None) × (number ≡ next) × (new ≡ slice_set old label (Some next)))

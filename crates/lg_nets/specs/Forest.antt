-- Numbers that point at parents, and what they represent.
use Rattle.std.specs.Prelude.{◌≡◌, ℕ, ◌<◌, ◌≤◌, List, length, slice_index, ◌==◌, if◌then◌else◌, min, max}

-- no parent is greater than its child
pub record PointDown (parents : List ℕ) : Type 0 where
  pub down : (i : ℕ) → i < length parents → slice_index parents i ≤ i

-- a choice of one number for each: its parent has the same one, a number that is its own parent has itself, and none is
-- greater than its number
pub record Represents (rep : ℕ → ℕ) (parents : List ℕ) : Type 0 where
  pub keeps : (i : ℕ) → i < length parents → rep (slice_index parents i) ≡ rep i
  pub roots : (i : ℕ) → i < length parents → slice_index parents i ≡ i → rep i ≡ i
  pub low : (i : ℕ) → rep i ≤ i

-- the choice once the classes of two numbers are one, whose choice is the lesser
abbrev pub merged : (ℕ → ℕ) → ℕ → ℕ → ℕ → ℕ
merged rep a b k = if rep k == max (rep a) (rep b) then min (rep a) (rep b) else rep k

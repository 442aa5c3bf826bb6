-- Rows of bits: the number n is bit n % 64 of word n / 64.
use Rattle.std.specs.Prelude.{◌≡◌, ◌≢◌, ℕ, ◌/◌, ◌%◌, ◌≤◌, List, length, slice_index}
use Rattle.std.specs.Int.{bit_at}

-- 1 where a row has a number, and else 0
unfoldable pub digit : List ℕ → ℕ → ℕ
digit words number = bit_at (slice_index words (number / 64)) (number % 64)

-- a row has a number
abbrev pub Has : List ℕ → ℕ → Type 0
Has words number = digit words number ≡ 1

-- a number came into a row, and nothing else changed
pub record HasAdded (number : ℕ) (old new : List ℕ) : Type 0 where
  pub itself : Has new number
  pub others : (other : ℕ) → other ≢ number → digit new other ≡ digit old other
  pub length : length new ≡ length old

-- a number went out of a row, and nothing else changed
pub record HasTaken (number : ℕ) (old new : List ℕ) : Type 0 where
  pub itself : digit new number ≡ 0
  pub others : (other : ℕ) → other ≢ number → digit new other ≡ digit old other
  pub length : length new ≡ length old

-- a word of a row has no number
abbrev pub HasNoneIn : List ℕ → ℕ → Type 0
HasNoneIn words word = (number : ℕ) → number / 64 ≡ word → digit words number ≡ 0

-- a number of a word of a row
pub record HasSomeIn (words : List ℕ) (word : ℕ) : Type 0 where
  pub number : ℕ
  pub of_word : number / 64 ≡ word
  pub has : Has words number

-- the least number of a word of a row
pub record IsLeastIn (words : List ℕ) (word number : ℕ) : Type 0 where
  pub has : Has words number
  pub of_word : number / 64 ≡ word
  pub least : (other : ℕ) → other / 64 ≡ word → Has words other → number ≤ other

-- a row has no number
abbrev pub HasNone : List ℕ → Type 0
HasNone words = (number : ℕ) → digit words number ≡ 0

-- the least number of a row
pub record IsLeast (words : List ℕ) (number : ℕ) : Type 0 where
  pub has : Has words number
  pub least : (other : ℕ) → Has words other → number ≤ other

-- How two planes of binary digits and a width store a word. No public contract speaks of this.
use Rattle.std.specs.Prelude.{◌≡◌, ℕ, zero, suc, ◌+◌, ◌*◌, ◌/◌, ◌%◌, ◌^◌, ◌<◌, List, [], ◌∷◌, length, refl}
use Rattle.std.proofs.Common.{ap, arith}
use Rattle.std.proofs.Math.Nat.{pow-succ'}
use Rattle.lg_value.specs.declared.bit.Bit.{Bit}
use Rattle.lg_value.specs.declared.bit.Bit.TheVariants.{Zero, One, Unknown, Error}
use Rattle.lg_value.specs.Word.{IsWidth}

-- the digit of a bit in the first plane
abbrev pub first_digit : Bit → ℕ
first_digit One = 1
first_digit Error = 1
first_digit _ = 0

-- the digit of a bit in the second plane
abbrev pub second_digit : Bit → ℕ
second_digit Unknown = 1
second_digit Error = 1
second_digit _ = 0

-- the bit that its digits in the two planes stand for
abbrev pub bit_of_digits : ℕ → ℕ → Bit
bit_of_digits zero zero = Zero
bit_of_digits (suc _) zero = One
bit_of_digits zero (suc _) = Unknown
bit_of_digits (suc _) (suc _) = Error

-- the one of four bits that is given for a bit's value
abbrev pub picked : Bit → Bit → Bit → Bit → Bit → Bit
picked low high floating fault Zero = low
picked low high floating fault One = high
picked low high floating fault Unknown = floating
picked low high floating fault Error = fault

-- the word of some width that two planes hold: bit 0 stands in their lowest digits
unfoldable pub word_of_planes : ℕ → ℕ → ℕ → List Bit
word_of_planes zero a b = []
word_of_planes (suc width) a b = bit_of_digits (a % 2) (b % 2) ∷ word_of_planes width (a / 2) (b / 2)

-- the plane of a word by the digit that each bit has there
unfoldable pub plane_of : (Bit → ℕ) → List Bit → ℕ
plane_of digit [] = 0
plane_of digit (bit ∷ rest) = digit bit + 2 * plane_of digit rest

-- two planes and a width store a word: the width is one that a word may have, and neither plane has a
-- digit other than 0 past it
pub record IsStored (width a b : ℕ) : Type 0 where
  pub in_range : IsWidth width
  pub first : a < 2 ^ width
  pub second : b < 2 ^ width

-- two planes and a width store this word
pub record Stores (width a b : ℕ) (word : List Bit) : Type 0 where
  pub stored : IsStored width a b
  pub word_is : word_of_planes width a b ≡ word

-- as many bits as the width says
pub length-word_of_planes : (width a b : ℕ) → length (word_of_planes width a b) ≡ width
unfolding word_of_planes
length-word_of_planes zero a b = refl
length-word_of_planes (suc width) a b = ap suc (length-word_of_planes width (a / 2) (b / 2))

-- digits are those of the bit that they stand for
pub digits_again : (p q : ℕ) → p < 2 → q < 2 → (first_digit (bit_of_digits p q) ≡ p) × (second_digit (bit_of_digits p q) ≡ q)
digits_again zero zero h k = (refl, refl)
digits_again zero (suc zero) h k = (refl, refl)
digits_again (suc zero) zero h k = (refl, refl)
digits_again (suc zero) (suc zero) h k = (refl, refl)
digits_again zero (suc (suc q)) h k = absurd (omega (arith, k))
digits_again (suc zero) (suc (suc q)) h k = absurd (omega (arith, k))
digits_again (suc (suc p)) q h k = absurd (omega (arith, h))

halved : (digit half n : ℕ) → digit ≡ n % 2 → half ≡ n / 2 → digit + 2 * half ≡ n
halved digit half n low high = omega (arith, low, high)

half_below : (n width : ℕ) → n < 2 ^ suc width → n / 2 < 2 ^ width
half_below n width h = let twice : 2 ^ suc width ≡ 2 * 2 ^ width = pow-succ' 2 width in omega (arith, h, twice)

-- the word gives the first plane back
pub first_plane : (width a b : ℕ) → a < 2 ^ width → plane_of first_digit (word_of_planes width a b) ≡ a
unfolding word_of_planes plane_of
first_plane zero a b h = omega (arith, h)
first_plane (suc width) a b h =
    halved (first_digit (bit_of_digits (a % 2) (b % 2))) (plane_of first_digit (word_of_planes width (a / 2) (b / 2))) a
    (digits_again (a % 2) (b % 2) (omega arith) (omega arith)).0 (first_plane width (a / 2) (b / 2) (half_below a width h))

-- the word gives the second plane back
pub second_plane : (width a b : ℕ) → b < 2 ^ width → plane_of second_digit (word_of_planes width a b) ≡ b
unfolding word_of_planes plane_of
second_plane zero a b h = omega (arith, h)
second_plane (suc width) a b h =
    halved (second_digit (bit_of_digits (a % 2) (b % 2))) (plane_of second_digit (word_of_planes width (a / 2) (b / 2))) b
    (digits_again (a % 2) (b % 2) (omega arith) (omega arith)).1 (second_plane width (a / 2) (b / 2) (half_below b width h))

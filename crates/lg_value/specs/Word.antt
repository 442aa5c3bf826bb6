-- A word is the list of its bits, bit 0 first.
use Rattle.std.specs.Prelude.{◌≡◌, ℕ, Bool, ◌*◌, ◌^◌, ◌≤◌, ◌==◌, ◌⊎◌, if◌then◌else◌, List, [], ◌∷◌, map, All}
use Rattle.std.specs.Cmp.Lexicographic.{pointwise}
use Rattle.std.specs.List.{sum_by, enumerate_from, range_with_len}
use Rattle.std.specs.Int.{bit_at}
use Rattle.lg_value.specs.declared.bit.Bit.{Bit}
use Rattle.lg_value.specs.declared.bit.Bit.TheVariants.{Zero, One}
use Rattle.lg_value.specs.Bit.{same_bit, join_bits, digit_of}

-- a word has 1 to 64 bits
abbrev pub IsWidth : ℕ → Type 0
IsWidth width = (1 ≤ width) × (width ≤ 64)

-- every bit is Zero or One
abbrev pub IsDefined : List Bit → Type 0
IsDefined word = All (λ bit. (bit ≡ Zero) ⊎ (bit ≡ One)) word

-- whether two words have the same bits
abbrev pub same_word : List Bit → List Bit → Bool
same_word a b = pointwise same_bit a b

-- two words of one width, bit by bit
abbrev pub each_pair : (Bit → Bit → Bit) → List Bit → List Bit → List Bit
each_pair f (a ∷ low) (b ∷ more) = f a b ∷ each_pair f low more
each_pair f _ _ = []

-- two words of one width, joined bit by bit
abbrev pub join_words : List Bit → List Bit → List Bit
join_words (a ∷ low) (b ∷ more) = join_bits a b ∷ join_words low more
join_words _ _ = []

-- the number of a word: the sum of its bits' digits, each times two to its place
unfoldable pub number_of : List Bit → ℕ
number_of word = sum_by (λ p. digit_of p.1 * 2 ^ p.0) (enumerate_from 0 word)

-- the bit of a number at a place: its binary digit there
abbrev pub bit_of_number : ℕ → ℕ → Bit
bit_of_number n place = if bit_at n place == 1 then One else Zero

-- the word of a number: its bits at the places below the width
unfoldable pub word_of_number : ℕ → ℕ → List Bit
word_of_number width n = map (bit_of_number n) (range_with_len 0 width)

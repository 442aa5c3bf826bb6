-- How a value of a column is written. Source: the Logisim-evolution user guide, Test Vector: hexadecimal, octal, binary
-- and decimal numbers, and don't-cares, in this project's form.
use Rattle.std.specs.Prelude.{ℕ, Bool, true, ◌≡◌, ◌+◌, ◌-◌, ◌*◌, ◌/◌, ◌^◌, ◌<◌, ◌≤◌, ◌==◌, nat_le, nat_lt, ◌&&◌, ◌||◌, ◌⊎◌, if◌then◌else◌, List, ◌++◌, length, map, All, codes}
use Rattle.std.specs.List.{fold}
use Rattle.lg_value.specs.Bit.{not_bit}
use Rattle.lg_value.specs.Word.{word_of_number}
use Rattle.lg_vectors.specs.CaredBits.{CaredBits}

-- the value of a digit, hexadecimal ones in either case; any other character has 16, which no digit has
abbrev pub digit_value : ℕ → ℕ
digit_value c =
    if nat_le 48 c && nat_le c 57 then c - 48
    else (if nat_le 97 c && nat_le c 102 then c - 87
    else (if nat_le 65 c && nat_le c 70 then c - 55 else 16))

-- the digit `x`, whose bits are not cared for
abbrev pub is_free : ℕ → Bool
is_free c = c == 120

-- a digit of so many bits, or `x`
abbrev pub is_digit : ℕ → ℕ → Bool
is_digit size c = is_free c || nat_lt (digit_value c) (2 ^ size)

-- what a digit adds to the number: an `x` adds 0
abbrev pub known_part : ℕ → ℕ
known_part c = if is_free c then 0 else digit_value c

-- the bits of a digit that are not cared for, as a number: all of them in an `x`, none in another digit
abbrev pub free_part : ℕ → ℕ → ℕ
free_part size c = if is_free c then 2 ^ size - 1 else 0

-- the number of digits, the highest first, from the number of those before; an `x` counts as 0
abbrev pub number_from : ℕ → ℕ → List ℕ → ℕ
number_from base start text = fold (λ n c. n * base + known_part c) start text

-- the number that has a 1 in each bit of digits of so many bits that is not cared for
abbrev pub free_from : ℕ → ℕ → List ℕ → ℕ
free_from size start text = fold (λ n c. n * 2 ^ size + free_part size c) start text

-- the value of a number in a width, with the places cared for at which another number has a 0
abbrev pub cared_but : ℕ → ℕ → ℕ → CaredBits
cared_but width number free = record { bits = word_of_number width number; care = map not_bit (word_of_number width free) }

-- digits of so many bits, with no bit past the width that is 1
pub record AreDigits (size width : ℕ) (text : List ℕ) (value : CaredBits) : Type 0 where
  pub digits : All (λ c. is_digit size c ≡ true) text
  pub fits : number_from (2 ^ size) 0 text < 2 ^ width
  pub same : value ≡ cared_but width (number_from (2 ^ size) 0 text) (free_from size 0 text)

-- at least one digit, and no more than the width takes
pub record AreCounted (size width : ℕ) (text : List ℕ) (value : CaredBits) : Type 0 where
  pub some : 1 ≤ length text
  pub few : length text ≤ (width + size - 1) / size
  pub are_digits : AreDigits size width text value

-- such digits behind a mark
abbrev pub IsMarked : List ℕ → ℕ → ℕ → List ℕ → CaredBits → Type 0
IsMarked mark size width word value = (text : List ℕ) × (word ≡ mark ++ text) × AreCounted size width text value

-- the first form: `0x` and hexadecimal digits, or `0o` and octal ones
abbrev pub IsPrefixed : ℕ → List ℕ → CaredBits → Type 0
IsPrefixed width word value = IsMarked (codes "0x") 4 width word value ⊎ IsMarked (codes "0o") 3 width word value

-- the second form: a binary digit for each bit
pub record IsBinary (width : ℕ) (word : List ℕ) (value : CaredBits) : Type 0 where
  pub count : length word ≡ width
  pub are_digits : AreDigits 1 width word value

-- 1 to width - 1 decimal digits of a number
pub record AreDecimals (width : ℕ) (text : List ℕ) (number : ℕ) : Type 0 where
  pub some : 1 ≤ length text
  pub few : length text + 1 ≤ width
  pub digits : All (λ c. digit_value c < 10) text
  pub same : number ≡ number_from 10 0 text

-- a number that fits the width
pub record IsPositive (width : ℕ) (word : List ℕ) (value : CaredBits) : Type 0 where
  pub number : ℕ
  pub decimals : AreDecimals width word number
  pub fits : number < 2 ^ width
  pub same : value ≡ cared_but width number 0

-- a number that is at most half of what the width takes, to be subtracted from 0 in two's complement
pub record IsSubtracted (width : ℕ) (text : List ℕ) (value : CaredBits) : Type 0 where
  pub number : ℕ
  pub decimals : AreDecimals width text number
  pub fits : number ≤ 2 ^ (width - 1)
  pub same : value ≡ cared_but width (2 ^ width - number) 0

-- such a number behind `-`
abbrev pub IsNegative : ℕ → List ℕ → CaredBits → Type 0
IsNegative width word value = (text : List ℕ) × (word ≡ codes "-" ++ text) × IsSubtracted width text value

-- the third form: a decimal number
abbrev pub IsDecimal : ℕ → List ℕ → CaredBits → Type 0
IsDecimal width word value = IsPositive width word value ⊎ IsNegative width word value

-- a word does not have a form
abbrev pub Lacks : (List ℕ → CaredBits → Type 0) → List ℕ → Type 0
Lacks Form word = (value : CaredBits) → Form word value → ⊥

-- a word is written for a value of a width: by the first of the three forms that it has
abbrev pub IsValue : ℕ → List ℕ → CaredBits → Type 0
IsValue width word value =
    IsPrefixed width word value
    ⊎ ((Lacks (IsPrefixed width) word × IsBinary width word value)
    ⊎ (Lacks (IsPrefixed width) word × Lacks (IsBinary width) word × IsDecimal width word value))

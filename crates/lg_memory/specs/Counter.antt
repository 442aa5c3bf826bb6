-- What a triggered counter holds. Source: the library reference of Logisim-evolution, Memory Library, Counter, the
-- attribute Action On Overflow.
use Rattle.std.specs.Prelude.{ℕ, ◌+◌, ◌-◌, ◌^◌, ◌==◌, if◌then◌else◌, List, Option, None, Some, replicate}
use Rattle.lg_value.specs.declared.bit.Bit.{Bit}
use Rattle.lg_value.specs.declared.bit.Bit.TheVariants.{Zero, One, Error}
use Rattle.lg_value.specs.Word.{word_of_number}
use Rattle.lg_memory.specs.declared.form.Goal.{Goal}
use Rattle.lg_memory.specs.declared.form.Goal.TheVariants.{Wrap, Stay, Continue, Load}
use Rattle.lg_memory.specs.Inputs.{Word, word_at, bit_at, defined_number}

-- what the sum past a counter's greatest number becomes: 0, the greatest again, the next number of the
-- width, or the data
abbrev pub past_greatest : Goal → ℕ → ℕ → Word → Word
past_greatest Wrap width max d = word_of_number width 0
past_greatest Stay width max d = word_of_number width max
past_greatest Continue width max d = word_of_number width (max + 1)
past_greatest Load width max d = d

-- what the difference below 0 becomes: the greatest number, 0 again, the last number of the width, or the data
abbrev pub below_zero : Goal → ℕ → ℕ → Word → Word
below_zero Wrap width max d = word_of_number width max
below_zero Stay width max d = word_of_number width 0
below_zero Continue width max d = word_of_number width (2 ^ width - 1)
below_zero Load width max d = d

-- a counter's number after one count, up unless `ud` is 0; an undefined one gives an error in every bit
abbrev pub counted : Goal → ℕ → ℕ → Word → Bit → Option ℕ → Word
counted goal width max d ud None = replicate width Error
counted goal width max d Zero (Some n) = if n == 0 then below_zero goal width max d else word_of_number width (n - 1)
counted goal width max d _ (Some n) = if n == max then past_greatest goal width max d else word_of_number width (n + 1)

-- a counter loads where `ld` is 1, else holds where its enable is 0, else counts
abbrev pub loads_or_counts : Bit → Bit → Word → Word → Word → Word
loads_or_counts One en d held next = d
loads_or_counts _ Zero d held next = held
loads_or_counts _ _ d held next = next

-- the word that a triggered counter holds. Inputs by place: 0 `d`, 1 `ld`, 2 `ud`, 3 `en`, 4 `clk`, 5 `clr`.
abbrev pub counter_word : Goal → ℕ → ℕ → Word → List Word → Word
counter_word goal width max held inputs =
    loads_or_counts (bit_at inputs 1) (bit_at inputs 3) (word_at inputs 0) held
    (counted goal width max (word_at inputs 0) (bit_at inputs 2) (defined_number held))

-- a counter's carry: whether it stands at the end to which it counts; 0 where it is undefined
abbrev pub carry : ℕ → Bit → Option ℕ → Bit
carry max ud None = Zero
carry max Zero (Some n) = if n == 0 then One else Zero
carry max _ (Some n) = if n == max then One else Zero

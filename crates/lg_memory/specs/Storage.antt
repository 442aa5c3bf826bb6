-- What a ROM and a RAM read and store. Source: the library reference of Logisim-evolution, Memory Library, ROM and RAM.
use Rattle.std.specs.Prelude.{ℕ, List, Option, None, Some, replicate, slice_index_or, slice_set}
use Rattle.lg_value.specs.declared.bit.Bit.{Bit}
use Rattle.lg_value.specs.declared.bit.Bit.TheVariants.{One, Error}
use Rattle.lg_value.specs.Word.{word_of_number}
use Rattle.lg_memory.specs.Inputs.{Word, word_at, bit_at, defined_number}

-- a RAM stores its data where its write enable is 1 and its address is defined
abbrev pub stored_at : Option ℕ → Bit → Word → List Word → List Word
stored_at (Some address) One d words = slice_set words address d
stored_at _ _ d words = words

-- the words of a triggered RAM. Inputs by place: 0 `a`, 1 `d`, 2 `we`, 3 `clk`.
abbrev pub ram_words : List Word → List Word → List Word
ram_words words inputs = stored_at (defined_number (word_at inputs 0)) (bit_at inputs 2) (word_at inputs 1) words

-- the word that a RAM reads; an undefined address reads an error in every bit
abbrev pub ram_read : ℕ → List Word → Option ℕ → Word
ram_read width words None = replicate width Error
ram_read width words (Some address) = word_at words address

-- the word that a ROM reads; words that it lacks are 0
abbrev pub rom_read : ℕ → List ℕ → Option ℕ → Word
rom_read width words None = replicate width Error
rom_read width words (Some address) = word_of_number width (slice_index_or words address 0)

-- A word in another width, after the Logisim-evolution library reference, "Wiring library", "Bit Extender". Bits go
-- on as they are, undefined ones too.
use Rattle.std.specs.Prelude.{ℕ, ◌-◌, List, ◌++◌, length, take, replicate}
use Rattle.lg_value.specs.declared.bit.Bit.{Bit}
use Rattle.lg_value.specs.declared.bit.Bit.TheVariants.{Zero, One}
use Rattle.lg_arith.specs.declared.extension.Extend.{Extend}
use Rattle.lg_arith.specs.declared.extension.Extend.TheVariants as extension
use Rattle.lg_arith.specs.Operands.{top_bit}

-- the bit that stands in the places that a word does not have
abbrev pub added_bit : Extend → List Bit → Bit
added_bit extension.Zero a = Zero
added_bit extension.One a = One
added_bit extension.Sign a = top_bit a
added_bit (extension.Input bit) a = bit

-- the word cut to a width, or extended to it
abbrev pub extended : List Bit → ℕ → Extend → List Bit
extended a width how = take width a ++ replicate (width - length a) (added_bit how a)

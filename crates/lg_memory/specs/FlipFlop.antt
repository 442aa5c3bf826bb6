-- What a triggered flip-flop stores. Source: the library reference of Logisim-evolution, Memory Library, D/T/J-K/S-R
-- Flip-Flop.
use Rattle.std.specs.Prelude.{List}
use Rattle.lg_value.specs.declared.bit.Bit.{Bit}
use Rattle.lg_value.specs.declared.bit.Bit.TheVariants.{Zero, One, Error}
use Rattle.lg_value.specs.Bit.{not_bit}
use Rattle.lg_memory.specs.declared.form.FlipKind.{FlipKind}
use Rattle.lg_memory.specs.declared.form.FlipKind.TheVariants.{D, T, Jk, Sr}
use Rattle.lg_memory.specs.Inputs.{Word, bit_at}

-- T: 0 holds, 1 inverts
abbrev pub toggled : Bit → Bit → Bit
toggled q Zero = q
toggled q One = not_bit q
toggled q _ = Error

-- J and K: neither holds, K clears, J sets, both invert
abbrev pub jk_stored : Bit → Bit → Bit → Bit
jk_stored q Zero Zero = q
jk_stored q Zero One = Zero
jk_stored q One Zero = One
jk_stored q One One = not_bit q
jk_stored q _ _ = Error

-- S and R: neither holds, R clears, S sets, both hold
abbrev pub sr_stored : Bit → Bit → Bit → Bit
sr_stored q Zero Zero = q
sr_stored q Zero One = Zero
sr_stored q One Zero = One
sr_stored q One One = q
sr_stored q _ _ = Error

-- the bit that a triggered flip-flop stores, from the bit that it holds and its inputs
abbrev pub flip_stored : FlipKind → Bit → List Word → Bit
flip_stored D q inputs = bit_at inputs 0
flip_stored T q inputs = toggled q (bit_at inputs 0)
flip_stored Jk q inputs = jk_stored q (bit_at inputs 0) (bit_at inputs 1)
flip_stored Sr q inputs = sr_stored q (bit_at inputs 0) (bit_at inputs 1)

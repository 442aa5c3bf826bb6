-- What a triggered register holds. Source: the library reference of Logisim-evolution, Memory Library, Register.
use Rattle.lg_value.specs.declared.bit.Bit.{Bit}
use Rattle.lg_value.specs.declared.bit.Bit.TheVariants.{Zero}
use Rattle.lg_memory.specs.Inputs.{Word}

-- a register stores its data unless its enable is 0
abbrev pub registered : Word → Word → Bit → Word
registered held d Zero = held
registered held d _ = d

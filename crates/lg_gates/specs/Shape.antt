-- Words that are changed bit by bit: NOT, Buffer, the controlled kinds, and the output forms of a gate.
-- Source: the library reference of Logisim-evolution, Gates Library (NOT Gate, Buffer, Controlled
-- Buffer, Controlled Inverter; the attribute Output Value).
use Rattle.std.specs.Prelude.{Bool, if◌then◌else◌, List, map, replicate, length}
use Rattle.lg_value.specs.declared.bit.Bit.{Bit}
use Rattle.lg_value.specs.declared.bit.Bit.TheVariants.{Zero, One, Unknown, Error}
use Rattle.lg_value.specs.Bit.{not_bit}
use Rattle.lg_gates.specs.declared.outputs.OutForm.{OutForm}
use Rattle.lg_gates.specs.declared.outputs.OutForm.TheVariants.{ZeroFloat, FloatOne}

-- NOT of a word
abbrev pub not_word : List Bit → List Bit
not_word word = map not_bit word

-- a buffered bit: an undefined one gives an error
abbrev pub buffer_bit : Bit → Bit
buffer_bit Zero = Zero
buffer_bit One = One
buffer_bit _ = Error

-- a buffered word
abbrev pub buffer_word : List Bit → List Bit
buffer_word word = map buffer_bit word

-- a controlled buffer or inverter: a control of 1 passes the word as it is, or inverted; 0 leaves it
-- floating, and an undefined control gives an error in each bit
abbrev pub controlled_word : Bool → List Bit → Bit → List Bit
controlled_word invert input One = if invert then not_word input else input
controlled_word invert input Zero = replicate (length input) Unknown
controlled_word invert input _ = replicate (length input) Error

-- a bit in an output form: one of the two values may float, all others stay
abbrev pub shape_bit : OutForm → Bit → Bit
shape_bit ZeroFloat One = Unknown
shape_bit FloatOne Zero = Unknown
shape_bit _ bit = bit

-- a word in an output form
abbrev pub shape_word : OutForm → List Bit → List Bit
shape_word form word = map (shape_bit form) word

-- Constants and bit extenders: their ports and what they answer. Source: the library reference of Logisim-evolution, Wiring
-- Library (Constant, Power, Ground, Bit Extender); order and ranges are this project's.
use Rattle.std.specs.Prelude.{ℕ, ◌≤◌, List, [], ◌∷◌, length, replicate}
use Rattle.lg_value.specs.declared.bit.Bit.TheVariants as bit
use Rattle.lg_value.specs.Word.{IsWidth, IsDefined}
use Rattle.lg_arith.specs.declared.extension.Extend.{Extend}
use Rattle.lg_arith.specs.declared.extension.Extend.TheVariants as extend
use Rattle.lg_arith.specs.Extend.{extended}
use Rattle.lg_memory.specs.Inputs.{Word, word_at, bit_at}
use Rattle.lg_shapes.specs.declared.wiring.Extension.{Extension}
use Rattle.lg_shapes.specs.declared.wiring.Extension.TheVariants.{Zero, One, Sign, Input}
use Rattle.lg_shapes.specs.declared.wiring.Wiring.{Wiring}
use Rattle.lg_shapes.specs.declared.wiring.Wiring.TheVariants.{Constant, Power, Ground, BitExtender}

-- widths in their range, and each bit of a constant 0 or 1
abbrev pub IsWiring : Wiring → Type 0
IsWiring (Constant value) = IsWidth (length value) × IsDefined value
IsWiring (Power width) = IsWidth width
IsWiring (Ground width) = IsWidth width
IsWiring (BitExtender from to extension) = IsWidth from × IsWidth to

-- the widths of the inputs; `ext` is there where the extension is an input
abbrev pub wiring_inputs : Wiring → List ℕ
wiring_inputs (Constant value) = []
wiring_inputs (Power width) = []
wiring_inputs (Ground width) = []
wiring_inputs (BitExtender from to Input) = from ∷ 1 ∷ []
wiring_inputs (BitExtender from to extension) = from ∷ []

-- the width of the output
abbrev pub wiring_outputs : Wiring → List ℕ
wiring_outputs (Constant value) = length value ∷ []
wiring_outputs (Power width) = width ∷ []
wiring_outputs (Ground width) = width ∷ []
wiring_outputs (BitExtender from to extension) = to ∷ []

-- `ext` has a bit, where the extension is an input
abbrev pub HasExtension : Extension → List Word → Type 0
HasExtension Input inputs = 1 ≤ length (word_at inputs 1)
HasExtension extension inputs = Unit

-- what stands in the added places
abbrev pub extension_of : Extension → List Word → Extend
extension_of Zero inputs = extend.Zero
extension_of One inputs = extend.One
extension_of Sign inputs = extend.Sign
extension_of Input inputs = extend.Input (bit_at inputs 1)

-- the word at the output
abbrev pub wiring_words : Wiring → List Word → List Word
wiring_words (Constant value) inputs = value ∷ []
wiring_words (Power width) inputs = replicate width bit.One ∷ []
wiring_words (Ground width) inputs = replicate width bit.Zero ∷ []
wiring_words (BitExtender from to extension) inputs = extended (word_at inputs 0) to (extension_of extension inputs) ∷ []

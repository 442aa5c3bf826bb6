-- The ports and the words of each form. Source: the library reference of Logisim-evolution, Memory Library; the order
-- of the ports is this project's.
use Rattle.std.specs.Prelude.{ℕ, true, false, ◌≡◌, ◌^◌, List, [], ◌∷◌, length, map, replicate, All}
use Rattle.lg_memory.specs.declared.form.FlipKind.TheVariants.{D, T, Jk, Sr}
use Rattle.lg_memory.specs.declared.form.StateForm.{StateForm}
use Rattle.lg_memory.specs.declared.form.StateForm.TheVariants.{Flip, Register, Counter, Shift, Rom, Ram}
use Rattle.lg_memory.specs.declared.state.State.{State}
use Rattle.lg_memory.specs.declared.state.State.TheVariants.{None as NoWord, One as OneWord, Many as ManyWords}
use Rattle.lg_memory.specs.Inputs.{Word}

-- the widths of a form's inputs, in the order of its ports
abbrev pub input_widths : StateForm → List ℕ
input_widths (Flip D trigger) = 1 ∷ 1 ∷ 1 ∷ 1 ∷ []
input_widths (Flip T trigger) = 1 ∷ 1 ∷ 1 ∷ 1 ∷ []
input_widths (Flip Jk trigger) = 1 ∷ 1 ∷ 1 ∷ 1 ∷ 1 ∷ []
input_widths (Flip Sr trigger) = 1 ∷ 1 ∷ 1 ∷ 1 ∷ 1 ∷ []
input_widths (Register width trigger) = width ∷ 1 ∷ 1 ∷ 1 ∷ []
input_widths (Counter width max goal trigger) = width ∷ 1 ∷ 1 ∷ 1 ∷ 1 ∷ 1 ∷ []
input_widths (Shift width stages false trigger) = width ∷ 1 ∷ 1 ∷ 1 ∷ []
input_widths (Shift width stages true trigger) = width ∷ 1 ∷ 1 ∷ 1 ∷ 1 ∷ replicate stages width
input_widths (Rom address width words) = address ∷ []
input_widths (Ram address width trigger) = address ∷ width ∷ 1 ∷ 1 ∷ []

-- the widths of a form's outputs
abbrev pub output_widths : StateForm → List ℕ
output_widths (Flip kind trigger) = 1 ∷ 1 ∷ []
output_widths (Register width trigger) = width ∷ []
output_widths (Counter width max goal trigger) = width ∷ 1 ∷ []
output_widths (Shift width stages false trigger) = width ∷ []
output_widths (Shift width stages true trigger) = replicate stages width
output_widths (Rom address width words) = width ∷ []
output_widths (Ram address width trigger) = width ∷ []

-- a word for each input, in the port's width
pub record FitsInputs (form : StateForm) (inputs : List Word) : Type 0 where
  pub widths : map length inputs ≡ input_widths form

-- the words that a state holds
abbrev pub words_of : State → List Word
words_of NoWord = []
words_of (OneWord word) = word ∷ []
words_of (ManyWords words) = words

-- how many bits the words of a form have
abbrev pub word_width : StateForm → ℕ
word_width (Flip kind trigger) = 1
word_width (Register width trigger) = width
word_width (Counter width max goal trigger) = width
word_width (Shift width stages parallel trigger) = width
word_width (Rom address width words) = width
word_width (Ram address width trigger) = width

-- how many words a form holds: none in a ROM, one for each stage of a shift register and each address of a
-- RAM, else one
abbrev pub word_count : StateForm → ℕ
word_count (Flip kind trigger) = 1
word_count (Register width trigger) = 1
word_count (Counter width max goal trigger) = 1
word_count (Shift width stages parallel trigger) = stages
word_count (Rom address width words) = 0
word_count (Ram address width trigger) = 2 ^ address

-- so many words of one width
abbrev pub AreWords : ℕ → ℕ → List Word → Type 0
AreWords count width words = (length words ≡ count) × All (λ word. length word ≡ width) words

-- words that a form can hold
abbrev pub AreHeld : StateForm → List Word → Type 0
AreHeld form words = AreWords (word_count form) (word_width form) words

-- a state has the shape of a form
abbrev pub HasShape : StateForm → State → Type 0
HasShape (Flip kind trigger) (OneWord word) = length word ≡ 1
HasShape (Register width trigger) (OneWord word) = length word ≡ width
HasShape (Counter width max goal trigger) (OneWord word) = length word ≡ width
HasShape (Shift width stages parallel trigger) (ManyWords words) = AreWords stages width words
HasShape (Rom address width words) NoWord = Unit
HasShape (Ram address width trigger) (ManyWords words) = AreWords (2 ^ address) width words
HasShape _ _ = ⊥

-- The words that a part holds at its start and after a step, and the words of its outputs. Source: the library
-- reference of Logisim-evolution, Memory Library.
use Rattle.std.specs.Prelude.{ℕ, Bool, true, false, ◌-◌, ◌^◌, List, [], ◌∷◌, map, replicate}
use Rattle.lg_value.specs.declared.bit.Bit.TheVariants.{Zero, One}
use Rattle.lg_value.specs.Bit.{not_bit}
use Rattle.lg_memory.specs.declared.event.Event.{Event}
use Rattle.lg_memory.specs.declared.event.Event.TheVariants.{Clear, Preset, Triggered, Rest}
use Rattle.lg_memory.specs.declared.form.StateForm.{StateForm}
use Rattle.lg_memory.specs.declared.form.StateForm.TheVariants.{Flip, Register, Counter, Shift, Rom, Ram}
use Rattle.lg_memory.specs.Inputs.{Word, word_at, bit_at, defined_number}
use Rattle.lg_memory.specs.Controls.{event}
use Rattle.lg_memory.specs.FlipFlop.{flip_stored}
use Rattle.lg_memory.specs.Counter.{counter_word, carry}
use Rattle.lg_memory.specs.Register.{registered}
use Rattle.lg_memory.specs.ShiftRegister.{shift_words}
use Rattle.lg_memory.specs.Storage.{ram_words, ram_read, rom_read}

-- the words at the start, all 0
abbrev pub start_words : StateForm → List Word
start_words (Flip kind trigger) = replicate 1 Zero ∷ []
start_words (Register width trigger) = replicate width Zero ∷ []
start_words (Counter width max goal trigger) = replicate width Zero ∷ []
start_words (Shift width stages parallel trigger) = replicate stages (replicate width Zero)
start_words (Rom address width words) = []
start_words (Ram address width trigger) = replicate (2 ^ address) (replicate width Zero)

-- the words after a trigger, from those before and the inputs now
abbrev pub triggered_words : StateForm → List Word → List Word → List Word
triggered_words (Flip kind trigger) words inputs = (flip_stored kind (bit_at words 0) inputs ∷ []) ∷ []
triggered_words (Register width trigger) words inputs = registered (word_at words 0) (word_at inputs 0) (bit_at inputs 1) ∷ []
triggered_words (Counter width max goal trigger) words inputs = counter_word goal width max (word_at words 0) inputs ∷ []
triggered_words (Shift width stages parallel trigger) words inputs = shift_words parallel words inputs
triggered_words (Rom address width contents) words inputs = words
triggered_words (Ram address width trigger) words inputs = ram_words words inputs

-- the words after an event: those of the start after a clear, a 1 after a preset, and the words as they were
-- where nothing happens
abbrev pub words_after : Event → StateForm → List Word → List Word → List Word
words_after Clear form words inputs = start_words form
words_after Preset form words inputs = (One ∷ []) ∷ []
words_after Triggered form words inputs = triggered_words form words inputs
words_after Rest form words inputs = words

-- the words after a step, from the words and inputs before it and the inputs now
abbrev pub stepped : StateForm → List Word → List Word → List Word → List Word
stepped form words old new = words_after (event form old new) form words new

-- the words of the stages that a shift register shows: each, or the last alone
abbrev pub shown_stages : Bool → ℕ → List Word → List Word
shown_stages true stages words = words
shown_stages false stages words = word_at words (stages - 1) ∷ []

-- the words of the outputs, in the order of the ports
abbrev pub outputs : StateForm → List Word → List Word → List Word
outputs (Flip kind trigger) words inputs = word_at words 0 ∷ map not_bit (word_at words 0) ∷ []
outputs (Register width trigger) words inputs = word_at words 0 ∷ []
outputs (Counter width max goal trigger) words inputs = word_at words 0 ∷ (carry max (bit_at inputs 2) (defined_number (word_at words 0)) ∷ []) ∷ []
outputs (Shift width stages parallel trigger) words inputs = shown_stages parallel stages words
outputs (Rom address width contents) words inputs = rom_read width contents (defined_number (word_at inputs 0)) ∷ []
outputs (Ram address width trigger) words inputs = ram_read width words (defined_number (word_at inputs 0)) ∷ []

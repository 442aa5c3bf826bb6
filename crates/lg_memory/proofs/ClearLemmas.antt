-- Clear and preset.
use Rattle.std.proofs.Common.{◌≡◌, ℕ, Bool, true, false, List, [], ◌∷◌, replicate, refl, ◌^◌}
use Rattle.std.specs.List.{All}
use Rattle.std.proofs.lemmas.List.Elements.{All-nil, All-cons, All-replicate}
use Rattle.lg_value.specs.declared.bit.Bit.TheVariants.{Zero, One}
use Rattle.lg_memory.specs.declared.form.StateForm.{StateForm}
use Rattle.lg_memory.specs.declared.form.StateForm.TheVariants.{Flip, Register, Counter, Shift, Rom, Ram}
use Rattle.lg_memory.specs.Inputs.{Word}
use Rattle.lg_memory.specs.Controls.{event_of}
use Rattle.lg_memory.specs.Step.{start_words, words_after}

-- every bit is 0
abbrev pub IsZero : Word → Type 0
IsZero word = All (λ bit. bit ≡ Zero) word

zeros : (width : ℕ) → IsZero (replicate width Zero)
zeros width = All-replicate (λ bit. bit ≡ Zero) width Zero refl

one_word : (word : Word) → IsZero word → All IsZero (word ∷ [])
one_word word zero = All-cons IsZero word [] zero (All-nil IsZero)

pub start_words-zero : (form : StateForm) → All IsZero (start_words form)
start_words-zero (Flip kind trigger) = one_word (replicate 1 Zero) (zeros 1)
start_words-zero (Register width trigger) = one_word (replicate width Zero) (zeros width)
start_words-zero (Counter width max goal trigger) = one_word (replicate width Zero) (zeros width)
start_words-zero (Shift width stages parallel trigger) = All-replicate IsZero stages (replicate width Zero) (zeros width)
start_words-zero (Rom address width contents) = All-nil IsZero
start_words-zero (Ram address width trigger) = All-replicate IsZero (2 ^ address) (replicate width Zero) (zeros width)

pub words_after_clear : (clear preset now : Bool) (form : StateForm) (words new : List Word) → clear ≡ true → words_after (event_of clear preset now) form words new ≡ start_words form
words_after_clear true preset now form words new h = refl
words_after_clear false preset now form words new h = absurd (cc h)

pub words_after_preset : (clear preset now : Bool) (form : StateForm) (words new : List Word) → clear ≡ false → preset ≡ true → words_after (event_of clear preset now) form words new ≡ (One ∷ []) ∷ []
words_after_preset true preset now form words new h p = absurd (cc h)
words_after_preset false true now form words new h p = refl
words_after_preset false false now form words new h p = absurd (cc p)

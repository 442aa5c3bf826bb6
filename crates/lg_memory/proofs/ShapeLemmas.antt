-- Steps keep the number and the widths of the words.
use Rattle.std.proofs.Common.{◌≡◌, ℕ, zero, suc, Bool, true, false, List, [], ◌∷◌, length, get_or, drop, map, replicate, refl, ap, ◌∙◌, arith, length-set, length-take-le, Option, None, Some}
use Rattle.std.proofs.lemmas.List.Elements.{All-nil, All-cons, All-take, All-set}
use Rattle.lg_value.specs.declared.bit.Bit.{Bit}
use Rattle.lg_value.specs.declared.bit.Bit.TheVariants.{Zero, One, Unknown, Error}
use Rattle.lg_memory.specs.declared.form.Trigger.{Trigger}
use Rattle.lg_memory.specs.declared.form.StateForm.TheVariants.{Shift}
use Rattle.lg_memory.specs.Inputs.{Word, word_at, bit_at}
use Rattle.lg_memory.specs.Shape.{input_widths, AreWords}
use Rattle.lg_memory.specs.ShiftRegister.{shifted, loads_or_shifts, shift_words}
use Rattle.lg_memory.specs.Storage.{stored_at}

-- the width of the word at an input
pub length-word_at : (inputs : List Word) (widths : List ℕ) (place : ℕ) → map length inputs ≡ widths → length (word_at inputs place) ≡ get_or widths place 0
length-word_at [] [] place h = refl
length-word_at [] (w ∷ widths) place h = absurd (cc h)
length-word_at (i ∷ inputs) [] place h = absurd (cc h)
length-word_at (i ∷ inputs) (w ∷ widths) zero h = cc h
length-word_at (i ∷ inputs) (w ∷ widths) (suc place) h = length-word_at inputs widths place (cc h)

-- words whose widths are so many times one number
pub AreWords-from_widths : (words : List Word) (count width : ℕ) → map length words ≡ replicate count width → AreWords count width words
AreWords-from_widths [] zero width h = (refl, All-nil (λ word. length word ≡ width))
AreWords-from_widths [] (suc count) width h = absurd (cc h)
AreWords-from_widths (w ∷ words) zero width h = absurd (cc h)
AreWords-from_widths (w ∷ words) (suc count) width h =
    let first : length w ≡ width = cc h in
    let others : map length words ≡ replicate count width = cc h in
    let rest = AreWords-from_widths words count width others in
    (ap suc rest.0, All-cons (λ word. length word ≡ width) w words first rest.1)

pub AreWords-shifted : (si : Word) (stages : List Word) (count width : ℕ) → length si ≡ width → AreWords count width stages → AreWords count width (shifted si stages)
AreWords-shifted si stages count width first held = (
  length-take-le (length stages) (si ∷ stages) (omega arith) ∙ held.0,
  All-take (λ word. length word ≡ width) (length stages) (si ∷ stages) (All-cons (λ word. length word ≡ width) si stages first held.1),
)

-- what holds of the words that are loaded, of those that are held and of the shifted ones
pub loads_or_shifts-any : (P : List Word → Type 0) (ld sh : Bit) (d held next : List Word) → (ld ≡ One → P d) → P held → P next → P (loads_or_shifts ld sh d held next)
loads_or_shifts-any P One sh d held next loaded kept moved = loaded refl
loads_or_shifts-any P _ Zero d held next loaded kept moved = kept
loads_or_shifts-any P _ _ d held next loaded kept moved = moved

-- the data of parallel stages
pub AreWords-loaded : (inputs : List Word) (a b c d e count width : ℕ) → map length inputs ≡ a ∷ b ∷ c ∷ d ∷ e ∷ replicate count width → AreWords count width (drop 5 inputs)
AreWords-loaded [] a b c d e count width h = absurd (cc h)
AreWords-loaded (i ∷ []) a b c d e count width h = absurd (cc h)
AreWords-loaded (i ∷ j ∷ []) a b c d e count width h = absurd (cc h)
AreWords-loaded (i ∷ j ∷ k ∷ []) a b c d e count width h = absurd (cc h)
AreWords-loaded (i ∷ j ∷ k ∷ l ∷ []) a b c d e count width h = absurd (cc h)
AreWords-loaded (i ∷ j ∷ k ∷ l ∷ m ∷ rest) a b c d e count width h = AreWords-from_widths rest count width (cc h)

pub AreWords-stored_at : (address : Option ℕ) (we : Bit) (d : Word) (words : List Word) (count width : ℕ) → length d ≡ width → AreWords count width words → AreWords count width (stored_at address we d words)
AreWords-stored_at None we d words count width fits held = held
AreWords-stored_at (Some address) One d words count width fits held =
    (length-set words address d ∙ held.0, All-set (λ word. length word ≡ width) words address d fits held.1)
AreWords-stored_at (Some address) Zero d words count width fits held = held
AreWords-stored_at (Some address) Unknown d words count width fits held = held
AreWords-stored_at (Some address) Error d words count width fits held = held

pub AreWords-shift_words : (width count : ℕ) (parallel : Bool) (trigger : Trigger) (stages inputs : List Word) → map length inputs ≡ input_widths (Shift width count parallel trigger) → AreWords count width stages → AreWords count width (shift_words parallel stages inputs)
AreWords-shift_words width count true trigger stages inputs fits held =
    loads_or_shifts-any (AreWords count width) (bit_at inputs 4) (bit_at inputs 1) (drop 5 inputs) stages (shifted (word_at inputs 0) stages)
    (λ _. AreWords-loaded inputs width 1 1 1 1 count width fits) held
    (AreWords-shifted (word_at inputs 0) stages count width (length-word_at inputs (width ∷ 1 ∷ 1 ∷ 1 ∷ 1 ∷ replicate count width) 0 fits) held)
AreWords-shift_words width count false trigger stages inputs fits held =
    loads_or_shifts-any (AreWords count width) Zero (bit_at inputs 1) (drop 5 inputs) stages (shifted (word_at inputs 0) stages)
    (λ e. absurd (cc e)) held
    (AreWords-shifted (word_at inputs 0) stages count width (length-word_at inputs (width ∷ 1 ∷ 1 ∷ 1 ∷ []) 0 fits) held)

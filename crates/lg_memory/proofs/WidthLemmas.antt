-- A step keeps the number of words and their widths, and outputs have the widths of their ports.
use Rattle.std.proofs.Common.{◌≡◌, ℕ, zero, suc, ◌+◌, ◌-◌, ◌^◌, ◌<◌, Bool, true, false, cond, eqb, List, [], ◌∷◌, length, get_or, map, replicate, refl, arith, Option, None, Some}
use Rattle.std.specs.List.{list_all}
use Rattle.std.proofs.lemmas.List.{length-replicate, length-map}
use Rattle.std.proofs.lemmas.List.Elements.{All-nil, All-cons, All-head, All-tail, All-replicate}
use Rattle.lg_value.specs.declared.bit.Bit.{Bit}
use Rattle.lg_value.specs.declared.bit.Bit.TheVariants.{Zero, One, Error}
use Rattle.lg_value.specs.Bit.{is_defined_bit, not_bit}
use Rattle.lg_value.specs.Word.{number_of, word_of_number}
use Rattle.lg_value.proofs.WordLemmas.{length-word_of_number, number_of-lt}
use Rattle.lg_memory.specs.declared.form.Goal.{Goal}
use Rattle.lg_memory.specs.declared.form.Goal.TheVariants.{Wrap, Stay, Continue, Load}
use Rattle.lg_memory.specs.declared.form.StateForm.{StateForm}
use Rattle.lg_memory.specs.declared.form.StateForm.TheVariants.{Flip, Register, Counter, Shift, Rom, Ram}
use Rattle.lg_memory.specs.Inputs.{Word, word_at, bit_at, defined_number}
use Rattle.lg_memory.specs.Form.{IsForm}
use Rattle.lg_memory.specs.Shape.{input_widths, output_widths, FitsInputs, AreWords, AreHeld}
use Rattle.lg_memory.specs.Controls.{clock_of, clear_of, preset_of, is_one, is_triggered}
use Rattle.lg_memory.specs.Counter.{past_greatest, below_zero, counted}
use Rattle.lg_memory.specs.Storage.{ram_read, rom_read}
use Rattle.lg_memory.specs.Step.{start_words, triggered_words, stepped, outputs}
use Rattle.lg_memory.proofs.CaseLemmas.{loads_or_counts-any, registered-any, words_after-any}
use Rattle.lg_memory.proofs.ShapeLemmas.{length-word_at, AreWords-shift_words, AreWords-stored_at}

one_held : (word : Word) (width : ℕ) → length word ≡ width → AreWords 1 width (word ∷ [])
one_held word width fits =
    (refl, All-cons (λ w. length w ≡ width) word [] fits (All-nil (λ w. length w ≡ width)))

held_width : (words : List Word) (count width place : ℕ) → AreWords count width words → place < count → length (word_at words place) ≡ width
held_width words count width place held inside = held.1 place [] (omega (arith, held.0))

length-past_greatest : (goal : Goal) (width max : ℕ) (d : Word) → length d ≡ width → length (past_greatest goal width max d) ≡ width
length-past_greatest Wrap width max d fits = length-word_of_number width 0
length-past_greatest Stay width max d fits = length-word_of_number width max
length-past_greatest Continue width max d fits = length-word_of_number width (max + 1)
length-past_greatest Load width max d fits = fits

length-below_zero : (goal : Goal) (width max : ℕ) (d : Word) → length d ≡ width → length (below_zero goal width max d) ≡ width
length-below_zero Wrap width max d fits = length-word_of_number width max
length-below_zero Stay width max d fits = length-word_of_number width 0
length-below_zero Continue width max d fits = length-word_of_number width (2 ^ width - 1)
length-below_zero Load width max d fits = fits

either : (b : Bool) (x y : Word) (width : ℕ) → length x ≡ width → length y ≡ width → length (cond b x y) ≡ width
either true x y width h k = h
either false x y width h k = k

length-counted : (goal : Goal) (width max : ℕ) (d : Word) (ud : Bit) (number : Option ℕ) → length d ≡ width → length (counted goal width max d ud number) ≡ width
length-counted goal width max d ud None fits = length-replicate width Error
length-counted goal width max d Zero (Some n) fits =
    either (eqb n 0) (below_zero goal width max d) (word_of_number width (n - 1)) width (length-below_zero goal width max d fits) (length-word_of_number width (n - 1))
length-counted goal width max d _ (Some n) fits =
    either (eqb n max) (past_greatest goal width max d) (word_of_number width (n + 1)) width (length-past_greatest goal width max d fits) (length-word_of_number width (n + 1))

AreHeld-triggered : (form : StateForm) (words inputs : List Word) → AreHeld form words → map length inputs ≡ input_widths form → AreHeld form (triggered_words form words inputs)
AreHeld-triggered (Flip kind trigger) words inputs held fits = one_held _ 1 refl
AreHeld-triggered (Register width trigger) words inputs held fits =
    one_held _ width
    (registered-any (λ w. length w ≡ width) (word_at words 0) (word_at inputs 0) (bit_at inputs 1)
    (held_width words 1 width 0 held (omega arith)) (length-word_at inputs (width ∷ 1 ∷ 1 ∷ 1 ∷ []) 0 fits))
AreHeld-triggered (Counter width max goal trigger) words inputs held fits =
    let d : length (word_at inputs 0) ≡ width = length-word_at inputs (width ∷ 1 ∷ 1 ∷ 1 ∷ 1 ∷ 1 ∷ []) 0 fits in
    one_held _ width
    (loads_or_counts-any (λ w. length w ≡ width) (bit_at inputs 1) (bit_at inputs 3) (word_at inputs 0) (word_at words 0) _
    d (held_width words 1 width 0 held (omega arith)) (length-counted goal width max (word_at inputs 0) (bit_at inputs 2) (defined_number (word_at words 0)) d))
AreHeld-triggered (Shift width stages parallel trigger) words inputs held fits =
    AreWords-shift_words width stages parallel trigger words inputs fits held
AreHeld-triggered (Rom address width contents) words inputs held fits = held
AreHeld-triggered (Ram address width trigger) words inputs held fits =
    AreWords-stored_at (defined_number (word_at inputs 0)) (bit_at inputs 2) (word_at inputs 1) words (2 ^ address) width
    (length-word_at inputs (address ∷ width ∷ 1 ∷ 1 ∷ []) 1 fits) held

copies_held : (count width : ℕ) → AreWords count width (replicate count (replicate width Zero))
copies_held count width = (
  length-replicate count (replicate width Zero),
  All-replicate (λ w. length w ≡ width) count (replicate width Zero) (length-replicate width Zero),
)

AreHeld-start : (form : StateForm) → AreHeld form (start_words form)
AreHeld-start (Flip kind trigger) = one_held (replicate 1 Zero) 1 refl
AreHeld-start (Register width trigger) = one_held (replicate width Zero) width (length-replicate width Zero)
AreHeld-start (Counter width max goal trigger) = one_held (replicate width Zero) width (length-replicate width Zero)
AreHeld-start (Shift width stages parallel trigger) = copies_held stages width
AreHeld-start (Rom address width contents) = (refl, All-nil (λ w. length w ≡ width))
AreHeld-start (Ram address width trigger) = copies_held (2 ^ address) width

AreHeld-preset : (form : StateForm) (new : List Word) → is_one (preset_of form) new ≡ true → AreHeld form ((One ∷ []) ∷ [])
AreHeld-preset (Flip kind trigger) new h = one_held (One ∷ []) 1 refl
AreHeld-preset _ new h = absurd (cc h)

-- a step keeps the number of words and their widths
pub AreHeld-stepped : (form : StateForm) (words old new : List Word) → AreHeld form words → FitsInputs form new → AreHeld form (stepped form words old new)
AreHeld-stepped form words old new held fits =
    words_after-any (AreHeld form) (is_one (clear_of form) new) (is_one (preset_of form) new) (is_triggered (clock_of form) old new) form words new
    (AreHeld-start form) (AreHeld-preset form new) (AreHeld-triggered form words new held fits.widths) held

widths-AreWords : (words : List Word) (count width : ℕ) → AreWords count width words → map length words ≡ replicate count width
widths-AreWords [] count width held = rw (← held.0) refl
widths-AreWords (w ∷ words) zero width held = absurd (omega (arith, held.0))
widths-AreWords (w ∷ words) (suc count) width held =
    let first : length w ≡ width = All-head (λ x. length x ≡ width) w words held.1 in
    let rest : map length words ≡ replicate count width = widths-AreWords words count width (omega (arith, held.0), All-tail (λ x. length x ≡ width) w words held.1) in
    rw (first, rest) refl

length-ram_read : (words : List Word) (address : Word) (count width : ℕ) → AreWords count width words → count ≡ 2 ^ length address → length (ram_read width words (defined_number address)) ≡ width
length-ram_read words address count width held whole =
    elim (list_all is_defined_bit address) as (λ b. length (ram_read width words (cond b (Some (number_of address)) None)) ≡ width) [
      | true ↦ held_width words count width (number_of address) held (omega (arith, whole, number_of-lt address))
      | false ↦ length-replicate width Error
    ]

length-rom_read : (width : ℕ) (contents : List ℕ) (address : Option ℕ) → length (rom_read width contents address) ≡ width
length-rom_read width contents None = length-replicate width Error
length-rom_read width contents (Some a) = length-word_of_number width (get_or contents a 0)

-- outputs have the widths of their ports
pub widths-outputs : (form : StateForm) (words inputs : List Word) → IsForm form → AreHeld form words → FitsInputs form inputs → map length (outputs form words inputs) ≡ output_widths form
widths-outputs (Flip kind trigger) words inputs good held fits =
    let q : length (word_at words 0) ≡ 1 = held_width words 1 1 0 held (omega arith) in
    rw (length-map (word_at words 0) not_bit, q) refl
widths-outputs (Register width trigger) words inputs good held fits =
    rw (held_width words 1 width 0 held (omega arith)) refl
widths-outputs (Counter width max goal trigger) words inputs good held fits =
    rw (held_width words 1 width 0 held (omega arith)) refl
widths-outputs (Shift width stages true trigger) words inputs good held fits = widths-AreWords words stages width held
widths-outputs (Shift width stages false trigger) words inputs good held fits =
    rw (held_width words stages width (stages - 1) held (omega (arith, good.1.0))) refl
widths-outputs (Rom address width contents) words inputs good held fits =
    rw (length-rom_read width contents (defined_number (word_at inputs 0))) refl
widths-outputs (Ram address width trigger) words inputs good held fits =
    let a : length (word_at inputs 0) ≡ address = length-word_at inputs (address ∷ width ∷ 1 ∷ 1 ∷ []) 0 fits.widths in
    rw (length-ram_read words (word_at inputs 0) (2 ^ address) width held (rw a refl)) refl

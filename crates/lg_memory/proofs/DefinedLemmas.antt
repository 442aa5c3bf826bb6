-- Defined inputs and words give defined words and outputs.
use Rattle.std.proofs.Common.{◌≡◌, ℕ, zero, suc, ◌+◌, ◌-◌, ◌^◌, ◌<◌, Bool, true, false, cond, eqb, ◌⊎◌, inl, inr, List, [], ◌∷◌, length, get_or, map, drop, replicate, refl, arith, Option, None, Some}
use Rattle.std.specs.List.{All}
use Rattle.std.proofs.lemmas.List.Elements.{All-nil, All-cons, All-head, All-tail, All-replicate, All-map, All-take, All-drop, All-set}
use Rattle.lg_value.specs.declared.bit.Bit.{Bit}
use Rattle.lg_value.specs.declared.bit.Bit.TheVariants.{Zero, One, Unknown}
use Rattle.lg_value.specs.Bit.{is_defined_bit, not_bit}
use Rattle.lg_value.specs.Word.{IsDefined, number_of, word_of_number}
use Rattle.lg_value.proofs.WordLemmas.{IsDefined-word_of_number}
use Rattle.lg_memory.specs.declared.form.Goal.{Goal}
use Rattle.lg_memory.specs.declared.form.Goal.TheVariants.{Wrap, Stay, Continue, Load}
use Rattle.lg_memory.specs.declared.form.FlipKind.{FlipKind}
use Rattle.lg_memory.specs.declared.form.FlipKind.TheVariants.{D, T, Jk, Sr}
use Rattle.lg_memory.specs.declared.form.Trigger.{Trigger}
use Rattle.lg_memory.specs.declared.form.StateForm.{StateForm}
use Rattle.lg_memory.specs.declared.form.StateForm.TheVariants.{Flip, Register, Counter, Shift, Rom, Ram}
use Rattle.lg_memory.specs.Inputs.{Word, word_at, bit_at, defined_number}
use Rattle.lg_memory.specs.Shape.{input_widths, FitsInputs, AreHeld}
use Rattle.lg_memory.specs.Controls.{clock_of, clear_of, preset_of, is_one, is_triggered}
use Rattle.lg_memory.specs.FlipFlop.{toggled, jk_stored, sr_stored, flip_stored}
use Rattle.lg_memory.specs.Counter.{past_greatest, below_zero, counted, carry}
use Rattle.lg_memory.specs.ShiftRegister.{load_bit, shifted}
use Rattle.lg_memory.specs.Storage.{stored_at, ram_read, rom_read}
use Rattle.lg_memory.specs.Step.{start_words, triggered_words, stepped, outputs}
use Rattle.lg_memory.proofs.NumberLemmas.{defined_is, is_defined, test-IsDefined}
use Rattle.lg_memory.proofs.CaseLemmas.{loads_or_counts-any, registered-any, words_after-any}
use Rattle.lg_memory.proofs.ShapeLemmas.{length-word_at, loads_or_shifts-any}

-- a bit is 0 or 1
abbrev pub IsBit : Bit → Type 0
IsBit bit = (bit ≡ Zero) ⊎ (bit ≡ One)

-- one defined word
pub one_defined : (word : Word) → IsDefined word → All IsDefined (word ∷ [])
one_defined word h = All-cons IsDefined word [] h (All-nil IsDefined)

-- a word of one defined bit
pub one_bit : (b : Bit) → IsBit b → IsDefined (b ∷ [])
one_bit b h = All-cons IsBit b [] h (All-nil IsBit)

-- a word of defined words
pub IsDefined-word_at : (words : List Word) (place : ℕ) → All IsDefined words → IsDefined (word_at words place)
IsDefined-word_at [] place h = All-nil IsBit
IsDefined-word_at (w ∷ words) zero h = All-head IsDefined w words h
IsDefined-word_at (w ∷ words) (suc place) h = IsDefined-word_at words place (All-tail IsDefined w words h)

-- the lowest bit of one
pub IsBit-bit_at : (words : List Word) (place : ℕ) → 0 < length (word_at words place) → All IsDefined words → IsBit (bit_at words place)
IsBit-bit_at words place some h = IsDefined-word_at words place h 0 Unknown some

toggled-defined : (q t : Bit) → is_defined_bit q ≡ true → is_defined_bit t ≡ true → is_defined_bit (toggled q t) ≡ true
toggled-defined Zero Zero h k = refl
toggled-defined Zero One h k = refl
toggled-defined One Zero h k = refl
toggled-defined One One h k = refl
toggled-defined _ _ h k = cc

jk_stored-defined : (q j k : Bit) → is_defined_bit q ≡ true → is_defined_bit j ≡ true → is_defined_bit k ≡ true → is_defined_bit (jk_stored q j k) ≡ true
jk_stored-defined q Zero Zero a b c = a
jk_stored-defined q Zero One a b c = refl
jk_stored-defined q One Zero a b c = refl
jk_stored-defined Zero One One a b c = refl
jk_stored-defined One One One a b c = refl
jk_stored-defined _ _ _ a b c = cc

sr_stored-defined : (q s r : Bit) → is_defined_bit q ≡ true → is_defined_bit s ≡ true → is_defined_bit r ≡ true → is_defined_bit (sr_stored q s r) ≡ true
sr_stored-defined q Zero Zero a b c = a
sr_stored-defined q Zero One a b c = refl
sr_stored-defined q One Zero a b c = refl
sr_stored-defined q One One a b c = a
sr_stored-defined _ _ _ a b c = cc

not_bit-defined : (b : Bit) → IsBit b → IsBit (not_bit b)
not_bit-defined Zero h = inr refl
not_bit-defined One h = inl refl
not_bit-defined _ h = elim h [ inl e ↦ cc | inr e ↦ cc ]

IsDefined-past_greatest : (goal : Goal) (width max : ℕ) (d : Word) → IsDefined d → IsDefined (past_greatest goal width max d)
IsDefined-past_greatest Wrap width max d h = IsDefined-word_of_number width 0
IsDefined-past_greatest Stay width max d h = IsDefined-word_of_number width max
IsDefined-past_greatest Continue width max d h = IsDefined-word_of_number width (max + 1)
IsDefined-past_greatest Load width max d h = h

IsDefined-below_zero : (goal : Goal) (width max : ℕ) (d : Word) → IsDefined d → IsDefined (below_zero goal width max d)
IsDefined-below_zero Wrap width max d h = IsDefined-word_of_number width max
IsDefined-below_zero Stay width max d h = IsDefined-word_of_number width 0
IsDefined-below_zero Continue width max d h = IsDefined-word_of_number width (2 ^ width - 1)
IsDefined-below_zero Load width max d h = h

either : (b : Bool) (x y : Word) → IsDefined x → IsDefined y → IsDefined (cond b x y)
either true x y h k = h
either false x y h k = k

IsDefined-counted : (goal : Goal) (width max : ℕ) (d : Word) (ud : Bit) (n : ℕ) → IsDefined d → IsDefined (counted goal width max d ud (Some n))
IsDefined-counted goal width max d Zero n h =
    either (eqb n 0) (below_zero goal width max d) (word_of_number width (n - 1)) (IsDefined-below_zero goal width max d h) (IsDefined-word_of_number width (n - 1))
IsDefined-counted goal width max d _ n h =
    either (eqb n max) (past_greatest goal width max d) (word_of_number width (n + 1)) (IsDefined-past_greatest goal width max d h) (IsDefined-word_of_number width (n + 1))

-- a defined word has a number
has_number : (word : Word) → IsDefined word → defined_number word ≡ Some (number_of word)
has_number word h = rw (test-IsDefined word h) refl

flip-triggered : (kind : FlipKind) (trigger : Trigger) (words inputs : List Word) → AreHeld (Flip kind trigger) words → map length inputs ≡ input_widths (Flip kind trigger) → All IsDefined words → All IsDefined inputs → IsBit (flip_stored kind (bit_at words 0) inputs)
flip-triggered D trigger words inputs held fits hw hi =
    IsBit-bit_at inputs 0 (omega (arith, length-word_at inputs (1 ∷ 1 ∷ 1 ∷ 1 ∷ []) 0 fits)) hi
flip-triggered T trigger words inputs held fits hw hi =
    let q = IsBit-bit_at words 0 (omega (arith, held.1 0 [] (omega (arith, held.0)))) hw in
    let t = IsBit-bit_at inputs 0 (omega (arith, length-word_at inputs (1 ∷ 1 ∷ 1 ∷ 1 ∷ []) 0 fits)) hi in
    defined_is _ (toggled-defined (bit_at words 0) (bit_at inputs 0) (is_defined (bit_at words 0) q) (is_defined (bit_at inputs 0) t))
flip-triggered Jk trigger words inputs held fits hw hi =
    let q = IsBit-bit_at words 0 (omega (arith, held.1 0 [] (omega (arith, held.0)))) hw in
    let j = IsBit-bit_at inputs 0 (omega (arith, length-word_at inputs (1 ∷ 1 ∷ 1 ∷ 1 ∷ 1 ∷ []) 0 fits)) hi in
    let k = IsBit-bit_at inputs 1 (omega (arith, length-word_at inputs (1 ∷ 1 ∷ 1 ∷ 1 ∷ 1 ∷ []) 1 fits)) hi in
    defined_is _ (jk_stored-defined (bit_at words 0) (bit_at inputs 0) (bit_at inputs 1) (is_defined (bit_at words 0) q) (is_defined (bit_at inputs 0) j) (is_defined (bit_at inputs 1) k))
flip-triggered Sr trigger words inputs held fits hw hi =
    let q = IsBit-bit_at words 0 (omega (arith, held.1 0 [] (omega (arith, held.0)))) hw in
    let s = IsBit-bit_at inputs 0 (omega (arith, length-word_at inputs (1 ∷ 1 ∷ 1 ∷ 1 ∷ 1 ∷ []) 0 fits)) hi in
    let r = IsBit-bit_at inputs 1 (omega (arith, length-word_at inputs (1 ∷ 1 ∷ 1 ∷ 1 ∷ 1 ∷ []) 1 fits)) hi in
    defined_is _ (sr_stored-defined (bit_at words 0) (bit_at inputs 0) (bit_at inputs 1) (is_defined (bit_at words 0) q) (is_defined (bit_at inputs 0) s) (is_defined (bit_at inputs 1) r))

stored_at-defined : (address : Option ℕ) (we : Bit) (d : Word) (words : List Word) → IsDefined d → All IsDefined words → All IsDefined (stored_at address we d words)
stored_at-defined None we d words h k = k
stored_at-defined (Some address) One d words h k = All-set IsDefined words address d h k
stored_at-defined (Some address) _ d words h k = k

triggered-defined : (form : StateForm) (words inputs : List Word) → AreHeld form words → map length inputs ≡ input_widths form → All IsDefined words → All IsDefined inputs → All IsDefined (triggered_words form words inputs)
triggered-defined (Flip kind trigger) words inputs held fits hw hi =
    one_defined _ (one_bit _ (flip-triggered kind trigger words inputs held fits hw hi))
triggered-defined (Register width trigger) words inputs held fits hw hi =
    one_defined _ (registered-any IsDefined (word_at words 0) (word_at inputs 0) (bit_at inputs 1) (IsDefined-word_at words 0 hw) (IsDefined-word_at inputs 0 hi))
triggered-defined (Counter width max goal trigger) words inputs held fits hw hi =
    let q = IsDefined-word_at words 0 hw in
    let d = IsDefined-word_at inputs 0 hi in
    let next : IsDefined (counted goal width max (word_at inputs 0) (bit_at inputs 2) (defined_number (word_at words 0))) =
    rw (has_number (word_at words 0) q) (IsDefined-counted goal width max (word_at inputs 0) (bit_at inputs 2) (number_of (word_at words 0)) d) in
    one_defined _ (loads_or_counts-any IsDefined (bit_at inputs 1) (bit_at inputs 3) (word_at inputs 0) (word_at words 0) _ d q next)
triggered-defined (Shift width stages parallel trigger) words inputs held fits hw hi =
    loads_or_shifts-any (All IsDefined) (load_bit parallel inputs) (bit_at inputs 1) (drop 5 inputs) words (shifted (word_at inputs 0) words)
    (λ _. All-drop IsDefined 5 inputs hi) hw
    (All-take IsDefined (length words) (word_at inputs 0 ∷ words) (All-cons IsDefined (word_at inputs 0) words (IsDefined-word_at inputs 0 hi) hw))
triggered-defined (Rom address width contents) words inputs held fits hw hi = hw
triggered-defined (Ram address width trigger) words inputs held fits hw hi =
    stored_at-defined (defined_number (word_at inputs 0)) (bit_at inputs 2) (word_at inputs 1) words (IsDefined-word_at inputs 1 hi) hw

zero_word : (width : ℕ) → IsDefined (replicate width Zero)
zero_word width = All-replicate IsBit width Zero (inl refl)

start_words-defined : (form : StateForm) → All IsDefined (start_words form)
start_words-defined (Flip kind trigger) = one_defined (replicate 1 Zero) (zero_word 1)
start_words-defined (Register width trigger) = one_defined (replicate width Zero) (zero_word width)
start_words-defined (Counter width max goal trigger) = one_defined (replicate width Zero) (zero_word width)
start_words-defined (Shift width stages parallel trigger) = All-replicate IsDefined stages (replicate width Zero) (zero_word width)
start_words-defined (Rom address width contents) = All-nil IsDefined
start_words-defined (Ram address width trigger) = All-replicate IsDefined (2 ^ address) (replicate width Zero) (zero_word width)

-- defined inputs and defined words give defined words after a step
pub stepped-defined : (form : StateForm) (words old new : List Word) → AreHeld form words → FitsInputs form new → All IsDefined words → All IsDefined new → All IsDefined (stepped form words old new)
stepped-defined form words old new held fits hw hi =
    words_after-any (All IsDefined) (is_one (clear_of form) new) (is_one (preset_of form) new) (is_triggered (clock_of form) old new) form words new
    (start_words-defined form) (λ _. one_defined (One ∷ []) (one_bit One (inr refl))) (triggered-defined form words new held fits.widths hw hi) hw

bit_of_test : (b : Bool) → IsBit (cond b One Zero)
bit_of_test true = inr refl
bit_of_test false = inl refl

carry-defined : (max : ℕ) (ud : Bit) (number : Option ℕ) → IsBit (carry max ud number)
carry-defined max ud None = inl refl
carry-defined max Zero (Some n) = bit_of_test (eqb n 0)
carry-defined max _ (Some n) = bit_of_test (eqb n max)

rom_read-defined : (width : ℕ) (contents : List ℕ) (address : Option ℕ) (n : ℕ) → address ≡ Some n → IsDefined (rom_read width contents address)
rom_read-defined width contents None n h = absurd (cc h)
rom_read-defined width contents (Some a) n h = IsDefined-word_of_number width (get_or contents a 0)

ram_read-defined : (width : ℕ) (words : List Word) (address : Option ℕ) (n : ℕ) → address ≡ Some n → All IsDefined words → IsDefined (ram_read width words address)
ram_read-defined width words None n h hw = absurd (cc h)
ram_read-defined width words (Some a) n h hw = IsDefined-word_at words a hw

-- and defined outputs
pub outputs-defined : (form : StateForm) (words inputs : List Word) → All IsDefined words → All IsDefined inputs → All IsDefined (outputs form words inputs)
outputs-defined (Flip kind trigger) words inputs hw hi =
    let q = IsDefined-word_at words 0 hw in
    All-cons IsDefined (word_at words 0) (map not_bit (word_at words 0) ∷ []) q
    (one_defined _ (All-map IsBit not_bit (word_at words 0) (λ k d inside. not_bit-defined (get_or (word_at words 0) k d) (q k d inside))))
outputs-defined (Register width trigger) words inputs hw hi = one_defined _ (IsDefined-word_at words 0 hw)
outputs-defined (Counter width max goal trigger) words inputs hw hi =
    let bit = carry max (bit_at inputs 2) (defined_number (word_at words 0)) in
    All-cons IsDefined (word_at words 0) ((bit ∷ []) ∷ []) (IsDefined-word_at words 0 hw)
    (one_defined (bit ∷ []) (one_bit bit (carry-defined max (bit_at inputs 2) (defined_number (word_at words 0)))))
outputs-defined (Shift width stages true trigger) words inputs hw hi = hw
outputs-defined (Shift width stages false trigger) words inputs hw hi = one_defined _ (IsDefined-word_at words (stages - 1) hw)
outputs-defined (Rom address width contents) words inputs hw hi =
    let a = has_number (word_at inputs 0) (IsDefined-word_at inputs 0 hi) in
    one_defined _ (rom_read-defined width contents (defined_number (word_at inputs 0)) (number_of (word_at inputs 0)) a)
outputs-defined (Ram address width trigger) words inputs hw hi =
    let a = has_number (word_at inputs 0) (IsDefined-word_at inputs 0 hi) in
    one_defined _ (ram_read-defined width words (defined_number (word_at inputs 0)) (number_of (word_at inputs 0)) a hw)

-- Defined inputs give defined outputs of a plexer, where nothing floats.
use Rattle.std.proofs.Common.{◌≡◌, ◌≢◌, ℕ, zero, suc, ◌+◌, ◌^◌, ◌<◌, ◌≤◌, Bool, true, false, not, ◌⊎◌, inl, inr, List, [], ◌∷◌, ◌++◌, length, get_or, map, take, replicate, refl, sym, ap, ◌∙◌, arith}
use Rattle.std.specs.Prelude.{◌||◌, ◌&&◌}
use Rattle.std.specs.List.{All, range_with_len}
use Rattle.std.proofs.lemmas.List.Elements.{All-nil, All-cons, All-head, All-tail, All-take}
use Rattle.lg_value.specs.declared.bit.Bit.{Bit}
use Rattle.lg_value.specs.declared.bit.Bit.TheVariants as bit
use Rattle.lg_value.specs.Bit.{is_defined_bit}
use Rattle.lg_value.specs.Word.{IsDefined}
use Rattle.lg_gates.specs.Plexer.{pick_word, spread_word, enabled_word}
use Rattle.lg_gates.specs.Priority.{priority_of}
use Rattle.lg_gates.specs.Selector.{group_word}
use Rattle.lg_gates.proofs.DefinedOutputs.{pick_word-IsDefined, spread_word-IsDefined, enabled_word-defined, priority_of-defined, group_bit-defined, enable_output-defined, group_word-IsDefined}
use Rattle.lg_memory.specs.Inputs.{Word, word_at, bit_at}
use Rattle.lg_memory.proofs.DefinedLemmas.{IsBit, one_defined, one_bit, IsDefined-word_at, IsBit-bit_at}
use Rattle.lg_memory.proofs.ShapeLemmas.{length-word_at}
use Rattle.lg_shapes.specs.declared.plexers.Disabled.{Disabled}
use Rattle.lg_shapes.specs.declared.plexers.Disabled.TheVariants.{Float, Zero}
use Rattle.lg_shapes.specs.declared.plexers.Plexer.{Plexer}
use Rattle.lg_shapes.specs.declared.plexers.Plexer.TheVariants.{Multiplexer, Demultiplexer, Decoder, PriorityEncoder, BitSelector}
use Rattle.lg_shapes.specs.Plexers.{IsPlexer, enable_width, plexer_inputs, plexer_words, under_enable, off_bit, off_line, demultiplexed, decoded, first_bits}
use Rattle.lg_shapes.specs.Reads.{is_driven, is_plexer_exportable}
use Rattle.lg_shapes.proofs.InputLemmas.{length-take_of, length-behind, length-select, widths-take}

-- the test of a bit that is 0 or 1
pub test_of : (b : Bit) → IsBit b → is_defined_bit b ≡ true
test_of bit.Zero h = refl
test_of bit.One h = refl
test_of bit.Unknown h = elim h [ inl e ↦ absurd (cc e) | inr e ↦ absurd (cc e) ]
test_of bit.Error h = elim h [ inl e ↦ absurd (cc e) | inr e ↦ absurd (cc e) ]

bit_of_test : (b : Bit) → is_defined_bit b ≡ true → IsBit b
bit_of_test bit.Zero h = inl refl
bit_of_test bit.One h = inr refl
bit_of_test bit.Unknown h = absurd (cc h)
bit_of_test bit.Error h = absurd (cc h)

-- the lowest bit of a defined word
pub is_defined-bit_at : (words : List Word) (k : ℕ) → 1 ≤ length (word_at words k) → All IsDefined words → is_defined_bit (bit_at words k) ≡ true
is_defined-bit_at words k some h = test_of (bit_at words k) (IsBit-bit_at words k some h)

-- a word of one bit that passes
pub one_bit_defined : (b : Bit) → is_defined_bit b ≡ true → IsDefined (b ∷ [])
one_bit_defined b h = one_bit b (bit_of_test b h)

off_bit-defined : (disabled : Disabled) → is_driven disabled ≡ true → is_defined_bit (off_bit disabled) ≡ true
off_bit-defined Float h = absurd (cc h)
off_bit-defined Zero h = refl

off_line-defined : (tristate : Bool) → not tristate ≡ true → is_defined_bit (off_line tristate) ≡ true
off_line-defined false h = refl
off_line-defined true h = absurd (cc h)

under_enable-defined : (enable : Bool) (disabled : Disabled) (inputs : List Word) (index : ℕ) (word : Word) → not enable || is_driven disabled ≡ true → (enable ≡ true → 1 ≤ length (word_at inputs index)) → All IsDefined inputs → IsDefined word → IsDefined (under_enable enable disabled inputs index word)
under_enable-defined false disabled inputs index word driven some h k = k
under_enable-defined true disabled inputs index word driven some h k =
    enabled_word-defined (bit_at inputs index) word (off_bit disabled) (is_defined-bit_at inputs index (some refl) h) k (off_bit-defined disabled driven)

both : (a b : Bool) → a && b ≡ true → (a ≡ true) × (b ≡ true)
both true true h = (refl, refl)
both true false h = absurd (cc h)
both false b h = absurd (cc h)

lines-defined : (line : ℕ → Word) (start count : ℕ) → ((k : ℕ) → IsDefined (line k)) → All IsDefined (map line (range_with_len start count))
lines-defined line start zero each = All-nil IsDefined
lines-defined line start (suc count) each = All-cons IsDefined (line start) (map line (range_with_len (start + 1) count)) (each start) (lines-defined line (start + 1) count each)

first_bits-defined : (words : List Word) (count : ℕ) → map length words ≡ replicate count 1 → All IsDefined words → IsDefined (first_bits words)
first_bits-defined [] count h k = All-nil IsBit
first_bits-defined (w ∷ words) zero h k = absurd (cc h)
first_bits-defined (w ∷ words) (suc count) h k =
    let one : length w ≡ 1 = cc h in
    All-cons IsBit (get_or w 0 bit.Unknown) (first_bits words) (All-head IsDefined w words k 0 bit.Unknown (omega arith)) (first_bits-defined words count (cc h) (All-tail IsDefined w words k))

pub plexer-defined : (plexer : Plexer) (inputs : List Word) → IsPlexer plexer → is_plexer_exportable plexer ≡ true → map length inputs ≡ plexer_inputs plexer → All IsDefined inputs → All IsDefined (plexer_words plexer inputs)
plexer-defined (Multiplexer width select enable disabled corner) inputs good driven fits h =
    let lines = 2 ^ select in
    let others = enable_width enable in
    let wide : length (word_at inputs lines) ≡ select = length-select inputs lines width select others fits in
    let count : length (take lines inputs) ≡ 2 ^ length (word_at inputs lines) = length-take_of inputs lines width (select ∷ others) fits ∙ ap (λ (s : ℕ). 2 ^ s) (sym wide) in
    let some : enable ≡ true → 1 ≤ length (word_at inputs (lines + 1)) = λ on. omega (arith, length-behind inputs lines width 1 (select ∷ 1 ∷ []) (rw on at fits)) in
    let picked = pick_word-IsDefined (word_at inputs lines) (take lines inputs) count (IsDefined-word_at inputs lines h) (All-take IsDefined lines inputs h) in
    one_defined (under_enable enable disabled inputs (lines + 1) (pick_word (word_at inputs lines) (take lines inputs)))
    (under_enable-defined enable disabled inputs (lines + 1) (pick_word (word_at inputs lines) (take lines inputs)) driven some h picked)
plexer-defined (Demultiplexer width select enable disabled corner tristate) inputs good driven fits h =
    let two = both (not enable || is_driven disabled) (not tristate) driven in
    let some : enable ≡ true → 1 ≤ length (word_at inputs 2) = λ on. omega (arith, length-word_at inputs (width ∷ select ∷ 1 ∷ []) 2 (rw on at fits)) in
    lines-defined (demultiplexed enable disabled tristate inputs) 0 (2 ^ select)
    (λ k. under_enable-defined enable disabled inputs 2 (spread_word (word_at inputs 1) (word_at inputs 0) k (off_line tristate)) two.0 some h
    (spread_word-IsDefined (word_at inputs 1) (word_at inputs 0) k (off_line tristate) (IsDefined-word_at inputs 1 h) (IsDefined-word_at inputs 0 h) (off_line-defined tristate two.1)))
plexer-defined (Decoder select enable disabled tristate) inputs good driven fits h =
    let two = both (not enable || is_driven disabled) (not tristate) driven in
    let some : enable ≡ true → 1 ≤ length (word_at inputs 1) = λ on. omega (arith, length-word_at inputs (select ∷ 1 ∷ []) 1 (rw on at fits)) in
    lines-defined (decoded enable disabled tristate inputs) 0 (2 ^ select)
    (λ k. under_enable-defined enable disabled inputs 1 (spread_word (word_at inputs 0) (bit.One ∷ []) k (off_line tristate)) two.0 some h
    (spread_word-IsDefined (word_at inputs 0) (bit.One ∷ []) k (off_line tristate) (IsDefined-word_at inputs 0 h) (one_bit_defined bit.One refl) (off_line-defined tristate two.1)))
plexer-defined (PriorityEncoder select disabled) inputs good driven fits h =
    let lines = 2 ^ select in
    let bits = first_bits (take lines inputs) in
    let enable = bit_at inputs lines in
    let off = off_bit disabled in
    let wide : length (word_at inputs lines) ≡ 1 = length-select inputs lines 1 1 [] fits in
    let defined = first_bits-defined (take lines inputs) lines (widths-take inputs lines 1 (1 ∷ []) fits) (All-take IsDefined lines inputs h) in
    let on = is_defined-bit_at inputs lines (omega arith) h in
    let answer = priority_of bits enable select off in
    All-cons IsDefined answer.0 ((answer.1 ∷ []) ∷ (answer.2 ∷ []) ∷ []) (priority_of-defined bits enable select off defined on (off_bit-defined disabled driven))
    (All-cons IsDefined (answer.1 ∷ []) ((answer.2 ∷ []) ∷ []) (one_bit_defined answer.1 (group_bit-defined bits enable select off defined on))
    (one_defined (answer.2 ∷ []) (one_bit_defined answer.2 (enable_output-defined bits enable select off defined on))))
plexer-defined (BitSelector width group) inputs good driven fits h =
    one_defined (group_word (word_at inputs 0) (word_at inputs 1) group) (group_word-IsDefined (word_at inputs 0) (word_at inputs 1) group (IsDefined-word_at inputs 1 h) (IsDefined-word_at inputs 0 h))

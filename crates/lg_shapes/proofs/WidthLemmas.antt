-- The widths of what shapes answer.
use Rattle.std.proofs.Common.{◌≡◌, ℕ, zero, suc, ◌+◌, ◌*◌, ◌^◌, ◌≤◌, Bool, true, false, List, [], ◌∷◌, ◌++◌, length, map, take, replicate, refl, sym, ap, ◌∙◌, arith}
use Rattle.std.specs.Prelude.{nat_le}
use Rattle.std.specs.List.{range_with_len}
use Rattle.std.proofs.lemmas.List.{length-replicate, length-map}
use Rattle.std.proofs.lemmas.Nat.{pow_pos}
use Rattle.lg_gates.specs.Plexer.{pick_word, spread_word, enabled_word}
use Rattle.lg_gates.proofs.Widths.{length-gate_word, length-not_word, length-buffer_word, length-shape_word, length-controlled_word, length-pick_word, length-spread_word, length-enabled_word, length-address, length-group_word}
use Rattle.lg_value.specs.declared.bit.Bit.{Bit}
use Rattle.lg_value.specs.declared.bit.Bit.TheVariants as bit
use Rattle.lg_arith.specs.Count.{least_width, select_width}
use Rattle.lg_arith.proofs.CountLemmas.{length-count_of}
use Rattle.lg_arith.proofs.ExtendLemmas.{length-extended}
use Rattle.lg_arith.proofs.ProductLemmas.{length-low_product_of, length-high_product_of}
use Rattle.lg_arith.proofs.QuotientLemmas.{length-quotient_of, length-remainder_of}
use Rattle.lg_arith.proofs.ShiftLemmas.{length-shift_of}
use Rattle.lg_arith.proofs.SumLemmas.{length-sum_of, length-difference_of, length-negation_of}
use Rattle.lg_memory.specs.Inputs.{Word, word_at, bit_at}
use Rattle.lg_memory.specs.Shape.{FitsInputs}
use Rattle.lg_memory.proofs.ShapeLemmas.{length-word_at}
use Rattle.lg_memory.proofs.WidthLemmas.{widths-outputs}
use Rattle.lg_shapes.specs.declared.shape.Shape.{Shape}
use Rattle.lg_shapes.specs.declared.shape.Shape.TheVariants.{Wiring, Gate, Plexer, Arithmetic, Memory}
use Rattle.lg_shapes.specs.declared.wiring.Wiring.{Wiring as WiringOf}
use Rattle.lg_shapes.specs.declared.wiring.Wiring.TheVariants.{Constant, Power, Ground, BitExtender}
use Rattle.lg_shapes.specs.declared.gates.Gate.{Gate as GateOf}
use Rattle.lg_shapes.specs.declared.gates.Gate.TheVariants.{Not, Buffer, Logic, ControlledBuffer, ControlledInverter}
use Rattle.lg_shapes.specs.declared.plexers.Disabled.{Disabled}
use Rattle.lg_shapes.specs.declared.plexers.Plexer.{Plexer as PlexerOf}
use Rattle.lg_shapes.specs.declared.plexers.Plexer.TheVariants.{Multiplexer, Demultiplexer, Decoder, PriorityEncoder, BitSelector}
use Rattle.lg_shapes.specs.declared.arithmetic.Arithmetic.{Arithmetic as ArithmeticOf}
use Rattle.lg_shapes.specs.declared.arithmetic.Arithmetic.TheVariants.{Adder, Subtractor, Multiplier, Divider, Negator, Comparator, Shifter, BitAdder}
use Rattle.lg_shapes.specs.Wiring.{wiring_inputs, wiring_outputs, wiring_words, extension_of}
use Rattle.lg_shapes.specs.Gates.{gate_inputs, gate_outputs, gate_words, logic_word, read_inputs}
use Rattle.lg_shapes.specs.Plexers.{IsPlexer, enable_width, plexer_inputs, plexer_outputs, plexer_words, under_enable, off_bit, off_line, multiplexed, demultiplexed, decoded, first_bits}
use Rattle.lg_shapes.specs.Arithmetic.{arithmetic_inputs, arithmetic_outputs, arithmetic_words}
use Rattle.lg_shapes.specs.Shapes.{IsShape, AreHeld, input_widths, output_widths, output_words}
use Rattle.lg_shapes.proofs.InputLemmas.{sum_by-length, length-take_of, one_width-take, first_width-take, length-select}

wiring-widths : (part : WiringOf) (inputs : List Word) → map length (wiring_words part inputs) ≡ wiring_outputs part
wiring-widths (Constant value) inputs = refl
wiring-widths (Power width) inputs = rw (length-replicate width bit.One) refl
wiring-widths (Ground width) inputs = rw (length-replicate width bit.Zero) refl
wiring-widths (BitExtender from to extension) inputs = rw (length-extended (word_at inputs 0) to (extension_of extension inputs)) refl

gate-widths : (gate : GateOf) (strict : Bool) (attached : List Bool) (inputs : List Word) → map length inputs ≡ gate_inputs gate → map length (gate_words gate strict attached inputs) ≡ gate_outputs gate
gate-widths (Not width size out) strict attached inputs h =
    let wide : length (word_at inputs 0) ≡ width = length-word_at inputs (width ∷ []) 0 h in
    rw (length-shape_word, length-not_word, wide) refl
gate-widths (Buffer width out) strict attached inputs h =
    let wide : length (word_at inputs 0) ≡ width = length-word_at inputs (width ∷ []) 0 h in
    rw (length-shape_word, length-buffer_word, wide) refl
gate-widths (Logic kind width size negated out) strict attached inputs h =
    rw (length-shape_word, length-gate_word kind width (read_inputs negated attached inputs) strict) refl
gate-widths (ControlledBuffer width control) strict attached inputs h =
    let wide : length (word_at inputs 0) ≡ width = length-word_at inputs (width ∷ 1 ∷ []) 0 h in
    rw (length-controlled_word false (word_at inputs 0) (bit_at inputs 1), wide) refl
gate-widths (ControlledInverter width control) strict attached inputs h =
    let wide : length (word_at inputs 0) ≡ width = length-word_at inputs (width ∷ 1 ∷ []) 0 h in
    rw (length-controlled_word true (word_at inputs 0) (bit_at inputs 1), wide) refl

length-under_enable : (enable : Bool) (disabled : Disabled) (inputs : List Word) (index : ℕ) (word : Word) → length (under_enable enable disabled inputs index word) ≡ length word
length-under_enable true disabled inputs index word = length-enabled_word (bit_at inputs index) word (off_bit disabled)
length-under_enable false disabled inputs index word = refl

-- lines of one width
lines-widths : (line : ℕ → Word) (start count width : ℕ) → ((k : ℕ) → length (line k) ≡ width) → map length (map line (range_with_len start count)) ≡ replicate count width
lines-widths line start zero width each = refl
lines-widths line start (suc count) width each =
    let rest = lines-widths line (start + 1) count width each in
    cc (each start, rest)

plexer-widths : (plexer : PlexerOf) (inputs : List Word) → IsPlexer plexer → map length inputs ≡ plexer_inputs plexer → map length (plexer_words plexer inputs) ≡ plexer_outputs plexer
plexer-widths (Multiplexer width select enable disabled corner) inputs good h =
    let others = enable_width enable in
    let some : 1 ≤ 2 ^ select = pow_pos select in
    let wide : length (word_at inputs (2 ^ select)) ≡ select = length-select inputs (2 ^ select) width select others h in
    let count : length (take (2 ^ select) inputs) ≡ 2 ^ length (word_at inputs (2 ^ select)) = length-take_of inputs (2 ^ select) width (select ∷ others) h ∙ ap (λ (s : ℕ). 2 ^ s) (sym wide) in
    let picked = length-pick_word (word_at inputs (2 ^ select)) (take (2 ^ select) inputs) count (one_width-take inputs (2 ^ select) width (select ∷ others) some h) in
    rw (length-under_enable enable disabled inputs (2 ^ select + 1) (pick_word (word_at inputs (2 ^ select)) (take (2 ^ select) inputs)), picked, first_width-take inputs (2 ^ select) width (select ∷ others) some h) refl
plexer-widths (Demultiplexer width select enable disabled corner tristate) inputs good h =
    let wide : length (word_at inputs 0) ≡ width = length-word_at inputs (width ∷ select ∷ enable_width enable) 0 h in
    lines-widths (demultiplexed enable disabled tristate inputs) 0 (2 ^ select) width
    (λ k. length-under_enable enable disabled inputs 2 (spread_word (word_at inputs 1) (word_at inputs 0) k (off_line tristate)) ∙ (length-spread_word (word_at inputs 1) (word_at inputs 0) k (off_line tristate) ∙ wide))
plexer-widths (Decoder select enable disabled tristate) inputs good h =
    lines-widths (decoded enable disabled tristate inputs) 0 (2 ^ select) 1
    (λ k. length-under_enable enable disabled inputs 1 (spread_word (word_at inputs 0) (bit.One ∷ []) k (off_line tristate)) ∙ length-spread_word (word_at inputs 0) (bit.One ∷ []) k (off_line tristate))
plexer-widths (PriorityEncoder select disabled) inputs good h =
    rw (length-address (first_bits (take (2 ^ select) inputs)) (bit_at inputs (2 ^ select)) select (off_bit disabled)) refl
plexer-widths (BitSelector width group) inputs good h = rw (length-group_word (word_at inputs 0) (word_at inputs 1) group) refl

arithmetic-widths : (part : ArithmeticOf) (inputs : List Word) → map length inputs ≡ arithmetic_inputs part → map length (arithmetic_words part inputs) ≡ arithmetic_outputs part
arithmetic-widths (Adder width) inputs h =
    let wide : length (word_at inputs 0) ≡ width = length-word_at inputs (width ∷ width ∷ 1 ∷ []) 0 h in
    rw (length-sum_of (word_at inputs 0) (word_at inputs 1) (bit_at inputs 2), wide) refl
arithmetic-widths (Subtractor width) inputs h =
    let wide : length (word_at inputs 0) ≡ width = length-word_at inputs (width ∷ width ∷ 1 ∷ []) 0 h in
    rw (length-difference_of (word_at inputs 0) (word_at inputs 1) (bit_at inputs 2), wide) refl
arithmetic-widths (Multiplier width) inputs h =
    let wide : length (word_at inputs 0) ≡ width = length-word_at inputs (width ∷ width ∷ width ∷ []) 0 h in
    rw (length-low_product_of (word_at inputs 0) (word_at inputs 1) (word_at inputs 2), length-high_product_of (word_at inputs 0) (word_at inputs 1) (word_at inputs 2), wide) refl
arithmetic-widths (Divider width) inputs h =
    let wide : length (word_at inputs 0) ≡ width = length-word_at inputs (width ∷ width ∷ width ∷ []) 0 h in
    rw (length-quotient_of (word_at inputs 0) (word_at inputs 1) (word_at inputs 2), length-remainder_of (word_at inputs 0) (word_at inputs 1) (word_at inputs 2), wide) refl
arithmetic-widths (Negator width) inputs h =
    let wide : length (word_at inputs 0) ≡ width = length-word_at inputs (width ∷ []) 0 h in
    rw (length-negation_of (word_at inputs 0), wide) refl
arithmetic-widths (Comparator width mode) inputs h = refl
arithmetic-widths (Shifter width shift) inputs h =
    let wide : length (word_at inputs 0) ≡ width = length-word_at inputs (width ∷ select_width 1 width ∷ []) 0 h in
    rw (length-shift_of shift (word_at inputs 0) (word_at inputs 1), wide) refl
arithmetic-widths (BitAdder width count) inputs h =
    rw (length-count_of inputs, sum_by-length inputs count width h) refl

-- of every shape
pub widths-output_words : (shape : Shape) (strict : Bool) (attached : List Bool) (words inputs : List Word) → IsShape shape → AreHeld shape words → length attached ≡ length (input_widths shape) → map length inputs ≡ input_widths shape → map length (output_words shape strict attached words inputs) ≡ output_widths shape
widths-output_words (Wiring part) strict attached words inputs good held there h = wiring-widths part inputs
widths-output_words (Gate gate) strict attached words inputs good held there h = gate-widths gate strict attached inputs h
widths-output_words (Plexer plexer) strict attached words inputs good held there h = plexer-widths plexer inputs good h
widths-output_words (Arithmetic part) strict attached words inputs good held there h = arithmetic-widths part inputs h
widths-output_words (Memory form) strict attached words inputs good held there h = widths-outputs form words inputs good held (record { widths = h })

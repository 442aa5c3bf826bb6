-- Defined inputs and words give defined outputs, where nothing floats.
use Rattle.std.proofs.Common.{◌≡◌, ◌≢◌, ℕ, zero, suc, ◌+◌, ◌-◌, ◌^◌, ◌<◌, ◌≤◌, Bool, true, false, cond, ◌⊎◌, inl, inr, List, [], ◌∷◌, ◌++◌, length, get_or, map, take, replicate, refl, sym, ap, ◌∙◌, arith, Option, Some, None, is_none}
use Rattle.std.specs.Prelude.{IfSome}
use Rattle.std.specs.List.{All, list_all, list_any, range_with_len}
use Rattle.std.proofs.lemmas.Bool.{cases_Bool}
use Rattle.std.proofs.lemmas.List.{length-replicate}
use Rattle.std.proofs.lemmas.List.Elements.{All-nil, All-cons, All-head, All-tail, All-take, All-replicate}
use Rattle.std.proofs.lemmas.List.FromFn.{get_or-map-range_with_len, length-map-range_with_len}
use Rattle.lg_value.specs.declared.bit.Bit.{Bit}
use Rattle.lg_value.specs.declared.bit.Bit.TheVariants as bit
use Rattle.lg_value.specs.Bit.{is_defined_bit}
use Rattle.lg_value.specs.Word.{IsDefined}
use Rattle.lg_gates.specs.declared.outputs.OutForm.{OutForm}
use Rattle.lg_gates.specs.declared.outputs.OutForm.TheVariants.{ZeroOne, ZeroFloat, FloatOne}
use Rattle.lg_gates.specs.Gate.{gate_word, lacks_inputs, CarryDefined}
use Rattle.lg_gates.specs.Shape.{not_word, buffer_word, shape_word}
use Rattle.lg_gates.proofs.DefinedOutputs.{gate_word-defined, not_word-defined, buffer_word-defined, shape_word-ZeroOne}
use Rattle.lg_arith.specs.Count.{count_of}
use Rattle.lg_arith.specs.Extend.{added_bit, extended}
use Rattle.lg_arith.specs.Operands.{top_bit}
use Rattle.lg_arith.specs.Order.{greater_of, equal_of, less_of}
use Rattle.lg_arith.specs.Product.{low_product_of, high_product_of}
use Rattle.lg_arith.specs.Quotient.{quotient_of, remainder_of}
use Rattle.lg_arith.specs.Shift.{shift_of}
use Rattle.lg_arith.specs.Sum.{sum_of, carry_of, difference_of, borrow_of, negation_of}
use Rattle.lg_arith.proofs.DefinedLemmas.{sum_in_out, difference_in_out, negation_in_out, product_in_out, quotient_in_out, order_in_out, shift_in_out, count_in_out, extended_in_out, HasNoError-defined}
use Rattle.lg_memory.specs.Inputs.{Word, word_at, bit_at}
use Rattle.lg_memory.proofs.DefinedLemmas.{IsBit, one_defined, one_bit, IsDefined-word_at, outputs-defined}
use Rattle.lg_memory.proofs.ShapeLemmas.{length-word_at, AreWords-from_widths}
use Rattle.lg_shapes.specs.declared.shape.Shape.{Shape}
use Rattle.lg_shapes.specs.declared.shape.Shape.TheVariants.{Wiring, Gate, Plexer, Arithmetic, Memory}
use Rattle.lg_shapes.specs.declared.wiring.Wiring.{Wiring as WiringOf}
use Rattle.lg_shapes.specs.declared.wiring.Wiring.TheVariants.{Constant, Power, Ground, BitExtender}
use Rattle.lg_shapes.specs.declared.wiring.Extension.{Extension}
use Rattle.lg_shapes.specs.declared.wiring.Extension.TheVariants as extension
use Rattle.lg_shapes.specs.declared.gates.Gate.{Gate as GateOf}
use Rattle.lg_shapes.specs.declared.gates.Gate.TheVariants.{Not, Buffer, Logic, ControlledBuffer, ControlledInverter}
use Rattle.lg_shapes.specs.declared.arithmetic.Arithmetic.{Arithmetic as ArithmeticOf}
use Rattle.lg_shapes.specs.declared.arithmetic.Arithmetic.TheVariants.{Adder, Subtractor, Multiplier, Divider, Negator, Comparator, Shifter, BitAdder}
use Rattle.lg_shapes.specs.Wiring.{IsWiring, wiring_inputs, wiring_words, extension_of}
use Rattle.lg_shapes.specs.Gates.{IsGate, HasInputs as GateHasInputs, ReadsDefined as GateReads, gate_inputs, gate_words, read_input, read_at, read_inputs}
use Rattle.lg_shapes.specs.Arithmetic.{is_signed, arithmetic_inputs, arithmetic_words}
use Rattle.lg_shapes.specs.Shapes.{IsShape, HasInputs, ReadsDefined, input_widths, output_words}
use Rattle.lg_shapes.specs.Reads.{is_exportable, is_gate_exportable, shows_both}
use Rattle.lg_shapes.proofs.InputLemmas.{read_inputs-width}
use Rattle.lg_shapes.proofs.PlexersDefined.{test_of, is_defined-bit_at, one_bit_defined, plexer-defined}
use Rattle.lg_shapes.proofs.LackLemmas.{lacks_none}

-- a defined bit is no error
no_error : (b : Bit) → is_defined_bit b ≡ true → b ≢ bit.Error
no_error b h e = absurd (cc (h, e))

two_defined : (a b : Word) → IsDefined a → IsDefined b → All IsDefined (a ∷ b ∷ [])
two_defined a b h k = All-cons IsDefined a (b ∷ []) h (one_defined b k)

top_bit-defined : (word : Word) → IsDefined word → is_defined_bit (top_bit word) ≡ true
top_bit-defined [] h = refl
top_bit-defined (b ∷ word) h = test_of (top_bit (b ∷ word)) (h (length (b ∷ word) - 1) bit.Zero (omega arith))

extension-defined : (how : Extension) (inputs : List Word) → (how ≡ extension.Input → 1 ≤ length (word_at inputs 1)) → All IsDefined inputs → is_defined_bit (added_bit (extension_of how inputs) (word_at inputs 0)) ≡ true
extension-defined extension.Zero inputs some h = refl
extension-defined extension.One inputs some h = refl
extension-defined extension.Sign inputs some h = top_bit-defined (word_at inputs 0) (IsDefined-word_at inputs 0 h)
extension-defined extension.Input inputs some h = is_defined-bit_at inputs 1 (some refl) h

wiring-defined : (part : WiringOf) (inputs : List Word) → IsWiring part → map length inputs ≡ wiring_inputs part → All IsDefined inputs → All IsDefined (wiring_words part inputs)
wiring-defined (Constant value) inputs good fits h = one_defined value good.1
wiring-defined (Power width) inputs good fits h = one_defined (replicate width bit.One) (All-replicate IsBit width bit.One (inr refl))
wiring-defined (Ground width) inputs good fits h = one_defined (replicate width bit.Zero) (All-replicate IsBit width bit.Zero (inl refl))
wiring-defined (BitExtender from to how) inputs good fits h =
    let some : how ≡ extension.Input → 1 ≤ length (word_at inputs 1) = λ e. omega (arith, length-word_at inputs (from ∷ 1 ∷ []) 1 (rw e at fits)) in
    one_defined (extended (word_at inputs 0) to (extension_of how inputs))
    (extended_in_out (word_at inputs 0) to (extension_of how inputs) (IsDefined-word_at inputs 0 h) (extension-defined how inputs some h))

plain : (out : OutForm) (word : Word) → shows_both out ≡ true → IsDefined word → IsDefined (shape_word out word)
plain ZeroOne word shows h = rw (shape_word-ZeroOne word) h
plain ZeroFloat word shows h = absurd (cc shows)
plain FloatOne word shows h = absurd (cc shows)

-- an input that is read is defined
read_defined : (negated attached : Bool) (word : Word) → (attached ≡ true → IsDefined word) → IfSome (read_input negated attached word) IsDefined
read_defined negated false word h = tt
read_defined false true word h = h refl
read_defined true true word h = not_word-defined word (h refl)

carried : (negated attached : List Bool) (inputs : List Word) → ((k : ℕ) → get_or attached k false ≡ true → IsDefined (word_at inputs k)) → CarryDefined (read_inputs negated attached inputs)
carried negated attached inputs h k d less =
    let inside : k < length inputs = rw (length-map-range_with_len (read_at negated attached inputs) 0 (length inputs)) at less in
    rw (get_or-map-range_with_len (read_at negated attached inputs) 0 (length inputs) k k d inside (omega arith))
    (read_defined (get_or negated k false) (get_or attached k false) (word_at inputs k) (h k))

gate-defined : (gate : GateOf) (strict : Bool) (attached : List Bool) (inputs : List Word) → is_gate_exportable gate ≡ true → length attached ≡ length (gate_inputs gate) → map length inputs ≡ gate_inputs gate → GateHasInputs gate strict attached → GateReads gate attached inputs → All IsDefined (gate_words gate strict attached inputs)
gate-defined (Not width size out) strict attached inputs shows there fits has h =
    one_defined (shape_word out (not_word (word_at inputs 0))) (plain out (not_word (word_at inputs 0)) shows (not_word-defined (word_at inputs 0) (IsDefined-word_at inputs 0 h)))
gate-defined (Buffer width out) strict attached inputs shows there fits has h =
    let same = buffer_word-defined (word_at inputs 0) (IsDefined-word_at inputs 0 h) in
    one_defined (shape_word out (buffer_word (word_at inputs 0))) (plain out (buffer_word (word_at inputs 0)) shows (rw same (IsDefined-word_at inputs 0 h)))
gate-defined (Logic kind width size negated out) strict attached inputs shows there fits has h =
    let read = read_inputs negated attached inputs in
    let enough : lacks_inputs strict read ≡ false = lacks_none negated attached inputs strict (there ∙ (length-replicate (length negated) width ∙ sym (AreWords-from_widths inputs (length negated) width fits).0)) has in
    one_defined (shape_word out (gate_word kind width read strict))
    (plain out (gate_word kind width read strict) shows
    (gate_word-defined kind width read strict enough (read_inputs-width negated attached inputs (length negated) width fits) (carried negated attached inputs h)))
gate-defined (ControlledBuffer width control) strict attached inputs shows there fits has h = absurd (cc shows)
gate-defined (ControlledInverter width control) strict attached inputs shows there fits has h = absurd (cc shows)

arithmetic-defined : (part : ArithmeticOf) (inputs : List Word) → map length inputs ≡ arithmetic_inputs part → All IsDefined inputs → All IsDefined (arithmetic_words part inputs)
arithmetic-defined (Adder width) inputs fits h =
    let wide : length (word_at inputs 2) ≡ 1 = length-word_at inputs (width ∷ width ∷ 1 ∷ []) 2 fits in
    let whole = sum_in_out (word_at inputs 0) (word_at inputs 1) (bit_at inputs 2) (IsDefined-word_at inputs 0 h) (IsDefined-word_at inputs 1 h) (no_error (bit_at inputs 2) (is_defined-bit_at inputs 2 (omega arith) h)) in
    two_defined (sum_of (word_at inputs 0) (word_at inputs 1) (bit_at inputs 2)) (carry_of (word_at inputs 0) (word_at inputs 1) (bit_at inputs 2) ∷ []) whole.0 (one_bit_defined (carry_of (word_at inputs 0) (word_at inputs 1) (bit_at inputs 2)) whole.1)
arithmetic-defined (Subtractor width) inputs fits h =
    let wide : length (word_at inputs 2) ≡ 1 = length-word_at inputs (width ∷ width ∷ 1 ∷ []) 2 fits in
    let whole = difference_in_out (word_at inputs 0) (word_at inputs 1) (bit_at inputs 2) (IsDefined-word_at inputs 0 h) (IsDefined-word_at inputs 1 h) (no_error (bit_at inputs 2) (is_defined-bit_at inputs 2 (omega arith) h)) in
    two_defined (difference_of (word_at inputs 0) (word_at inputs 1) (bit_at inputs 2)) (borrow_of (word_at inputs 0) (word_at inputs 1) (bit_at inputs 2) ∷ []) whole.0 (one_bit_defined (borrow_of (word_at inputs 0) (word_at inputs 1) (bit_at inputs 2)) whole.1)
arithmetic-defined (Multiplier width) inputs fits h =
    let whole = product_in_out (word_at inputs 0) (word_at inputs 1) (word_at inputs 2) (IsDefined-word_at inputs 0 h) (IsDefined-word_at inputs 1 h) (HasNoError-defined (word_at inputs 2) (IsDefined-word_at inputs 2 h)) in
    two_defined (low_product_of (word_at inputs 0) (word_at inputs 1) (word_at inputs 2)) (high_product_of (word_at inputs 0) (word_at inputs 1) (word_at inputs 2)) whole.0 whole.1
arithmetic-defined (Divider width) inputs fits h =
    let whole = quotient_in_out (word_at inputs 0) (word_at inputs 1) (word_at inputs 2) (IsDefined-word_at inputs 0 h) (IsDefined-word_at inputs 1 h) (HasNoError-defined (word_at inputs 2) (IsDefined-word_at inputs 2 h)) in
    two_defined (quotient_of (word_at inputs 0) (word_at inputs 1) (word_at inputs 2)) (remainder_of (word_at inputs 0) (word_at inputs 1) (word_at inputs 2)) whole.0 whole.1
arithmetic-defined (Negator width) inputs fits h =
    one_defined (negation_of (word_at inputs 0)) (negation_in_out (word_at inputs 0) (IsDefined-word_at inputs 0 h))
arithmetic-defined (Comparator width mode) inputs fits h =
    let a = word_at inputs 0 in
    let b = word_at inputs 1 in
    let signed = is_signed mode in
    let bits : IsDefined (greater_of a b signed ∷ equal_of a b ∷ less_of a b signed ∷ []) = order_in_out a b signed (IsDefined-word_at inputs 0 h) (IsDefined-word_at inputs 1 h) in
    All-cons IsDefined (greater_of a b signed ∷ []) ((equal_of a b ∷ []) ∷ (less_of a b signed ∷ []) ∷ []) (one_bit (greater_of a b signed) (bits 0 bit.Unknown (omega arith)))
    (two_defined (equal_of a b ∷ []) (less_of a b signed ∷ []) (one_bit (equal_of a b) (bits 1 bit.Unknown (omega arith))) (one_bit (less_of a b signed) (bits 2 bit.Unknown (omega arith))))
arithmetic-defined (Shifter width shift) inputs fits h =
    one_defined (shift_of shift (word_at inputs 0) (word_at inputs 1)) (shift_in_out shift (word_at inputs 0) (word_at inputs 1) (IsDefined-word_at inputs 0 h) (IsDefined-word_at inputs 1 h))
arithmetic-defined (BitAdder width count) inputs fits h = one_defined (count_of inputs) (count_in_out inputs h)

-- of every shape
pub outputs_defined : (shape : Shape) (strict : Bool) (attached : List Bool) (words inputs : List Word) → IsShape shape → is_exportable shape ≡ true → length attached ≡ length (input_widths shape) → map length inputs ≡ input_widths shape → HasInputs shape strict attached → ReadsDefined shape attached inputs → All IsDefined words → All IsDefined (output_words shape strict attached words inputs)
outputs_defined (Wiring part) strict attached words inputs good exported there fits has reads held = wiring-defined part inputs good fits reads
outputs_defined (Gate gate) strict attached words inputs good exported there fits has reads held = gate-defined gate strict attached inputs exported there fits has reads
outputs_defined (Plexer plexer) strict attached words inputs good exported there fits has reads held = plexer-defined plexer inputs good exported fits reads
outputs_defined (Arithmetic part) strict attached words inputs good exported there fits has reads held = arithmetic-defined part inputs fits reads
outputs_defined (Memory form) strict attached words inputs good exported there fits has reads held = outputs-defined form words inputs held reads

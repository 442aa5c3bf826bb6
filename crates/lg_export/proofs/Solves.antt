-- The numbers of static values solve the module's equations.
use Rattle.std.proofs.Common.{◌≡◌, ℕ, suc, ◌+◌, ◌^◌, ◌<◌, ◌≤◌, true, false, List, [], ◌∷◌, length, map, get_or, option_map, unwrap_or, Option, Some, refl, sym, ap, subst, ◌∙◌, arith, inl, inr}
use Rattle.std.specs.Prelude.{slice_get, Contains}
use Rattle.std.specs.Int.{bit_at}
use Rattle.std.specs.List.{AllByRecursion, range_with_len}
use Rattle.std.specs.Map.{lookup}
use Rattle.std.specs.Str.{bytes_eq}
use Rattle.std.proofs.lemmas.List.FromFn.{length-range_with_len, get_or-range_with_len}
use Rattle.std.proofs.lemmas.List.Elements.{All-cons, All-nil}
use Rattle.std.proofs.lemmas.Option.{same_Some, slice_get-map, slice_get_within, get_or_from_slice_get, slice_get-get_or}
use Rattle.lg_value.specs.declared.bit.Bit.{Bit}
use Rattle.lg_value.specs.Bit.{digit_of}
use Rattle.lg_value.specs.Word.{IsDefined, number_of as word_number, bit_of_number, word_of_number}
use Rattle.lg_value.proofs.WordLemmas.{number_of-lt, digit_of-bit_of_number, word_of_number-number_of}
use Rattle.lg_netlist.specs.declared.netlist.PartUse.{PartUse}
use Rattle.lg_netlist.specs.declared.netlist.PinUse.{PinUse}
use Rattle.lg_netlist.specs.declared.netlist.Netlist.{Netlist}
use Rattle.lg_netlist.specs.Acceptance.{IsAccepted, is_undriven}
use Rattle.lg_netlist.specs.Cell.{State, cell_word, input_width, output_width}
use Rattle.lg_netlist.specs.Static.{input_pins, output_pins, has_no_clock, word_on, inputs_of, state_of, AreStaticValues, output_words, IsDefinedRow}
use Rattle.lg_vtree.specs.declared.expr.Expr.{Expr}
use Rattle.lg_vtree.specs.declared.expr.Expr.TheVariants as expr
use Rattle.lg_vtree.specs.declared.module.Assign.{Assign}
use Rattle.lg_vtree.specs.declared.module.Module.{Module}
use Rattle.lg_vrules.specs.declared.names.Sort.TheVariants as sort
use Rattle.lg_vrules.specs.declared.names.Thing.{Thing}
use Rattle.lg_vrules.specs.Things.{range_width, names_of, is_output}
use Rattle.lg_vmachine.specs.Kept.{Kept}
use Rattle.lg_vresolve.specs.Meaning.{Valuation, number_of}
use Rattle.lg_vmeaning.specs.Solution.{IsSolution}
use Rattle.lg_export.specs.Layout.{NamedBit, numbered, range_of, input_name, output_name, input_wire, output_wire, bit_on, bits_value, attached, equation, module_assigns, module_of}
use Rattle.lg_export.proofs.Answered.{IsRead, answered, answered_number}
use Rattle.lg_export.proofs.Declared.{pin_thing, x_thing, w_thing, all_things, line_of, readable-are, input_names-are, output_names-are, no_registers, range_width-of, one_bit_input, one_bit_output}
use Rattle.lg_export.proofs.Gates.{bit_of_digit, IsDefinedBit, bit_is_defined}
use Rattle.lg_export.proofs.Given.{Given, OfInput, OfPart, OfPin, given}
use Rattle.lg_export.proofs.Items.{IsItem, item_at, item_of_map, numbered_at, each_item, item_contains}
use Rattle.lg_export.proofs.Equations.{wholes, gate_number, equation_number}
use Rattle.lg_export.proofs.Named.{all_said, said_once, input_said, output_said, x_said, w_said, found_item, attached_is, only_output, only_index, FromInput, FromOutput, FromX, FromW, Origin, origin}
use Rattle.lg_export.proofs.Pins.{input_pin, output_pin, part_fits}
use Rattle.lg_export.proofs.Runs.{bits_number}
use Rattle.lg_export.proofs.Sources.{Source, FromPin, FromPart, input_source, pin_source, input_driven}
use Rattle.lg_export.proofs.Valid.{port_width, bits_fit, first_of_part, first_narrow, wholes-are}

-- the digits of a defined word's number are its bits
digit_at : (word : List Bit) → IsDefined word → (index : ℕ) (b : Bit) → slice_get word index ≡ Some b → bit_at (word_number word) index ≡ digit_of b
unfolding word_of_number
digit_at word defined index b at =
    let less = slice_get_within word index b at in
    let zeroth : 0 + index ≡ index = omega arith in
    let n = word_number word in
    let all : map (bit_of_number n) (range_with_len 0 (length word)) ≡ word = word_of_number-number_of word defined in
    let ranged : slice_get (range_with_len 0 (length word)) index ≡ Some index =
    slice_get-get_or (range_with_len 0 (length word)) index 0 (omega (arith, less, length-range_with_len 0 (length word))) ∙ ap Some (get_or-range_with_len 0 (length word) index 0 less ∙ zeroth) in
    let same : Some (bit_of_number n index) ≡ Some b = sym (slice_get-map (bit_of_number n) (range_with_len 0 (length word)) index ∙ ap (option_map (bit_of_number n)) ranged) ∙ (ap (λ (w : List Bit). slice_get w index) all ∙ at) in
    sym (digit_of-bit_of_number n index) ∙ ap digit_of (same_Some (bit_of_number n index) b same)

length-word : (v : ℕ → Bit) (bits : List ℕ) → length (word_on v bits) ≡ length bits
length-word v [] = refl
length-word v (net ∷ bits) = ap suc (length-word v bits)

pub defined_word : (v : ℕ → Bit) (bits : List ℕ) → ((net : ℕ) → Contains bits net → IsDefinedBit (v net)) → IsDefined (word_on v bits)
defined_word v bits each i d less =
    let at : i < length bits = omega (arith, less, length-word v bits) in
    let got : slice_get bits i ≡ Some (get_or bits i 0) = slice_get-get_or bits i 0 at in
    let word : slice_get (word_on v bits) i ≡ Some (v (get_or bits i 0)) = slice_get-map v bits i ∙ ap (option_map v) got in
    subst IsDefinedBit (sym (get_or_from_slice_get (word_on v bits) i (v (get_or bits i 0)) d word)) (each (get_or bits i 0) (item_contains bits (get_or bits i 0) (item_at bits i (get_or bits i 0) got)))

-- the number that static values give each name
abbrev pub static_numbers : Netlist → List State → (ℕ → Bit) → List (List ℕ × ℕ)
static_numbers n states v =
    all_said (λ (p : PinUse). word_number (word_on v p.bits)) (λ (p : PinUse). word_number (word_on v p.bits)) (λ (k : ℕ) (p : PartUse) (i : ℕ × List ℕ). word_number (word_on v i.1))
    (λ (k : ℕ) (p : PartUse) (o : ℕ × List ℕ). word_number (cell_word p.cell (state_of states k) (inputs_of v p) o.0)) n

abbrev pub valuation : Netlist → List State → (ℕ → Bit) → Valuation
valuation n states v name = unwrap_or (lookup (λ other. bytes_eq other name) (static_numbers n states v)) 0

module _ (n : Netlist) (clockless : has_no_clock n ≡ true) (accepted : IsAccepted n) (states : List State) (row : List (List Bit)) (v : ℕ → Bit) (static : AreStaticValues n states row v)
    (row_defined : IsDefinedRow (input_pins n) row) (defined : (net : ℕ) → is_undriven n net ≡ false → IsDefinedBit (v net)) where
  abbrev m : Module
  m = module_of n

  abbrev val : Valuation
  val = valuation n states v

  abbrev fin : PinUse → ℕ
  fin p = word_number (word_on v p.bits)

  abbrev fx : ℕ → PartUse → ℕ × List ℕ → ℕ
  fx k p i = word_number (word_on v i.1)

  abbrev fw : ℕ → PartUse → ℕ × List ℕ → ℕ
  fw k p o = word_number (cell_word p.cell (state_of states k) (inputs_of v p) o.0)

  under : (t : List ℕ × ℕ) → IsItem (static_numbers n states v) t → val t.0 ≡ t.1
  under t here = ap (λ (o : Option ℕ). unwrap_or o 0) (found_item (static_numbers n states v) t (said_once fin fin fx fw n clockless) here)

  pub val_input : (p : PinUse) → IsItem (input_pins n) p → val (input_name p) ≡ word_number (word_on v p.bits)
  val_input p here = under (input_name p, fin p) (input_said fin fin fx fw n p here)

  pub val_output : (p : PinUse) → IsItem (output_pins n) p → val (output_name p) ≡ word_number (word_on v p.bits)
  val_output p here = under (output_name p, fin p) (output_said fin fin fx fw n p here)

  val_x : (k : ℕ) (p : PartUse) (i : ℕ × List ℕ) → slice_get n.parts k ≡ Some p → IsItem (attached p) i → val (input_wire k i.0) ≡ word_number (word_on v i.1)
  val_x k p i at here = under (input_wire k i.0, fx k p i) (x_said fin fin fx fw n k p i at here)

  val_w : (k : ℕ) (p : PartUse) (o : ℕ × List ℕ) → slice_get n.parts k ≡ Some p → IsItem (numbered p.outputs) o → val (output_wire k o.0) ≡ fw k p o
  val_w k p o at here = under (output_wire k o.0, fw k p o) (w_said fin fin fx fw n k p o at here)

  -- ---- words

  row_word : (pins : List PinUse) (words : List (List Bit)) → map (λ (p : PinUse). word_on v p.bits) pins ≡ words → IsDefinedRow pins words → (p : PinUse) → IsItem pins p → IsDefined (word_on v p.bits)
  row_word [] words e all p here = absurd here
  row_word (q ∷ pins) [] e all p here = absurd (cc e)
  row_word (q ∷ pins) (word ∷ words) e all p (inl f) = subst (λ (p : PinUse). IsDefined (word_on v p.bits)) (sym f) (subst IsDefined (sym (head_is (word_on v q.bits) word (map (λ (p : PinUse). word_on v p.bits) pins) words e)) all.0)
    where
      head_is : (a b : List Bit) (xs ys : List (List Bit)) → a ∷ xs ≡ b ∷ ys → a ≡ b
      head_is a b xs ys e = cc
  row_word (q ∷ pins) (word ∷ words) e all p (inr here) = row_word pins words (tail_is (word_on v q.bits) word (map (λ (p : PinUse). word_on v p.bits) pins) words e) all.2 p here
    where
      tail_is : (a b : List Bit) (xs ys : List (List Bit)) → a ∷ xs ≡ b ∷ ys → xs ≡ ys
      tail_is a b xs ys e = cc

  pin_word : (p : PinUse) → IsItem (input_pins n) p → IsDefined (word_on v p.bits)
  pin_word p here = row_word (input_pins n) row static.pins row_defined p here

  reads_at : (k : ℕ) (p : PartUse) → slice_get n.parts k ≡ Some p → AllByRecursion (IsRead v val k) (attached p)
  reads_at k p at = each_item (IsRead v val k) (attached p) (λ i here. read i here)
    where
      single : (bits : List ℕ) → length bits ≡ 1 → (net : ℕ) × (bits ≡ net ∷ [])
      single [] e = absurd (omega (arith, e))
      single (net ∷ []) e = (net, refl)
      single (a ∷ b ∷ more) e = absurd (omega (arith, e))

      read : (i : ℕ × List ℕ) → IsItem (attached p) i → IsRead v val k i
      read i here =
          let is = attached_is p i here in
          let wide = port_width (input_width p.cell) p.inputs i.0 i.1 (part_fits n k p at).input_widths is.0 is.1 in
          let one = single i.1 (wide ∙ one_bit_input p.cell i.0) in
          let on : Contains i.1 one.0 = subst (λ (bits : List ℕ). Contains bits one.0) (sym one.1) (item_contains (one.0 ∷ []) one.0 (inl refl)) in
          (one.0, one.1, defined one.0 (input_driven n clockless accepted k p i.0 i.1 at is.0 one.0 on), val_x k p i at here ∙ ap (λ (bits : List ℕ). word_number (word_on v bits)) one.1)

  -- a part's word, by its equation
  part_number : (k : ℕ) (p : PartUse) → slice_get n.parts k ≡ Some p → word_number (cell_word p.cell (state_of states k) (inputs_of v p) 0) ≡ number_of m (record { numbers = []; memories = [] }) val (equation p.cell (map (λ (i : ℕ × List ℕ). expr.Whole (input_wire k i.0)) (attached p)))
  part_number k p at =
      let first = first_of_part n clockless accepted k p at in
      answered_number v val (state_of states k) k p first.0 first.1 (part_fits n k p at).takes (reads_at k p at) first.2
      ∙ sym (ap (λ (es : List Expr). number_of m (record { numbers = []; memories = [] }) val (equation p.cell es)) (wholes-are n clockless accepted k (attached p) ∙ ap wholes first.2)
      ∙ equation_number m (record { numbers = []; memories = [] }) val p.cell first.0 first.1 (first_narrow n clockless accepted k p at first.0 first.1 first.2))

  part_word : (k : ℕ) (p : PartUse) → slice_get n.parts k ≡ Some p → (digit : ℕ) × (cell_word p.cell (state_of states k) (inputs_of v p) 0 ≡ bit_of_digit digit ∷ [])
  part_word k p at =
      let first = first_of_part n clockless accepted k p at in
      (gate_number p.cell val first.0 first.1, answered v val (state_of states k) k p first.0 first.1 (part_fits n k p at).takes (reads_at k p at) first.2)

  carried : (k : ℕ) (p : PartUse) (bits : List ℕ) (bit net : ℕ) → slice_get n.parts k ≡ Some p → slice_get p.outputs 0 ≡ Some bits → slice_get bits bit ≡ Some net
      → word_on v bits ≡ cell_word p.cell (state_of states k) (inputs_of v p) 0
  carried k p bits bit net part output at = elim (static.parts k p part 0 bits output) [
    | inl none ↦ let never : slice_get [] bit ≡ Some net = subst (λ (bits : List ℕ). slice_get bits bit ≡ Some net) none at in absurd (cc never)
    | inr same ↦ same
  ]

  -- the bit that a net carries is the digit at its index
  abbrev HasDigit : ℕ → NamedBit → Type 0
  HasDigit net b = (val b.name < 2 ^ b.width) × (bit_at (val b.name) b.index ≡ digit_of (v net))

  digit : (net : ℕ) → Source n net → HasDigit net (bit_on n net)
  digit net (FromPin p bit here at e) =
      let number = val_input p here in
      let below : word_number (word_on v p.bits) < 2 ^ length p.bits = subst (λ (width : ℕ). word_number (word_on v p.bits) < 2 ^ width) (length-word v p.bits) (number_of-lt (word_on v p.bits)) in
      let index = digit_at (word_on v p.bits) (pin_word p here) bit (v net) (slice_get-map v p.bits bit ∙ ap (option_map v) at) in
      let has : HasDigit net (record { name = input_name p; width = length p.bits; index = bit }) = (
        subst (λ (number : ℕ). number < 2 ^ length p.bits) (sym number) below,
        ap (λ (number : ℕ). bit_at number bit) number ∙ index,
      ) in
      subst (HasDigit net) (sym e) has
  digit net (FromPart k p bits bit part output at e) =
      let word = carried k p bits bit net part output at in
      let number : val (output_wire k 0) ≡ word_number (word_on v bits) = val_w k p (0, bits) part (numbered_at p.outputs 0 bits output) ∙ ap word_number (sym word) in
      let some = slice_get_within bits bit net at in
      let wide = port_width (output_width p.cell) p.outputs 0 bits (part_fits n k p part).output_widths output (omega (arith, some)) in
      let below : word_number (word_on v bits) < 2 ^ output_width p.cell 0 = subst (λ (width : ℕ). word_number (word_on v bits) < 2 ^ width) (length-word v bits ∙ wide) (number_of-lt (word_on v bits)) in
      let single = part_word k p part in
      let known : IsDefined (word_on v bits) = subst IsDefined (sym (word ∙ single.1)) (All-cons IsDefinedBit (bit_of_digit single.0) [] (bit_is_defined single.0) (All-nil IsDefinedBit)) in
      let index = digit_at (word_on v bits) known bit (v net) (slice_get-map v bits bit ∙ ap (option_map v) at) in
      let has : HasDigit net (record { name = output_wire k 0; width = output_width p.cell 0; index = bit }) = (
        subst (λ (number : ℕ). number < 2 ^ output_width p.cell 0) (sym number) below,
        ap (λ (number : ℕ). bit_at number bit) number ∙ index,
      ) in
      subst (HasDigit net) (sym e) has

  -- what some bits say is the number of their word
  bits_say : (kept : Kept) (bits : List ℕ) → 0 < length bits → ((net : ℕ) → Contains bits net → Source n net) → number_of m kept val (bits_value n bits) ≡ word_number (word_on v bits)
  bits_say kept bits some sources =
      bits_number m kept val n bits v some (bits_fit n clockless accepted bits sources) (λ net on. (digit net (sources net on)).0) (λ net on. (digit net (sources net on)).1)

  -- ---- the solution

  equation_holds : (a : Assign) → Given n a → val a.name ≡ number_of m (record { numbers = []; memories = [] }) val a.value
  equation_holds a (OfInput k p i at here) =
      let is = attached_is p i here in
      val_x k p i at here ∙ sym (bits_say (record { numbers = []; memories = [] }) i.1 is.1 (input_source n clockless accepted k p i.0 i.1 at is.0))
  equation_holds a (OfPart k p at) =
      let out = only_output p.outputs (part_fits n k p at).gives in
      val_w k p (0, out.0) at (numbered_at p.outputs 0 out.0 out.1) ∙ part_number k p at
  equation_holds a (OfPin p here) =
      let pin = output_pin n clockless p here in
      val_output p here ∙ sym (bits_say (record { numbers = []; memories = [] }) p.bits (omega (arith, pin.fits.some_bits)) (pin_source n clockless accepted p here))

  map_said : (name : PinUse → List ℕ) (pins : List PinUse) → ((p : PinUse) → IsItem pins p → val (name p) ≡ fin p) → map val (map name pins) ≡ map word_number (map (λ (p : PinUse). word_on v p.bits) pins)
  map_said name [] each = refl
  map_said name (p ∷ pins) each = cons_numbers (val (name p)) (fin p) (map val (map name pins)) (map word_number (map (λ (p : PinUse). word_on v p.bits) pins)) (each p (inl refl)) (map_said name pins (λ q here. each q (inr here)))
    where
      cons_numbers : (a b : ℕ) (xs ys : List ℕ) → a ≡ b → xs ≡ ys → a ∷ xs ≡ b ∷ ys
      cons_numbers a b xs ys e f = cc

  below : (t : List ℕ × Thing) → IsItem (all_things n) t → val t.0 < 2 ^ range_width t.1.high
  below t here = by t (origin (pin_thing sort.Input) (pin_thing sort.Output) x_thing w_thing n t here)
    where
      in_width : (number width : ℕ) (word : List Bit) → 1 ≤ width → number ≡ word_number word → length word ≡ width → number < 2 ^ range_width (range_of width)
      in_width number width word some e wide =
          subst (λ (number : ℕ). number < 2 ^ range_width (range_of width)) (sym e) (subst (λ (w : ℕ). word_number word < 2 ^ w) (wide ∙ sym (range_width-of width some)) (number_of-lt word))

      by : (t : List ℕ × Thing) → Origin (pin_thing sort.Input) (pin_thing sort.Output) x_thing w_thing n t → val t.0 < 2 ^ range_width t.1.high
      by t (FromInput p here) = in_width (val (input_name p)) (length p.bits) (word_on v p.bits) (input_pin n clockless p here).fits.some_bits (val_input p here) (length-word v p.bits)
      by t (FromOutput p here) = in_width (val (output_name p)) (length p.bits) (word_on v p.bits) (output_pin n clockless p here).fits.some_bits (val_output p here) (length-word v p.bits)
      by t (FromX k p i at here) =
          let is = attached_is p i here in
          let wide = port_width (input_width p.cell) p.inputs i.0 i.1 (part_fits n k p at).input_widths is.0 is.1 in
          in_width (val (input_wire k i.0)) (input_width p.cell i.0) (word_on v i.1) (omega (arith, one_bit_input p.cell i.0)) (val_x k p i at here) (length-word v i.1 ∙ wide)
      by t (FromW k p o at here) =
          let zeroth = only_index p.outputs o (part_fits n k p at).gives here in
          let single = part_word k p at in
          let word : cell_word p.cell (state_of states k) (inputs_of v p) o.0 ≡ bit_of_digit single.0 ∷ [] = ap (cell_word p.cell (state_of states k) (inputs_of v p)) zeroth ∙ single.1 in
          in_width (val (output_wire k o.0)) (output_width p.cell o.0) (cell_word p.cell (state_of states k) (inputs_of v p) o.0) (omega (arith, one_bit_output p.cell o.0)) (val_w k p o at here) (ap length word ∙ sym (one_bit_output p.cell o.0))

  pub solves : IsSolution m (record { numbers = []; memories = [] }) (map word_number row) val
  solves = record {
    within = subst (AllByRecursion (λ (l : List ℕ × ℕ). val l.0 < 2 ^ l.1)) (sym (readable-are n))
        (each_item (λ (l : List ℕ × ℕ). val l.0 < 2 ^ l.1) (map line_of (all_things n)) (λ l here. let r = item_of_map line_of (all_things n) l here in subst (λ (l : List ℕ × ℕ). val l.0 < 2 ^ l.1) (sym r.2) (below r.0 r.1)));
    inputs = ap (map val) (input_names-are n clockless) ∙ (map_said input_name (input_pins n) val_input ∙ ap (map word_number) static.pins);
    registers = ap (λ (lines : List (List ℕ × ℕ)). map val (map (λ (l : List ℕ × ℕ). l.0) lines)) (no_registers n);
    equations = each_item (λ (a : Assign). val a.name ≡ number_of m (record { numbers = []; memories = [] }) val a.value) (module_assigns n) (λ a here. equation_holds a (given n a here));
  }

  pub gives : map val (names_of is_output m) ≡ map word_number (output_words n v)
  gives = ap (map val) (output_names-are n clockless) ∙ map_said output_name (output_pins n) val_output

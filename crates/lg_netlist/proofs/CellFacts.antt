-- What cells answer: words of their widths, by no state, and defined ones to the inputs of a part of an accepted netlist that are defined.
use Rattle.std.proofs.Common.{◌≡◌, ℕ, zero, suc, ◌<◌, ◌≤◌, Bool, true, false, List, [], ◌∷◌, length, get_or, map, refl, sym, subst, ap, ◌∙◌, arith, ◌⊎◌, inl, inr, Option, Some}
use Rattle.std.specs.Prelude.{All, IfSome, IsTrue, is_none, ◌&&◌, ◌||◌, ◌==◌, slice_get}
use Rattle.std.specs.List.{list_all, list_any}
use Rattle.std.proofs.lemmas.Bool.{cases_lt, eqb-true, ne_eqb, or_cases}
use Rattle.std.proofs.lemmas.List.{get_or_past, length-map}
use Rattle.std.proofs.lemmas.List.Elements.{All-nil, All-cons}
use Rattle.std.proofs.lemmas.Option.{slice_get_within, get_or_from_slice_get}
use Rattle.lg_value.specs.declared.bit.Bit.{Bit}
use Rattle.lg_value.specs.declared.bit.Bit.TheVariants.{Zero, One}
use Rattle.lg_value.specs.Word.{IsDefined}
use Rattle.lg_gates.specs.declared.gates.GateKind.TheVariants as kind
use Rattle.lg_gates.specs.Gate.{HaveWidth, CarryDefined}
use Rattle.lg_gates.proofs.Widths.{length-gate_word, length-not_word}
use Rattle.lg_gates.proofs.DefinedOutputs.{gate_word-defined, not_word-defined}
use Rattle.lg_netlist.specs.declared.netlist.Cell.{Cell}
use Rattle.lg_netlist.specs.declared.netlist.Cell.TheVariants.{Not, And, Or}
use Rattle.lg_netlist.specs.declared.netlist.PartUse.{PartUse}
use Rattle.lg_netlist.specs.declared.netlist.Netlist.{Netlist}
use Rattle.lg_netlist.specs.Acceptance.{is_loose, lacks_input, reads_undriven, IsAccepted}
use Rattle.lg_netlist.specs.Cell.{State, input_width, output_width, only_word, cell_word, loose_of, reads}
use Rattle.lg_netlist.specs.Static.{word_on, word_at, inputs_of}
use Rattle.lg_netlist.specs.Valid.{TakesInputs, has_width, HaveWidths, IsFittingPart}
use Rattle.lg_netlist.proofs.AcceptedFacts.{input_is_right, part_at_fits}

-- cells keep nothing yet, so states do not count
pub cell_word-state : (c : Cell) (s t : State) (inputs : List (Option (List Bit))) (output : ℕ) → cell_word c s inputs output ≡ cell_word c t inputs output
cell_word-state Not s t inputs output = refl
cell_word-state And s t inputs output = refl
cell_word-state Or s t inputs output = refl

-- each output depends on each input
pub reads_all : (c : Cell) (output input : ℕ) → reads c output input ≡ true
reads_all Not output input = refl
reads_all And output input = refl
reads_all Or output input = refl

-- a port to which something is attached has its width
pub port_width : (width : ℕ → ℕ) (ports : List (List ℕ)) (port bit net : ℕ) (bits : List ℕ) → HaveWidths width ports → slice_get ports port ≡ Some bits → slice_get bits bit ≡ Some net → length bits ≡ width port
port_width width ports port bit net bits wide is_port is_bit =
    let inside = slice_get_within bits bit net is_bit in
    go (or_cases (length bits == 0) (length bits == width port) (subst (λ (b : List ℕ). IsTrue (has_width (width port) b)) (get_or_from_slice_get ports port bits [] is_port) (wide port (slice_get_within ports port bits is_port)))) inside
  where
    go : ((length bits == 0) ≡ true) ⊎ ((length bits == width port) ≡ true) → bit < length bits → length bits ≡ width port
    go (inl none) inside = let e = eqb-true (length bits) 0 none in absurd (omega (arith, e, inside))
    go (inr same) inside = eqb-true (length bits) (width port) same

-- ---- widths

only_long : (value : ℕ → Bit) (inputs : List (List ℕ)) → HaveWidths (λ input. 1) inputs → length (only_word 1 (map (word_at value) inputs)) ≡ 1
only_long value [] wide = refl
only_long value ([] ∷ []) wide = refl
only_long value ((bit ∷ bits) ∷ []) wide =
    length-map (bit ∷ bits) value ∙ port_width (λ input. 1) ((bit ∷ bits) ∷ []) 0 0 bit (bit ∷ bits) wide refl refl
only_long value ([] ∷ second ∷ more) wide = refl
only_long value ((bit ∷ bits) ∷ second ∷ more) wide = refl

-- the word at an output has the output's width
pub cell_long : (c : Cell) (s : State) (value : ℕ → Bit) (inputs : List (List ℕ)) (output : ℕ) → HaveWidths (input_width c) inputs → length (cell_word c s (map (word_at value) inputs) output) ≡ output_width c output
cell_long Not s value inputs output wide = length-not_word (only_word 1 (map (word_at value) inputs)) ∙ only_long value inputs wide
cell_long And s value inputs output wide = length-gate_word kind.And 1 (map (word_at value) inputs) false
cell_long Or s value inputs output wide = length-gate_word kind.Or 1 (map (word_at value) inputs) false

-- ---- defined words

-- a bit is defined
abbrev pub IsDefinedBit : Bit → Type 0
IsDefinedBit bit = (bit ≡ Zero) ⊎ (bit ≡ One)

-- a bit of a defined word, and 0 past its end
pub defined_bit : (word : List Bit) (bit : ℕ) → IsDefined word → IsDefinedBit (get_or word bit Zero)
defined_bit word bit h = go (cases_lt bit (length word))
  where
    go : (bit < length word) ⊎ (length word ≤ bit) → IsDefinedBit (get_or word bit Zero)
    go (inl less) = h bit Zero less
    go (inr past) = inl (get_or_past word bit Zero past)

-- the nets of ports have defined values
abbrev pub AreDefinedOn : (ℕ → Bit) → List (List ℕ) → Type 0
AreDefinedOn value ports = All (λ bits. All (λ net. IsDefinedBit (value net)) bits) ports

word_defined : (value : ℕ → Bit) (bits : List ℕ) → All (λ net. IsDefinedBit (value net)) bits → IsDefined (word_on value bits)
word_defined value [] h = All-nil IsDefinedBit
word_defined value (net ∷ bits) h = All-cons IsDefinedBit (value net) (map value bits) (h 0 net (omega arith)) (word_defined value bits (λ k d less. h (suc k) d (omega arith)))

attached_defined : (value : ℕ → Bit) (bits : List ℕ) → All (λ net. IsDefinedBit (value net)) bits → IfSome (word_at value bits) IsDefined
attached_defined value [] h = tt
attached_defined value (bit ∷ bits) h = word_defined value (bit ∷ bits) h

inputs_defined : (value : ℕ → Bit) (inputs : List (List ℕ)) → AreDefinedOn value inputs → CarryDefined (map (word_at value) inputs)
inputs_defined value [] h = All-nil (λ (input : Option (List Bit)). IfSome input IsDefined)
inputs_defined value (bits ∷ inputs) h =
    All-cons (λ (input : Option (List Bit)). IfSome input IsDefined) (word_at value bits) (map (word_at value) inputs) (attached_defined value bits (h 0 [] (omega arith)))
    (inputs_defined value inputs (λ k d less. h (suc k) d (omega arith)))

attached_wide : (value : ℕ → Bit) (bits : List ℕ) → IsTrue (has_width 1 bits) → IfSome (word_at value bits) (λ word. length word ≡ 1)
attached_wide value [] h = tt
attached_wide value (bit ∷ bits) h = length-map (bit ∷ bits) value ∙ port_width (λ input. 1) ((bit ∷ bits) ∷ []) 0 0 bit (bit ∷ bits) one refl refl
  where
    one : HaveWidths (λ input. 1) ((bit ∷ bits) ∷ [])
    one zero less = h
    one (suc k) less = absurd (omega (arith, less))

inputs_wide : (value : ℕ → Bit) (inputs : List (List ℕ)) → HaveWidths (λ input. 1) inputs → HaveWidth 1 (map (word_at value) inputs)
inputs_wide value [] h = All-nil (λ (input : Option (List Bit)). IfSome input (λ word. length word ≡ 1))
inputs_wide value (bits ∷ inputs) h =
    All-cons (λ (input : Option (List Bit)). IfSome input (λ word. length word ≡ 1)) (word_at value bits) (map (word_at value) inputs) (attached_wide value bits (h 0 (omega arith)))
    (inputs_wide value inputs (λ k less. h (suc k) (omega arith)))

not_loose : (bit : ℕ) (bits : List ℕ) → is_loose (bit ∷ bits) ≡ false
not_loose bit bits = ne_eqb (length (bit ∷ bits)) 0 (λ e. absurd (omega (arith, e)))

loose_gives_none : (value : ℕ → Bit) (inputs : List (List ℕ)) → list_all is_none (map (word_at value) inputs) ≡ list_all is_loose inputs
loose_gives_none value [] = refl
loose_gives_none value ([] ∷ inputs) = loose_gives_none value inputs
loose_gives_none value ((bit ∷ bits) ∷ inputs) = sym (ap (λ (b : Bool). b && list_all is_loose inputs) (not_loose bit bits))

-- a gate that is right has an attached input
some_attached : (n : Netlist) (p : PartUse) (ports : List (List ℕ)) → p.inputs ≡ ports → 1 ≤ length ports
    → ((input : ℕ) (bits : List ℕ) → slice_get p.inputs input ≡ Some bits → reads_undriven n p input bits ≡ false) → (reads_undriven n p 0 [] ≡ list_all is_loose p.inputs) → list_all is_loose p.inputs ≡ false
some_attached n p [] e some right ignored = absurd (omega (arith, some))
some_attached n p ([] ∷ ports) e some right ignored = sym ignored ∙ right 0 [] (ap (λ (ps : List (List ℕ)). slice_get ps 0) e)
some_attached n p ((bit ∷ bits) ∷ ports) e some right ignored = ap (list_all is_loose) e ∙ ap (λ (b : Bool). b && list_all is_loose ports) (not_loose bit bits)

gate_serves : (value : ℕ → Bit) (inputs : List (List ℕ)) → list_all is_loose inputs ≡ false → (list_all is_none (map (word_at value) inputs) || (false && list_any is_none (map (word_at value) inputs))) ≡ false
gate_serves value inputs h = ap (λ (b : Bool). b || false) (loose_gives_none value inputs ∙ h)

-- the only input of an inverter that is right is attached
only_attached : (value : ℕ → Bit) (inputs : List (List ℕ)) → length inputs ≡ 1 → (slice_get inputs 0 ≡ Some [] → ⊥) → AreDefinedOn value inputs → IsDefined (only_word 1 (map (word_at value) inputs))
only_attached value [] long attached h = absurd (omega (arith, long))
only_attached value ([] ∷ []) long attached h = absurd (attached refl)
only_attached value ((bit ∷ bits) ∷ []) long attached h = word_defined value (bit ∷ bits) (h 0 [] (omega arith))
only_attached value (first ∷ second ∷ more) long attached h = absurd (omega (arith, long))

-- the word at an output of a part of an accepted netlist is defined where the words of its inputs are
pub cell_defined : (n : Netlist) → IsAccepted n → (part : ℕ) (p : PartUse) → slice_get n.parts part ≡ Some p → (s : State) (value : ℕ → Bit) (output : ℕ) → AreDefinedOn value p.inputs → IsDefined (cell_word p.cell s (inputs_of value p) output)
cell_defined n accepted part p is_part s value output h = by_cell p.cell refl
  where
    fits : IsFittingPart n.nets p
    fits = part_at_fits n part p is_part

    right : (input : ℕ) (bits : List ℕ) → slice_get p.inputs input ≡ Some bits → reads_undriven n p input bits ≡ false
    right input bits is_input = input_is_right n accepted part input p bits is_part is_input

    by_cell : (c : Cell) → p.cell ≡ c → IsDefined (cell_word p.cell s (inputs_of value p) output)
    by_cell Not e =
        let takes = subst (λ (c : Cell). TakesInputs c (length p.inputs)) e fits.takes in
        let one : length p.inputs ≡ 1 = omega arith in
        let unknown : reads_undriven n p 0 [] ≡ true = ap (λ (c : Cell). lacks_input (loose_of c 0) p) e in
        subst (λ (c : Cell). IsDefined (cell_word c s (inputs_of value p) output)) (sym e)
        (not_word-defined (only_word 1 (inputs_of value p)) (only_attached value p.inputs one (λ loose. let no : true ≡ false = sym unknown ∙ right 0 [] loose in absurd (cc)) h))
    by_cell And e =
        let takes = subst (λ (c : Cell). TakesInputs c (length p.inputs)) e fits.takes in
        subst (λ (c : Cell). IsDefined (cell_word c s (inputs_of value p) output)) (sym e)
        (gate_word-defined kind.And 1 (inputs_of value p) false
        (gate_serves value p.inputs (some_attached n p p.inputs refl (omega arith) right (ap (λ (c : Cell). lacks_input (loose_of c 0) p) e)))
        (inputs_wide value p.inputs (subst (λ (c : Cell). HaveWidths (input_width c) p.inputs) e fits.input_widths)) (inputs_defined value p.inputs h))
    by_cell Or e =
        let takes = subst (λ (c : Cell). TakesInputs c (length p.inputs)) e fits.takes in
        subst (λ (c : Cell). IsDefined (cell_word c s (inputs_of value p) output)) (sym e)
        (gate_word-defined kind.Or 1 (inputs_of value p) false
        (gate_serves value p.inputs (some_attached n p p.inputs refl (omega arith) right (ap (λ (c : Cell). lacks_input (loose_of c 0) p) e)))
        (inputs_wide value p.inputs (subst (λ (c : Cell). HaveWidths (input_width c) p.inputs) e fits.input_widths)) (inputs_defined value p.inputs h))

-- The kind that was found by its name.
use Rattle.std.proofs.Common.{◌≡◌, ◌∙◌, sym, ap, ℕ, Bool, true, false, cond, List, [], ◌∷◌, Option, Some, None, ◌≢◌, refl}
use Rattle.std.specs.Prelude.{find, MatchOption}
use Rattle.std.specs.Str.{bytes_eq}
use Rattle.std.proofs.lemmas.Slice.Eq.{bytes_eq-Decides}
use Rattle.lg_kinds.specs.declared.kind.Kind.{Kind}
use Rattle.lg_kinds.specs.declared.kind.Kind.TheVariants.{Pin, Tunnel, Splitter, Clock, Constant, Power, Ground, PullResistor, BitExtender, NotGate, Buffer, AndGate, OrGate, NandGate, NorGate, XorGate, XnorGate, OddParity, EvenParity, ControlledBuffer, ControlledInverter, Multiplexer, Demultiplexer, Decoder, PriorityEncoder, BitSelector, Adder, Subtractor, Multiplier, Divider, Negator, Comparator, Shifter, BitAdder, DFlipFlop, TFlipFlop, JkFlipFlop, SrFlipFlop, Register, Counter, ShiftRegister, Rom, Ram, Probe, Led, Text, HexDisplay, SegmentDisplay}
use Rattle.lg_kinds.specs.declared.kind.TheConstants.{KINDS}
use Rattle.lg_kinds.specs.Table.{name_of}

same_kind : (x y : Kind) → Some x ≡ Some y → x ≡ y
same_kind x y h = cc

first_or_later : (name : List ℕ) (k kind : Kind) (later : Option Kind) → (later ≡ Some kind → name_of kind ≡ name) → (b : Bool) → bytes_eq (name_of k) name ≡ b → cond b (Some k) later ≡ Some kind → name_of kind ≡ name
first_or_later name k kind later rest true h e = ap name_of (sym (same_kind k kind e)) ∙ (bytes_eq-Decides (name_of k) name).0 h
first_or_later name k kind later rest false h e = rest e

-- a kind that was found has the name
pub found_named : (name : List ℕ) (kinds : List Kind) (kind : Kind) → find (λ kind. bytes_eq (name_of kind) name) kinds ≡ Some kind → name_of kind ≡ name
found_named name [] kind e = cc
found_named name (k ∷ kinds) kind e =
    first_or_later name k kind (find (λ kind. bytes_eq (name_of kind) name) kinds) (found_named name kinds kind) (bytes_eq (name_of k) name) refl e

-- each kind is the first of its name
each_found : (kind : Kind) → find (λ k. bytes_eq (name_of k) (name_of kind)) KINDS ≡ Some kind
each_found Pin = refl
each_found Tunnel = refl
each_found Splitter = refl
each_found Clock = refl
each_found Constant = refl
each_found Power = refl
each_found Ground = refl
each_found PullResistor = refl
each_found BitExtender = refl
each_found NotGate = refl
each_found Buffer = refl
each_found AndGate = refl
each_found OrGate = refl
each_found NandGate = refl
each_found NorGate = refl
each_found XorGate = refl
each_found XnorGate = refl
each_found OddParity = refl
each_found EvenParity = refl
each_found ControlledBuffer = refl
each_found ControlledInverter = refl
each_found Multiplexer = refl
each_found Demultiplexer = refl
each_found Decoder = refl
each_found PriorityEncoder = refl
each_found BitSelector = refl
each_found Adder = refl
each_found Subtractor = refl
each_found Multiplier = refl
each_found Divider = refl
each_found Negator = refl
each_found Comparator = refl
each_found Shifter = refl
each_found BitAdder = refl
each_found DFlipFlop = refl
each_found TFlipFlop = refl
each_found JkFlipFlop = refl
each_found SrFlipFlop = refl
each_found Register = refl
each_found Counter = refl
each_found ShiftRegister = refl
each_found Rom = refl
each_found Ram = refl
each_found Probe = refl
each_found Led = refl
each_found Text = refl
each_found HexDisplay = refl
each_found SegmentDisplay = refl

-- names of kinds differ
pub kind_named_same : (a b : Kind) → name_of a ≡ name_of b → a ≡ b
kind_named_same a b e =
    same_kind a b (sym (each_found a) ∙ (ap (λ (name : List ℕ). find (λ k. bytes_eq (name_of k) name) KINDS) e ∙ each_found b))

-- a kind of the name is the one that was found
pub found_only : (name : List ℕ) (found kind : Kind) → find (λ k. bytes_eq (name_of k) name) KINDS ≡ Some found → name_of kind ≡ name → kind ≡ found
found_only name found kind e named = let one = each_found kind in let there = rw named at one in same_kind kind found (sym there ∙ e)

-- where none was found, none has the name
pub none_found : (name : List ℕ) (kind : Kind) → find (λ k. bytes_eq (name_of k) name) KINDS ≡ None → name_of kind ≢ name
none_found name kind e named = let one = each_found kind in let there = rw named at one in cc

-- what a look-up of a name gives
pub looked_up : (name : List ℕ) (o : Option Kind) → o ≡ find (λ k. bytes_eq (name_of k) name) KINDS → MatchOption o ((kind : Kind) → name_of kind ≢ name) (λ found. (name_of found ≡ name) × ((kind : Kind) → name_of kind ≡ name → kind ≡ found))
looked_up name None e = λ kind. none_found name kind (sym e)
looked_up name (Some found) e = (found_named name KINDS found (sym e), λ kind named. found_only name found kind (sym e) named)

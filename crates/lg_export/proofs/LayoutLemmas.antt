-- One turn of each loop that lays out a part of the module, and what is known of each pin in it.
use Rattle.std.proofs.Common.{◌≡◌, ℕ, suc, ◌+◌, ◌<◌, Bool, true, false, not, cond, IsTrue, ◌↔◌, List, [], ◌∷◌, ◌++◌, length, filter, get_or, drop, refl, sym, ap, ◌∙◌, arith}
use Rattle.std.specs.Prelude.{◌==◌, All}
use Rattle.std.specs.List.{enumerate_from}
use Rattle.std.proofs.lemmas.Bool.{eqb-true, false≢true}
use Rattle.std.proofs.lemmas.List.{at_drop_more}
use Rattle.std.proofs.lemmas.List.Elements.{All-nil, All-cons, All-head, All-tail, All-same, All-map, All-filter}
use Rattle.lg_netlist.specs.declared.netlist.PinUse.{PinUse}
use Rattle.lg_netlist.specs.declared.netlist.Netlist.{Netlist}
use Rattle.lg_netlist.specs.Static.{data_pins, input_pins, output_pins}
use Rattle.lg_netlist.specs.Valid.{IsFittingPin}
use Rattle.lg_netlist.proofs.PinLemmas.{is_data, data_pins_from, data_pins-from}
use Rattle.lg_vtree.specs.declared.module.Direction.TheVariants.{Input, Output}
use Rattle.lg_vtree.specs.declared.module.Port.{Port}
use Rattle.lg_vtree.specs.declared.module.Assign.{Assign}
use Rattle.lg_export.specs.Layout.{input_name, output_name, bits_value, range_of}

-- the port of an input pin and of an output pin, and an output pin's equation
abbrev pub input_port : PinUse → Port
input_port p = record { direction = Input; range = range_of (length p.bits); name = input_name p }

abbrev pub output_port : PinUse → Port
output_port p = record { direction = Output; range = range_of (length p.bits); name = output_name p }

abbrev pub output_assign : Netlist → PinUse → Assign
output_assign n p = record { name = output_name p; value = bits_value n p.bits }

-- the attached ones among some inputs, numbered from an index
abbrev pub attached_from : ℕ → List (List ℕ) → List (ℕ × List ℕ)
attached_from index inputs = filter (λ (i : ℕ × List ℕ). not (length i.1 == 0)) (enumerate_from index inputs)

not_none : (n : ℕ) (t : Bool) → (suc n == 0) ≡ t → t ≡ false
not_none n true e = let none : suc n ≡ 0 = eqb-true (suc n) 0 e in absurd (omega arith)
not_none n false e = refl

-- an input more, where it is attached and where it is not
attached_one : (index : ℕ) (bits : List ℕ) (inputs : List (List ℕ)) (b : Bool) → IsTrue b ↔ (bits ≡ []) → attached_from index (bits ∷ inputs) ≡ cond b [] ((index, bits) ∷ []) ++ attached_from (index + 1) inputs
attached_one index [] inputs true h = refl
attached_one index [] inputs false h = absurd (false≢true (h.1 refl))
attached_one index (net ∷ bits) inputs true h = absurd (cc (h.0 refl))
attached_one index (net ∷ bits) inputs false h = let one : (length (net ∷ bits) == 0) ≡ false = not_none (length bits) (suc (length bits) == 0) refl in rw one refl

pub attached-more : (inputs : List (List ℕ)) (i : ℕ) (bits : List ℕ) (b : Bool) → i < length inputs → bits ≡ get_or inputs i bits → IsTrue b ↔ (bits ≡ [])
    → attached_from i (drop i inputs) ≡ cond b [] ((i, bits) ∷ []) ++ attached_from (i + 1) (drop (i + 1) inputs)
attached-more inputs i bits b less is h =
    at_drop_more (attached_from i) inputs i bits less ∙ (ap (λ (x : List ℕ). attached_from i (x ∷ drop (i + 1) inputs)) (sym is) ∙ attached_one i bits (drop (i + 1) inputs) b h)

numbered_all : {A : Type 0} (P : A → Type 0) (k : ℕ) (xs : List A) → All P xs → All (λ (p : ℕ × A). P p.1) (enumerate_from k xs)
numbered_all {A = A} P k [] all = All-nil (λ (p : ℕ × A). P p.1)
numbered_all {A = A} P k (x ∷ xs) all =
    All-cons (λ (p : ℕ × A). P p.1) (k, x) (enumerate_from (k + 1) xs) (All-head P x xs all) (numbered_all P (k + 1) xs (All-tail P x xs all))

-- what holds of each pin holds of those that are data
pub data_all : (P : PinUse → Type 0) (n : Netlist) → All P n.pins → All P (data_pins n)
data_all P n all =
    All-same P (data_pins n) (data_pins_from n.clock_pin 0 n.pins) (data_pins-from n)
    (All-map P (λ (p : ℕ × PinUse). p.1) (filter (λ (p : ℕ × PinUse). is_data n.clock_pin p.0) (enumerate_from 0 n.pins))
    (All-filter (λ (p : ℕ × PinUse). is_data n.clock_pin p.0) (λ (p : ℕ × PinUse). P p.1) (enumerate_from 0 n.pins) (numbered_all P 0 n.pins all)))

pub inputs_fit : (n : Netlist) → All (IsFittingPin n.nets) (input_pins n)
inputs_fit n = All-filter (λ (p : PinUse). p.input) (IsFittingPin n.nets) (data_pins n) (data_all (IsFittingPin n.nets) n n.valid.pins_fit)

pub outputs_fit : (n : Netlist) → All (IsFittingPin n.nets) (output_pins n)
outputs_fit n = All-filter (λ (p : PinUse). not p.input) (IsFittingPin n.nets) (data_pins n) (data_all (IsFittingPin n.nets) n n.valid.pins_fit)

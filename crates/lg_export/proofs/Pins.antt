-- The pins of a netlist without clocks: all are data pins, each fits, and their names differ.
use Rattle.std.proofs.Common.{◌≡◌, ℕ, suc, ◌+◌, Bool, true, false, not, List, [], ◌∷◌, length, map, filter, Option, None, Some, refl, sym, ap, subst, ◌∙◌, arith, inl, inr}
use Rattle.std.specs.Prelude.{◌==◌, is_none, slice_get}
use Rattle.std.specs.List.{AllByRecursion, enumerate_from, IsDistinct}
use Rattle.std.specs.Str.{bytes_eq}
use Rattle.std.proofs.lemmas.Bool.{eqb-true, false≢true, and_parts}
use Rattle.std.proofs.lemmas.Option.{get_or_from_slice_get, slice_get_within}
use Rattle.std.proofs.lemmas.Slice.Eq.{bytes_eq-Decides}
use Rattle.lg_netlist.specs.declared.netlist.PartUse.{PartUse}
use Rattle.lg_netlist.specs.declared.netlist.PinUse.{PinUse}
use Rattle.lg_netlist.specs.declared.netlist.Netlist.{Netlist}
use Rattle.lg_netlist.specs.Static.{data_pins, input_pins, output_pins, has_no_clock}
use Rattle.lg_netlist.specs.Valid.{IsFittingPart, IsFittingPin}
use Rattle.lg_vmeaning.specs.InOrder.{IsIn, AllDiffer}
use Rattle.lg_export.proofs.Items.{IsItem, at_item, item_of_filter}

all_data : (n : Netlist) → n.clock_pin ≡ None → data_pins n ≡ n.pins
all_data n e = rw e (all_kept 0 n.pins)
  where
    all_kept : (k : ℕ) (pins : List PinUse) → map (λ (p : ℕ × PinUse). p.1) (filter (λ (p : ℕ × PinUse). true) (enumerate_from k pins)) ≡ pins
    all_kept k [] = refl
    all_kept k (p ∷ pins) = ap (λ (ps : List PinUse). p ∷ ps) (all_kept (k + 1) pins)

no_items : {A : Type 0} (xs : List A) → (length xs == 0) ≡ true → xs ≡ []
no_items [] h = refl
no_items (x ∷ xs) h = let none : suc (length xs) ≡ 0 = eqb-true (suc (length xs)) 0 h in absurd (omega (arith, none))

none_is : {A : Type 0} (o : Option A) → is_none o ≡ true → o ≡ None
none_is None h = refl
none_is (Some x) h = absurd (false≢true h)

pub no_clocks : (n : Netlist) → has_no_clock n ≡ true → n.clocks ≡ []
no_clocks n clockless = no_items n.clocks (and_parts (length n.clocks == 0) (is_none n.clock_pin) clockless).0

pub data_pins-are : (n : Netlist) → has_no_clock n ≡ true → data_pins n ≡ n.pins
data_pins-are n clockless = all_data n (none_is n.clock_pin (and_parts (length n.clocks == 0) (is_none n.clock_pin) clockless).1)

-- a pin of a netlist, with its index
pub record IsPinOf (n : Netlist) (input : Bool) (p : PinUse) : Type 0 where
  pub index : ℕ
  pub stands : slice_get n.pins index ≡ Some p
  pub fits : IsFittingPin n.nets p
  pub direction : p.input ≡ input

pin_at : (n : Netlist) (input : Bool) (p : PinUse) → p.input ≡ input → IsItem n.pins p → IsPinOf n input p
pin_at n input p direction here =
    let at = at_item n.pins p here in
    let less = slice_get_within n.pins at.0 p at.1 in
    record {
      index = at.0;
      stands = at.1;
      fits = subst (IsFittingPin n.nets) (get_or_from_slice_get n.pins at.0 p p at.1) (n.valid.pins_fit at.0 p less);
      direction = direction;
    }

pub input_pin : (n : Netlist) → has_no_clock n ≡ true → (p : PinUse) → IsItem (input_pins n) p → IsPinOf n true p
input_pin n clockless p here =
    let all : input_pins n ≡ filter (λ (p : PinUse). p.input) n.pins = ap (filter (λ (p : PinUse). p.input)) (data_pins-are n clockless) in
    let r = item_of_filter (λ (p : PinUse). p.input) n.pins p (subst (λ (pins : List PinUse). IsItem pins p) all here) in
    pin_at n true p r.1 r.0

is_output : (b : Bool) → not b ≡ true → b ≡ false
is_output true e = sym e
is_output false e = refl

pub output_pin : (n : Netlist) → has_no_clock n ≡ true → (p : PinUse) → IsItem (output_pins n) p → IsPinOf n false p
output_pin n clockless p here =
    let all : output_pins n ≡ filter (λ (p : PinUse). not p.input) n.pins = ap (filter (λ (p : PinUse). not p.input)) (data_pins-are n clockless) in
    let r = item_of_filter (λ (p : PinUse). not p.input) n.pins p (subst (λ (pins : List PinUse). IsItem pins p) all here) in
    pin_at n false p (is_output p.input r.1) r.0

-- the part of a number fits
pub part_fits : (n : Netlist) (k : ℕ) (p : PartUse) → slice_get n.parts k ≡ Some p → IsFittingPart n.nets p
part_fits n k p at = subst (IsFittingPart n.nets) (get_or_from_slice_get n.parts k p p at) (n.valid.parts_fit k p (slice_get_within n.parts k p at))

-- ---- names

abbrev NoneNamed : List ℕ → List PinUse → Type 0
NoneNamed name [] = Unit {0}
NoneNamed name (p ∷ pins) = (name ≡ p.name → ⊥) × NoneNamed name pins

abbrev NamesDiffer : List PinUse → Type 0
NamesDiffer [] = Unit {0}
NamesDiffer (p ∷ pins) = NoneNamed p.name pins × NamesDiffer pins

NoneNamed-from : (name : List ℕ) (pins : List PinUse) → AllByRecursion (λ (other : List ℕ). bytes_eq name other ≡ false) (map (λ (p : PinUse). p.name) pins) → NoneNamed name pins
NoneNamed-from name [] h = tt
NoneNamed-from name (p ∷ pins) h = (λ e. false≢true (sym h.0 ∙ (bytes_eq-Decides name p.name).1 e), NoneNamed-from name pins h.1)

NamesDiffer-from : (pins : List PinUse) → IsDistinct bytes_eq (map (λ (p : PinUse). p.name) pins) → NamesDiffer pins
unfolding IsDistinct
NamesDiffer-from [] h = tt
NamesDiffer-from (p ∷ pins) h = (NoneNamed-from p.name pins h.0, NamesDiffer-from pins h.1)

NoneNamed-filter : (test : PinUse → Bool) (name : List ℕ) (pins : List PinUse) → NoneNamed name pins → NoneNamed name (filter test pins)
NoneNamed-filter test name [] h = tt
NoneNamed-filter test name (p ∷ pins) h = by (test p) refl (NoneNamed-filter test name pins h.1)
  where
    by : (t : Bool) → test p ≡ t → NoneNamed name (filter test pins) → NoneNamed name (filter test (p ∷ pins))
    by true e rest = rw e (h.0, rest)
    by false e rest = rw e rest

NamesDiffer-filter : (test : PinUse → Bool) (pins : List PinUse) → NamesDiffer pins → NamesDiffer (filter test pins)
NamesDiffer-filter test [] h = tt
NamesDiffer-filter test (p ∷ pins) h = by (test p) refl (NamesDiffer-filter test pins h.1)
  where
    by : (t : Bool) → test p ≡ t → NamesDiffer (filter test pins) → NamesDiffer (filter test (p ∷ pins))
    by true e rest = rw e (NoneNamed-filter test p.name pins h.0, rest)
    by false e rest = rw e rest

-- names that are made from those of pins
other_name : (f : PinUse → List ℕ) → ((p q : PinUse) → f p ≡ f q → p.name ≡ q.name) → (p : PinUse) (pins : List PinUse) → NoneNamed p.name pins → IsIn (map f pins) (f p) → ⊥
other_name f same p [] none here = absurd here
other_name f same p (q ∷ pins) none (inl e) = none.0 (same p q e)
other_name f same p (q ∷ pins) none (inr here) = other_name f same p pins none.1 here

made_differ : (f : PinUse → List ℕ) → ((p q : PinUse) → f p ≡ f q → p.name ≡ q.name) → (pins : List PinUse) → NamesDiffer pins → AllDiffer (map f pins)
made_differ f same [] differ = tt
made_differ f same (p ∷ pins) differ = (other_name f same p pins differ.0, made_differ f same pins differ.1)

pub input_names_differ : (n : Netlist) → has_no_clock n ≡ true → (f : PinUse → List ℕ) → ((p q : PinUse) → f p ≡ f q → p.name ≡ q.name) → AllDiffer (map f (input_pins n))
input_names_differ n clockless f same =
    made_differ f same (input_pins n) (NamesDiffer-filter (λ (p : PinUse). p.input) (data_pins n) (subst NamesDiffer (sym (data_pins-are n clockless)) (NamesDiffer-from n.pins n.valid.names_differ)))

pub output_names_differ : (n : Netlist) → has_no_clock n ≡ true → (f : PinUse → List ℕ) → ((p q : PinUse) → f p ≡ f q → p.name ≡ q.name) → AllDiffer (map f (output_pins n))
output_names_differ n clockless f same =
    made_differ f same (output_pins n) (NamesDiffer-filter (λ (p : PinUse). not p.input) (data_pins n) (subst NamesDiffer (sym (data_pins-are n clockless)) (NamesDiffer-from n.pins n.valid.names_differ)))

-- In an accepted netlist without clocks each net that is read is driven by one output or one input pin.
use Rattle.std.proofs.Common.{◌≡◌, ℕ, zero, suc, ◌+◌, ◌≤◌, Bool, true, false, not, List, [], ◌∷◌, length, filter, Option, Some, None, refl, sym, ap, subst, ◌∙◌, arith, inl, inr, ◌⊎◌}
use Rattle.std.specs.Prelude.{slice_get, Contains}
use Rattle.std.proofs.lemmas.Option.{same_Some, none-some}
use Rattle.lg_netlist.specs.declared.drivers.Driver.{Driver}
use Rattle.lg_netlist.specs.declared.drivers.Driver.TheVariants.{Part, Pin, Clock}
use Rattle.lg_netlist.specs.declared.netlist.PinUse.{PinUse}
use Rattle.lg_netlist.specs.declared.netlist.Netlist.{Netlist}
use Rattle.lg_netlist.specs.Acceptance.{IsAccepted, is_undriven}
use Rattle.lg_netlist.specs.Drivers.{drivers}
use Rattle.lg_netlist.specs.Static.{input_pins, data_pins, has_no_clock}
use Rattle.lg_netlist.proofs.DriverFacts.{IsSourceOf, is_driven}
use Rattle.lg_netlist.proofs.AcceptedFacts.{has_driver, read_is_driven, shown_is_driven}
use Rattle.lg_netlist.proofs.PinLemmas.{data_pins_from, data_pins-from}
use Rattle.lg_netlist.proofs.StaticLemmas.{no_clocks, all_input_pins}
use Rattle.lg_sim.proofs.DrivenBits.{IsOutputBit, IsPinBit}
use Rattle.lg_sim.proofs.StaticNets.{IsDriven}

-- what passes a test stands among what passes it
passes_at : {A : Type 0} (test : A → Bool) (xs : List A) (i : ℕ) (x : A) → slice_get xs i ≡ Some x → test x ≡ true → (place : ℕ) × (slice_get (filter test xs) place ≡ Some x)
passes_at test [] i x there e = absurd (none-some x there)
passes_at {A = A} test (y ∷ xs) zero x there e =
    let same : y ≡ x = same_Some y x there in
    let passes : test y ≡ true = ap test same ∙ e in
    (0, rw passes there)
passes_at {A = A} test (y ∷ xs) (suc i) x there e = by (test y) refl (passes_at test xs i x there e)
  where
    by : (b : Bool) → test y ≡ b → (place : ℕ) × (slice_get (filter test xs) place ≡ Some x) → (place : ℕ) × (slice_get (filter test (y ∷ xs)) place ≡ Some x)
    by true b found = (suc found.0, rw b found.1)
    by false b found = (found.0, rw b found.1)

-- and what stands there stands among all, and passes
from_passes : {A : Type 0} (test : A → Bool) (xs : List A) (place : ℕ) (x : A) → slice_get (filter test xs) place ≡ Some x → (i : ℕ) × (slice_get xs i ≡ Some x) × (test x ≡ true)
from_passes test [] place x there = absurd (none-some x there)
from_passes {A = A} test (y ∷ xs) place x there = by (test y) refl place there (λ k at. from_passes test xs k x at)
  where
    by : (b : Bool) → test y ≡ b → (k : ℕ) → slice_get (filter test (y ∷ xs)) k ≡ Some x
        → ((j : ℕ) → slice_get (filter test xs) j ≡ Some x → (i : ℕ) × (slice_get xs i ≡ Some x) × (test x ≡ true))
        → (i : ℕ) × (slice_get (y ∷ xs) i ≡ Some x) × (test x ≡ true)
    by true b zero at rest =
        let here : Some y ≡ Some x = rw b at at in
        (0, here, ap test (sym (same_Some y x here)) ∙ b)
    by true b (suc k) at rest =
        let later : slice_get (filter test xs) k ≡ Some x = rw b at at in
        let found = rest k later in
        (suc found.0, found.1, found.2)
    by false b k at rest =
        let later : slice_get (filter test xs) k ≡ Some x = rw b at at in
        let found = rest k later in
        (suc found.0, found.1, found.2)

-- no net has two drivers
few_drivers : (n : Netlist) → IsAccepted n → (net : ℕ) → length (drivers n net) ≤ 1
few_drivers n accepted net = by (drivers n net) refl
  where
    by : (ds : List Driver) → drivers n net ≡ ds → length (drivers n net) ≤ 1
    by [] e = omega (arith, ap length e)
    by (d ∷ more) e =
        let drives : Contains (drivers n net) d = subst (λ (ds : List Driver). Contains ds d) (sym e) (0, omega arith, refl) in
        let one = has_driver n accepted net (is_driven n net d drives) in
        omega (arith, ap length one.alone)

-- a driven net is on a bit of an output or of an input pin
comes_from : (n : Netlist) → has_no_clock n ≡ true → IsAccepted n → (net : ℕ) → is_undriven n net ≡ false → IsOutputBit n net ⊎ IsPinBit n net
comes_from n none accepted net driven =
    let one = has_driver n accepted net driven in
    by one.driver one.source
  where
    by : (d : Driver) → IsSourceOf n d net → IsOutputBit n net ⊎ IsPinBit n net
    by (Part part output bit) h = inl (record { part = part; output = output; bit = bit; used = h.0; bits = h.1; is_part = h.2; is_output = h.3; is_bit = h.4 })
    by (Pin pin bit) h =
        let found = passes_at (λ (p : PinUse). p.input) n.pins pin h.0 h.1 h.2 in
        let is_pin : slice_get (input_pins n) found.0 ≡ Some h.0 = ap (λ (pins : List PinUse). slice_get pins found.0) (all_input_pins n none) ∙ found.1 in
        inr (record { place = found.0; bit = bit; pin = h.0; is_pin = is_pin; is_bit = h.3 })
    by (Clock clock) h =
        let gone : slice_get [] clock ≡ Some h.0 = subst (λ (cs : List (ℕ × List ℕ)). slice_get cs clock ≡ Some h.0) (no_clocks n none).0 h.1 in
        absurd (none-some h.0 gone)

not_true : (b : Bool) → not b ≡ true → b ≡ false
not_true true h = absurd (cc)
not_true false h = refl

-- without a clock pin all pins hold data
all_data_pins : (n : Netlist) → has_no_clock n ≡ true → data_pins n ≡ n.pins
all_data_pins n none = data_pins-from n ∙ (ap (λ (clock : Option ℕ). data_pins_from clock 0 n.pins) (no_clocks n none).1 ∙ all_kept 0 n.pins)
  where
    all_kept : (k : ℕ) (pins : List PinUse) → data_pins_from None k pins ≡ pins
    all_kept k [] = refl
    all_kept k (p ∷ pins) = ap (λ (ps : List PinUse). p ∷ ps) (all_kept (k + 1) pins)

pub driven_when_accepted : (n : Netlist) → has_no_clock n ≡ true → IsAccepted n → IsDriven n
driven_when_accepted n none accepted = record {
  no_clock = none;
  few = few_drivers n accepted;
  read = λ part input i net p bits is_part is_input is_bit.
      comes_from n none accepted net (read_is_driven n accepted part input i net p bits is_part is_input is_bit).1;
  shown = λ place i net pin is_pin is_bit.
      let among : slice_get (filter (λ (p : PinUse). not p.input) n.pins) place ≡ Some pin = subst (λ (pins : List PinUse). slice_get (filter (λ (p : PinUse). not p.input) pins) place ≡ Some pin) (all_data_pins n none) is_pin in
      let found = from_passes (λ (p : PinUse). not p.input) n.pins place pin among in
      comes_from n none accepted net (shown_is_driven n accepted found.0 i net pin found.1 (not_true pin.input found.2) is_bit).1;
}

-- Where the bits come from that parts and output pins of an accepted netlist read: an input pin, or an output of a part.
use Rattle.std.proofs.Common.{◌≡◌, ℕ, ◌<◌, false, true, List, [], length, option_map, unwrap_or, Option, Some, refl, sym, ap, subst, ◌∙◌, arith}
use Rattle.std.specs.Prelude.{slice_get, Contains}
use Rattle.std.proofs.lemmas.Option.{slice_get_within}
use Rattle.lg_netlist.specs.declared.drivers.Driver.{Driver}
use Rattle.lg_netlist.specs.declared.drivers.Driver.TheVariants.{Part, Pin, Clock}
use Rattle.lg_netlist.specs.declared.netlist.PartUse.{PartUse}
use Rattle.lg_netlist.specs.declared.netlist.PinUse.{PinUse}
use Rattle.lg_netlist.specs.declared.netlist.Netlist.{Netlist}
use Rattle.lg_netlist.specs.Acceptance.{IsAccepted, is_undriven}
use Rattle.lg_netlist.specs.Cell.{output_width}
use Rattle.lg_netlist.specs.Drivers.{drivers, first_driver}
use Rattle.lg_netlist.specs.Static.{data_pins, input_pins, output_pins, has_no_clock}
use Rattle.lg_netlist.proofs.AcceptedFacts.{one_driver, read_is_driven, shown_is_driven}
use Rattle.lg_netlist.proofs.DriverFacts.{All-at, place_of, IsSourceOf, driver_is}
use Rattle.lg_export.specs.Layout.{input_name, output_wire, attached, bit_of, bit_on}
use Rattle.lg_export.specs.Readable.{IsFed}
use Rattle.lg_export.proofs.Accepted.{CanBeLaidOut-accepted}
use Rattle.lg_export.proofs.Items.{IsItem, item_at, filter_item}
use Rattle.lg_export.proofs.Pins.{no_clocks, data_pins-are, output_pin, part_fits}

-- the bit that a net carries is a bit of an input pin, or of the output of a part
pub data Source (n : Netlist) (net : ℕ) : Type 0 where
  FromPin : (p : PinUse) (bit : ℕ) → IsItem (input_pins n) p → slice_get p.bits bit ≡ Some net → bit_on n net ≡ record { name = input_name p; width = length p.bits; index = bit } → Source n net
  FromPart : (k : ℕ) (p : PartUse) (bits : List ℕ) (bit : ℕ) → slice_get n.parts k ≡ Some p → slice_get p.outputs 0 ≡ Some bits → slice_get bits bit ≡ Some net
      → bit_on n net ≡ record { name = output_wire k 0; width = output_width p.cell 0; index = bit } → Source n net

is_part : (n : Netlist) (part output bit net : ℕ) (p : PartUse) (bits : List ℕ) → slice_get n.parts part ≡ Some p → slice_get p.outputs output ≡ Some bits → slice_get bits bit ≡ Some net
    → first_driver n net ≡ Some (Part part output bit) → Source n net
is_part n part output bit net p bits at_part at_output at_bit first =
    let zeroth : output ≡ 0 = omega (arith, slice_get_within p.outputs output bits at_output, (part_fits n part p at_part).gives) in
    let at : slice_get p.outputs 0 ≡ Some bits = subst (λ (o : ℕ). slice_get p.outputs o ≡ Some bits) zeroth at_output in
    let whole : bit_on n net ≡ bit_of n (Part part output bit) = ap (λ (d : Option Driver). unwrap_or (option_map (bit_of n) d) (record { name = []; width = 0; index = 0 })) first in
    FromPart part p bits bit at_part at at_bit (whole ∙ (rw at_part refl ∙ ap (λ (o : ℕ). record { name = output_wire part o; width = output_width p.cell o; index = bit }) zeroth))

is_pin : (n : Netlist) → has_no_clock n ≡ true → (pin bit net : ℕ) (p : PinUse) → slice_get n.pins pin ≡ Some p → p.input ≡ true → slice_get p.bits bit ≡ Some net → first_driver n net ≡ Some (Pin pin bit) → Source n net
is_pin n clockless pin bit net p at_pin input at_bit first =
    let whole : bit_on n net ≡ bit_of n (Pin pin bit) = ap (λ (d : Option Driver). unwrap_or (option_map (bit_of n) d) (record { name = []; width = 0; index = 0 })) first in
    let among : IsItem (input_pins n) p =
    filter_item (λ (p : PinUse). p.input) (data_pins n) p (subst (λ (pins : List PinUse). IsItem pins p) (sym (data_pins-are n clockless)) (item_at n.pins pin p at_pin)) input in
    FromPin p bit among at_bit (whole ∙ rw at_pin refl)

-- a net that something drives has one source
source : (n : Netlist) → has_no_clock n ≡ true → IsAccepted n → (net : ℕ) → net < n.nets → is_undriven n net ≡ false → Source n net
source n clockless accepted net less driven =
    let one = one_driver n accepted net less driven in
    let first : first_driver n net ≡ Some one.0 = ap (λ (ds : List Driver). slice_get ds 0) one.1 in
    by one.0 first (All-at (λ (d : Driver). IsSourceOf n d net) (drivers n net) 0 one.0 (driver_is n net) first)
  where
    by : (d : Driver) → first_driver n net ≡ Some d → IsSourceOf n d net → Source n net
    by (Part part output bit) first (p, bits, at_part, at_output, at_bit) = is_part n part output bit net p bits at_part at_output at_bit first
    by (Pin pin bit) first (p, at_pin, input, at_bit) = is_pin n clockless pin bit net p at_pin input at_bit first
    by (Clock clock) first (c, at, on) = let never : slice_get [] clock ≡ Some c = subst (λ (clocks : List (ℕ × List ℕ)). slice_get clocks clock ≡ Some c) (no_clocks n clockless) at in absurd (cc never)

-- ---- what parts and output pins read

input_known : (n : Netlist) → IsAccepted n → (k : ℕ) (p : PartUse) (i : ℕ) (bits : List ℕ) → slice_get n.parts k ≡ Some p → slice_get p.inputs i ≡ Some bits → (net : ℕ) → Contains bits net → (net < n.nets) × (is_undriven n net ≡ false)
input_known n accepted k p i bits at here net on = let bit = place_of bits net on in read_is_driven n accepted k i bit.0 net p bits at here bit.1

pub input_driven : (n : Netlist) → has_no_clock n ≡ true → IsAccepted n → (k : ℕ) (p : PartUse) (i : ℕ) (bits : List ℕ) → slice_get n.parts k ≡ Some p → slice_get p.inputs i ≡ Some bits → (net : ℕ) → Contains bits net → is_undriven n net ≡ false
input_driven n clockless accepted k p i bits at here net on = (input_known n accepted k p i bits at here net on).1

pub input_source : (n : Netlist) → has_no_clock n ≡ true → IsAccepted n → (k : ℕ) (p : PartUse) (i : ℕ) (bits : List ℕ) → slice_get n.parts k ≡ Some p → slice_get p.inputs i ≡ Some bits → (net : ℕ) → Contains bits net → Source n net
input_source n clockless accepted k p i bits at here net on = let known = input_known n accepted k p i bits at here net on in source n clockless accepted net known.0 known.1

pin_known : (n : Netlist) → has_no_clock n ≡ true → IsAccepted n → (p : PinUse) → IsItem (output_pins n) p → (net : ℕ) → Contains p.bits net → (net < n.nets) × (is_undriven n net ≡ false)
pin_known n clockless accepted p here net on = let pin = output_pin n clockless p here in let bit = place_of p.bits net on in shown_is_driven n accepted pin.index bit.0 net p pin.stands pin.direction bit.1

pub pin_driven : (n : Netlist) → has_no_clock n ≡ true → IsAccepted n → (p : PinUse) → IsItem (output_pins n) p → (net : ℕ) → Contains p.bits net → is_undriven n net ≡ false
pin_driven n clockless accepted p here net on = (pin_known n clockless accepted p here net on).1

pub pin_source : (n : Netlist) → has_no_clock n ≡ true → IsAccepted n → (p : PinUse) → IsItem (output_pins n) p → (net : ℕ) → Contains p.bits net → Source n net
pin_source n clockless accepted p here net on = let known = pin_known n clockless accepted p here net on in source n clockless accepted net known.0 known.1

pub fed : (n : Netlist) → has_no_clock n ≡ true → IsAccepted n → (k : ℕ) (p : PartUse) → slice_get n.parts k ≡ Some p → 0 < length (attached p)
fed n clockless accepted k p at = (All-at (IsFed n) n.parts k p (CanBeLaidOut-accepted n clockless accepted).fed at).has_input

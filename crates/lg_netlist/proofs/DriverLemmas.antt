-- Drivers are on nets of the netlist, and are parts, pins and clocks of it.
use Rattle.std.proofs.Common.{◌≡◌, ℕ, ◌+◌, ◌<◌, ◌≤◌, ◌^◌, Bool, true, false, List, [], ◌∷◌, ◌++◌, length, refl, sym, subst, ap, ◌∙◌, arith, cond, if◌then◌else◌}
use Rattle.std.specs.Prelude.{All, ◌==◌, map, filter}
use Rattle.std.specs.List.{flat_map, enumerate_from}
use Rattle.std.proofs.lemmas.Bool.{cond_both}
use Rattle.std.proofs.lemmas.List.Elements.{All-nil, All-cons, All-head, All-tail, All-append, All-filter, All-map, All-weaker}
use Rattle.lg_netlist.specs.declared.drivers.Driver.{Driver}
use Rattle.lg_netlist.specs.declared.drivers.Driver.TheVariants.{Part, Pin, Clock}
use Rattle.lg_netlist.specs.declared.netlist.PartUse.{PartUse}
use Rattle.lg_netlist.specs.declared.netlist.PinUse.{PinUse}
use Rattle.lg_netlist.specs.declared.netlist.Netlist.{Netlist}
use Rattle.lg_netlist.specs.Drivers.{numbered, output_drivers, part_drivers, pin_drivers, clock_driver, all_drivers, on_net, drivers, IsDriver}
use Rattle.lg_netlist.specs.Valid.{AreNets, IsPort, IsFittingPart, IsFittingPin}

-- what holds of what each item gives holds of what all give
flat_numbered : {A : Type 0} (P : ℕ × Driver → Type 0) (f : ℕ × A → List (ℕ × Driver)) (Q : A → Type 0) (bound : ℕ)
    → ((j : ℕ) (a : A) → j < bound → Q a → All P (f (j, a))) → (k : ℕ) (xs : List A) → k + length xs ≤ bound → All Q xs → All P (flat_map f (enumerate_from k xs))
flat_numbered P f Q bound gives k [] fits h = All-nil P
flat_numbered P f Q bound gives k (x ∷ xs) fits h =
    All-append P (f (k, x)) (flat_map f (enumerate_from (k + 1) xs)) (gives k x (omega arith) (All-head Q x xs h)) (flat_numbered P f Q bound gives (k + 1) xs (omega arith) (All-tail Q x xs h))

map_numbered : {A : Type 0} (P : ℕ × Driver → Type 0) (f : ℕ × A → ℕ × Driver) (Q : A → Type 0) (bound : ℕ)
    → ((j : ℕ) (a : A) → j < bound → Q a → P (f (j, a))) → (k : ℕ) (xs : List A) → k + length xs ≤ bound → All Q xs → All P (map f (enumerate_from k xs))
map_numbered P f Q bound gives k [] fits h = All-nil P
map_numbered P f Q bound gives k (x ∷ xs) fits h =
    All-cons P (f (k, x)) (map f (enumerate_from (k + 1) xs)) (gives k x (omega arith) (All-head Q x xs h)) (map_numbered P f Q bound gives (k + 1) xs (omega arith) (All-tail Q x xs h))

-- a driver of the netlist on a net of it
abbrev pub IsOnNet : Netlist → ℕ × Driver → Type 0
IsOnNet n d = (d.0 < n.nets) × IsDriver n d.1

from_parts : (n : Netlist) → All (IsOnNet n) (flat_map part_drivers (numbered n.parts))
from_parts n =
    flat_numbered (IsOnNet n) part_drivers (IsFittingPart n.nets) (length n.parts)
    (λ part p less fits. flat_numbered (IsOnNet n) (output_drivers part) (IsPort n.nets) (length p.outputs)
    (λ o bits within port. map_numbered (IsOnNet n) (λ (b : ℕ × ℕ). (b.1, Part part o b.0)) (λ net. net < n.nets) (length bits) (λ j net inside on. (on, less)) 0 bits (omega arith) port.on_nets)
    0 p.outputs (omega arith) fits.outputs)
    0 n.parts (omega arith) n.valid.parts_fit

from_pins : (n : Netlist) → All (IsOnNet n) (flat_map pin_drivers (numbered n.pins))
from_pins n =
    flat_numbered (IsOnNet n) pin_drivers (IsFittingPin n.nets) (length n.pins)
    (λ pin p less fits. cond_both p.input (map (λ (b : ℕ × ℕ). (b.1, Pin pin b.0)) (numbered p.bits)) [] (λ ds. All (IsOnNet n) ds)
    (λ _. map_numbered (IsOnNet n) (λ (b : ℕ × ℕ). (b.1, Pin pin b.0)) (λ net. net < n.nets) (length p.bits) (λ j net inside on. (on, less)) 0 p.bits (omega arith) fits.on_nets)
    (λ _. All-nil (IsOnNet n)))
    0 n.pins (omega arith) n.valid.pins_fit

from_clocks : (n : Netlist) → All (IsOnNet n) (map clock_driver (numbered n.clocks))
from_clocks n =
    map_numbered (IsOnNet n) clock_driver (λ (c : ℕ × List ℕ). c.0 < n.nets) (length n.clocks) (λ clock c less on. (on, less)) 0 n.clocks (omega arith) n.valid.clocks_fit

pub drivers_on_nets : (n : Netlist) → All (IsOnNet n) (all_drivers n)
drivers_on_nets n =
    All-append (IsOnNet n) (flat_map part_drivers (numbered n.parts) ++ flat_map pin_drivers (numbered n.pins)) (map clock_driver (numbered n.clocks))
    (All-append (IsOnNet n) (flat_map part_drivers (numbered n.parts)) (flat_map pin_drivers (numbered n.pins)) (from_parts n) (from_pins n)) (from_clocks n)

-- what drives a net is a driver of the netlist
pub drivers_are : (n : Netlist) (net : ℕ) → All (IsDriver n) (drivers n net)
drivers_are n net =
    All-map (IsDriver n) (λ (d : ℕ × Driver). d.1) (filter (λ (d : ℕ × Driver). d.0 == net) (all_drivers n))
    (All-filter (λ (d : ℕ × Driver). d.0 == net) (λ (d : ℕ × Driver). IsDriver n d.1) (all_drivers n)
    (All-weaker (IsOnNet n) (λ (d : ℕ × Driver). IsDriver n d.1) (λ d h. h.1) (all_drivers n) (drivers_on_nets n)))

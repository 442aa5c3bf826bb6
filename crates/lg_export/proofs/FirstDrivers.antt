-- The first driver of a net that something drives is in the list of first drivers, and says which bit the net carries.
use Rattle.std.proofs.Common.{◌≡◌, ℕ, ◌+◌, ◌<◌, false, List, [], ◌∷◌, length, get_or, Option, Some, None, option_map, unwrap_or, sym, ap, ◌∙◌, arith}
use Rattle.std.specs.Prelude.{◌==◌, slice_get}
use Rattle.std.proofs.lemmas.Bool.{false≢true}
use Rattle.std.proofs.lemmas.List.FromFn.{get_or-map-range_with_len, length-map-range_with_len}
use Rattle.lg_netlist.specs.declared.drivers.Driver.{Driver}
use Rattle.lg_netlist.specs.declared.netlist.Netlist.{Netlist}
use Rattle.lg_netlist.specs.Acceptance.{is_undriven}
use Rattle.lg_netlist.specs.Drivers.{drivers, first_driver, IsDriver}
use Rattle.lg_netlist.proofs.DriverFacts.{All-at}
use Rattle.lg_netlist.proofs.DriverLemmas.{drivers_are}
use Rattle.lg_export.specs.declared.bits.Wires.{Wires}
use Rattle.lg_export.specs.Layout.{bit_of, bit_on}
use Rattle.lg_export.specs.Stack.{KnowsDrivers}

pub known_length : (w : Wires) → KnowsDrivers w → length w.first.items ≡ w.netlist.now.nets
known_length w known = ap length known ∙ length-map-range_with_len (first_driver w.netlist.now) 0 w.netlist.now.nets

-- what stands at a net is its first driver
pub known_at : (w : Wires) (net : ℕ) (d : Option Driver) → KnowsDrivers w → net < w.netlist.now.nets → get_or w.first.items net d ≡ first_driver w.netlist.now net
known_at w net d known within =
    let same : 0 + net ≡ net = omega arith in
    ap (λ (ds : List (Option Driver)). get_or ds net d) known ∙ get_or-map-range_with_len (first_driver w.netlist.now) 0 w.netlist.now.nets net net d within same

-- a net that something drives has a first driver
pub driven_has_first : (n : Netlist) (net : ℕ) → is_undriven n net ≡ false → first_driver n net ≡ None → ⊥
driven_has_first n net driven none = by (drivers n net) driven none
  where
    by : (ds : List Driver) → (length ds == 0) ≡ false → slice_get ds 0 ≡ None → ⊥
    by [] some e = false≢true (sym some)
    by (d ∷ ds) some e = absurd (cc)

pub first_is_driver : (n : Netlist) (net : ℕ) (d : Driver) → first_driver n net ≡ Some d → IsDriver n d
first_is_driver n net d first = All-at (IsDriver n) (drivers n net) 0 d (drivers_are n net) first

pub bit_on-first : (n : Netlist) (net : ℕ) (d : Driver) → first_driver n net ≡ Some d → bit_of n d ≡ bit_on n net
bit_on-first n net d first = ap (λ (o : Option Driver). unwrap_or (option_map (bit_of n) o) (record { name = []; width = 0; index = 0 })) (sym first)

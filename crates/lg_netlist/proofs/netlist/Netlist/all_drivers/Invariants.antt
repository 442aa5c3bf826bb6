-- The drivers so far, and those that are left.
use Rattle.std.proofs.Common.{◌≡◌, ◌++◌, ℕ, List, drop}
use Rattle.std.specs.Prelude.{map}
use Rattle.std.specs.List.{flat_map, enumerate_from}
use Rattle.lg_netlist.specs.Drivers.{part_drivers, pin_drivers, clock_driver, all_drivers}
use Rattle.lg_netlist.proofs.netlist.Netlist.all_drivers.Given as goal

abbrev pub invariant-loop-part : goal.invariant-loop-part
invariant-loop-part l = l.found.items ++ flat_map part_drivers (enumerate_from l.part (drop l.part l.self.parts)) ≡ flat_map part_drivers (enumerate_from 0 l.self.parts)

abbrev pub invariant-loop-pin : goal.invariant-loop-pin
invariant-loop-pin l =
    l.found.items ++ flat_map pin_drivers (enumerate_from l.pin (drop l.pin l.self.pins))
    ≡ flat_map part_drivers (enumerate_from 0 l.self.parts) ++ flat_map pin_drivers (enumerate_from 0 l.self.pins)

abbrev pub invariant-loop-clock : goal.invariant-loop-clock
invariant-loop-clock l = l.found.items ++ map clock_driver (enumerate_from l.clock (drop l.clock l.self.clocks)) ≡ all_drivers l.self

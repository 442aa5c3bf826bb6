-- How the program holds what drives each net, and runs: the highest by itself, and those below it from the lowest up.
use Rattle.std.specs.Prelude.{◌≡◌, List, ◌∷◌, map, reverse}
use Rattle.std.specs.List.{range_with_len}
use Rattle.lg_netlist.specs.Drivers.{first_driver}
use Rattle.lg_export.specs.declared.bits.Run.{Run as Held}
use Rattle.lg_export.specs.declared.bits.Wires.{Wires}
use Rattle.lg_export.specs.Layout.{NamedBit, Run}

-- the first driver of each net, net by net
abbrev pub KnowsDrivers : Wires → Type 0
KnowsDrivers w = w.first.items ≡ map (first_driver w.netlist.now) (range_with_len 0 w.netlist.now.nets)

abbrev pub as_run : Held → Run
as_run r = record { name = r.name; width = r.width; high = r.high; low = r.low }

-- the bit that is the highest of a run
abbrev pub as_bit : Held → NamedBit
as_bit r = record { name = r.name; width = r.width; index = r.high }

abbrev pub stack : Held → List Held → List Run
stack top lower = as_run top ∷ map as_run (reverse lower)

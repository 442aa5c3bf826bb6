-- The drivers so far and those of the outputs that are left.
use Rattle.std.proofs.Common.{◌≡◌, ◌++◌, ℕ, List, drop}
use Rattle.std.specs.List.{flat_map, enumerate_from}
use Rattle.lg_netlist.specs.Drivers.{output_drivers}
use Rattle.lg_netlist.proofs.drivers.put_part.Given as goal

abbrev pub invariant-loop-output : goal.invariant-loop-output
invariant-loop-output l =
    l.found.items ++ flat_map (output_drivers l.part) (enumerate_from l.output (drop l.output l.used.outputs))
    ≡ l.fn.found.items ++ flat_map (output_drivers l.part) (enumerate_from 0 l.used.outputs)

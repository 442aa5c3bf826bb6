use Rattle.std.proofs.Common.{◌≡◌, ◌++◌, drop}
use Rattle.std.specs.List.{flat_map, enumerate_from}
use Rattle.lg_netlist.specs.Graph.{part_outputs, all_outputs}
use Rattle.lg_netlist.proofs.netlist.Netlist.outputs.Given as goal

-- the outputs so far and those of the parts that are left
abbrev pub invariant-loop-part : goal.invariant-loop-part
invariant-loop-part l = l.found.items ++ flat_map part_outputs (enumerate_from l.part (drop l.part l.self.parts)) ≡ all_outputs l.self

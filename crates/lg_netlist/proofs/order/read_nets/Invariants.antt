use Rattle.std.proofs.Common.{◌≡◌, ◌++◌, ℕ, List, [], drop, if◌then◌else◌}
use Rattle.std.specs.List.{flat_map, enumerate_from}
use Rattle.lg_netlist.specs.Cell.{reads}
use Rattle.lg_netlist.specs.Graph.{read_nets}
use Rattle.lg_netlist.proofs.order.read_nets.Given as goal

-- the nets so far and those of the inputs that are left
abbrev pub invariant-loop-input : goal.invariant-loop-input
invariant-loop-input l =
    l.nets ++ flat_map (λ (i : ℕ × List ℕ). if reads l.part.cell l.output i.0 then i.1 else []) (enumerate_from l.input (drop l.input l.part.inputs)) ≡ read_nets l.part l.output

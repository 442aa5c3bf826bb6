use Rattle.std.proofs.Common.{◌≡◌, ◌++◌, ℕ, List, drop}
use Rattle.std.specs.Prelude.{map}
use Rattle.std.specs.List.{enumerate_from}
use Rattle.lg_netlist.specs.Graph.{part_outputs}
use Rattle.lg_netlist.proofs.order.put_outputs.Given as goal

-- the outputs so far and those that are left
abbrev pub invariant-loop-output : goal.invariant-loop-output
invariant-loop-output l =
    l.found.items ++ map (λ (o : ℕ × List ℕ). (l.part, o.0)) (enumerate_from l.output (drop l.output l.used.outputs)) ≡ l.fn.found.items ++ part_outputs (l.part, l.used)

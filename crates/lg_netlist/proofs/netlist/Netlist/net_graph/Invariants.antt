use Rattle.std.proofs.Common.{◌≡◌, ◌++◌, ◌+◌, List, ℕ, [], drop, take, length}
use Rattle.std.specs.Prelude.{map, replicate}
use Rattle.lg_netlist.specs.Graph.{all_outputs, part_of, read_nets, with_outputs, net_graph}
use Rattle.lg_netlist.proofs.netlist.Netlist.net_graph.Given as goal

-- the arrows from nets so far, and those that are left
abbrev pub invariant-loop-number : goal.invariant-loop-number
invariant-loop-number l = record {
  arrows : with_outputs l.self.parts (l.nets + l.number) (drop l.number l.outputs) l.graph.items ≡ with_outputs l.self.parts l.nets l.outputs (replicate l.nets []);
  nodes : length l.graph.items ≡ l.nets;
}

-- the arrows from nets, those from outputs so far, and those that are left
abbrev pub invariant-loop-output : goal.invariant-loop-output
invariant-loop-output l =
    l.graph.items ++ map (λ (o : ℕ × ℕ). read_nets (part_of l.self.parts o) o.1) (drop l.output-index l.outputs) ≡ net_graph l.self

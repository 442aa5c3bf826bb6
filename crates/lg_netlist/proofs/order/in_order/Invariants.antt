use Rattle.std.proofs.Common.{◌≡◌, ◌++◌, drop}
use Rattle.lg_netlist.specs.Graph.{outputs_among}
use Rattle.lg_netlist.proofs.order.in_order.Given as goal

-- the outputs so far and those among the nodes that are left
abbrev pub invariant-loop-node : goal.invariant-loop-node
invariant-loop-node l = l.found.items ++ outputs_among l.nets l.outputs (drop l.node-index l.nodes) ≡ outputs_among l.nets l.outputs l.nodes

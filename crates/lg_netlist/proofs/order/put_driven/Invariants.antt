use Rattle.std.proofs.Common.{◌≡◌, drop, length, vec_len}
use Rattle.lg_netlist.specs.Graph.{with_arrows}
use Rattle.lg_netlist.proofs.order.put_driven.Given as goal

-- the graph with the arrows so far, and those that are left
abbrev pub invariant-loop-net : goal.invariant-loop-net
invariant-loop-net l = record {
  arrows : with_arrows l.node (drop l.net-index l.bits) l.graph.items ≡ with_arrows l.node l.bits l.fn.graph.items;
  nodes : vec_len l.graph ≡ vec_len l.fn.graph;
}

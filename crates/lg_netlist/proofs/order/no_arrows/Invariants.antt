use Rattle.std.proofs.Common.{◌≡◌, []}
use Rattle.std.specs.Prelude.{replicate, length}
use Rattle.lg_netlist.proofs.order.no_arrows.Given as goal

abbrev pub invariant-loop : goal.invariant-loop
invariant-loop l = l.graph.items ≡ replicate l.counter []

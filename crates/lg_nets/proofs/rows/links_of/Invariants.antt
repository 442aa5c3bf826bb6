use Rattle.std.proofs.Common.{◌≡◌, ◌++◌, drop}
use Rattle.lg_nets.specs.Rows.{links_from, links_of}
use Rattle.lg_nets.proofs.rows.links_of.Given as goal

abbrev pub invariant-loop-node : goal.invariant-loop-node
invariant-loop-node l = l.links.items ++ links_from l.last (drop l.node-index l.rest) ≡ links_of l.nodes

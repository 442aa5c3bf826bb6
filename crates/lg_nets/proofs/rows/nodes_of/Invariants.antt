use Rattle.std.proofs.Common.{◌≡◌, ◌++◌, drop}
use Rattle.lg_nets.specs.Rows.{nodes_from}
use Rattle.lg_nets.proofs.rows.nodes_of.Given as goal

abbrev pub invariant-loop-place : goal.invariant-loop-place
invariant-loop-place l = l.nodes.items ++ nodes_from l.place (drop l.place l.rays) ≡ nodes_from 0 l.rays

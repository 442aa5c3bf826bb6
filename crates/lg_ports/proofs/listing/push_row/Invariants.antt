use Rattle.std.proofs.Common.{◌≡◌, ◌++◌, map}
use Rattle.std.specs.List.{range_with_len}
use Rattle.lg_ports.specs.Given.{seen_given}
use Rattle.lg_ports.specs.Ports.{port_at}
use Rattle.lg_kinds.specs.Rows.{seen_port}
use Rattle.lg_ports.proofs.listing.push_row.Given as goal

-- the ports of the row so far
abbrev pub invariant-loop-k : goal.invariant-loop-k
invariant-loop-k l = l.list ≡ l.fn.list ++ map (port_at (seen_given l.given) (seen_port l.row)) (range_with_len 0 l.k)

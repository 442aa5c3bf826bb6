use Rattle.std.proofs.Common.{◌≡◌, map, take}
use Rattle.std.specs.List.{flat_map}
use Rattle.lg_ports.specs.Given.{seen_given}
use Rattle.lg_ports.specs.Ports.{row_ports}
use Rattle.lg_kinds.specs.Rows.{seen_port}
use Rattle.lg_ports.proofs.listing.list_ports.Given as goal

-- the ports of the rows so far
abbrev pub invariant-loop-row : goal.invariant-loop-row
invariant-loop-row l = l.list ≡ flat_map (row_ports (seen_given l.given)) (take l.row-index (map seen_port l.row-items))

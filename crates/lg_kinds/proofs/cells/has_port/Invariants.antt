use Rattle.std.proofs.Common.{◌≡◌, drop}
use Rattle.std.specs.Prelude.{map}
use Rattle.std.specs.List.{list_any}
use Rattle.lg_kinds.specs.Rows.{PortForm, seen_port}
use Rattle.lg_kinds.specs.TableFile.{is_one_of, has_port}
use Rattle.lg_kinds.proofs.cells.has_port.Given as goal

-- the rows so far give other names
abbrev pub invariant-loop-row : goal.invariant-loop-row
invariant-loop-row l = list_any (λ (row : PortForm). is_one_of row.name row.count l.text) (map seen_port (drop l.row-index l.row-items)) ≡ has_port l.fn.kind l.text

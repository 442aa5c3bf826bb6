use Rattle.std.proofs.Common.{◌≡◌, drop}
use Rattle.std.specs.Prelude.{map, find}
use Rattle.std.specs.Str.{bytes_eq}
use Rattle.lg_kinds.specs.Rows.{Attribute, seen_attribute}
use Rattle.lg_ports.proofs.given.row_of.Given as goal

-- the rows so far have other names
abbrev pub invariant-loop-row : goal.invariant-loop-row
invariant-loop-row l =
    find (λ (row : Attribute). bytes_eq row.name l.name) (map seen_attribute (drop l.row-index l.row-items)) ≡ find (λ (row : Attribute). bytes_eq row.name l.name) (map seen_attribute l.row-items)

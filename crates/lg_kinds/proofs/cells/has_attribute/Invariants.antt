use Rattle.std.proofs.Common.{◌≡◌, drop}
use Rattle.std.specs.Prelude.{map}
use Rattle.std.specs.List.{list_any}
use Rattle.lg_kinds.specs.Rows.{Attribute, seen_attribute}
use Rattle.lg_kinds.specs.TableFile.{is_one_of, has_attribute}
use Rattle.lg_kinds.proofs.cells.has_attribute.Given as goal

-- the rows so far give other names
abbrev pub invariant-loop-row : goal.invariant-loop-row
invariant-loop-row l = list_any (λ (row : Attribute). is_one_of row.name row.count l.text) (map seen_attribute (drop l.row-index l.row-items)) ≡ has_attribute l.fn.kind l.text

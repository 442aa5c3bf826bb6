use Rattle.std.proofs.Common.{suc, length}
use denote.Text.{Utf8}
use denote.Shadow.{shadow}
use Rattle.lg_circ.specs.Reading.{attributes_at}
use Rattle.lg_circ.proofs.Loops.{ReadsAttributes}
use Rattle.lg_circ.proofs.tag.attributes.Given as goal

abbrev pub invariant-attributes : goal.invariant-attributes
invariant-attributes l = shadow (Utf8 l.rest) × ReadsAttributes l.attributes l.rest (attributes_at (suc (length l.text)) l.text)

abbrev pub decreases-attributes : goal.decreases-attributes
decreases-attributes l = length l.rest

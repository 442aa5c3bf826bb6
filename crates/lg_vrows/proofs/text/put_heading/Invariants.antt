use Rattle.std.proofs.Common.{◌≡◌, ◌++◌, take}
use Rattle.std.specs.Prelude.{codes}
use Rattle.lg_vrows.specs.Steps.{lines}
use Rattle.lg_vrows.proofs.TextLemmas.{name_fields}
use Rattle.lg_vrows.proofs.text.put_heading.Given as goal

-- the names so far
abbrev pub invariant-loop-port : goal.invariant-loop-port
invariant-loop-port l = l.text.items ≡ (l.fn.text.items ++ codes "row") ++ name_fields (lines (take l.port-index l.ports))

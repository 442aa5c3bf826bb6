use Rattle.std.proofs.Common.{◌≡◌, ◌++◌, take}
use Rattle.std.specs.List.{flat_map, enumerate_from}
use Rattle.lg_vrows.specs.Steps.{lines}
use Rattle.lg_vrows.specs.Text.{heading_text, row_text}
use Rattle.lg_vrows.proofs.text.print.Given as goal

-- the heading and the rows so far
abbrev pub invariant-loop-at : goal.invariant-loop-at
invariant-loop-at l = l.text.items ≡ heading_text (lines l.ports) ++ flat_map (row_text (lines l.ports)) (take l.at (enumerate_from 1 l.outs))

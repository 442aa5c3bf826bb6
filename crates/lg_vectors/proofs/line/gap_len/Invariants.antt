use Rattle.std.proofs.Common.{◌≡◌, ◌+◌, drop}
use Rattle.std.specs.List.{prefix_len}
use Rattle.lg_vectors.specs.VectorText.{is_gap}
use Rattle.lg_vectors.proofs.line.gap_len.Given as goal

abbrev pub invariant-loop-place : goal.invariant-loop-place
invariant-loop-place l = prefix_len is_gap l.text ≡ l.place + prefix_len is_gap (drop l.place l.text)

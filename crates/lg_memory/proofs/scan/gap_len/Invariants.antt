use Rattle.std.proofs.Common.{◌≡◌, drop, false}
use Rattle.lg_memory.specs.Scan.{after_gap}
use Rattle.lg_memory.proofs.scan.gap_len.Given as goal

abbrev pub invariant-loop-place : goal.invariant-loop-place
invariant-loop-place l = after_gap l.inside (drop l.place l.text) ≡ after_gap false l.text

use Rattle.lg_nets.specs.Shares.{Marks, WireShares}
use Rattle.lg_nets.proofs.nets.share_wires.Given as goal

abbrev pub invariant-loop-place : goal.invariant-loop-place
invariant-loop-place l = Marks l.initial.shared l.shared (WireShares l.wires l.labels l.place)

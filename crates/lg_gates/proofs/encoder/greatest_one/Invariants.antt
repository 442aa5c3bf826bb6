use Rattle.std.proofs.Common.{◌≡◌, ◌<◌, take}
use Rattle.std.specs.Option.{IfSome}
use Rattle.lg_gates.proofs.PriorityLemmas.{found}
use Rattle.lg_gates.proofs.encoder.greatest_one.Given as goal

abbrev pub invariant-loop-place : goal.invariant-loop-place
invariant-loop-place l = record {
  found : l.greatest ≡ found (take l.place l.bits);
  inside : IfSome l.greatest (λ place. place < l.place);
}

use Rattle.std.proofs.Common.{◌≡◌, take, map}
use Rattle.lg_instants.specs.Plain.{greatest_delay}
use Rattle.lg_instants.proofs.run.greatest_delay.Given as goal

abbrev pub invariant-loop-part : goal.invariant-loop-part
invariant-loop-part g l = l.greatest ≡ greatest_delay (map g.P.Behaviour.meaning (take l.part-index l.parts))

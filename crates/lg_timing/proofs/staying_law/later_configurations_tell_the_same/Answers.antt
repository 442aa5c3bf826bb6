use Rattle.lg_timing.proofs.StayingOn.{staying-on, busy-on, next-on, evaluations-on, evaluations-when_settled}
use Rattle.lg_timing.proofs.staying_law.later_configurations_tell_the_same.Goals as goal

pub returns : goal.returns
returns g = record {
  stays = staying-on;
  busy = busy-on;
  next = next-on;
  evaluations = evaluations-on;
  settled = evaluations-when_settled;
}

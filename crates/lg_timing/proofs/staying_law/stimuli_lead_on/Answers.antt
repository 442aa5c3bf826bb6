use Rattle.lg_timing.proofs.LedTo.{led-put, led-staying}
use Rattle.lg_timing.proofs.staying_law.stimuli_lead_on.Goals as goal

pub returns : goal.returns
returns g = record {
  put = led-put;
  stays = led-staying;
}

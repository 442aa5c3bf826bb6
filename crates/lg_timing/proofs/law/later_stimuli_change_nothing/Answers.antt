use Rattle.lg_timing.proofs.LaterStimuli.{instant_at-later, outputs_at-later, is_busy-later, configuration_at-later}
use Rattle.lg_timing.proofs.law.later_stimuli_change_nothing.Goals as goal

pub returns : goal.returns
returns c = record {
  instant = instant_at-later;
  outputs = outputs_at-later;
  busy = is_busy-later;
  configuration = configuration_at-later;
}

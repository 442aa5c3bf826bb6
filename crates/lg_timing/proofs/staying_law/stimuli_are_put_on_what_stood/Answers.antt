use Rattle.lg_timing.proofs.Put.{configuration-put, configuration-behind, evaluations_since-is, settling-is, settling-alone}
use Rattle.lg_timing.proofs.staying_law.stimuli_are_put_on_what_stood.Goals as goal

pub returns : goal.returns
returns g = record {
  put = configuration-put;
  behind = configuration-behind;
  evaluations = evaluations_since-is;
  settling = settling-is;
  alone = settling-alone;
}

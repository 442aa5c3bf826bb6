use Rattle.lg_timing.proofs.Stretch.{quiet_after_stretch}
use Rattle.lg_timing.proofs.Outcome.{settles_or_oscillates, not_both_ways, settles_once, oscillates_once}
use Rattle.lg_timing.proofs.Rest.{rest_from_settled}
use Rattle.lg_timing.proofs.law.settling_is_decided.Goals as goal

pub returns : goal.returns
returns c = record {
  stretch = quiet_after_stretch;
  one = settles_or_oscillates;
  not_both = not_both_ways;
  one_instant = settles_once;
  one_number = oscillates_once;
  rest = rest_from_settled;
}

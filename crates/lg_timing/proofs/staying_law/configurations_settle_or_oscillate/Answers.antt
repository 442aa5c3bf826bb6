use Rattle.lg_timing.proofs.LedTo.{settles_or_oscillates-led, next_or_none, quiet-led, rests-led, staying-settled}
use Rattle.lg_timing.proofs.OneWay.{not_both_on, settles_once_on, oscillates_once_on, next_once}
use Rattle.lg_timing.proofs.staying_law.configurations_settle_or_oscillate.Goals as goal

pub returns : goal.returns
returns g = record {
  one = settles_or_oscillates-led;
  not_both = not_both_on;
  one_instant = settles_once_on;
  one_number = oscillates_once_on;
  next = next_or_none;
  one_next = next_once;
  stretch = quiet-led;
  at_rest = rests-led;
  rest = staying-settled;
}

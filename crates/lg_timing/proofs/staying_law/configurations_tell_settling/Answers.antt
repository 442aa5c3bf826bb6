use Rattle.std.proofs.Common.{ℕ, List, refl}
use Rattle.lg_timing.specs.Circuit.{Circuit, Stimulus}
use Rattle.lg_timing.specs.Settling.{StayFrom}
use Rattle.lg_timing.specs.Configuration.{configuration_at, HaveDelays}
use Rattle.lg_timing.proofs.Rest.{staying-is}
use Rattle.lg_timing.proofs.OnConfigurations.{Led, busy-led, next-led, count-led, settles-led, oscillates-led}
use Rattle.lg_timing.proofs.staying_law.configurations_tell_settling.Goals as goal

led : (c : Circuit) (stimuli : List Stimulus) (start : ℕ) → HaveDelays c → StayFrom stimuli start → Led c (configuration_at c stimuli start) stimuli start
led c stimuli start delays stay = record { delays = delays; stay = stay; is = refl }

pub returns : goal.returns
returns g = record {
  stays = staying-is;
  busy = λ c stimuli start n delays stay. busy-led c (configuration_at c stimuli start) stimuli start n (led c stimuli start delays stay);
  next = λ c stimuli start after at delays stay. next-led c (configuration_at c stimuli start) stimuli start after at (led c stimuli start delays stay);
  count = λ c stimuli start n delays stay. count-led c (configuration_at c stimuli start) stimuli start n (led c stimuli start delays stay);
  settles = λ c stimuli start limit took delays stay. settles-led c (configuration_at c stimuli start) stimuli start limit took (led c stimuli start delays stay);
  oscillates = λ c stimuli start limit after delays stay. oscillates-led c (configuration_at c stimuli start) stimuli start limit after (led c stimuli start delays stay);
}

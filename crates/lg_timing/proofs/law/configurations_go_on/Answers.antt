use Rattle.std.proofs.Common.{◌≡◌, ℕ, ◌+◌, suc, ◌∙◌, ap, sym, arith}
use Rattle.lg_value.specs.declared.bit.Bit.{Bit}
use Rattle.lg_timing.specs.Instant.{in_force}
use Rattle.lg_timing.specs.Configuration.{configuration_at, next}
use Rattle.lg_timing.proofs.ConfigurationSteps.{configuration-first, configuration-next, configuration-going_on, nets_of-is}
use Rattle.lg_timing.proofs.Shift.{function_of_configuration, going_on-shifted}
use Rattle.lg_timing.proofs.Still.{next-still, rest_when_still}
use Rattle.lg_timing.proofs.law.configurations_go_on.Goals as goal

pub returns : goal.returns
returns c = record {
  first = configuration-first;
  next = λ circuit stimuli t delays.
      let same : t + 1 ≡ suc t = omega arith in
      ap (configuration_at circuit stimuli) same ∙ configuration-next circuit stimuli t delays
      ∙ ap (λ u. next circuit (in_force stimuli u) (configuration_at circuit stimuli t)) (sym same);
  values = λ circuit stimuli t net. ap (λ (f : ℕ → Bit). f net) (nets_of-is circuit stimuli t);
  later = configuration-going_on;
  function = function_of_configuration;
  shift = going_on-shifted;
  again = next-still;
  rest = rest_when_still;
}

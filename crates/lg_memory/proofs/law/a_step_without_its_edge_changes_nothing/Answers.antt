use Rattle.std.proofs.Common.{ap, ◌∙◌}
use Rattle.lg_memory.specs.Controls.{is_triggered}
use Rattle.lg_memory.specs.Inputs.{bit_at}
use Rattle.lg_memory.proofs.RepeatLemmas.{stepped-untriggered, stepped-unclocked, no_rise, no_fall}
use Rattle.lg_memory.proofs.law.a_step_without_its_edge_changes_nothing.Goals as goal

pub returns : goal.returns
returns c = record {
  rising = λ form words old new clock at none clear preset.
      stepped-untriggered form words old new clear preset
      (ap (λ k. is_triggered k old new) at ∙ no_rise (bit_at old clock) (bit_at new clock) none);
  falling = λ form words old new clock at none clear preset.
      stepped-untriggered form words old new clear preset
      (ap (λ k. is_triggered k old new) at ∙ no_fall (bit_at old clock) (bit_at new clock) none);
  unclocked = stepped-unclocked;
}

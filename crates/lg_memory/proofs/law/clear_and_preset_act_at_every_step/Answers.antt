use Rattle.lg_memory.specs.Controls.{clock_of, clear_of, preset_of, is_one, is_triggered}
use Rattle.lg_memory.proofs.ClearLemmas.{start_words-zero, words_after_clear, words_after_preset}
use Rattle.lg_memory.proofs.law.clear_and_preset_act_at_every_step.Goals as goal

pub returns : goal.returns
returns c = record {
  clear = λ form words old new on.
      rw (words_after_clear (is_one (clear_of form) new) (is_one (preset_of form) new) (is_triggered (clock_of form) old new) form words new on)
      (start_words-zero form);
  preset = λ form words old new off on.
      words_after_preset (is_one (clear_of form) new) (is_one (preset_of form) new) (is_triggered (clock_of form) old new) form words new off on;
}

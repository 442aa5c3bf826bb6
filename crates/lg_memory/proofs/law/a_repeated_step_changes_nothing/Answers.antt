use Rattle.lg_memory.proofs.RepeatLemmas.{stepped-stepped}
use Rattle.lg_memory.proofs.law.a_repeated_step_changes_nothing.Goals as goal

pub returns : goal.returns
returns c = stepped-stepped

use Rattle.lg_shapes.proofs.StepLemmas.{step_repeated}
use Rattle.lg_shapes.proofs.law.a_repeated_step_changes_nothing.Goals as goal

pub returns : goal.returns
returns c = step_repeated

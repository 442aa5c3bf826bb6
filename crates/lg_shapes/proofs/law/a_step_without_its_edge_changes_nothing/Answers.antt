use Rattle.lg_shapes.proofs.StepLemmas.{stateless}
use Rattle.lg_shapes.proofs.law.a_step_without_its_edge_changes_nothing.Goals as goal

pub returns-clause-stateless : goal.returns-clause-stateless
returns-clause-stateless c = stateless

use Rattle.lg_shapes.proofs.StepLemmas.{step_defined}
use Rattle.lg_shapes.proofs.DefinedLemmas.{outputs_defined}
use Rattle.lg_shapes.proofs.law.defined_gives_defined.Goals as goal

pub returns-clause-outs : goal.returns-clause-outs
returns-clause-outs c = outputs_defined

pub returns-clause-steps : goal.returns-clause-steps
returns-clause-steps c = step_defined

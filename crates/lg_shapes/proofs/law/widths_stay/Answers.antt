use Rattle.lg_shapes.proofs.StepLemmas.{step_held}
use Rattle.lg_shapes.proofs.WidthLemmas.{widths-output_words}
use Rattle.lg_shapes.proofs.law.widths_stay.Goals as goal

pub returns-clause-words : goal.returns-clause-words
returns-clause-words c = step_held

pub returns-clause-outs : goal.returns-clause-outs
returns-clause-outs c = widths-output_words

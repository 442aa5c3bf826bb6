use Rattle.lg_shapes.proofs.ReadLemmas.{reads_few}
use Rattle.lg_shapes.proofs.law.outputs_read_few_inputs.Goals as goal

pub returns : goal.returns
returns c = reads_few

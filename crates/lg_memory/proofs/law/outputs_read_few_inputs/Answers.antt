use Rattle.lg_memory.proofs.ReadLemmas.{outputs-read}
use Rattle.lg_memory.proofs.law.outputs_read_few_inputs.Goals as goal

pub returns : goal.returns
returns c = outputs-read

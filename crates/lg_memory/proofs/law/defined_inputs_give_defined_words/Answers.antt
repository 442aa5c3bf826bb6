use Rattle.lg_memory.proofs.DefinedLemmas.{stepped-defined, outputs-defined}
use Rattle.lg_memory.proofs.law.defined_inputs_give_defined_words.Goals as goal

pub returns : goal.returns
returns c = record { steps = stepped-defined; outs = outputs-defined }

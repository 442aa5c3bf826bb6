use Rattle.std.proofs.Common.{take}
use Rattle.lg_value.specs.declared.bit.Bit.TheVariants.{One}
use Rattle.lg_value.specs.Bit.{and_bits}
use Rattle.lg_gates.proofs.FoldLemmas.{IsFolded}
use Rattle.lg_gates.proofs.gates.and.Given as goal

abbrev pub invariant-loop-input : goal.invariant-loop-input
invariant-loop-input l = IsFolded and_bits One l.width l.word (take l.input-index l.inputs)

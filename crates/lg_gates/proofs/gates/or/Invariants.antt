use Rattle.std.proofs.Common.{take}
use Rattle.lg_value.specs.declared.bit.Bit.TheVariants.{Zero}
use Rattle.lg_value.specs.Bit.{or_bits}
use Rattle.lg_gates.proofs.FoldLemmas.{IsFolded}
use Rattle.lg_gates.proofs.gates.or.Given as goal

abbrev pub invariant-loop-input : goal.invariant-loop-input
invariant-loop-input l = IsFolded or_bits Zero l.width l.word (take l.input-index l.inputs)

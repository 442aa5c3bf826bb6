use Rattle.std.proofs.Common.{take}
use Rattle.lg_value.specs.declared.bit.Bit.TheVariants.{Zero}
use Rattle.lg_value.specs.Bit.{xor_bits}
use Rattle.lg_gates.proofs.FoldLemmas.{IsFolded}
use Rattle.lg_gates.proofs.gates.odd.Given as goal

abbrev pub invariant-loop-input : goal.invariant-loop-input
invariant-loop-input l = IsFolded xor_bits Zero l.width l.word (take l.input-index l.inputs)

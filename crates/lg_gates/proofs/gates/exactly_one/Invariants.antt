use Rattle.std.proofs.Common.{◌≡◌, ℕ, ◌<◌, length, get_or, take}
use Rattle.lg_value.specs.declared.bit.Bit.TheVariants.{Zero, Unknown}
use Rattle.lg_value.specs.Bit.{xor_bits}
use Rattle.lg_gates.proofs.GateLemmas.{seen}
use Rattle.lg_gates.proofs.FoldLemmas.{IsFolded, TellsMany}
use Rattle.lg_gates.proofs.gates.exactly_one.Given as goal

abbrev pub invariant-loop-input : goal.invariant-loop-input
invariant-loop-input l = record {
  odd : IsFolded xor_bits Zero l.width l.odd (take l.input-index l.inputs);
  wide : length l.many ≡ l.width;
  many : (k : ℕ) → k < l.width → TellsMany (get_or l.many k Unknown) (seen k (take l.input-index l.inputs));
}

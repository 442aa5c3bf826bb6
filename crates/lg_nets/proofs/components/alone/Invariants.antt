use Rattle.std.proofs.Common.{◌≡◌, ℕ, ◌<◌, get_or, vec_len}
use Rattle.lg_nets.proofs.components.alone.Given as goal

abbrev pub invariant-loop-number : goal.invariant-loop-number
invariant-loop-number l = record {
  len : vec_len l.parents ≡ l.number;
  own : (k : ℕ) → k < l.number → get_or l.parents.items k 0 ≡ k;
}

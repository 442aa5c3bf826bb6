use Rattle.std.proofs.Common.{◌≡◌, ℕ, ◌<◌, false, get_or, vec_len}
use Rattle.lg_nets.proofs.nets.attached.Given as goal

-- each flag so far is that of the port's label
abbrev pub invariant-loop-label : goal.invariant-loop-label
invariant-loop-label l = record {
  len : vec_len l.flags ≡ l.label-index;
  flag : (i : ℕ) → i < l.label-index → get_or l.flags.items i false ≡ get_or l.shared.items (get_or l.labels i 0) false;
}

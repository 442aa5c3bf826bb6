use Rattle.std.proofs.Common.{◌≡◌, ◌+◌, ◌<◌, ℕ, false, get_or}
use Rattle.lg_netlist.proofs.order.first_marked.Given as goal

-- none was marked so far
abbrev pub invariant-loop-number : goal.invariant-loop-number
invariant-loop-number l = (j : ℕ) → j < l.number → get_or l.marks (l.nets + j) false ≡ false

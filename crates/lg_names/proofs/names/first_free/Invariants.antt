use Rattle.std.proofs.Common.{◌≡◌, ℕ, ◌<◌, ◌≤◌, true}
use Rattle.lg_names.specs.Names.{is_taken, numbered_name}
use Rattle.lg_names.proofs.names.first_free.Given as goal

-- the numbers so far are taken
abbrev pub invariant-loop-number : goal.invariant-loop-number
invariant-loop-number l = (n : ℕ) → 2 ≤ n → n < l.number → is_taken l.taken (numbered_name l.name n) ≡ true

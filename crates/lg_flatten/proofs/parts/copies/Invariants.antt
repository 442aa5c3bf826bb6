use Rattle.std.proofs.Common.{◌≡◌, ◌++◌, drop}
use Rattle.lg_flatten.proofs.parts.copies.Given as goal

-- the copies so far and the ports that are left are all
abbrev pub invariant-loop-bits : goal.invariant-loop-bits
invariant-loop-bits l = l.copies ++ drop l.bits-index l.ports ≡ l.ports

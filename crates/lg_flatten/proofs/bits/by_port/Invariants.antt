use Rattle.std.proofs.Common.{◌≡◌, ◌++◌, drop}
use Rattle.lg_flatten.specs.Flat.{by_port}
use Rattle.lg_flatten.proofs.bits.by_port.Given as goal

-- the ports so far and those that are left are all
abbrev pub invariant-loop-flag : goal.invariant-loop-flag
invariant-loop-flag l = l.ports ++ by_port (drop l.flag-index l.takes) l.rest ≡ by_port l.takes l.nets

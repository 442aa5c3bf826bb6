use Rattle.std.proofs.Common.{◌≡◌, ◌++◌, drop, map}
use Rattle.lg_flatten.specs.Flat.{takes_net}
use Rattle.lg_flatten.proofs.bits.put_takes.Given as goal

-- the flags so far and those that are left are all
abbrev pub invariant-loop-flag : goal.invariant-loop-flag
invariant-loop-flag l = l.takes.items ++ map (takes_net l.role) (drop l.flag-index l.attached) ≡ l.initial.takes.items ++ map (takes_net l.role) l.attached

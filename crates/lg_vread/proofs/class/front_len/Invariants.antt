use Rattle.std.proofs.Common.{◌≡◌, ◌+◌, drop}
use Rattle.std.specs.List.{prefix_len}
use Rattle.lg_vread.specs.Lexing.{passes}
use Rattle.lg_vread.proofs.class.front_len.Given as goal

-- those before the index are of the class
abbrev pub invariant-loop-at : goal.invariant-loop-at
invariant-loop-at l = prefix_len (passes l.class) l.bytes ≡ l.at + prefix_len (passes l.class) (drop l.at l.bytes)

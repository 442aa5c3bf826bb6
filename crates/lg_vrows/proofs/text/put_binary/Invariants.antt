use Rattle.std.proofs.Common.{◌≡◌, ◌++◌, take}
use Rattle.lg_vrows.specs.Text.{binary}
use Rattle.lg_vrows.proofs.text.put_binary.Given as goal

-- the digits so far
abbrev pub invariant-loop-index : goal.invariant-loop-index
invariant-loop-index l = l.text.items ≡ l.fn.text.items ++ take l.index (binary l.width l.number)

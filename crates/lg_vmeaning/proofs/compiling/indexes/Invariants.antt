use Rattle.std.proofs.Common.{◌≡◌, map, take}
use Rattle.lg_vrules.specs.Indexes.{index_under}
use Rattle.lg_vresolve.specs.Resolved.{index_or_0}
use Rattle.lg_vmeaning.proofs.compiling.indexes.Given as goal

-- the indexes so far
abbrev pub invariant-loop-line : goal.invariant-loop-line
invariant-loop-line l = l.indexes ≡ map (λ line. index_or_0 (index_under l.numbers) line.name) (take l.line-index l.lines)

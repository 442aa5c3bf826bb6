use Rattle.std.proofs.Common.{◌≡◌, ◌++◌, replicate}
use Rattle.lg_memory.proofs.image.keep.Given as goal

abbrev pub invariant-loop : goal.invariant-loop
invariant-loop l = l.kept.items ≡ l.fn.kept.items ++ replicate l.counter l.run.value

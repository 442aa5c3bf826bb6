use Rattle.std.proofs.Common.{◌+◌, length}
use Rattle.lg_memory.proofs.ImageLemmas.{IsReading}
use Rattle.lg_memory.proofs.image.bounded_words.Given as goal

abbrev pub invariant-loop-rest : goal.invariant-loop-rest
invariant-loop-rest l = IsReading (l.most + 1) l.limit l.text l.kept.items l.over l.rest

abbrev pub decreases-loop-rest : goal.decreases-loop-rest
decreases-loop-rest l = length l.rest

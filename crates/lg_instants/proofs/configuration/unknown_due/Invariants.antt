use Rattle.std.proofs.Common.{◌≡◌, replicate}
use Rattle.lg_timing.specs.Instant.{unknown_words}
use Rattle.lg_instants.proofs.configuration.unknown_due.Given as goal

abbrev pub invariant-loop : goal.invariant-loop
invariant-loop g l = l.words.items ≡ replicate l.counter (unknown_words (g.P.Behaviour.meaning l.part).outputs)

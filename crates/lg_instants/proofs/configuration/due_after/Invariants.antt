use Rattle.std.proofs.Common.{◌≡◌, take}
use Rattle.lg_instants.proofs.configuration.due_after.Given as goal

abbrev pub invariant-loop-words : goal.invariant-loop-words
invariant-loop-words g l = l.later.items ≡ take l.words-index l.rest

use Rattle.std.proofs.Common.{◌≡◌, drop}
use Rattle.lg_attrs.specs.Pairs.{names_differ}
use Rattle.lg_attrs.proofs.pairs.few_differ.Given as goal

abbrev pub invariant-loop-at : goal.invariant-loop-at
invariant-loop-at l = names_differ (drop l.at l.pairs) ≡ names_differ l.pairs

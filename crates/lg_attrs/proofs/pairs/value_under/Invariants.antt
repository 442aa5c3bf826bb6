use Rattle.std.proofs.Common.{◌≡◌, drop}
use Rattle.lg_attrs.specs.Pairs.{value_under}
use Rattle.lg_attrs.proofs.pairs.value_under.Given as goal

abbrev pub invariant-loop-other : goal.invariant-loop-other
invariant-loop-other l = value_under l.name (drop l.other-index l.pairs) ≡ value_under l.name l.pairs

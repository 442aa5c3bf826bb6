use Rattle.std.proofs.Common.{◌≡◌, ◌++◌}
use Rattle.std.specs.Iterator.Adapters.{zip_first, zip_second}
use Rattle.std.specs.Slice.Iter.{iter_rest}
use Rattle.lg_flatten.specs.Flat.{flagged}
use Rattle.lg_flatten.proofs.bits.flagged.Given as goal

-- the labels so far and those that are left are all
abbrev pub invariant-loop-flag : goal.invariant-loop-flag
invariant-loop-flag l = l.found.items ++ flagged (iter_rest (zip_first l.flag-iterator)) (iter_rest (zip_second l.flag-iterator)) ≡ flagged l.flags l.labels

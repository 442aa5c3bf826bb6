use Rattle.std.proofs.Common.{◌≡◌, ◌++◌}
use Rattle.std.specs.List.{zip}
use Rattle.std.specs.Iterator.Adapters.{zip_first, zip_second}
use Rattle.std.specs.Slice.Iter.{iter_rest}
use Rattle.lg_flatten.specs.Flat.{pin_labels}
use Rattle.lg_flatten.proofs.labels.labels.Given as goal

-- the labels so far and those that are left are all
abbrev pub invariant-loop-comp : goal.invariant-loop-comp
invariant-loop-comp l =
    l.labels ++ pin_labels (zip (iter_rest (zip_first l.comp-iterator)) (iter_rest (zip_second l.comp-iterator))) ≡ pin_labels (zip l.comps l.roles)

use Rattle.std.proofs.Common.{◌≡◌, ◌++◌, length}
use Rattle.std.specs.List.{flat_map, zip}
use Rattle.std.specs.Iterator.Adapters.{zip_first, zip_second}
use Rattle.std.specs.Slice.Iter.{iter_rest}
use Rattle.lg_flatten.specs.Uses.{port_points}
use Rattle.lg_flatten.specs.Flat.{take_nets}
use Rattle.lg_flatten.proofs.bits.take_nets.Given as goal

-- the flags so far and those that are left are all, and each port that is left has one
abbrev pub invariant-loop-comp : goal.invariant-loop-comp
invariant-loop-comp l =
    let uses = zip (iter_rest (zip_first l._comp-iterator)) (iter_rest (zip_second l._comp-iterator)) in
    record {
      value : l.takes.items ++ take_nets uses l.rest ≡ take_nets (zip l.comps l.roles) l.attached;
      one_each : length l.rest ≡ length (flat_map port_points uses);
    }

use Rattle.std.proofs.Common.{◌≡◌, ◌++◌, length}
use Rattle.std.specs.List.{flat_map, zip}
use Rattle.std.specs.Iterator.Adapters.{zip_first, zip_second}
use Rattle.std.specs.Slice.Iter.{iter_rest}
use Rattle.lg_flatten.specs.Uses.{port_points}
use Rattle.lg_flatten.specs.Flat.{pins_of}
use Rattle.lg_flatten.proofs.pins.pins.Given as goal

-- the pins so far and those that are left are all, and each port that is left has its net bits
abbrev pub invariant-loop-comp : goal.invariant-loop-comp
invariant-loop-comp l =
    let uses = zip (iter_rest (zip_first l.comp-iterator)) (iter_rest (zip_second l.comp-iterator)) in
    record {
      value : l.pins ++ pins_of l.circuit l.names uses l.rest ≡ pins_of l.circuit l.initial.names (zip l.comps l.roles) l.ports;
      one_each : length l.rest ≡ length (flat_map port_points uses);
    }

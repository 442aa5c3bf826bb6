use Rattle.std.proofs.Common.{◌≡◌, ◌++◌}
use Rattle.std.specs.List.{flat_map, zip}
use Rattle.std.specs.Iterator.Adapters.{zip_first, zip_second}
use Rattle.std.specs.Slice.Iter.{iter_rest}
use Rattle.lg_flatten.specs.Uses.{port_points, AreFit}
use Rattle.lg_flatten.proofs.places.ports.Given as goal

-- the ports so far and those that are left are all
abbrev pub invariant-loop-comp : goal.invariant-loop-comp
invariant-loop-comp l =
    let comps = iter_rest (zip_first l.comp-iterator) in
    let roles = iter_rest (zip_second l.comp-iterator) in
    record {
      value : l.ports.items ++ flat_map port_points (zip comps roles) ≡ flat_map port_points (zip l.comps l.roles);
      fit : AreFit comps roles;
    }

use Rattle.std.proofs.Common.{◌≡◌, ◌++◌}
use Rattle.std.specs.List.{flat_map, range_with_len}
use Rattle.lg_ports.specs.Given.{seen_given}
use Rattle.lg_ports.specs.SplitterEnds.{ports_of_end}
use Rattle.lg_ports.proofs.splitter.push_ends.Given as goal

-- the ports of the ends so far
abbrev pub invariant-loop-i : goal.invariant-loop-i
invariant-loop-i l = l.list ≡ l.fn.list ++ flat_map (ports_of_end (seen_given l.given)) (range_with_len 0 l.i)

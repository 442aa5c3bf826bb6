use Rattle.std.proofs.Common.{◌≡◌, map}
use Rattle.std.specs.List.{range_with_len}
use Rattle.lg_ports.specs.Given.{seen_given}
use Rattle.lg_ports.specs.SplitterEnds.{end_of}
use Rattle.lg_ports.proofs.splitter.bit_ends.Given as goal

-- the ends so far
abbrev pub invariant-loop-k : goal.invariant-loop-k
invariant-loop-k l = l.ends ≡ map (end_of (seen_given l.given)) (range_with_len 0 l.k)

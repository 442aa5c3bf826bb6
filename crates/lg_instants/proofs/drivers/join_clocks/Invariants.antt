use Rattle.std.proofs.Common.{◌≡◌, fold, drop, replicate, length}
use Rattle.lg_value.specs.Bit.{join_bits}
use Rattle.lg_timing.specs.Instant.{bits_on}
use Rattle.lg_instants.proofs.drivers.join_clocks.Given as goal

abbrev pub invariant-loop-n : goal.invariant-loop-n
invariant-loop-n l =
    fold join_bits l.joined (bits_on l.net (drop l.n-index l.clocks) (replicate (length (drop l.n-index l.clocks)) l.clock)) ≡ fold join_bits l.fn.bit (bits_on l.net l.clocks (replicate (length l.clocks) l.clock))

use Rattle.std.proofs.Common.{◌≡◌, fold, drop}
use Rattle.lg_value.specs.Bit.{join_bits}
use Rattle.lg_timing.specs.Instant.{words_on}
use Rattle.lg_instants.proofs.drivers.join_pins.Given as goal

abbrev pub invariant-loop-i : goal.invariant-loop-i
invariant-loop-i l =
    fold join_bits l.joined (words_on l.net (drop l.i l.pins) (drop l.i l.words)) ≡ fold join_bits l.fn.bit (words_on l.net l.pins l.words)

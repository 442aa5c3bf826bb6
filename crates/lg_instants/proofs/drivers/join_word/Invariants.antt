use Rattle.std.proofs.Common.{◌≡◌, fold, drop}
use Rattle.lg_value.specs.Bit.{join_bits}
use Rattle.lg_timing.specs.Instant.{bits_on}
use Rattle.lg_instants.proofs.drivers.join_word.Given as goal

abbrev pub invariant-loop-i : goal.invariant-loop-i
invariant-loop-i l =
    fold join_bits l.joined (bits_on l.net (drop l.i l.nets) (drop l.i l.word)) ≡ fold join_bits l.fn.bit (bits_on l.net l.nets l.word)

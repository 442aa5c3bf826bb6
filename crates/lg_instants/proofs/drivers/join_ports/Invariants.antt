use Rattle.std.proofs.Common.{◌≡◌, fold, drop, map}
use Rattle.lg_value.specs.Bit.{join_bits}
use Rattle.lg_timing.specs.Circuit.{Port}
use Rattle.lg_timing.specs.Instant.{words_on}
use Rattle.lg_instants.proofs.drivers.join_ports.Given as goal

abbrev pub invariant-loop-i : goal.invariant-loop-i
invariant-loop-i l =
    fold join_bits l.joined (words_on l.net (map (λ (port : Port). port.nets) (drop l.i l.ports)) (drop l.i l.words)) ≡ fold join_bits l.fn.bit (words_on l.net (map (λ (port : Port). port.nets) l.ports) l.words)

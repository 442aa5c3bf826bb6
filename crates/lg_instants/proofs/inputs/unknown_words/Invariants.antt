use Rattle.std.proofs.Common.{◌≡◌, map, take, replicate}
use Rattle.lg_value.specs.declared.bit.Bit.TheVariants.{Unknown}
use Rattle.lg_timing.specs.Circuit.{Port}
use Rattle.lg_instants.proofs.inputs.unknown_words.Given as goal

abbrev pub invariant-loop-port : goal.invariant-loop-port
invariant-loop-port l = l.words.items ≡ map (λ (p : Port). replicate p.width Unknown) (take l.port-index l.ports)

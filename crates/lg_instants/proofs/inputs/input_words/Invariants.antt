use Rattle.std.proofs.Common.{◌≡◌, map, take}
use Rattle.lg_timing.specs.Circuit.{Port}
use Rattle.lg_timing.specs.Instant.{word_at}
use Rattle.lg_instants.specs.Plain.{circuit_of, bit_from}
use Rattle.lg_instants.proofs.inputs.input_words.Given as goal

abbrev pub invariant-loop-port : goal.invariant-loop-port
invariant-loop-port g l =
    l.words.items ≡ map (λ (port : Port). word_at (bit_from (circuit_of g.P.Behaviour.meaning l.circuit) l.stimulus l.outputs) port.width port.nets) (take l.port-index l.ports)

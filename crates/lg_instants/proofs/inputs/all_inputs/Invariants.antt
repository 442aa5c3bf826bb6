use Rattle.std.proofs.Common.{◌≡◌, map, take}
use Rattle.lg_timing.specs.Instant.{Numbered, numbered_parts, input_words}
use Rattle.lg_instants.specs.Plain.{circuit_of, bit_from}
use Rattle.lg_instants.proofs.inputs.all_inputs.Given as goal

abbrev pub invariant-loop-i : goal.invariant-loop-i
invariant-loop-i g l =
    l.inputs.items ≡ map (λ (p : Numbered). input_words (bit_from (circuit_of g.P.Behaviour.meaning l.circuit) l.stimulus l.outputs) p.1) (take l.i (numbered_parts (circuit_of g.P.Behaviour.meaning l.circuit)))

use Rattle.std.proofs.Common.{◌≡◌, map, take}
use Rattle.lg_timing.specs.Instant.{Numbered, numbered_parts, unknown_words}
use Rattle.lg_instants.specs.Plain.{circuit_of}
use Rattle.lg_instants.proofs.configuration.all_unknown.Given as goal

abbrev pub invariant-loop-i : goal.invariant-loop-i
invariant-loop-i g l =
    l.shown.items ≡ map (λ (p : Numbered). unknown_words p.1.outputs) (take l.i (numbered_parts (circuit_of g.P.Behaviour.meaning l.circuit)))

use Rattle.std.proofs.Common.{◌≤◌, get_or}
use Rattle.std.proofs.lemmas.List.Elements.{All-map}
use Rattle.lg_timing.specs.Circuit.{Part}
use Rattle.lg_base_tests.proofs.timing.SampleKinds.{least_kind}
use Rattle.lg_base_tests.proofs.timing.value_after.Goals as goal

pub at-requires-clause-delays : goal.at-requires-clause-delays
at-requires-clause-delays g c =
    All-map (λ (p : Part). 1 ≤ p.delay) _ c.args.circuit.now.parts.items (λ k d inside.
    let part = get_or c.args.circuit.now.parts.items k d in least_kind part.kind part.inputs.items part.outputs.items)

use Rattle.std.proofs.Common.{get_or}
use Rattle.std.proofs.lemmas.List.Elements.{All-map}
use Rattle.lg_timing.specs.Settling.{IsSteady}
use Rattle.lg_base_tests.proofs.timing.SampleKinds.{steady_kind}
use Rattle.lg_base_tests.proofs.timing.table_of.Goals as goal

pub session-requires-clause-steady : goal.session-requires-clause-steady
session-requires-clause-steady g c = (
  5,
  All-map (IsSteady 5) _ c.args.circuit.now.parts.items (λ k d inside.
      let part = get_or c.args.circuit.now.parts.items k d in steady_kind part.kind part.inputs.items part.outputs.items),
)

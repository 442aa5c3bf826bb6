use Rattle.std.proofs.Common.{◌≤◌, get_or}
use Rattle.std.proofs.lemmas.List.Elements.{All-map}
use Rattle.lg_timing.specs.Circuit.{Part}
use Rattle.lg_timing.specs.Settling.{IsSteady}
use Rattle.lg_base_tests.proofs.timing.SampleKinds.{steady_kind, least_kind}
use Rattle.lg_base_tests.proofs.timing.settling_of.Goals as goal

pub settle-requires-clause-steady : goal.settle-requires-clause-steady
settle-requires-clause-steady g c = (
  5,
  All-map (IsSteady 5) _ c.args.circuit.now.parts.items (λ k d inside.
      let part = get_or c.args.circuit.now.parts.items k d in steady_kind part.kind part.inputs.items part.outputs.items),
)

pub at-requires-clause-delays : goal.at-requires-clause-delays
at-requires-clause-delays g c =
    All-map (λ (p : Part). 1 ≤ p.delay) _ c.args.circuit.now.parts.items (λ k d inside.
    let part = get_or c.args.circuit.now.parts.items k d in least_kind part.kind part.inputs.items part.outputs.items)

pub settle-requires-clause-stood : goal.settle-requires-clause-stood
settle-requires-clause-stood g c = record { stimuli = _; at = c.args.until; is = c.in_ok-stood.ensures }

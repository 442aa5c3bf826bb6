use Rattle.std.proofs.Common.{Option, get_or, sym, subst}
use Rattle.std.proofs.lemmas.List.Elements.{All-map}
use Rattle.lg_timing.specs.Settling.{IsSteady}
use Rattle.lg_timing.specs.Configuration.{Configuration}
use Rattle.lg_timing.specs.Staying.{HasStood}
use Rattle.lg_instants.specs.Plain.{circuit_of}
use Rattle.lg_base_tests.proofs.timing.SampleKinds.{meaning_of}
use Rattle.lg_base_tests.proofs.timing.SampleKinds.{steady_kind}
use Rattle.lg_base_tests.proofs.timing.expect_settlings.Goals as goal

pub settle-requires-clause-steady : goal.settle-requires-clause-steady
settle-requires-clause-steady g c = (
  5,
  All-map (IsSteady 5) _ c.args.circuit.now.parts.items (λ k d inside.
      let part = get_or c.args.circuit.now.parts.items k d in steady_kind part.kind part.inputs.items part.outputs.items),
)

pub settle-requires-clause-stood : goal.settle-requires-clause-stood
settle-requires-clause-stood g c =
    subst (λ (o : Option Configuration). HasStood (circuit_of meaning_of c.args.circuit.now) o) (sym c.as_ref.ensures.value) c.loop-bit.invariant

use Rattle.std.proofs.Common.{ℕ, ap, ◌∙◌}
use Rattle.lg_value.specs.declared.bit.Bit.{Bit}
use Rattle.lg_timing.specs.Configuration.{Configuration, nets_of}
use Rattle.lg_instants.specs.Plain.{circuit_of}
use Rattle.lg_timing.proofs.ConfigurationSteps.{nets_of-is}
use Rattle.lg_instants.proofs.configuration.value_at.Goals as goal

pub returns : goal.returns
returns g c =
    let circuit = circuit_of g.P.Behaviour.meaning c.args.circuit.now in
    c.value.ensures
    ∙ ap (λ (k : Configuration). nets_of circuit k c.args.net) c.in_ok-configuration.ensures
    ∙ ap (λ (f : ℕ → Bit). f c.args.net) (nets_of-is circuit c.args.stimuli.now c.args.instant)

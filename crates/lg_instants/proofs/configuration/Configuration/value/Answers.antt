use Rattle.std.proofs.Common.{ℕ, List, ap, ◌∙◌}
use Rattle.lg_value.specs.declared.bit.Bit.{Bit}
use Rattle.lg_timing.specs.Circuit.{Word}
use Rattle.lg_timing.specs.Configuration.{Configuration, nets_of}
use Rattle.lg_instants.specs.Plain.{circuit_of, bit_from}
use Rattle.lg_instants.proofs.SteppingLemmas.{bit_from-shown}
use Rattle.lg_instants.proofs.configuration.Configuration.value.Goals as goal

pub returns : goal.returns
returns g c =
    let circuit = circuit_of g.P.Behaviour.meaning c.args.circuit.now in
    c.net_bit.ensures
    ∙ ap (λ (l : List (List Word)). bit_from circuit c.self.inside.stimulus l c.args.net) c.as_slice.ensures.value
    ∙ ap (λ (f : ℕ → Bit). f c.args.net) (bit_from-shown circuit c.self.inside.stimulus c.self.inside.shown.items)
    ∙ ap (λ (k : Configuration). nets_of circuit k c.args.net) c.self.view_is

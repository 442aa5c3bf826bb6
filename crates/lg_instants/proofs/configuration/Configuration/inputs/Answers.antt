use Rattle.std.proofs.Common.{◌≡◌, ℕ, List, ap, ◌∙◌, subst}
use Rattle.std.specs.Prelude.{IfOk}
use Rattle.lg_value.specs.declared.bit.Bit.{Bit}
use Rattle.lg_timing.specs.Circuit.{Word}
use Rattle.lg_timing.specs.Configuration.{nets_of}
use Rattle.lg_instants.specs.Plain.{circuit_of, bit_from, all_inputs}
use Rattle.lg_instants.proofs.SteppingLemmas.{bit_from-shown}
use Rattle.lg_instants.proofs.configuration.Configuration.inputs.Goals as goal

pub returns : goal.returns
returns g c =
    let circuit = circuit_of g.P.Behaviour.meaning c.args.circuit.now in
    let nets = ap (λ (l : List (List Word)). bit_from circuit c.self.inside.stimulus l) c.as_slice.ensures.value
    ∙ bit_from-shown circuit c.self.inside.stimulus c.self.inside.shown.items
    ∙ ap (nets_of circuit) c.self.view_is in
    subst (λ (f : ℕ → Bit). IfOk c.all_inputs.result (λ inputs. inputs.items ≡ all_inputs circuit f)) nets c.all_inputs.ensures

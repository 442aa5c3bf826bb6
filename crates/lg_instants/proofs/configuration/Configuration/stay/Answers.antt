use Rattle.std.proofs.Common.{◌≡◌, ap, subst}
use Rattle.std.specs.Prelude.{IfOk}
use Rattle.lg_timing.specs.Configuration.{Configuration, next, stimulus_of}
use Rattle.lg_instants.specs.Plain.{circuit_of}
use Rattle.lg_instants.proofs.configuration.Configuration.stay.Goals as goal

pub returns : goal.returns
returns g c =
    let circuit = circuit_of g.P.Behaviour.meaning c.args.circuit.now in
    let same = ap (λ (j : Configuration). next circuit (stimulus_of j) c.args.self.now) c.self.view_is in
    subst (λ (x : Configuration). IfOk c.next.result (λ k. k ≡ x)) same c.next.ensures

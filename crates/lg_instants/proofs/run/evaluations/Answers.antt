use Rattle.std.proofs.Common.{List, ap, ◌∙◌}
use Rattle.lg_timing.specs.Circuit.{Word}
use Rattle.lg_instants.specs.Plain.{circuit_of}
use Rattle.lg_instants.specs.Stepping.{differing}
use Rattle.lg_instants.proofs.Evaluations.{differing-inputs}
use Rattle.lg_instants.proofs.run.evaluations.Goals as goal

pub returns : goal.returns
returns g c =
    let circuit = circuit_of g.P.Behaviour.meaning c.args.circuit.now in
    c.differing.ensures
    ∙ ap (λ (l : List (List Word)). differing l c.as_slice-2.result.now) (c.as_slice.ensures.value ∙ c.in_ok-before.ensures)
    ∙ ap (differing _) (c.as_slice-2.ensures.value ∙ c.in_ok-now.ensures)
    ∙ differing-inputs circuit c.args.before.now c.args.now.now

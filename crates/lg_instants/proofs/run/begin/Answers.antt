use Rattle.std.proofs.Common.{◌≡◌, length, refl, ap, arith}
use Rattle.std.specs.Prelude.{option_copied}
use Rattle.std.proofs.lemmas.List.{length-map}
use Rattle.lg_instants.specs.Plain.{circuit_of}
use Rattle.lg_instants.proofs.Runs.{run-first, run-next}
use Rattle.lg_instants.proofs.run.begin.Goals as goal

pub returns-in_ok-first-in-None-clause-is : goal.returns-in_ok-first-in-None-clause-is
returns-in_ok-first-in-None-clause-is g c =
    let circuit = circuit_of g.P.Behaviour.meaning c.args.circuit.now in
    let long : length circuit.parts ≡ length c.args.circuit.now.parts.items = simp length-map refl in
    run-first circuit (option_copied c.args.stood) c.args.stimulus.now c.in_ok-first-in-None.field-0 c.len.result
    (ap option_copied c.in-None.is) c.in_ok-first-in-None.ensures (omega (arith, long)) (omega arith)

pub returns-in_ok-own-in-Some-clause-is : goal.returns-in_ok-own-in-Some-clause-is
returns-in_ok-own-in-Some-clause-is g c =
    let circuit = circuit_of g.P.Behaviour.meaning c.args.circuit.now in
    run-next circuit (option_copied c.args.stood) c.in-Some.stood.now c.args.stimulus.now c.in_ok-configuration-in-Some.configuration c.in_ok-own-in-Some.own
    (ap option_copied c.in-Some.is) c.in_ok-configuration-in-Some.ensures c.in_ok-own-in-Some.ensures (omega arith)

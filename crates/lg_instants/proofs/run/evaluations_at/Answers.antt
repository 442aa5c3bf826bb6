use Rattle.std.proofs.Common.{◌≡◌, ◌-◌, ℕ, suc, length, refl, sym, ap, ◌∙◌, subst, arith}
use Rattle.std.specs.Prelude.{IfOk}
use Rattle.std.proofs.lemmas.List.{length-map}
use Rattle.lg_timing.specs.Configuration.{Configuration, configuration_at}
use Rattle.lg_timing.specs.Evaluation.{evaluations_at, evaluations_between}
use Rattle.lg_instants.specs.Plain.{circuit_of}
use Rattle.lg_timing.proofs.Evaluated.{evaluations-first}
use Rattle.lg_timing.proofs.Evaluated.{evaluations_between-is}
use Rattle.lg_instants.proofs.run.evaluations_at.Goals as goal

pub returns-then-instant-eq0 : goal.returns-then-instant-eq0
returns-then-instant-eq0 g c =
    let circuit = circuit_of g.P.Behaviour.meaning c.args.circuit.now in
    let zero : c.args.instant ≡ 0 = omega arith in
    let long : length circuit.parts ≡ length c.args.circuit.now.parts.items = simp length-map refl in
    omega (arith, long, evaluations-first circuit c.args.stimuli.now, ap (evaluations_at circuit c.args.stimuli.now) zero)

pub returns : goal.returns
returns g c =
    let circuit = circuit_of g.P.Behaviour.meaning c.args.circuit.now in
    let there : suc (c.args.instant - 1) ≡ c.args.instant = omega arith in
    let now = c.in_ok-now.ensures ∙ ap (configuration_at circuit c.args.stimuli.now) (sym there) in
    let count = ap (λ (k : Configuration). evaluations_between circuit k c.in_ok-now.now) c.in_ok-before.ensures
    ∙ ap (evaluations_between circuit (configuration_at circuit c.args.stimuli.now (c.args.instant - 1))) now
    ∙ evaluations_between-is circuit c.args.stimuli.now (c.args.instant - 1) ∙ ap (evaluations_at circuit c.args.stimuli.now) there in
    subst (λ (x : ℕ). IfOk c.evaluations.result (λ n. n ≡ x)) count c.evaluations.ensures

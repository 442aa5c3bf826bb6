use Rattle.std.proofs.Common.{◌≡◌, ◌+◌, sym, ap, ◌∙◌, subst, arith}
use Rattle.std.specs.Prelude.{IfOk}
use Rattle.lg_timing.specs.Circuit.{Stimulus}
use Rattle.lg_timing.specs.Configuration.{Configuration, configuration_at, first, going_on}
use Rattle.lg_instants.specs.Plain.{circuit_of}
use Rattle.lg_timing.proofs.ConfigurationSteps.{configuration-first, configuration-going_on}
use Rattle.lg_instants.proofs.configuration.Configuration.at.Goals as goal

pub returns : goal.returns
returns g c =
    let circuit = circuit_of g.P.Behaviour.meaning c.args.circuit.now in
    let same : 0 + c.args.instant ≡ c.args.instant = omega arith in
    let begun = c.in_ok-first.ensures ∙ ap (λ (s : Stimulus). first circuit s) c.in_force.ensures ∙ sym (configuration-first circuit c.args.stimuli.now c.requires.delays) in
    let there = ap (λ (k : Configuration). going_on circuit c.args.stimuli.now 0 k c.args.instant) begun
    ∙ sym (configuration-going_on circuit c.args.stimuli.now 0 c.args.instant c.requires.delays)
    ∙ ap (configuration_at circuit c.args.stimuli.now) same in
    subst (λ (x : Configuration). IfOk c.go_on.result (λ k. k ≡ x)) there c.go_on.ensures

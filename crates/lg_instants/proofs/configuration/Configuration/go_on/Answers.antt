use Rattle.std.proofs.Common.{◌+◌, sym, ap, ◌∙◌, arith}
use Rattle.lg_timing.specs.Circuit.{Stimulus}
use Rattle.lg_timing.specs.Configuration.{Configuration, next, going_on}
use Rattle.lg_instants.specs.Plain.{circuit_of}
use Rattle.lg_timing.proofs.ConfigurationSteps.{going_on-none, going_on-more}
use Rattle.lg_instants.proofs.configuration.Configuration.go_on.Goals as goal

pub loop-i-init : goal.loop-i-init
loop-i-init g c = sym (going_on-none (circuit_of g.P.Behaviour.meaning c.args.circuit.now) c.args.stimuli.now c.args.at c.args.self)

pub loop-i-preserved : goal.loop-i-preserved
loop-i-preserved g c =
    let circuit = circuit_of g.P.Behaviour.meaning c.args.circuit.now in
    let more = going_on-more circuit c.args.stimuli.now c.args.at c.loop-i.i (c.args.at + c.loop-i.i + 1) c.args.self (omega arith) in
    let force = c.in_force-stimulus.ensures in
    let made = c.in_ok-configuration.ensures in
    let before = c.loop-i.invariant in
    made ∙ ap (λ (k : Configuration). next circuit c.in_force-stimulus.result.now k) before
    ∙ ap (λ (s : Stimulus). next circuit s (going_on circuit c.args.stimuli.now c.args.at c.args.self c.loop-i.i)) force
    ∙ sym more

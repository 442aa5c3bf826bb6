use Rattle.std.proofs.Common.{length, ap, arith}
use Rattle.lg_instants.specs.Stepping.{steps_from}
use Rattle.lg_instants.proofs.PartSteps.{numbered_more, numbered_all, element-along}
use Rattle.lg_instants.proofs.configuration.all_steps.Goals as goal

pub loop-i-preserved : goal.loop-i-preserved
loop-i-preserved g c =
    let same = c.as_slice-parts.ensures.value in
    let more = numbered_more g.P.Behaviour.meaning (steps_from c.args.states.now c.args.before.now c.args.now.now) c.args.circuit.now.parts.items c.loop-i.i c.index-parts-i.result (element-along _ _ _ _ same c.index-parts-i.is) (omega (arith, ap length same)) in
    let before = c.loop-i.invariant in
    let made = c.in_ok-next.ensures in
    let pushed = c.in_ok-push.ensures.items in
    cc (more, before, made, pushed, c.words_of-state.ensures, c.words_of.ensures, c.words_of-in-loop-i.ensures, c.new.ensures)

pub returns : goal.returns
returns g c =
    let same = c.as_slice-parts.ensures.value in
    let all = numbered_all g.P.Behaviour.meaning (steps_from c.args.states.now c.args.before.now c.args.now.now) c.args.circuit.now.parts.items c.loop-i.i (omega (arith, ap length same)) in
    let before = c.loop-i.invariant in
    cc (all, before)

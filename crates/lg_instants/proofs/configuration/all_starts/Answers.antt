use Rattle.std.proofs.Common.{length, ap, arith}
use Rattle.std.specs.List.{list_all}
use Rattle.lg_timing.specs.Circuit.{Part}
use Rattle.lg_instants.specs.Plain.{is_port}
use Rattle.lg_instants.specs.Stepping.{starts_from}
use Rattle.lg_instants.proofs.PartSteps.{list_all-meaning, numbered_more, numbered_all, element-along}
use Rattle.lg_instants.proofs.configuration.all_starts.Goals as goal

pub start_of-requires : goal.start_of-requires
start_of-requires g c =
    let same = c.as_slice-parts.ensures.value in
    list_all-meaning g.P.Behaviour.meaning (λ (p : Part). list_all is_port p.inputs) c.args.circuit.now.parts.items c.loop-i.i c.index-parts-i.result c.requires.inputs (omega (arith, ap length same)) (element-along _ _ _ _ same c.index-parts-i.is)

pub loop-i-preserved : goal.loop-i-preserved
loop-i-preserved g c =
    let same = c.as_slice-parts.ensures.value in
    let more = numbered_more g.P.Behaviour.meaning (starts_from c.args.now.now) c.args.circuit.now.parts.items c.loop-i.i c.index-parts-i.result (element-along _ _ _ _ same c.index-parts-i.is) (omega (arith, ap length same)) in
    let before = c.loop-i.invariant in
    let made = c.in_ok-start_of.ensures in
    let pushed = c.in_ok-push.ensures.items in
    cc (more, before, made, pushed, c.words_of.ensures)

pub returns : goal.returns
returns g c =
    let same = c.as_slice-parts.ensures.value in
    let all = numbered_all g.P.Behaviour.meaning (starts_from c.args.now.now) c.args.circuit.now.parts.items c.loop-i.i (omega (arith, ap length same)) in
    let before = c.loop-i.invariant in
    cc (all, before)

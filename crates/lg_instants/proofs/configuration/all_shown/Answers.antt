use Rattle.std.proofs.Common.{arith}
use Rattle.lg_instants.specs.Stepping.{first_due}
use Rattle.lg_instants.proofs.SteppingLemmas.{by_number_more, by_number_all}
use Rattle.lg_instants.proofs.configuration.all_shown.Goals as goal

pub loop-i-preserved : goal.loop-i-preserved
loop-i-preserved g c =
    let more = by_number_more g.P.Behaviour.meaning (first_due c.args.due.now) c.args.circuit.now.parts.items c.loop-i.i (omega arith) in
    let before = c.loop-i.invariant in
    let pushed = c.in_ok-push.ensures.items in
    cc (more, before, pushed, c.in_ok-copy_of.ensures, c.words_of.ensures, c.due_of.ensures)

pub returns : goal.returns
returns g c =
    let all = by_number_all g.P.Behaviour.meaning (first_due c.args.due.now) c.args.circuit.now.parts.items c.loop-i.i (omega arith) in
    let before = c.loop-i.invariant in
    cc (all, before)

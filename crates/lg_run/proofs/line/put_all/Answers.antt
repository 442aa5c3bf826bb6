-- Each text is written after the ones before it.
use Rattle.lg_run.proofs.Pieces.{Wrote-some}
use Rattle.lg_run.proofs.line.put_all.Goals as goal

pub returns-in_err-put : goal.returns-in_err-put
returns-in_err-put g c =
    let seen = g.E.Sink.seen in
    Wrote-some c.from_residual.result (seen c.args.err.now) (seen c.loop-text.err) (seen c.put.new.err) c.args.texts.now c.loop-text.text-index _
    c.loop-text-test.true c.from_residual.ensures.0 c.loop-text.invariant.taken c.loop-text.invariant.never_falls c.in_err-put.ensures.wrote

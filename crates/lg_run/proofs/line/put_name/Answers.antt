-- Two writes, one after the other.
use Rattle.lg_io.proofs.Written.{Wrote-after}
use Rattle.lg_run.proofs.line.put_name.Goals as goal

pub returns-clause-wrote : goal.returns-clause-wrote
returns-clause-wrote g c =
    let seen = g.E.Sink.seen in
    Wrote-after c.put-2.result (seen c.args.err.now) (seen c.put.new.err) (seen c.put-2.new.err) c.args.word.now c.args.name.now c.in_ok-put.ensures.wrote c.put.ensures.never_falls c.put-2.ensures.wrote

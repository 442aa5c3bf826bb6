-- Three writes, each after what the ones before it took.
use Rattle.std.proofs.Common.{◌++◌, arith}
use Rattle.lg_io.proofs.Written.{Took-then, TookPrefix-more, TookPrefix-after, Wrote-err, Wrote-after}
use Rattle.lg_run.proofs.line.put_about.Goals as goal

pub returns-clause-wrote : goal.returns-clause-wrote
returns-clause-wrote g c =
    let seen = g.E.Sink.seen in
    let old = c.args.err.now in
    Wrote-after c.put-3.result (seen old) (seen c.put-2.new.err) (seen c.put-3.new.err) (c.args.before.now ++ c.args.file.now) c.args.after.now
    (Took-then (seen old) (seen c.put.new.err) (seen c.put-2.new.err) c.args.before.now c.args.file.now c.in_ok-put.ensures.wrote c.in_ok-put-2.ensures.wrote)
    (omega (arith, c.put.ensures.never_falls, c.put-2.ensures.never_falls)) c.put-3.ensures.wrote

pub returns-in_err-put-clause-wrote : goal.returns-in_err-put-clause-wrote
returns-in_err-put-clause-wrote g c =
    let seen = g.E.Sink.seen in
    let old = c.args.err.now in
    Wrote-err c.from_residual.result (seen old) (seen c.put.new.err) (c.args.before.now ++ c.args.file.now ++ c.args.after.now) c.from_residual.ensures.0
    (TookPrefix-more (seen old) (seen c.put.new.err) (c.args.before.now ++ c.args.file.now) c.args.after.now
    (TookPrefix-more (seen old) (seen c.put.new.err) c.args.before.now c.args.file.now c.in_err-put.ensures.wrote.0)) c.in_err-put.ensures.wrote.1

pub returns-in_err-put-2-clause-wrote : goal.returns-in_err-put-2-clause-wrote
returns-in_err-put-2-clause-wrote g c =
    let seen = g.E.Sink.seen in
    let old = c.args.err.now in
    Wrote-err c.from_residual-in_err-put-2.result (seen old) (seen c.put-2.new.err) (c.args.before.now ++ c.args.file.now ++ c.args.after.now) c.from_residual-in_err-put-2.ensures.0
    (TookPrefix-more (seen old) (seen c.put-2.new.err) (c.args.before.now ++ c.args.file.now) c.args.after.now
    (TookPrefix-after (seen old) (seen c.put.new.err) (seen c.put-2.new.err) c.args.before.now c.args.file.now c.in_ok-put.ensures.wrote c.in_err-put-2.ensures.wrote.0))
    (omega (arith, c.put.ensures.never_falls, c.in_err-put-2.ensures.wrote.1))

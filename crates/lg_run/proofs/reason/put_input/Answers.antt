-- Three writes, each after what the ones before it took.
use Rattle.std.proofs.Common.{◌++◌, codes, arith}
use Rattle.lg_io.proofs.Written.{Took-then, TookPrefix-more, TookPrefix-after, Wrote-err, Wrote-after}
use Rattle.lg_run.specs.Lines.{refusal_text}
use Rattle.lg_run.proofs.reason.put_input.Goals as goal

pub returns : goal.returns
returns g c =
    let seen = g.E.Sink.seen in
    let old = c.args.err.now in
    let head = codes "lg: input: " ++ c.args.file.now ++ codes ": " in
    Wrote-after c.put.result (seen old) (seen c.put_reason.new.err) (seen c.put.new.err) (head ++ refusal_text c.args.refusal.now) (codes "\n")
    (Took-then (seen old) (seen c.put_about.new.err) (seen c.put_reason.new.err) head (refusal_text c.args.refusal.now) c.in_ok-put_about.ensures.wrote c.in_ok-put_reason.ensures.wrote)
    (omega (arith, c.put_about.ensures.never_falls, c.put_reason.ensures.never_falls)) c.put.ensures.wrote

pub returns-in_err-put_about : goal.returns-in_err-put_about
returns-in_err-put_about g c =
    let seen = g.E.Sink.seen in
    let old = c.args.err.now in
    let head = codes "lg: input: " ++ c.args.file.now ++ codes ": " in
    Wrote-err c.from_residual.result (seen old) (seen c.put_about.new.err) (head ++ refusal_text c.args.refusal.now ++ codes "\n") c.from_residual.ensures.0
    (TookPrefix-more (seen old) (seen c.put_about.new.err) (head ++ refusal_text c.args.refusal.now) (codes "\n")
    (TookPrefix-more (seen old) (seen c.put_about.new.err) head (refusal_text c.args.refusal.now) c.in_err-put_about.ensures.wrote.0)) c.in_err-put_about.ensures.wrote.1

pub returns-in_err-put_reason : goal.returns-in_err-put_reason
returns-in_err-put_reason g c =
    let seen = g.E.Sink.seen in
    let old = c.args.err.now in
    let head = codes "lg: input: " ++ c.args.file.now ++ codes ": " in
    Wrote-err c.from_residual-in_err-put_reason.result (seen old) (seen c.put_reason.new.err) (head ++ refusal_text c.args.refusal.now ++ codes "\n") c.from_residual-in_err-put_reason.ensures.0
    (TookPrefix-more (seen old) (seen c.put_reason.new.err) (head ++ refusal_text c.args.refusal.now) (codes "\n")
    (TookPrefix-after (seen old) (seen c.put_about.new.err) (seen c.put_reason.new.err) head (refusal_text c.args.refusal.now) c.in_ok-put_about.ensures.wrote c.in_err-put_reason.ensures.wrote.0))
    (omega (arith, c.put_about.ensures.never_falls, c.in_err-put_reason.ensures.wrote.1))

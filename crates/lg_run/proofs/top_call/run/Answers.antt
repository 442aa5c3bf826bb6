-- What was due decides the status, unless memory ran out or a count rose.
use Rattle.std.proofs.Common.{sym, ap, subst}
use Rattle.lg_run.specs.Outcome.{Ends}
use Rattle.lg_run.specs.Words.{words_of, command}
use Rattle.lg_run.proofs.Commands.{done_written, agrees_written, prefix_written, complete_written, said_written, complete_stopped, said_stopped}
use Rattle.lg_run.proofs.top_call.run.Goals as goal

pub returns-in-Ok-clause-done : goal.returns-in-Ok-clause-done
returns-in-Ok-clause-done g c =
    let before = g.O.Sink.seen c.args.out.now in
    let after = g.O.Sink.seen c.write.new.out in
    done_written (g.F.Files.seen c.args.files.now).held (words_of c.args.words.now) (command c.in-Some.asked) c.in-Ok.text.items c.write.result before after
    (sym c.in-Some.ensures) c.in-Ok.ensures.answers (subst (Ends c.write.result before after) c.as_slice.ensures.value c.write.ensures.ends)

pub returns-in-Ok-clause-agrees : goal.returns-in-Ok-clause-agrees
returns-in-Ok-clause-agrees g c =
    let before = g.O.Sink.seen c.args.out.now in
    let after = g.O.Sink.seen c.write.new.out in
    agrees_written (g.F.Files.seen c.args.files.now).held (words_of c.args.words.now) (command c.in-Some.asked) c.in-Ok.text.items c.write.result before after
    (sym c.in-Some.ensures) c.in-Ok.ensures.answers (subst (Ends c.write.result before after) c.as_slice.ensures.value c.write.ensures.ends)

pub returns-in-Ok-clause-prefix : goal.returns-in-Ok-clause-prefix
returns-in-Ok-clause-prefix g c =
    let before = g.O.Sink.seen c.args.out.now in
    let after = g.O.Sink.seen c.write.new.out in
    prefix_written (g.F.Files.seen c.args.files.now).held (words_of c.args.words.now) (command c.in-Some.asked) c.in-Ok.text.items c.write.result before after
    (sym c.in-Some.ensures) c.in-Ok.ensures.answers (subst (Ends c.write.result before after) c.as_slice.ensures.value c.write.ensures.ends)

pub returns-in-Ok-clause-complete : goal.returns-in-Ok-clause-complete
returns-in-Ok-clause-complete g c =
    let before = g.O.Sink.seen c.args.out.now in
    let after = g.O.Sink.seen c.write.new.out in
    complete_written (g.F.Files.seen c.args.files.now).held (words_of c.args.words.now) (command c.in-Some.asked) c.in-Ok.text.items c.write.result
    (g.F.Files.seen c.args.files.now) (g.F.Files.seen c.text_of.new.files) before after
    (sym c.in-Some.ensures) c.in-Ok.ensures.answers (subst (Ends c.write.result before after) c.as_slice.ensures.value c.write.ensures.ends)

pub returns-in-Ok-clause-said : goal.returns-in-Ok-clause-said
returns-in-Ok-clause-said g c =
    let seen = g.E.Sink.seen in
    said_written (g.F.Files.seen c.args.files.now).held (words_of c.args.words.now) c.write.result (g.O.Sink.seen c.args.out.now) (g.O.Sink.seen c.write.new.out) (seen c.args.err.now) (seen c.write.new.err)
    c.as_slice.result.now c.write.ensures.ends (λ e. ap seen (c.write.ensures.quiet e)) c.write.ensures.said

pub returns-in-Err-clause-complete : goal.returns-in-Err-clause-complete
returns-in-Err-clause-complete g c =
    complete_stopped (words_of c.args.words.now) (command c.in-Some.asked) c.in-Err.stopped.file.now (g.F.Files.seen c.args.files.now) (g.F.Files.seen c.text_of.new.files)
    (g.O.Sink.seen c.args.out.now) (g.O.Sink.seen c.args.out.now) c.in-Err.stopped.stop c.end-in-Err.result (sym c.in-Some.ensures) c.end-in-Err.ensures.status c.in-Err.ensures.answers.0

pub returns-in-Err-clause-said : goal.returns-in-Err-clause-said
returns-in-Err-clause-said g c =
    said_stopped (words_of c.args.words.now) (command c.in-Some.asked) c.in-Err.stopped.file.now (g.F.Files.seen c.args.files.now) (g.F.Files.seen c.text_of.new.files)
    (g.E.Sink.seen c.args.err.now) (g.E.Sink.seen c.end-in-Err.new.err) c.in-Err.stopped.stop c.end-in-Err.result (sym c.in-Some.ensures) c.end-in-Err.ensures.status c.in-Err.ensures.answers.0 c.in-Err.ensures.answers.1 c.end-in-Err.ensures.said

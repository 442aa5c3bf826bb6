-- What the bytes of the file make is what is due for it.
use Rattle.std.proofs.Common.{ℕ, List, Ok, subst}
use Rattle.std.proofs.lemmas.Result.{err_from_is_err_and}
use Rattle.lg_run.specs.Answered.{IsUnmade, Makes}
use Rattle.lg_run.proofs.Answering.{export_unread, export_text, export_stop}
use Rattle.lg_run.proofs.export.export.Goals as goal

pub returns-in_err-bytes-clause-answers : goal.returns-in_err-bytes-clause-answers
returns-in_err-bytes-clause-answers g c =
    let p = err_from_is_err_and c.from_residual.result c.from_residual.ensures.1 in
    let seen = g.F.Files.seen in
    rw (p.1, p.2) (export_unread (seen c.args.files.now) (seen c.contents.new.files) c.args.file.now c.in_err-bytes.field-0.0 c.in_err-bytes.ensures.answers.0 c.in_err-bytes.ensures.answers.1)

pub returns-in-Ok-clause-answers : goal.returns-in-Ok-clause-answers
returns-in-Ok-clause-answers g c =
    let seen = g.F.Files.seen in
    let bytes = c.in_ok-bytes.bytes.items in
    export_text (seen c.args.files.now) (seen c.contents.new.files) c.args.file.now bytes c.in-Ok.text c.in_ok-bytes.ensures.answers.0
    (subst (λ (b : List ℕ). Makes b (Ok c.in-Ok.text)) c.as_slice.ensures.value c.in-Ok.ensures)

pub returns-clause-answers : goal.returns-clause-answers
returns-clause-answers g c =
    let seen = g.F.Files.seen in
    let bytes = c.in_ok-bytes.bytes.items in
    export_stop (seen c.args.files.now) (seen c.contents.new.files) c.args.file.now bytes c.about.result c.in_ok-bytes.ensures.answers.0
    (rw c.about.ensures.0 (subst (λ (b : List ℕ). IsUnmade b c.in-Err.stop) c.as_slice.ensures.value c.in-Err.ensures)) c.about.ensures.1

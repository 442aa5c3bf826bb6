-- What the read answers is what the file gives.
use Rattle.std.proofs.Common.{◌≡◌, ℕ, List, Result, Err, Vec, Global, refl, sym, subst, ◌∙◌}
use Rattle.lg_io.specs.Fault.{HasRisen}
use Rattle.lg_io.specs.declared.fault.FileFault.{FileFault}
use Rattle.lg_io.specs.declared.fault.FileFault.TheVariants.{Failed}
use Rattle.lg_run.specs.declared.stop.Stop.{Stop}
use Rattle.lg_run.specs.Contents.{IsUnread}
use Rattle.lg_run.proofs.Reading.{finds_bytes, not_read}
use Rattle.lg_run.proofs.contents.contents.Goals as goal

pub returns-in-Ok-clause-answers : goal.returns-in-Ok-clause-answers
returns-in-Ok-clause-answers g c =
    let before = g.F.Files.seen c.args.files.now in
    (finds_bytes before.held c.args.file.now c.in-Ok.bytes.items c.args.most c.in-Ok.ensures.answer, c.in-Ok.ensures.within)

pub returns-in-Err-clause-answers : goal.returns-in-Err-clause-answers
returns-in-Err-clause-answers g c =
    let before = g.F.Files.seen c.args.files.now in
    let after = g.F.Files.seen c.read.new.self in
    let fault = c.in-Err.fault in
    let failed : fault ≡ Failed → HasRisen before.faults after.faults = λ e. c.in-Err.ensures.failed (subst (λ (f : FileFault). ◌≡◌ {A = Result (Vec ℕ Global) FileFault} (Err fault) (Err f)) e refl) in
    (c.about.ensures.1, subst (IsUnread before after c.args.file.now c.args.most) (sym (c.about.ensures.0 ∙ c.from.ensures)) (not_read before after c.args.file.now c.args.most fault c.in-Err.ensures.answer failed))

-- The rows follow the module.
use Rattle.std.proofs.Common.{◌≡◌, ℕ, ◌≤◌, List, refl, sym, subst, ◌∙◌, arith}
use Rattle.std.proofs.lemmas.Result.{err_from_is_err_and}
use Rattle.lg_vrows.specs.Due.{IsValidText, IsModuleFault, IsRowsText, IsRowsFault}
use Rattle.lg_run.proofs.Answering.{HasModule, module_unread, module_refused, rows_unread, rows_refused, rows_written}
use Rattle.lg_run.proofs.vrun.vrun.Goals as goal

pub returns-in_err-text-clause-answers : goal.returns-in_err-text-clause-answers
returns-in_err-text-clause-answers g c =
    let p = err_from_is_err_and c.from_residual.result c.from_residual.ensures.1 in
    let seen = g.F.Files.seen in
    rw (p.1, p.2) (module_unread (seen c.args.files.now) (seen c.contents.new.files) c.args.of_module.now c.args.of_rows.now c.in_err-text.field-0.0 c.in_err-text.ensures.answers.0 c.in_err-text.ensures.answers.1)

pub returns-in-Err-clause-answers : goal.returns-in-Err-clause-answers
returns-in-Err-clause-answers g c =
    let seen = g.F.Files.seen in
    let bytes = c.in_ok-text.text.items in
    let fault = subst (λ (b : List ℕ). IsModuleFault b c.in-Err.fault) c.as_slice.ensures.value c.in-Err.ensures.fault in
    module_refused (seen c.args.files.now) (seen c.contents.new.files) c.args.of_module.now c.args.of_rows.now bytes c.in-Err.fault c.about.result c.in_ok-text.ensures.answers.0 c.in_ok-text.ensures.answers.1
    fault (c.about.ensures.0 ∙ c.from.ensures) c.about.ensures.1

pub returns-in_err-rows-clause-answers : goal.returns-in_err-rows-clause-answers
returns-in_err-rows-clause-answers g c =
    let p = err_from_is_err_and c.from_residual-in_err-rows.result c.from_residual-in_err-rows.ensures.1 in
    let seen = g.F.Files.seen in
    let bytes = c.in_ok-text.text.items in
    let has : HasModule (seen c.args.files.now).held c.args.of_module.now c.in-Ok.«module» = record { bytes = bytes; finds = c.in_ok-text.ensures.answers.0; fits = c.in_ok-text.ensures.answers.1; valid = subst (λ (b : List ℕ). IsValidText b c.in-Ok.«module») c.as_slice.ensures.value c.in-Ok.ensures.found } in
    rw (p.1, p.2) (rows_unread (seen c.args.files.now) (seen c.contents.new.files) (seen c.contents-2.new.files) c.in_ok-text.ensures.same_files c.in_ok-text.ensures.never_falls c.args.of_module.now c.args.of_rows.now c.in-Ok.«module» has
    c.in_err-rows.field-0.0 c.in_err-rows.ensures.answers.0 c.in_err-rows.ensures.answers.1)

pub returns-in-Ok-rows_text-clause-answers : goal.returns-in-Ok-rows_text-clause-answers
returns-in-Ok-rows_text-clause-answers g c =
    let seen = g.F.Files.seen in
    let bytes = c.in_ok-text.text.items in
    let m = c.in-Ok.«module» in
    let has : HasModule (seen c.args.files.now).held c.args.of_module.now m = record { bytes = bytes; finds = c.in_ok-text.ensures.answers.0; fits = c.in_ok-text.ensures.answers.1; valid = subst (λ (b : List ℕ). IsValidText b m) c.as_slice.ensures.value c.in-Ok.ensures.found } in
    let text = subst (λ (b : List ℕ). IsRowsText m b c.in-Ok-rows_text.text.items) c.as_slice-2.ensures.value c.in-Ok-rows_text.ensures.found in
    rows_written (seen c.args.files.now) (seen c.contents.new.files) (seen c.contents-2.new.files) c.in_ok-text.ensures.same_files c.in_ok-text.ensures.never_falls c.args.of_module.now c.args.of_rows.now m has
    c.in_ok-rows.rows.items c.in-Ok-rows_text.text c.in_ok-rows.ensures.answers.0 c.in_ok-rows.ensures.answers.1 text

pub returns-clause-answers : goal.returns-clause-answers
returns-clause-answers g c =
    let seen = g.F.Files.seen in
    let bytes = c.in_ok-text.text.items in
    let m = c.in-Ok.«module» in
    let has : HasModule (seen c.args.files.now).held c.args.of_module.now m = record { bytes = bytes; finds = c.in_ok-text.ensures.answers.0; fits = c.in_ok-text.ensures.answers.1; valid = subst (λ (b : List ℕ). IsValidText b m) c.as_slice.ensures.value c.in-Ok.ensures.found } in
    let fault = subst (λ (b : List ℕ). IsRowsFault m b c.in-Err-rows_text.fault) c.as_slice-2.ensures.value c.in-Err-rows_text.ensures.fault in
    rows_refused (seen c.args.files.now) (seen c.contents.new.files) (seen c.contents-2.new.files) c.in_ok-text.ensures.same_files c.in_ok-text.ensures.never_falls c.args.of_module.now c.args.of_rows.now m has
    c.in_ok-rows.rows.items c.in-Err-rows_text.fault c.about-in-Err-rows_text.result c.in_ok-rows.ensures.answers.0 c.in_ok-rows.ensures.answers.1 fault (c.about-in-Err-rows_text.ensures.0 ∙ c.from-in-Err-rows_text.ensures) c.about-in-Err-rows_text.ensures.1

use Rattle.std.proofs.Common.{◌≡◌, true, false, sym, ◌∙◌}
use Rattle.std.proofs.lemmas.Result.{err_from_is_err_and}
use Rattle.lg_vread.specs.Lexing.{left}
use Rattle.lg_vread.specs.Reading.{declares, decl_at}
use Rattle.lg_vread.proofs.Many.{one_more, no_more, fails}
use Rattle.lg_vread.proofs.Shorter.{decl_shorter}
use Rattle.lg_vread.proofs.reader.Reader.decls.Goals as goal

pub returns-in_err-decl : goal.returns-in_err-decl
returns-in_err-decl c =
    let l = c.loop-alloc in
    let here : declares (left l.self) ≡ true = sym c.is_at_decl.ensures ∙ c.loop-alloc-test.true in
    let p = err_from_is_err_and c.from_residual.result c.from_residual.ensures.1 in
    rw (p.1, p.2) (fails declares decl_at _ l.decls (left l.self) c.in_err-decl.field-0.0 l.invariant here c.in_err-decl.ensures)

pub loop-alloc-smaller : goal.loop-alloc-smaller
loop-alloc-smaller c = decl_shorter (left c.loop-alloc.self) c.in_ok-decl.field-0 (left c.decl.new.self) c.in_ok-decl.ensures

pub loop-alloc-preserved : goal.loop-alloc-preserved
loop-alloc-preserved c =
    let l = c.loop-alloc in
    let here : declares (left l.self) ≡ true = sym c.is_at_decl.ensures ∙ c.loop-alloc-test.true in
    let shorter = decl_shorter (left l.self) c.in_ok-decl.field-0 (left c.decl.new.self) c.in_ok-decl.ensures in
    one_more declares decl_at _ l.decls c.push.new.self (left l.self) c.in_ok-decl.field-0 (left c.decl.new.self) l.invariant here c.in_ok-decl.ensures shorter c.in_ok-push.ensures.ok

pub returns : goal.returns
returns c =
    let l = c.loop-alloc in
    let stop : declares (left l.self) ≡ false = sym c.is_at_decl.ensures ∙ c.loop-alloc-test.false in
    no_more declares decl_at _ l.decls (left l.self) l.invariant stop

use Rattle.std.proofs.Common.{◌≡◌, true, false, sym, ap, ◌∙◌}
use Rattle.std.specs.Prelude.{not}
use Rattle.std.proofs.lemmas.Result.{err_from_is_err_and}
use Rattle.lg_vread.specs.Lexing.{left}
use Rattle.lg_vread.specs.Reading.{goes_on, stmt_at}
use Rattle.lg_vread.proofs.Many.{one_more, no_more, fails}
use Rattle.lg_vread.proofs.Shorter.{stmt_shorter}
use Rattle.lg_vread.proofs.reader.Reader.stmts.Goals as goal

pub returns-in_err-stmt : goal.returns-in_err-stmt
returns-in_err-stmt c =
    let l = c.loop-alloc in
    let here : goes_on (left l.self) ≡ true = ap not (sym c.is_at.ensures ∙ c.loop-alloc-test.true) in
    let p = err_from_is_err_and c.from_residual.result c.from_residual.ensures.1 in
    rw (p.1, p.2) (fails goes_on (stmt_at c.args.depth) _ l.stmts (left l.self) c.in_err-stmt.field-0.0 l.invariant here c.in_err-stmt.ensures)

pub loop-alloc-smaller : goal.loop-alloc-smaller
loop-alloc-smaller c = stmt_shorter c.args.depth (left c.loop-alloc.self) c.in_ok-stmt.field-0 (left c.stmt.new.self) c.in_ok-stmt.ensures

pub loop-alloc-preserved : goal.loop-alloc-preserved
loop-alloc-preserved c =
    let l = c.loop-alloc in
    let here : goes_on (left l.self) ≡ true = ap not (sym c.is_at.ensures ∙ c.loop-alloc-test.true) in
    let shorter = stmt_shorter c.args.depth (left l.self) c.in_ok-stmt.field-0 (left c.stmt.new.self) c.in_ok-stmt.ensures in
    one_more goes_on (stmt_at c.args.depth) _ l.stmts c.push.new.self (left l.self) c.in_ok-stmt.field-0 (left c.stmt.new.self) l.invariant here c.in_ok-stmt.ensures shorter c.in_ok-push.ensures.ok

pub returns : goal.returns
returns c =
    let l = c.loop-alloc in
    let stop : goes_on (left l.self) ≡ false = ap not (sym c.is_at.ensures ∙ c.loop-alloc-test.false) in
    no_more goes_on (stmt_at c.args.depth) _ l.stmts (left l.self) l.invariant stop

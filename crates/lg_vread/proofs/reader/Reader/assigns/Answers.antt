use Rattle.std.proofs.Common.{◌≡◌, true, false, sym, ◌∙◌}
use Rattle.std.specs.Prelude.{codes}
use Rattle.std.proofs.lemmas.Result.{err_from_is_err_and}
use Rattle.lg_vread.specs.Lexing.{left}
use Rattle.lg_vread.specs.Reading.{is_at, assign_at}
use Rattle.lg_vread.proofs.Many.{one_more, no_more, fails}
use Rattle.lg_vread.proofs.Shorter.{assign_shorter}
use Rattle.lg_vread.proofs.reader.Reader.assigns.Goals as goal

pub returns-in_err-assign : goal.returns-in_err-assign
returns-in_err-assign c =
    let l = c.loop-alloc in
    let here : (is_at (codes "assign")) (left l.self) ≡ true = sym c.is_at.ensures ∙ c.loop-alloc-test.true in
    let p = err_from_is_err_and c.from_residual.result c.from_residual.ensures.1 in
    rw (p.1, p.2) (fails (is_at (codes "assign")) (assign_at c.args.depth) _ l.assigns (left l.self) c.in_err-assign.field-0.0 l.invariant here c.in_err-assign.ensures)

pub loop-alloc-smaller : goal.loop-alloc-smaller
loop-alloc-smaller c = assign_shorter c.args.depth (left c.loop-alloc.self) c.in_ok-assign.field-0 (left c.assign.new.self) c.in_ok-assign.ensures

pub loop-alloc-preserved : goal.loop-alloc-preserved
loop-alloc-preserved c =
    let l = c.loop-alloc in
    let here : (is_at (codes "assign")) (left l.self) ≡ true = sym c.is_at.ensures ∙ c.loop-alloc-test.true in
    let shorter = assign_shorter c.args.depth (left l.self) c.in_ok-assign.field-0 (left c.assign.new.self) c.in_ok-assign.ensures in
    one_more (is_at (codes "assign")) (assign_at c.args.depth) _ l.assigns c.push.new.self (left l.self) c.in_ok-assign.field-0 (left c.assign.new.self) l.invariant here c.in_ok-assign.ensures shorter c.in_ok-push.ensures.ok

pub returns : goal.returns
returns c =
    let l = c.loop-alloc in
    let stop : (is_at (codes "assign")) (left l.self) ≡ false = sym c.is_at.ensures ∙ c.loop-alloc-test.false in
    no_more (is_at (codes "assign")) (assign_at c.args.depth) _ l.assigns (left l.self) l.invariant stop

use Rattle.std.proofs.Common.{◌≡◌, true, sym, ◌∙◌}
use Rattle.std.specs.Prelude.{codes}
use Rattle.std.proofs.lemmas.Result.{err_from_is_err_and}
use Rattle.lg_vread.specs.Lexing.{left}
use Rattle.lg_vread.specs.Reading.{is_at, fill_at}
use Rattle.lg_vread.proofs.Many.{one_more, no_more, fails}
use Rattle.lg_vread.proofs.Shorter.{fill_shorter}
use Rattle.lg_vread.proofs.reader.Reader.fills.Goals as goal

pub returns-in_err-fill : goal.returns-in_err-fill
returns-in_err-fill c =
    let l = c.loop-alloc in
    let here : is_at (codes "for") (left l.self) ≡ true = sym c.is_at.ensures ∙ c.loop-alloc-test.true in
    let p = err_from_is_err_and c.from_residual.result c.from_residual.ensures.1 in
    rw (p.1, p.2) (fails (is_at (codes "for")) fill_at _ l.fills (left l.self) c.in_err-fill.field-0.0 l.invariant here c.in_err-fill.ensures)

pub loop-alloc-smaller : goal.loop-alloc-smaller
loop-alloc-smaller c = fill_shorter (left c.loop-alloc.self) c.in_ok-fill.field-0 (left c.fill.new.self) c.in_ok-fill.ensures

pub loop-alloc-preserved : goal.loop-alloc-preserved
loop-alloc-preserved c =
    let l = c.loop-alloc in
    let here : is_at (codes "for") (left l.self) ≡ true = sym c.is_at.ensures ∙ c.loop-alloc-test.true in
    one_more (is_at (codes "for")) fill_at _ l.fills c.push.new.self (left l.self) c.in_ok-fill.field-0 (left c.fill.new.self) l.invariant here c.in_ok-fill.ensures (fill_shorter (left l.self) c.in_ok-fill.field-0 (left c.fill.new.self) c.in_ok-fill.ensures) c.in_ok-push.ensures.ok

pub returns : goal.returns
returns c = no_more (is_at (codes "for")) fill_at _ c.loop-alloc.fills (left c.loop-alloc.self) c.loop-alloc.invariant (sym c.is_at.ensures ∙ c.loop-alloc-test.false)

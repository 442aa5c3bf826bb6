use Rattle.std.proofs.Common.{◌≡◌, true, false, Some, sym, ap, ◌∙◌, subst}
use Rattle.std.specs.Prelude.{codes}
use Rattle.std.proofs.lemmas.Bool.{cond-true, cond-false}
use Rattle.std.proofs.lemmas.Result.{err_from_is_err_and}
use Rattle.lg_vread.specs.Lexing.{left}
use Rattle.lg_vread.specs.Reading.{is_at, tail, other_at, expr_at, Fails}
use Rattle.lg_vread.proofs.Many.{one_more, no_more, fails, after_comma}
use Rattle.lg_vread.proofs.Shorter.{other_shorter}
use Rattle.lg_vread.proofs.reader.Reader.+expr.Goals as goal

pub other_exprs-returns-in_err-expr : goal.other_exprs-returns-in_err-expr
unfolding other_at
other_exprs-returns-in_err-expr t c =
    let l = c.loop-alloc in
    let here : is_at (codes ",") (left l.self) ≡ true = sym c.take.ensures.found ∙ c.loop-alloc-test.true in
    let behind : left c.take.new.self ≡ tail (left l.self) = c.take.ensures.rest ∙ cond-true c.take.result (tail (left l.self)) (left l.self) c.loop-alloc-test.true in
    let read = ap (expr_at c.args.depth) behind ∙ sym (after_comma (expr_at c.args.depth) (left l.self) here) in
    let p = err_from_is_err_and c.from_residual.result c.from_residual.ensures.1 in
    rw (p.1, p.2) (fails (is_at (codes ",")) (other_at (expr_at c.args.depth)) _ l.others (left l.self) c.in_err-expr.field-0.0 l.invariant here (subst (Fails c.in_err-expr.field-0.0) read c.in_err-expr.ensures))

pub other_exprs-loop-alloc-smaller : goal.other_exprs-loop-alloc-smaller
unfolding other_at
other_exprs-loop-alloc-smaller t c =
    let l = c.loop-alloc in
    let here : is_at (codes ",") (left l.self) ≡ true = sym c.take.ensures.found ∙ c.loop-alloc-test.true in
    let behind : left c.take.new.self ≡ tail (left l.self) = c.take.ensures.rest ∙ cond-true c.take.result (tail (left l.self)) (left l.self) c.loop-alloc-test.true in
    let read = after_comma (expr_at c.args.depth) (left l.self) here ∙ ap (expr_at c.args.depth) (sym behind) in
    other_shorter c.args.depth (left l.self) c.in_ok-expr.field-0 (left c.expr.new.self) (read ∙ c.in_ok-expr.ensures)

pub other_exprs-loop-alloc-preserved : goal.other_exprs-loop-alloc-preserved
unfolding other_at
other_exprs-loop-alloc-preserved t c =
    let l = c.loop-alloc in
    let here : is_at (codes ",") (left l.self) ≡ true = sym c.take.ensures.found ∙ c.loop-alloc-test.true in
    let behind : left c.take.new.self ≡ tail (left l.self) = c.take.ensures.rest ∙ cond-true c.take.result (tail (left l.self)) (left l.self) c.loop-alloc-test.true in
    let read = after_comma (expr_at c.args.depth) (left l.self) here ∙ ap (expr_at c.args.depth) (sym behind) ∙ c.in_ok-expr.ensures in
    let shorter = other_shorter c.args.depth (left l.self) c.in_ok-expr.field-0 (left c.expr.new.self) read in
    one_more (is_at (codes ",")) (other_at (expr_at c.args.depth)) _ l.others c.push.new.self (left l.self) c.in_ok-expr.field-0 (left c.expr.new.self) l.invariant here read shorter c.in_ok-push.ensures.ok

pub other_exprs-returns : goal.other_exprs-returns
other_exprs-returns t c =
    let l = c.loop-alloc in
    let stop : is_at (codes ",") (left l.self) ≡ false = sym c.take.ensures.found ∙ c.loop-alloc-test.false in
    let same : left c.take.new.self ≡ left l.self = c.take.ensures.rest ∙ cond-false c.take.result (tail (left l.self)) (left l.self) c.loop-alloc-test.false in
    no_more (is_at (codes ",")) (other_at (expr_at c.args.depth)) _ l.others (left l.self) l.invariant stop ∙ ap (λ ts. Some (l.others, ts)) (sym same)

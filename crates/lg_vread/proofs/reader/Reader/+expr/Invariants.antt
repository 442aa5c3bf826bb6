use Rattle.std.proofs.Common.{◌+◌, ◌*◌, length}
use Rattle.std.specs.Prelude.{codes}
use Rattle.lg_vread.specs.Lexing.{left}
use Rattle.lg_vread.specs.Reading.{is_at, all_at, other_at, expr_at}
use Rattle.lg_vread.proofs.Many.{IsPartway}
use Rattle.lg_vread.proofs.reader.Reader.+expr.Given as goal

abbrev pub decreases-expr : goal.decreases-expr
decreases-expr l = 4 * l.depth

abbrev pub decreases-expr_before : goal.decreases-expr_before
decreases-expr_before l = 4 * l.depth + 1

abbrev pub decreases-choice : goal.decreases-choice
decreases-choice l = 4 * l.depth + 2

abbrev pub decreases-binary : goal.decreases-binary
decreases-binary l = 4 * l.depth + 2

abbrev pub decreases-plain : goal.decreases-plain
decreases-plain l = 4 * l.depth + 2

abbrev pub decreases-parenthesized : goal.decreases-parenthesized
decreases-parenthesized l = 4 * l.depth + 3

abbrev pub decreases-other_exprs : goal.decreases-other_exprs
decreases-other_exprs l = 4 * l.depth + 1

abbrev pub decreases-join : goal.decreases-join
decreases-join l = 4 * l.depth + 2

abbrev pub invariant-other_exprs-loop-alloc : goal.invariant-other_exprs-loop-alloc
invariant-other_exprs-loop-alloc l =
    IsPartway (is_at (codes ",")) (other_at (expr_at l.depth)) (all_at (is_at (codes ",")) (other_at (expr_at l.fn.depth)) (left l.initial.self)) l.others (left l.self)

abbrev pub decreases-other_exprs-loop-alloc : goal.decreases-other_exprs-loop-alloc
decreases-other_exprs-loop-alloc l = length (left l.self)

use Rattle.std.proofs.Common.{rules, ◌≡◌, ◌∙◌, sym, ap, Some, None}
use Rattle.lg_circ.specs.Grammar.{is_white}
use Rattle.lg_circ.specs.Reading.{rest_of, after_comment}
use Rattle.lg_circ.proofs.Loops.{misc_start, misc_shorter, misc_goes_on, misc_ends}
use Rattle.lg_circ.proofs.mark.skip_misc.Goals as goal

pub comments-init : goal.comments-init
comments-init c = (c.utf8.text, misc_start c.args.text.now)

pub comments-smaller : goal.comments-smaller
comments-smaller c =
    let read : after_comment (rest_of is_white c.comments.rest.now) ≡ Some c.in-Some.after.now = ap after_comment (sym c.skip-here.ensures) ∙ sym c.in-Some.ensures in
    misc_shorter c.comments.rest.now c.in-Some.after.now read

pub comments-preserved : goal.comments-preserved
comments-preserved c =
    let read : after_comment (rest_of is_white c.comments.rest.now) ≡ Some c.in-Some.after.now = ap after_comment (sym c.skip-here.ensures) ∙ sym c.in-Some.ensures in
    (search rules, misc_goes_on c.args.text.now c.comments.rest.now c.in-Some.after.now read c.comments.invariant.1)

pub returns-in-None : goal.returns-in-None
returns-in-None c =
    let read : after_comment (rest_of is_white c.comments.rest.now) ≡ None = ap after_comment (sym c.skip-here.ensures) ∙ sym c.in-None.ensures in
    c.skip-here.ensures ∙ misc_ends c.args.text.now c.comments.rest.now read c.comments.invariant.1

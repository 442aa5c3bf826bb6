use Rattle.std.proofs.Common.{rules, ◌≡◌, ◌||◌, ap, sym, ◌∙◌, subst, ltb}
use Rattle.lg_workers.proofs.Steps.{joins, looks, ended_together}
use Rattle.lg_workers.specs.Draws.{both_views, beyond, IsWhole}
use Rattle.lg_workers.specs.declared.view.SeatView.{SeatView}
use Rattle.lg_workers.proofs.claims.Claims.join.Goals as goal
use Rattle.lg_workers.proofs.claims.Claims.join.Goals.{then-claim, else-claim}

pub join_seat-requires : goal.join_seat-requires
join_seat-requires c = (search rules, search rules, search rules, search rules, joins _ _ _ _ _ c.args.claim.now.some_share)

pub load-requires : goal.load-requires
load-requires c = (search rules, search rules, looks _ _ _ _ (search rules))

pub invariant_of-claim-clause-ended : goal.invariant_of-claim-clause-ended
invariant_of-claim-clause-ended c =
    let claim = c.args.claim.now in
    let other = c.args.other in
    let is : c.if-claim.claim ≡ (claim.spent || other.spent) = elim c.if-claim.branch [
      | then-claim w ↦ w.claim-is ∙ w.if-claim.true ∙ ap (λ t. t || other.spent) (sym w.if-claim.true)
      | else-claim w ↦ w.claim-is ∙ ap (λ t. t || other.spent) (sym w.if-claim.false)
    ] in
    let view : c.load.new.seat.me.0 ≡ both_views claim.seat.me.0 other.seat.me.0 = search rules in
    let jobs : other.seat.me.0.jobs ≡ claim.seat.me.0.jobs = search rules in
    subst (λ (v : SeatView). c.if-claim.claim ≡ ltb 0 (beyond v.jobs v.drawn)) (sym view)
    (ended_together claim.seat.me.0 other.seat.me.0 claim.spent other.spent c.if-claim.claim jobs claim.ended other.ended is)

pub invariant_of-claim-clause-once : goal.invariant_of-claim-clause-once
invariant_of-claim-clause-once c =
    let view : c.join_seat.new.seat.me.0 ≡ c.load.new.seat.me.0 = search rules in
    subst IsWhole view c.load.ensures.2.2

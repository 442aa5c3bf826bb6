use Rattle.std.proofs.Common.{rules}
use Rattle.lg_workers.proofs.Steps.{draws, may_draw}
use Rattle.lg_workers.proofs.claims.Claims.draw.Goals as goal

pub fetch_add-number-requires : goal.fetch_add-number-requires
fetch_add-number-requires c =
    let claim = c.args.claim.now in
    (search rules, search rules, draws _ _ _ _ (may_draw claim.seat.me.0 claim.spent claim.some_share claim.ended c.if-claim.false))

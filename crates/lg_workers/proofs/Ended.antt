-- A claim that holds all shares and is spent.
use Rattle.std.proofs.Common.{◌≡◌, ℕ, ◌<◌, true, subst, sym, ◌∙◌, ltb-true}
use Rattle.lg_workers.specs.declared.claims.Claim.{Claim}
use Rattle.lg_workers.specs.declared.claims.Claims.{Claims}
use Rattle.lg_workers.specs.Draws.{times, beyond}
use Rattle.lg_workers.specs.Claims.{drawn_by, shares_of, is_spent, jobs_of, seats_of, IsOf}

pub each_once : (claims : Claims) (claim : Claim) → IsOf claims claim → shares_of claim ≡ seats_of claims → is_spent claim ≡ true → (n : ℕ) → n < jobs_of claims → times n (drawn_by claim) ≡ 1
each_once claims claim of all spent n within =
    claim.once (all ∙ sym of.2) (ltb-true 0 (beyond claim.seat.me.0.jobs claim.seat.me.0.drawn) (sym claim.ended ∙ spent)) n (subst (λ k. n < k) (sym of.1) within)

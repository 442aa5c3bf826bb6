-- What contracts see of a claim and of the claims that it belongs to.
-- Source: fetch-and-add (ISO C11, 7.17.7.5; Rust's `AtomicU64::fetch_add`); OpenMP API 5.2, `schedule` clause, kind `dynamic`.
use Rattle.std.specs.Prelude.{◌≡◌, ℕ, Bool, List}
use Rattle.lg_workers.specs.declared.claims.Claim.{Claim}
use Rattle.lg_workers.specs.declared.claims.Claims.{Claims}

-- The numbers that a claim has drawn, in the order of drawing, and behind them those of the claims that it took in.
abbrev pub drawn_by : Claim → List ℕ
drawn_by claim = claim.seat.me.0.drawn

-- How many shares a claim holds.
abbrev pub shares_of : Claim → ℕ
shares_of claim = claim.seat.me.0.shares

-- Whether a claim is spent: it has drawn a number that is not below the jobs.
abbrev pub is_spent : Claim → Bool
is_spent claim = claim.spent

-- How many jobs the claims deal out.
abbrev pub jobs_of : Claims → ℕ
jobs_of claims = claims.deal.jobs

-- How many seats the claims have.
abbrev pub seats_of : Claims → ℕ
seats_of claims = claims.deal.seats

-- The claim is one of these claims.
abbrev pub IsOf : Claims → Claim → Type 0
IsOf claims claim = (claim.seat.table_id ≡ claims.table.shared.table_id) × (claim.seat.me.0.jobs ≡ claims.deal.jobs) × (claim.seat.me.0.seats ≡ claims.deal.seats)

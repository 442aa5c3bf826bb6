-- Draws, claims and shares: how the numbers of jobs are dealt out from one counter, each once.
-- Source: fetch-and-add (ISO C11, 7.17.7.5; Rust's `AtomicU64::fetch_add`): one step that gives the old value and adds.
use Rattle.std.specs.Prelude.{◌≡◌, ◌≢◌, ◌⊎◌, ℕ, ◌+◌, ◌-◌, ◌<◌, ◌≤◌, List, [], ◌∷◌, ◌++◌, sum_by, count_by, if◌then◌else◌, nat_lt, nat_le, ◌==◌, slice_set}
use mathlib.Core.Option.{some}
use lib.ListN.{get_elem?}
use Rattle.std.specs.List.{All}
use Rattle.atomic_table.specs.Table.{State, Me, Step, opening}
use Rattle.lg_workers.specs.declared.view.TheConstants.{MOST_JOBS, MOST_SEATS}
use Rattle.lg_workers.specs.declared.view.Deal.{Deal}
use Rattle.lg_workers.specs.declared.view.SeatView.{SeatView}

-- The table as it stands between two steps: its one word, and what each seat knows.
abbrev pub Table : Type 0
Table = State (Unit {0}) SeatView

-- How often a number stands in a list.
abbrev pub times : ℕ → List ℕ → ℕ
times n numbers = count_by (λ m. m == n) numbers

-- How many numbers of a list are not below the number of jobs.
abbrev pub beyond : ℕ → List ℕ → ℕ
beyond jobs numbers = count_by (λ n. nat_le jobs n) numbers

-- Each number below the counter stands in the list of one seat, once, and no other number stands in any.
abbrev pub AreDrawnOnce : ℕ → List SeatView → Type 0
AreDrawnOnce counter views = (n : ℕ) → sum_by (λ v. times n v.drawn) views ≡ (if nat_lt n counter then 1 else 0)

-- A seat without shares has an empty list. One with shares knows the jobs and the seats of all. None holds more numbers from the jobs on than it has shares.
abbrev pub Fits : Deal → SeatView → Type 0
Fits deal v = (v.shares ≡ 0 → v.drawn ≡ []) × (0 < v.shares → (v.jobs ≡ deal.jobs) × (v.seats ≡ deal.seats)) × (beyond deal.jobs v.drawn ≤ v.shares)

-- What holds between any two steps: the numbers below the counter are drawn once, the shares of all seats are as many as the seats, and each view fits.
pub record AreDealt (deal : Deal) (counter : ℕ) (views : List SeatView) : Type 0 where
  pub once : AreDrawnOnce counter views
  pub shared : sum_by (λ v. v.shares) views ≡ deal.seats
  pub each : (seat : ℕ) (v : SeatView) → get_elem? views seat ≡ some v → Fits deal v

-- At most `MOST_JOBS` jobs, and 1 to `MOST_SEATS` seats.
abbrev pub IsDeal : Deal → Type 0
IsDeal deal = (deal.jobs ≤ MOST_JOBS) × (0 < deal.seats) × (deal.seats ≤ MOST_SEATS)

-- The rule of draws: the word is a counter up to which the numbers are dealt out.
abbrev pub DrawRule : Deal → Table → Type 0
DrawRule deal s = IsDeal deal × ((counter : ℕ) × (s.words ≡ counter ∷ []) × AreDealt deal counter s.views)

-- What the first seat knows: it has all shares and has drawn nothing.
abbrev pub first_view : Deal → SeatView
first_view deal = record { drawn = []; shares = deal.seats; jobs = deal.jobs; seats = deal.seats }

-- A view with a number behind its list.
abbrev pub with_number : SeatView → ℕ → SeatView
with_number v n = record { drawn = v.drawn ++ n ∷ []; shares = v.shares; jobs = v.jobs; seats = v.seats }

-- A view with one share less.
abbrev pub one_less : SeatView → SeatView
one_less v = record { drawn = v.drawn; shares = v.shares - 1; jobs = v.jobs; seats = v.seats }

-- What a new seat knows: it has the share that moved to it, and has drawn nothing.
abbrev pub newcomer : SeatView → SeatView
newcomer v = record { drawn = []; shares = 1; jobs = v.jobs; seats = v.seats }

-- Two views in one: the lists one behind the other, the shares together.
abbrev pub both_views : SeatView → SeatView → SeatView
both_views v w = record { drawn = v.drawn ++ w.drawn; shares = v.shares + w.shares; jobs = v.jobs; seats = v.seats }

-- What is left to a seat that was joined to another: nothing.
abbrev pub no_view : SeatView
no_view = record { drawn = []; shares = 0; jobs = 0; seats = 0 }

-- A seat may draw where it has a share and has drawn no number from the jobs on.
abbrev pub MayDraw : SeatView → Type 0
MayDraw v = (0 < v.shares) × (beyond v.jobs v.drawn ≡ 0)

-- Shares are left to a seat where they exceed one and its numbers from the jobs on.
abbrev pub SharesAreLeft : SeatView → Type 0
SharesAreLeft v = (1 < v.shares) × (beyond v.jobs v.drawn < v.shares)

-- A draw: in one step the counter goes behind the seat's list and rises by one.
abbrev pub IsDraw : Table → Table → Type 0
IsDraw s t =
    (seat : ℕ) × (v : SeatView) × (counter : ℕ) × (get_elem? s.views seat ≡ some v) × MayDraw v
    × (s.words ≡ counter ∷ []) × (t.words ≡ (counter + 1) ∷ []) × (t.views ≡ slice_set s.views seat (with_number v counter))

-- A split: one share of a seat moves to a new seat, whose list is empty.
abbrev pub IsSplit : Table → Table → Type 0
IsSplit s t =
    (seat : ℕ) × (v : SeatView) × (get_elem? s.views seat ≡ some v) × SharesAreLeft v
    × (t.words ≡ s.words) × (t.views ≡ slice_set s.views seat (one_less v) ++ newcomer v ∷ [])

-- A join: the list and the shares of one seat move to another.
abbrev pub IsJoin : Table → Table → Type 0
IsJoin s t =
    (seat : ℕ) × (v : SeatView) × (other : ℕ) × (w : SeatView) × (other ≢ seat) × (get_elem? s.views seat ≡ some v) × (get_elem? s.views other ≡ some w) × (0 < v.shares)
    × (t.words ≡ s.words) × (t.views ≡ slice_set (slice_set s.views seat (both_views v w)) other no_view)

-- The three kinds of step.
abbrev pub IsStep : Table → Table → Type 0
IsStep s t = IsDraw s t ⊎ IsSplit s t ⊎ IsJoin s t

-- The first table: the counter is 0, and the one seat has all shares.
abbrev pub first_table : Deal → Table
first_table deal = opening (0 ∷ []) [] (first_view deal)

-- The tables to which steps lead from the first one.
pub data IsReached (deal : Deal) : Table → Type 0 where
  starts : IsReached deal (first_table deal)
  goes : (s t : Table) → IsReached deal s → IsStep s t → IsReached deal t

-- With all shares, and a number from the jobs on, a seat has each number below the jobs in its list exactly once.
abbrev pub IsWhole : SeatView → Type 0
IsWhole v = v.shares ≡ v.seats → 0 < beyond v.jobs v.drawn → (n : ℕ) → n < v.jobs → times n v.drawn ≡ 1

-- What a draw tells its seat: the number found is behind its list and greater than all before it, and what it then knows of the whole.
abbrev pub Drew : Step (Unit {0}) → Me (Unit {0}) SeatView → ℕ → Me (Unit {0}) SeatView → Type 0
Drew step before found after = (after ≡ (with_number before.0 found, before.1)) × All (λ m. m < found) before.0.drawn × IsWhole after.0

-- What a look at the counter tells a seat: nothing changed, it has no more shares than there are seats, and what it knows of the whole.
abbrev pub Looked : Step (Unit {0}) → Me (Unit {0}) SeatView → ℕ → Me (Unit {0}) SeatView → Type 0
Looked step before found after = (after ≡ before) × (before.0.shares ≤ before.0.seats) × IsWhole before.0

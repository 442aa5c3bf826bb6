-- Which answers a worker brings back: one for each number that it drew below the jobs.
-- Source: OpenMP API 5.2, `schedule` clause, kind `dynamic`: each thread takes a piece of the work and then asks for another, until none is left.
use Rattle.std.specs.Prelude.{◌≡◌, ℕ, ◌<◌, List, [], map, length, filter, nat_lt, slice_index_or, true}
use Rattle.std.specs.List.{All}
use Rattle.lg_workers.specs.declared.claims.Claim.{Claim}
use Rattle.lg_workers.specs.declared.claims.Claims.{Claims}
use Rattle.lg_workers.specs.Claims.{drawn_by, shares_of, is_spent, IsOf}

-- A number with an answer is right where the answer is that of the job of the number.
abbrev pub IsRight : {J O : Type 0} → (J → O) → List J → ℕ × O → Type 0
IsRight {J} {O} answer jobs it = (it.0 < length jobs) × ((d : J) → it.1 ≡ answer (slice_index_or jobs it.0 d))

-- The answers are right, and their numbers are those that were drawn below the jobs, in that order.
pub record AreAnswers {J O : Type 0} (answer : J → O) (jobs : List J) (drawn : List ℕ) (answers : List (ℕ × O)) : Type 0 where
  pub right : All (IsRight answer jobs) answers
  pub numbers : map (λ it. it.0) answers ≡ filter (λ n. nat_lt n (length jobs)) drawn

-- A claim that may work: it is one of these claims, it has these shares, and it has drawn nothing.
abbrev pub MayWork : Claims → ℕ → Claim → Type 0
MayWork claims shares claim = IsOf claims claim × (shares_of claim ≡ shares) × (drawn_by claim ≡ [])

-- What was done with a claim: it is spent, and there is an answer to each number that it drew below the jobs.
abbrev pub IsDone : {J O : Type 0} → (J → O) → List J → Claim → List (ℕ × O) → Type 0
IsDone answer jobs claim answers = (is_spent claim ≡ true) × AreAnswers answer jobs (drawn_by claim) answers

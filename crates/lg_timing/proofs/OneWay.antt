-- A configuration settles at one instant or goes past the limit at one, and not both.
use Rattle.std.proofs.Common.{◌≡◌, ℕ, zero, suc, ◌+◌, ◌<◌, ◌≤◌, true, false, cond, inl, inr, refl, ap, ◌∙◌, arith}
use Rattle.std.proofs.lemmas.Bool.{cases_lt, cases_order, both_ways}
use Rattle.lg_timing.specs.Circuit.{Circuit}
use Rattle.lg_timing.specs.Configuration.{Configuration}
use Rattle.lg_timing.specs.Staying.{is_busy_on, busy_count_on, IsNextBusy, SettlesIn, OscillatesIn}

pub count-none : (c : Circuit) (k : Configuration) → busy_count_on c k 0 ≡ 0
unfolding busy_count_on
count-none c k = refl

count-suc : (c : Circuit) (k : Configuration) (n : ℕ) → busy_count_on c k (suc n) ≡ busy_count_on c k n + cond (is_busy_on c k (suc n)) 1 0
unfolding busy_count_on
count-suc c k n = refl

count-mono : (c : Circuit) (k : Configuration) (n m : ℕ) → n ≤ m → busy_count_on c k n ≤ busy_count_on c k m
count-mono c k n zero below =
    let same : n ≡ 0 = omega (arith, below) in
    rw same (omega arith)
count-mono c k n (suc m) below =
    elim (cases_lt n (suc m)) [
      | inl h ↦ omega (arith, count-suc c k m, count-mono c k n m (omega (arith, h)))
      | inr h ↦
          let same : n ≡ suc m = omega (arith, h, below) in
          rw same (omega arith)
    ]

count-above : (c : Circuit) (k : Configuration) (n m : ℕ) → n < m → is_busy_on c k m ≡ true → busy_count_on c k n < busy_count_on c k m
count-above c k n zero below busy = absurd (omega (arith, below))
count-above c k n (suc m) below busy =
    let more = count-suc c k m ∙ ap (λ b. busy_count_on c k m + cond b 1 0) busy in
    omega (arith, more, count-mono c k n m (omega (arith, below)))

-- over instants that are not busy it stays
count-still : (c : Circuit) (k : Configuration) (n m : ℕ) → n ≤ m → ((i : ℕ) → n < i → i ≤ m → is_busy_on c k i ≡ false) → busy_count_on c k m ≡ busy_count_on c k n
count-still c k n zero below quiet =
    let same : n ≡ 0 = omega (arith, below) in
    rw same refl
count-still c k n (suc m) below quiet =
    elim (cases_lt n (suc m)) [
      | inl h ↦
          let more = count-suc c k m ∙ ap (λ b. busy_count_on c k m + cond b 1 0) (quiet (suc m) h (omega arith)) in
          omega (arith, more, count-still c k n m (omega (arith, h)) (λ i above within. quiet i above (omega (arith, within))))
      | inr h ↦
          let same : n ≡ suc m = omega (arith, h, below) in
          rw same refl
    ]

-- up to the next busy instant it grows by one
pub count-next : (c : Circuit) (k : Configuration) (after busy : ℕ) → IsNextBusy c k after busy → busy_count_on c k busy ≡ busy_count_on c k after + 1
count-next c k after zero is = absurd (omega (arith, is.later))
count-next c k after (suc m) is =
    let more = count-suc c k m ∙ ap (λ b. busy_count_on c k m + cond b 1 0) is.busy in
    omega (arith, more, count-still c k after m (omega (arith, is.later)) (λ i above within. is.quiet i above (omega (arith, within))))

pub not_both_on : (c : Circuit) (k : Configuration) (limit took after : ℕ) → SettlesIn c k limit took → OscillatesIn c k limit after → ⊥
not_both_on c k limit took after settles oscillates =
    elim (cases_lt took after) [
      | inl h ↦ both_ways (is_busy_on c k after) (settles.quiet after h) oscillates.busy
      | inr h ↦ omega (arith, settles.few_busy, oscillates.number, count-mono c k after took (omega (arith, h)))
    ]

-- what holds of no two numbers in turn holds of one alone
once : (P : ℕ → Type 0) → ((a b : ℕ) → P a → P b → a < b → ⊥) → (a b : ℕ) → P a → P b → a ≡ b
once P not_later a b one other =
    elim (cases_order a b) [
      | inl same ↦ same
      | inr apart ↦ elim apart [
        | inl h ↦ absurd (not_later a b one other h)
        | inr h ↦ absurd (not_later b a other one h)
      ]
    ]

settles_no_later : (c : Circuit) (k : Configuration) (limit a b : ℕ) → SettlesIn c k limit a → SettlesIn c k limit b → a < b → ⊥
settles_no_later c k limit a b one other below =
    elim other.last_busy [
      | inl h ↦ omega (arith, h, below)
      | inr busy ↦ both_ways (is_busy_on c k b) (one.quiet b below) busy
    ]

pub settles_once_on : (c : Circuit) (k : Configuration) (limit a b : ℕ) → SettlesIn c k limit a → SettlesIn c k limit b → a ≡ b
settles_once_on c k limit = once (SettlesIn c k limit) (settles_no_later c k limit)

oscillates_no_later : (c : Circuit) (k : Configuration) (limit a b : ℕ) → OscillatesIn c k limit a → OscillatesIn c k limit b → a < b → ⊥
oscillates_no_later c k limit a b one other below = omega (arith, one.number, other.number, count-above c k a b below other.busy)

pub oscillates_once_on : (c : Circuit) (k : Configuration) (limit a b : ℕ) → OscillatesIn c k limit a → OscillatesIn c k limit b → a ≡ b
oscillates_once_on c k limit = once (OscillatesIn c k limit) (oscillates_no_later c k limit)

next_no_later : (c : Circuit) (k : Configuration) (after a b : ℕ) → IsNextBusy c k after a → IsNextBusy c k after b → a < b → ⊥
next_no_later c k after a b one other below = both_ways (is_busy_on c k a) (other.quiet a one.later below) one.busy

pub next_once : (c : Circuit) (k : Configuration) (after a b : ℕ) → IsNextBusy c k after a → IsNextBusy c k after b → a ≡ b
next_once c k after = once (IsNextBusy c k after) (next_no_later c k after)

-- How the count of busy instants grows.
use Rattle.std.proofs.Common.{◌≡◌, ℕ, zero, suc, ◌+◌, ◌<◌, ◌≤◌, true, false, cond, List, inl, inr, sym, refl, ap, ◌∙◌, subst, arith}
use Rattle.std.specs.Prelude.{◌⊎◌}
use Rattle.std.proofs.lemmas.Bool.{cases_lt, cases_Bool}
use Rattle.lg_timing.specs.Circuit.{Circuit, Stimulus}
use Rattle.lg_timing.specs.Settling.{is_busy, IsNextBusyAfter, busy_count}
use Rattle.lg_timing.proofs.Stretch.{QuietUpTo}

busy_count-suc : (c : Circuit) (stimuli : List Stimulus) (start n : ℕ) → busy_count c stimuli start (suc n) ≡ busy_count c stimuli start n + cond (is_busy c stimuli (start + suc n)) 1 0
unfolding busy_count
busy_count-suc c stimuli start n = refl

busy_count_busy : (c : Circuit) (stimuli : List Stimulus) (start n : ℕ) → is_busy c stimuli (start + suc n) ≡ true → busy_count c stimuli start (suc n) ≡ busy_count c stimuli start n + 1
busy_count_busy c stimuli start n busy =
    busy_count-suc c stimuli start n ∙ ap (λ b. busy_count c stimuli start n + cond b 1 0) busy

busy_count_quiet : (c : Circuit) (stimuli : List Stimulus) (start n : ℕ) → is_busy c stimuli (start + suc n) ≡ false → busy_count c stimuli start (suc n) ≡ busy_count c stimuli start n
busy_count_quiet c stimuli start n quiet =
    busy_count-suc c stimuli start n ∙ ap (λ b. busy_count c stimuli start n + cond b 1 0) quiet ∙ omega arith

-- over no instant the count is 0
pub busy_count_none : (c : Circuit) (stimuli : List Stimulus) (start : ℕ) → busy_count c stimuli start 0 ≡ 0
unfolding busy_count
busy_count_none c stimuli start = refl

-- it never falls
pub busy_count_mono : (c : Circuit) (stimuli : List Stimulus) (start n m : ℕ) → n ≤ m → busy_count c stimuli start n ≤ busy_count c stimuli start m
busy_count_mono c stimuli start n zero below =
    let same : n ≡ 0 = omega (arith, below) in
    rw same (omega arith)
busy_count_mono c stimuli start n (suc m) below =
    elim (cases_lt n (suc m)) [
      | inl h ↦ omega (arith, busy_count-suc c stimuli start m, busy_count_mono c stimuli start n m (omega (arith, h)))
      | inr h ↦
          let same : n ≡ suc m = omega (arith, h, below) in
          rw same (omega arith)
    ]

-- it stays over instants that are not busy
pub busy_count_still : (c : Circuit) (stimuli : List Stimulus) (start n m : ℕ) → n ≤ m → QuietUpTo c stimuli (start + n) (start + m) → busy_count c stimuli start m ≡ busy_count c stimuli start n
busy_count_still c stimuli start n zero below quiet =
    let same : n ≡ 0 = omega (arith, below) in
    rw same refl
busy_count_still c stimuli start n (suc m) below quiet =
    elim (cases_lt n (suc m)) [
      | inl h ↦
          busy_count_quiet c stimuli start m (quiet (start + suc m) (omega (arith, h)) (omega arith))
          ∙ busy_count_still c stimuli start n m (omega (arith, h)) (λ u after inside. quiet u after (omega (arith, inside)))
      | inr h ↦
          let same : n ≡ suc m = omega (arith, h, below) in
          rw same refl
    ]

-- a busy instant makes it greater than before
pub busy_count_above : (c : Circuit) (stimuli : List Stimulus) (start n m : ℕ) → n < m → is_busy c stimuli (start + m) ≡ true → busy_count c stimuli start n < busy_count c stimuli start m
busy_count_above c stimuli start n zero below busy = absurd (omega (arith, below))
busy_count_above c stimuli start n (suc m) below busy =
    omega (arith, busy_count_busy c stimuli start m busy, busy_count_mono c stimuli start n m (omega (arith, below)))

-- up to the next busy instant the count grows by one
pub busy_count_next : (c : Circuit) (stimuli : List Stimulus) (start n m : ℕ) → IsNextBusyAfter c stimuli (start + n) (start + m) → busy_count c stimuli start m ≡ busy_count c stimuli start n + 1
busy_count_next c stimuli start n zero first = absurd (omega (arith, first.later))
busy_count_next c stimuli start n (suc m) first =
    busy_count_busy c stimuli start m first.busy
    ∙ ap (λ k. k + 1) (busy_count_still c stimuli start n m (omega (arith, first.later)) (λ u after inside. first.quiet u after (omega (arith, inside))))

-- among the next instants none is busy, or one is the first
pub find_busy : (c : Circuit) (stimuli : List Stimulus) (t n : ℕ) → QuietUpTo c stimuli t (t + n) ⊎ ((u : ℕ) × IsNextBusyAfter c stimuli t u)
find_busy c stimuli t zero = inl (λ u after inside. absurd (omega (arith, after, inside)))
find_busy c stimuli t (suc n) =
    elim (find_busy c stimuli t n) [
      | inr found ↦ inr found
      | inl quiet ↦ elim (cases_Bool (is_busy c stimuli (t + suc n))) [
        | inl busy ↦ inr (t + suc n, record { later = omega arith; busy = busy; quiet = λ v after inside. quiet v after (omega (arith, inside)) })
        | inr still ↦ inl (one_more_quiet c stimuli t n quiet still)
      ]
    ]
  where
    one_more_quiet : (c : Circuit) (stimuli : List Stimulus) (t n : ℕ) → QuietUpTo c stimuli t (t + n) → is_busy c stimuli (t + suc n) ≡ false → QuietUpTo c stimuli t (t + suc n)
    one_more_quiet c stimuli t n quiet still u after inside =
        elim (cases_lt u (t + suc n)) [
          | inl h ↦ quiet u after (omega (arith, h))
          | inr h ↦
              let last : u ≡ t + suc n = omega (arith, h, inside) in
              subst (λ v. is_busy c stimuli v ≡ false) (sym last) still
        ]

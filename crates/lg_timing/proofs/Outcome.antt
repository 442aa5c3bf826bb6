-- A stimulus settles or oscillates: one of the two, and in one way.
use Rattle.std.proofs.Common.{◌≡◌, ℕ, zero, suc, ◌+◌, ◌-◌, ◌<◌, true, false, List, inl, inr, subst, arith}
use Rattle.std.specs.Prelude.{All, ◌⊎◌}
use Rattle.std.proofs.lemmas.Bool.{cases_lt, cases_order, both_ways}
use Rattle.lg_timing.specs.Circuit.{Circuit, Stimulus}
use Rattle.lg_timing.specs.Settling.{is_busy, IsNextBusyAfter, busy_count, SettlesAt, SettlesWithin, OscillatesPast, IsSteady, StayFrom}
use Rattle.lg_timing.proofs.Stretch.{quiet_after_stretch}
use Rattle.lg_timing.proofs.Counting.{find_busy, busy_count_none, busy_count_mono, busy_count_above, busy_count_next}

-- what settles within a limit does not oscillate past it
pub not_both_ways : (c : Circuit) (stimuli : List Stimulus) (start limit settled after : ℕ) → SettlesWithin c stimuli start limit settled → OscillatesPast c stimuli start limit after → ⊥
not_both_ways c stimuli start limit settled after settles oscillates =
    elim (cases_lt settled (start + after)) [
      | inl h ↦ both_ways (is_busy c stimuli (start + after)) (settles.settles.quiet (start + after) h) oscillates.busy
      | inr h ↦ omega (arith, settles.few_busy, oscillates.number, busy_count_mono c stimuli start after (settled - start) (omega (arith, h)))
    ]

settles_no_later : (c : Circuit) (stimuli : List Stimulus) (start a b : ℕ) → SettlesAt c stimuli start a → SettlesAt c stimuli start b → a < b → ⊥
settles_no_later c stimuli start a b first second below =
    elim second.last_busy [
      | inl h ↦ omega (arith, h, first.not_before)
      | inr busy ↦ both_ways (is_busy c stimuli b) (first.quiet b below) busy
    ]

-- it settles at one instant
pub settles_once : (c : Circuit) (stimuli : List Stimulus) (start a b : ℕ) → SettlesAt c stimuli start a → SettlesAt c stimuli start b → a ≡ b
settles_once c stimuli start a b first second =
    elim (cases_order a b) [
      | inl same ↦ same
      | inr apart ↦ elim apart [
        | inl h ↦ absurd (settles_no_later c stimuli start a b first second h)
        | inr h ↦ absurd (settles_no_later c stimuli start b a second first h)
      ]
    ]

oscillates_no_later : (c : Circuit) (stimuli : List Stimulus) (start limit a b : ℕ) → OscillatesPast c stimuli start limit a → OscillatesPast c stimuli start limit b → a < b → ⊥
oscillates_no_later c stimuli start limit a b first second below =
    omega (arith, first.number, second.number, busy_count_above c stimuli start a b below second.busy)

-- it goes past a limit once
pub oscillates_once : (c : Circuit) (stimuli : List Stimulus) (start limit a b : ℕ) → OscillatesPast c stimuli start limit a → OscillatesPast c stimuli start limit b → a ≡ b
oscillates_once c stimuli start limit a b first second =
    elim (cases_order a b) [
      | inl same ↦ same
      | inr apart ↦ elim apart [
        | inl h ↦ absurd (oscillates_no_later c stimuli start limit a b first second h)
        | inr h ↦ absurd (oscillates_no_later c stimuli start limit b a second first h)
      ]
    ]

-- either of the two
abbrev pub Outcome : Circuit → List Stimulus → ℕ → ℕ → Type 0
Outcome c stimuli start limit = ((settled : ℕ) × SettlesWithin c stimuli start limit settled) ⊎ ((after : ℕ) × OscillatesPast c stimuli start limit after)

-- a search has come to an instant, `n` after the start: the last busy one so far, with so many more allowed
record IsReached (c : Circuit) (stimuli : List Stimulus) (start limit n left : ℕ) : Type 0 where
  pub last_busy : (start + n ≡ start) ⊎ (is_busy c stimuli (start + n) ≡ true)
  pub count : busy_count c stimuli start n + left ≡ limit

settled_there : (c : Circuit) (stimuli : List Stimulus) (start limit n left : ℕ) → IsReached c stimuli start limit n left → ((u : ℕ) → start + n < u → is_busy c stimuli u ≡ false) → SettlesWithin c stimuli start limit (start + n)
settled_there c stimuli start limit n left reached quiet =
    let back : start + n - start ≡ n = omega arith in
    record {
      settles = record { not_before = omega arith; last_busy = reached.last_busy; quiet = quiet };
      few_busy = rw back (omega (arith, reached.count));
    }

busy_there : (c : Circuit) (stimuli : List Stimulus) (start limit n m : ℕ) → IsReached c stimuli start limit n 0 → IsNextBusyAfter c stimuli (start + n) (start + m) → OscillatesPast c stimuli start limit m
busy_there c stimuli start limit n m reached first =
    record {
      busy = first.busy;
      number = omega (arith, reached.count, busy_count_next c stimuli start n m first);
    }

reached_next : (c : Circuit) (stimuli : List Stimulus) (start limit n m left : ℕ) → IsReached c stimuli start limit n (suc left) → IsNextBusyAfter c stimuli (start + n) (start + m) → IsReached c stimuli start limit m left
reached_next c stimuli start limit n m left reached first =
    record {
      last_busy = inr first.busy;
      count = omega (arith, reached.count, busy_count_next c stimuli start n m first);
    }

-- the first busy instant, as so many after the start
first_from_start : (c : Circuit) (stimuli : List Stimulus) (start n u : ℕ) → IsNextBusyAfter c stimuli (start + n) u → IsNextBusyAfter c stimuli (start + n) (start + (u - start))
first_from_start c stimuli start n u first =
    let same : u ≡ start + (u - start) = omega (arith, first.later) in
    subst (λ v. IsNextBusyAfter c stimuli (start + n) v) same first

search_on : (greatest : ℕ) (c : Circuit) (stimuli : List Stimulus) (start limit : ℕ) → All (IsSteady greatest) c.parts → StayFrom stimuli start → (left n : ℕ) → IsReached c stimuli start limit n left → Outcome c stimuli start limit
search_on greatest c stimuli start limit steady stay zero n reached =
    elim (find_busy c stimuli (start + n) greatest) [
      | inl quiet ↦ inl (start + n, settled_there c stimuli start limit n 0 reached (quiet_after_stretch greatest c stimuli start (start + n) steady stay (omega arith) quiet))
      | inr found ↦ inr (found.0 - start, busy_there c stimuli start limit n (found.0 - start) reached (first_from_start c stimuli start n found.0 found.1))
    ]
search_on greatest c stimuli start limit steady stay (suc left) n reached =
    elim (find_busy c stimuli (start + n) greatest) [
      | inl quiet ↦ inl (start + n, settled_there c stimuli start limit n (suc left) reached (quiet_after_stretch greatest c stimuli start (start + n) steady stay (omega arith) quiet))
      | inr found ↦
          search_on greatest c stimuli start limit steady stay left (found.0 - start)
          (reached_next c stimuli start limit n (found.0 - start) left reached (first_from_start c stimuli start n found.0 found.1))
    ]

-- while it stays, and the parts are steady, it does one of the two
pub settles_or_oscillates : (greatest : ℕ) (c : Circuit) (stimuli : List Stimulus) (start limit : ℕ) → All (IsSteady greatest) c.parts → StayFrom stimuli start → Outcome c stimuli start limit
settles_or_oscillates greatest c stimuli start limit steady stay =
    search_on greatest c stimuli start limit steady stay limit 0
    (record { last_busy = inl (omega arith); count = omega (arith, busy_count_none c stimuli start) })

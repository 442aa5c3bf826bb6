-- A stretch without a busy instant: it is one instant again and again, and once it is as long as the greatest delay it goes on.
use Rattle.std.proofs.Common.{◌≡◌, ℕ, zero, suc, ◌+◌, ◌-◌, ◌<◌, ◌≤◌, false, List, get_or, Some, inl, inr, sym, refl, ap, ◌∙◌, subst, arith}
use Rattle.std.specs.Prelude.{All}
use Rattle.std.proofs.lemmas.Bool.{cases_lt}
use Rattle.lg_timing.specs.Circuit.{Circuit, Stimulus}
use Rattle.lg_timing.specs.Instant.{Numbered, numbered_parts, instant_at, in_force, answered, outputs_at}
use Rattle.lg_timing.specs.Settling.{is_busy, IsSteady, StayFrom}
use Rattle.lg_timing.proofs.Timeline.{slice_get-timeline, in_force-stays}
use Rattle.lg_timing.proofs.Outputs.{SameOutputs-from_quiet, quiet_from_same}
use Rattle.lg_timing.proofs.Instants.{steady_numbered, instant_again}

-- no instant after one and up to another is busy
abbrev pub QuietUpTo : Circuit → List Stimulus → ℕ → ℕ → Type 0
QuietUpTo c stimuli a b = (u : ℕ) → a < u → u ≤ b → is_busy c stimuli u ≡ false

-- after an instant at which the last stimulus stands, so many instants without a busy one
pub record IsStretch (greatest : ℕ) (c : Circuit) (stimuli : List Stimulus) (t count : ℕ) : Type 0 where
  pub start : ℕ
  pub steady : All (IsSteady greatest) c.parts
  pub stay : StayFrom stimuli start
  pub begun : start ≤ t
  pub quiet : QuietUpTo c stimuli t (t + count)

-- all its instants are its first
instant_kept : (greatest : ℕ) (c : Circuit) (stimuli : List Stimulus) (t count : ℕ) → IsStretch greatest c stimuli t count → (k u : ℕ) → u ≡ t + k → k ≤ count → instant_at c stimuli u ≡ instant_at c stimuli t
instant_kept greatest c stimuli t count stretch zero u e within =
    let same : u ≡ t = omega (arith, e) in
    ap (instant_at c stimuli) same
instant_kept greatest c stimuli t count stretch (suc k) zero e within = absurd (omega (arith, e))
instant_kept greatest c stimuli t count stretch (suc k) (suc u) e within =
    let begun : stretch.start ≤ u = omega (arith, e, stretch.begun) in
    let stays : in_force stimuli (suc u) ≡ in_force stimuli u =
    in_force-stays stimuli stretch.start (suc u) stretch.stay (omega arith)
    ∙ sym (in_force-stays stimuli stretch.start u stretch.stay begun) in
    let quiet : is_busy c stimuli (suc u) ≡ false = stretch.quiet (suc u) (omega (arith, e)) (omega (arith, e, within)) in
    instant_again greatest c stimuli u stretch.steady stays (SameOutputs-from_quiet c stimuli u quiet)
    ∙ instant_kept greatest c stimuli t count stretch k u (omega (arith, e)) (omega (arith, within))

-- once its delay has passed, a part answers to the instant its delay ago
outputs_at-delayed : (c : Circuit) (stimuli : List Stimulus) (t m : ℕ) (p : Numbered) → 1 ≤ p.1.delay → t ≡ m + p.1.delay → outputs_at c stimuli t p ≡ answered p (Some (instant_at c stimuli m))
outputs_at-delayed c stimuli t m p least e =
    ap (answered p) (slice_get-timeline c stimuli (p.1.delay - 1) t m (omega arith))

-- a part whose delay is no longer than the stretch keeps its outputs just after it
outputs_kept : (greatest : ℕ) (c : Circuit) (stimuli : List Stimulus) (t : ℕ) → IsStretch greatest c stimuli t greatest → (p : Numbered) → IsSteady greatest p.1 → outputs_at c stimuli (t + greatest) p ≡ outputs_at c stimuli (suc (t + greatest)) p
outputs_kept greatest c stimuli t stretch p steady =
    let least : 1 ≤ p.1.delay = steady.least_delay in
    let most : p.1.delay ≤ greatest = steady.greatest_delay in
    let back : ℕ = greatest - p.1.delay in
    outputs_at-delayed c stimuli (t + greatest) (t + back) p least (omega arith)
    ∙ ap (λ instant. answered p (Some instant))
    (instant_kept greatest c stimuli t greatest stretch back (t + back) refl (omega arith)
    ∙ sym (instant_kept greatest c stimuli t greatest stretch (suc back) (suc (t + back)) (omega arith) (omega arith)))
    ∙ sym (outputs_at-delayed c stimuli (suc (t + greatest)) (suc (t + back)) p least (omega arith))

-- so the instant after it is not busy
quiet_next : (greatest : ℕ) (c : Circuit) (stimuli : List Stimulus) (t : ℕ) → IsStretch greatest c stimuli t greatest → is_busy c stimuli (suc (t + greatest)) ≡ false
quiet_next greatest c stimuli t stretch =
    quiet_from_same c stimuli (t + greatest)
    (λ k d inside. outputs_kept greatest c stimuli t stretch (get_or (numbered_parts c) k d) (steady_numbered greatest c stretch.steady k d inside))

-- and the stretch goes on
stretch_on : (greatest : ℕ) (c : Circuit) (stimuli : List Stimulus) (t : ℕ) → IsStretch greatest c stimuli t greatest → (n : ℕ) → QuietUpTo c stimuli t (t + greatest + n)
stretch_on greatest c stimuli t stretch zero u after within = stretch.quiet u after (omega (arith, within))
stretch_on greatest c stimuli t stretch (suc n) u after within =
    let before : QuietUpTo c stimuli t (t + greatest + n) = stretch_on greatest c stimuli t stretch n in
    elim (cases_lt u (suc (t + n + greatest))) [
      | inl h ↦ before u after (omega (arith, h))
      | inr h ↦
          let last : u ≡ suc (t + n + greatest) = omega (arith, h, within) in
          let moved : IsStretch greatest c stimuli (t + n) greatest = record {
            start = stretch.start;
            steady = stretch.steady;
            stay = stretch.stay;
            begun = omega (arith, stretch.begun);
            quiet = λ v later inside. before v (omega (arith, later)) (omega (arith, inside));
          } in
          subst (λ v. is_busy c stimuli v ≡ false) (sym last) (quiet_next greatest c stimuli (t + n) moved)
    ]

-- A stretch as long as the greatest delay without a busy instant is followed by none.
pub quiet_after_stretch : (greatest : ℕ) (c : Circuit) (stimuli : List Stimulus) (start t : ℕ) → All (IsSteady greatest) c.parts → StayFrom stimuli start → start ≤ t → QuietUpTo c stimuli t (t + greatest) → (u : ℕ) → t < u → is_busy c stimuli u ≡ false
quiet_after_stretch greatest c stimuli start t steady stay begun quiet u after =
    let stretch : IsStretch greatest c stimuli t greatest = record { start = start; steady = steady; stay = stay; begun = begun; quiet = quiet } in
    stretch_on greatest c stimuli t stretch u u after (omega arith)

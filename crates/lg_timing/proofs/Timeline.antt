-- What stands in a circuit's past: its instants, the stimulus in force, and the outputs of its parts.
use Rattle.std.proofs.Common.{◌≡◌, ℕ, zero, suc, ◌+◌, ◌≤◌, true, cond, List, [], ◌∷◌, Some, refl, arith}
use Rattle.std.specs.Prelude.{nat_le, slice_get, fold}
use Rattle.std.specs.List.{AllByRecursion}
use Rattle.std.proofs.lemmas.Bool.{le-leb}
use Rattle.std.proofs.lemmas.List.Elements.{recursion_from_All}
use Rattle.lg_timing.specs.Circuit.{Circuit, Stimulus}
use Rattle.lg_timing.specs.Instant.{instant_at, timeline, in_force, silence}
use Rattle.lg_timing.specs.Settling.{StayFrom}

-- the instant that stands a number of places before the newest
pub slice_get-timeline : (c : Circuit) (stimuli : List Stimulus) (k n m : ℕ) → n ≡ m + k + 1 → slice_get (timeline c stimuli n) k ≡ Some (instant_at c stimuli m)
unfolding timeline
slice_get-timeline c stimuli k zero m e = absurd (omega (arith, e))
slice_get-timeline c stimuli zero (suc n) m e =
    let same : n ≡ m = omega (arith, e) in
    rw same refl
slice_get-timeline c stimuli (suc k) (suc n) m e = slice_get-timeline c stimuli k n m (omega (arith, e))

-- the stimulus in force, from one that was in force before
abbrev pub in_force_from : Stimulus → List Stimulus → ℕ → Stimulus
in_force_from before stimuli t = fold (λ (s later : Stimulus). cond (nat_le later.from t) later s) before stimuli

in_force_from-stays : (before : Stimulus) (stimuli : List Stimulus) (start t : ℕ) → AllByRecursion (λ (s : Stimulus). s.from ≤ start) stimuli → start ≤ t → in_force_from before stimuli t ≡ in_force_from before stimuli start
in_force_from-stays before [] start t stay later = refl
in_force_from-stays before (s ∷ stimuli) start t stay later =
    let at_start : nat_le s.from start ≡ true = le-leb s.from start stay.0 in
    let first : s.from ≤ start = stay.0 in
    let at_t : nat_le s.from t ≡ true = le-leb s.from t (omega arith) in
    rw (at_start, at_t) (in_force_from-stays s stimuli start t stay.1 later)

-- from the last stimulus on, the same is in force
pub in_force-stays : (stimuli : List Stimulus) (start t : ℕ) → StayFrom stimuli start → start ≤ t → in_force stimuli t ≡ in_force stimuli start
in_force-stays stimuli start t stay later =
    in_force_from-stays silence stimuli start t (recursion_from_All (λ (s : Stimulus). s.from ≤ start) stimuli stay) later

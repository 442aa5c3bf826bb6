-- When a stimulus has settled. Source: the Logisim-evolution user guide, Value propagation (oscillation), counted in busy instants by this project.
use Rattle.std.specs.Prelude.{◌≡◌, ℕ, zero, suc, ◌+◌, ◌-◌, ◌<◌, ◌≤◌, Bool, true, false, not, List, ◌⊎◌, All, if◌then◌else◌}
use Rattle.std.specs.List.{list_any}
use Rattle.std.specs.Cmp.Lexicographic.{pointwise}
use Rattle.lg_value.specs.Word.{same_word}
use Rattle.lg_timing.specs.Circuit.{Word, Part, Circuit, Stimulus}
use Rattle.lg_timing.specs.Instant.{Numbered, numbered_parts, outputs_at}

abbrev pub same_words : List Word → List Word → Bool
same_words a b = pointwise same_word a b

-- some part shows another word than one instant ago, at a loose port too; never so at instant 0
abbrev pub is_busy : Circuit → List Stimulus → ℕ → Bool
is_busy c stimuli zero = false
is_busy c stimuli (suc t) = list_any (λ (p : Numbered). not (same_words (outputs_at c stimuli t p) (outputs_at c stimuli (suc t) p))) (numbered_parts c)

-- the next busy instant after one
pub record IsNextBusyAfter (c : Circuit) (stimuli : List Stimulus) (after at : ℕ) : Type 0 where
  pub later : after < at
  pub busy : is_busy c stimuli at ≡ true
  pub quiet : (t : ℕ) → after < t → t < at → is_busy c stimuli t ≡ false

-- how many of the next instants after one are busy
unfoldable pub busy_count : Circuit → List Stimulus → ℕ → ℕ → ℕ
busy_count c stimuli start zero = 0
busy_count c stimuli start (suc n) = busy_count c stimuli start n + (if is_busy c stimuli (start + suc n) then 1 else 0)

-- A last stimulus that stands at `start` has settled: at once, or at a busy instant, with none behind.
pub record SettlesAt (c : Circuit) (stimuli : List Stimulus) (start settled : ℕ) : Type 0 where
  pub not_before : start ≤ settled
  pub last_busy : (settled ≡ start) ⊎ (is_busy c stimuli settled ≡ true)
  pub quiet : (t : ℕ) → settled < t → is_busy c stimuli t ≡ false

-- it settles, with at most so many busy instants
pub record SettlesWithin (c : Circuit) (stimuli : List Stimulus) (start limit settled : ℕ) : Type 0 where
  pub settles : SettlesAt c stimuli start settled
  pub few_busy : busy_count c stimuli start (settled - start) ≤ limit

-- it oscillates past a limit: there is one busy instant more, which is so many instants after `start`
pub record OscillatesPast (c : Circuit) (stimuli : List Stimulus) (start limit after : ℕ) : Type 0 where
  pub busy : is_busy c stimuli (start + after) ≡ true
  pub number : busy_count c stimuli start after ≡ limit + 1

-- what a part needs for an end to come: a delay from 1 to a greatest one, and a second step to the same inputs changes nothing
pub record IsSteady (greatest : ℕ) (p : Part) : Type 0 where
  pub least_delay : 1 ≤ p.delay
  pub greatest_delay : p.delay ≤ greatest
  pub second_step : (state before now : List Word) → p.step (p.step state before now) now now ≡ p.step state before now

-- the last stimulus stands at an instant or before it
abbrev pub StayFrom : List Stimulus → ℕ → Type 0
StayFrom stimuli start = All (λ (s : Stimulus). s.from ≤ start) stimuli

-- these stimuli stand after an instant
abbrev pub StandAfter : ℕ → List Stimulus → Type 0
StandAfter t stimuli = All (λ (s : Stimulus). t < s.from) stimuli

-- Evaluations of parts, which a simulation counts: at which instants a part has one, and how many a stimulus takes.
-- Source: the Logisim-evolution user guide, Value propagation (a component is asked again where its inputs change), counted by this project.
use Rattle.std.specs.Prelude.{◌≡◌, ℕ, zero, suc, ◌+◌, ◌-◌, ◌^◌, min, Bool, true, not, List, map, Some}
use Rattle.std.specs.List.{count_by}
use Rattle.lg_value.specs.declared.bit.Bit.{Bit}
use Rattle.lg_timing.specs.Circuit.{Word, Port, Part, Circuit, Stimulus}
use Rattle.lg_timing.specs.Instant.{Numbered, numbered_parts, answered, state_of, instant_at}
use Rattle.lg_timing.specs.declared.settling.Settling.{Settling}
use Rattle.lg_timing.specs.declared.settling.Settling.TheVariants.{Settled, Oscillates}
use Rattle.lg_timing.specs.Settling.{same_words, SettlesWithin, OscillatesPast}
use Rattle.lg_timing.specs.Configuration.{Configuration, nets_of}

-- the bits on a part's inputs; a port to which nothing is attached has none
abbrev pub bits_read : (ℕ → Bit) → Part → List Word
bits_read nets p = map (λ (port : Port). map nets port.nets) p.inputs

-- whether a part is evaluated: once at instant 0, and later at each instant at which an attached input bit has changed
abbrev pub is_evaluated : Circuit → List Stimulus → ℕ → Numbered → Bool
is_evaluated c stimuli zero p = true
is_evaluated c stimuli (suc t) p = not (same_words (bits_read (instant_at c stimuli t).nets p.1) (bits_read (instant_at c stimuli (suc t)).nets p.1))

-- the part's state and its answer at the next instant are those of this one
pub record StaysAs (c : Circuit) (stimuli : List Stimulus) (t : ℕ) (p : Numbered) : Type 0 where
  pub state : state_of (instant_at c stimuli (t + 1)) p.0 ≡ state_of (instant_at c stimuli t) p.0
  pub answer : answered p (Some (instant_at c stimuli (t + 1))) ≡ answered p (Some (instant_at c stimuli t))

-- how many there are at an instant
abbrev pub evaluations_at : Circuit → List Stimulus → ℕ → ℕ
evaluations_at c stimuli t = count_by (is_evaluated c stimuli t) (numbered_parts c)

-- how many there are where one configuration comes after another
abbrev pub evaluations_between : Circuit → Configuration → Configuration → ℕ
evaluations_between c before now =
    count_by (λ (p : Numbered). not (same_words (bits_read (nets_of c before) p.1) (bits_read (nets_of c now) p.1))) (numbered_parts c)

-- how many there are at so many instants, from one on
unfoldable pub evaluations : Circuit → List Stimulus → ℕ → ℕ → ℕ
evaluations c stimuli start zero = 0
evaluations c stimuli start (suc n) = evaluations c stimuli start n + evaluations_at c stimuli (start + n)

-- a stimulus that settles takes those from where it stands to where it has settled
abbrev pub evaluations_settled : Circuit → List Stimulus → ℕ → ℕ → ℕ
evaluations_settled c stimuli start settled = evaluations c stimuli start (settled - start + 1)

-- one that oscillates takes those before the busy instant past the limit, which is so many instants after it
abbrev pub evaluations_oscillating : Circuit → List Stimulus → ℕ → ℕ → ℕ
evaluations_oscillating c stimuli start after = evaluations c stimuli start after

-- a number as far as 64 bits count
abbrev pub counted : ℕ → ℕ
counted n = min n (2 ^ 64 - 1)

-- what becomes of the last stimulus, which stands at an instant, and how many evaluations it takes
abbrev pub IsSettling : Circuit → List Stimulus → ℕ → ℕ → Settling → Type 0
IsSettling c stimuli start limit (Settled took count) =
    SettlesWithin c stimuli start limit (start + took) × (count ≡ counted (evaluations_settled c stimuli start (start + took)))
IsSettling c stimuli start limit (Oscillates busy count) =
    OscillatesPast c stimuli start limit busy × (count ≡ counted (evaluations_oscillating c stimuli start busy))

-- What a configuration comes to while its stimulus stays, said of the configuration alone: when it is busy, where it has
-- settled, that it oscillates, and its evaluations. Instants are counted from the configuration.
-- Source: the Logisim-evolution user guide, Value propagation (oscillation), counted in busy instants by this project.
use Rattle.std.specs.Prelude.{◌≡◌, ℕ, zero, suc, ◌+◌, ◌-◌, ◌<◌, ◌≤◌, Bool, true, false, not, List, [], length, Option, Some, None, ◌⊎◌, slice_index_or, if◌then◌else◌}
use Rattle.std.specs.List.{list_any}
use Rattle.lg_timing.specs.Circuit.{Word, Circuit, Stimulus}
use Rattle.lg_timing.specs.Instant.{Numbered, numbered_parts}
use Rattle.lg_timing.specs.Settling.{same_words}
use Rattle.lg_timing.specs.Configuration.{Configuration, configuration_at, first, next, staying}
use Rattle.lg_timing.specs.Evaluation.{evaluations_between, counted}
use Rattle.lg_timing.specs.declared.settling.Settling.{Settling}
use Rattle.lg_timing.specs.declared.settling.Settling.TheVariants.{Settled, Oscillates}

-- what a part shows in a configuration
abbrev pub shown_of : Configuration → Numbered → List Word
shown_of k p = slice_index_or k.shown p.0 []

-- whether some part shows another word than in the configuration before
abbrev pub is_busy_between : Circuit → Configuration → Configuration → Bool
is_busy_between c before now = list_any (λ (p : Numbered). not (same_words (shown_of before p) (shown_of now p))) (numbered_parts c)

-- whether an instant is busy, so many after a configuration; the configuration's own instant is not asked for
abbrev pub is_busy_on : Circuit → Configuration → ℕ → Bool
is_busy_on c k zero = false
is_busy_on c k (suc n) = is_busy_between c (staying c k n) (staying c k (suc n))

-- the next busy instant after one
pub record IsNextBusy (c : Circuit) (k : Configuration) (after at : ℕ) : Type 0 where
  pub later : after < at
  pub busy : is_busy_on c k at ≡ true
  pub quiet : (n : ℕ) → after < n → n < at → is_busy_on c k n ≡ false

-- how many of the next instants are busy
unfoldable pub busy_count_on : Circuit → Configuration → ℕ → ℕ
busy_count_on c k zero = 0
busy_count_on c k (suc n) = busy_count_on c k n + (if is_busy_on c k (suc n) then 1 else 0)

-- Its stimulus settles after so many instants, within a limit: at once, or at a busy instant, with none behind; and at most
-- so many are busy.
pub record SettlesIn (c : Circuit) (k : Configuration) (limit took : ℕ) : Type 0 where
  pub last_busy : (took ≡ 0) ⊎ (is_busy_on c k took ≡ true)
  pub quiet : (n : ℕ) → took < n → is_busy_on c k n ≡ false
  pub few_busy : busy_count_on c k took ≤ limit

-- its stimulus oscillates past a limit: there is one busy instant more, which is so many instants after it
pub record OscillatesIn (c : Circuit) (k : Configuration) (limit after : ℕ) : Type 0 where
  pub busy : is_busy_on c k after ≡ true
  pub number : busy_count_on c k after ≡ limit + 1

-- the configuration of a stimulus that is put on what stood, or as the first one where nothing did
abbrev pub configuration_put : Circuit → Option Configuration → Stimulus → Configuration
configuration_put c None s = first c s
configuration_put c (Some stood) s = next c s stood

-- the evaluations at the instant of a stimulus that is put on what stood: one a part where nothing did
abbrev pub evaluations_put : Circuit → Option Configuration → Stimulus → ℕ
evaluations_put c None s = length c.parts
evaluations_put c (Some stood) s = evaluations_between c stood (next c s stood)

-- those at so many instants after a configuration
unfoldable pub evaluations_on : Circuit → Configuration → ℕ → ℕ
evaluations_on c k zero = 0
evaluations_on c k (suc n) = evaluations_on c k n + evaluations_between c (staying c k n) (staying c k (suc n))

-- those from a stimulus on, its own instant and so many after it
abbrev pub evaluations_since : Circuit → Option Configuration → Stimulus → ℕ → ℕ
evaluations_since c stood s n = evaluations_put c stood s + evaluations_on c (configuration_put c stood s) n

-- What becomes of a stimulus that is put on what stood, and how many evaluations it takes: those up to where it has settled,
-- or those before the busy instant past the limit.
abbrev pub IsSettlingOn : Circuit → Option Configuration → Stimulus → ℕ → Settling → Type 0
IsSettlingOn c stood s limit (Settled took count) =
    SettlesIn c (configuration_put c stood s) limit took × (count ≡ counted (evaluations_since c stood s took))
IsSettlingOn c stood s limit (Oscillates after count) =
    OscillatesIn c (configuration_put c stood s) limit after × (count ≡ counted (evaluations_since c stood s (after - 1)))

-- what stood before an instant of some stimuli
abbrev pub stood_before : Circuit → List Stimulus → ℕ → Option Configuration
stood_before c stimuli zero = None
stood_before c stimuli (suc t) = Some (configuration_at c stimuli t)

-- some stimuli lead to a configuration
pub record IsLedTo (c : Circuit) (k : Configuration) : Type 0 where
  pub stimuli : List Stimulus
  pub at : ℕ
  pub is : k ≡ configuration_at c stimuli at

-- they lead to what stood, if anything did
abbrev pub HasStood : Circuit → Option Configuration → Type 0
HasStood c None = Unit {0}
HasStood c (Some k) = IsLedTo c k

-- What the plain program makes of lists for all parts, and of its runs.
use Rattle.std.specs.Prelude.{◌≡◌, ℕ, ◌+◌, ◌-◌, ◌<◌, ◌≤◌, Bool, true, false, if◌then◌else◌, List, [], ◌∷◌, ◌++◌, drop, replicate, Option, slice_index_or}
use Rattle.lg_instants.specs.declared.run.Run.{Run}
use Rattle.lg_timing.specs.declared.settling.Settling.{Settling}
use Rattle.lg_timing.specs.declared.settling.Settling.TheVariants.{Settled, Oscillates}
use Rattle.lg_timing.specs.Circuit.{Word, Part, Circuit, Stimulus}
use Rattle.lg_timing.specs.Instant.{Numbered, unknown_words}
use Rattle.lg_timing.specs.Settling.{same_words}
use Rattle.lg_timing.specs.Configuration.{Configuration, next, staying, stimulus_of}
use Rattle.lg_timing.specs.Evaluation.{evaluations_between, counted}
use Rattle.lg_timing.specs.Staying.{is_busy_between, is_busy_on, IsNextBusy, configuration_put, evaluations_on, evaluations_since}

-- the words of a part in a list for all parts
abbrev pub of_part : List (List Word) → Numbered → List Word
of_part list p = slice_index_or list p.0 []

-- what is due first of the part with a number
abbrev pub first_due : List (List (List Word)) → ℕ → List Word
first_due due number = slice_index_or (slice_index_or due number []) 0 []

-- a part's first step, to these inputs
abbrev pub start_from : Part → List Word → List Word
start_from p now = p.step p.start (unknown_words p.inputs) now

-- the same from a list for all parts
abbrev pub starts_from : List (List Word) → Numbered → List Word
starts_from now p = start_from p.1 (of_part now p)

-- a part's step from these states, with the inputs before and now
abbrev pub steps_from : List (List Word) → List (List Word) → List (List Word) → Numbered → List Word
steps_from states before now p = p.1.step (of_part states p) (of_part before p) (of_part now p)

-- what is due of a part without the first, with its answer last
abbrev pub dues_from : List (List (List Word)) → List (List Word) → List (List Word) → Numbered → List (List Word)
dues_from due states now p = drop 1 (slice_index_or due p.0 []) ++ p.1.out (of_part states p) (of_part now p) ∷ []

-- unknown words of a part, as often as its delay
abbrev pub unknown_dues : Numbered → List (List Word)
unknown_dues p = replicate p.1.delay (unknown_words p.1.outputs)

-- how many words differ from those before
abbrev pub differing : List (List Word) → List (List Word) → ℕ
differing (a ∷ before) (b ∷ now) = (if same_words a b then 0 else 1) + differing before now
differing _ _ = 0

-- after how many instants that shows what becomes of a stimulus
abbrev pub instants_of : Settling → ℕ
instants_of (Settled took count) = took
instants_of (Oscillates after count) = after

-- a run from a stimulus on that is put on what stood: its configuration, and the evaluations up to it and before it
pub record IsRun (c : Circuit) (stood : Option Configuration) (s : Stimulus) (run : Run) : Type 0 where
  pub configuration : run.configuration ≡ staying c (configuration_put c stood s) run.took
  pub evaluations : run.evaluations ≡ counted (evaluations_since c stood s run.took)
  pub before : 0 < run.took → run.before ≡ counted (evaluations_since c stood s (run.took - 1))

-- it goes on by one instant, which is busy or not
pub record RunSteps (c : Circuit) (old new : Run) (busy : Bool) : Type 0 where
  pub configuration : new.configuration ≡ next c (stimulus_of old.configuration) old.configuration
  pub took : new.took ≡ old.took + 1
  pub before : new.before ≡ old.evaluations
  pub evaluations : new.evaluations ≡ counted (old.evaluations + evaluations_between c old.configuration new.configuration)
  pub is_busy : busy ≡ is_busy_between c old.configuration new.configuration

-- it goes on by so many instants
pub record RunGoesOn (c : Circuit) (old new : Run) (n : ℕ) : Type 0 where
  pub configuration : new.configuration ≡ staying c old.configuration n
  pub took : new.took ≡ old.took + n
  pub before : 0 < n → new.before ≡ counted (old.evaluations + evaluations_on c old.configuration (n - 1))
  pub evaluations : new.evaluations ≡ counted (old.evaluations + evaluations_on c old.configuration n)

-- to the next busy instant, or as far as asked for where none comes
abbrev pub RunFinds : Circuit → Run → Run → ℕ → Bool → Type 0
RunFinds c old new reach true = (n : ℕ) × (n ≤ reach) × RunGoesOn c old new n × IsNextBusy c old.configuration 0 n
RunFinds c old new reach false = RunGoesOn c old new reach × ((n : ℕ) → 0 < n → n ≤ reach → is_busy_on c old.configuration n ≡ false)

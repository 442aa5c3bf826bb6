-- The session table row by row, said of configurations alone: each row is put on what stood, and leaves the configuration
-- where it has settled.
use Rattle.std.specs.Prelude.{◌≡◌, ℕ, ◌+◌, List, [], ◌∷◌, map, Option, Some, None}
use Rattle.lg_timing.specs.declared.phase.Phase.{Phase}
use Rattle.lg_timing.specs.declared.phase.Phase.TheVariants.{Settle, Rise, Fall}
use Rattle.lg_timing.specs.Circuit.{Word, Circuit, Stimulus}
use Rattle.lg_timing.specs.Configuration.{Configuration, nets_of, staying}
use Rattle.lg_timing.specs.Session.{Line, Stop, Table, set_at, rise_at, HasClock}
use Rattle.lg_timing.specs.Staying.{SettlesIn, OscillatesIn, configuration_put}

-- a stimulus that is put on what stood settles within the limit: after so many instants, in this configuration
pub record SettlesTo (c : Circuit) (limit : ℕ) (stood : Option Configuration) (s : Stimulus) (took : ℕ) (settled : Configuration) : Type 0 where
  pub settles : SettlesIn c (configuration_put c stood s) limit took
  pub there : settled ≡ staying c (configuration_put c stood s) took

-- it oscillates past the limit
abbrev pub OscillatesOn : Circuit → ℕ → Option Configuration → Stimulus → Type 0
OscillatesOn c limit stood s = (after : ℕ) × OscillatesIn c (configuration_put c stood s) limit after

-- the words of the output pins in a configuration
abbrev pub read_on : Circuit → Configuration → List Word
read_on c k = map (λ (nets : List ℕ). map (nets_of c k) nets) c.outputs

-- Once a row's words have settled the clocks rise and fall, each until all has settled, and take so many instants. Where there
-- is no clock, nothing more comes of the row.
abbrev pub TicksOn : List ℕ → Circuit → ℕ → Configuration → List Word → Option (ℕ × ℕ) → Configuration → Type 0
TicksOn [] c limit settled words None last = last ≡ settled
TicksOn [] c limit settled words (Some took) last = ⊥
TicksOn (clock ∷ more) c limit settled words None last = ⊥
TicksOn (clock ∷ more) c limit settled words (Some took) last =
    (risen : Configuration) × SettlesTo c limit (Some settled) (rise_at 0 words) took.0 risen × SettlesTo c limit (Some risen) (set_at 0 words) took.1 last

-- a row that is put on what stood gives this line, and leaves this configuration
pub record RowLeaves (c : Circuit) (limit : ℕ) (stood : Option Configuration) (words : List Word) (line : Line) (last : Configuration) : Type 0 where
  pub settled : Configuration
  pub settles : SettlesTo c limit stood (set_at 0 words) line.settle settled
  pub outputs : line.outputs ≡ read_on c settled
  pub ticks : TicksOn c.clocks c limit settled words line.tick last

-- the rise after a row's words oscillates
pub record RiseStopsOn (c : Circuit) (limit : ℕ) (stood : Option Configuration) (words : List Word) : Type 0 where
  pub took : ℕ
  pub settled : Configuration
  pub settles : SettlesTo c limit stood (set_at 0 words) took settled
  pub oscillates : OscillatesOn c limit (Some settled) (rise_at 0 words)

-- the fall after it does
pub record FallStopsOn (c : Circuit) (limit : ℕ) (stood : Option Configuration) (words : List Word) : Type 0 where
  pub took : ℕ
  pub settled : Configuration
  pub settles : SettlesTo c limit stood (set_at 0 words) took settled
  pub rise : ℕ
  pub risen : Configuration
  pub rises : SettlesTo c limit (Some settled) (rise_at 0 words) rise risen
  pub oscillates : OscillatesOn c limit (Some risen) (set_at 0 words)

-- a row that is put on what stood stops in a phase: its stimulus oscillates past the limit, and those before it settle
abbrev pub RowStopsOn : Circuit → ℕ → Option Configuration → List Word → Phase → Type 0
RowStopsOn c limit stood words Settle = OscillatesOn c limit stood (set_at 0 words)
RowStopsOn c limit stood words Rise = HasClock c.clocks × RiseStopsOn c limit stood words
RowStopsOn c limit stood words Fall = HasClock c.clocks × FallStopsOn c limit stood words

-- Which table some rows have after what stood, the first of them being row number `row`: each is put on what the one before
-- has left, and one that stops ends the table.
abbrev pub GoesOnFrom : Circuit → ℕ → Option Configuration → ℕ → List (List Word) → List Line → Option Stop → Type 0
GoesOnFrom c limit stood row [] [] None = Unit {0}
GoesOnFrom c limit stood row [] [] (Some stop) = ⊥
GoesOnFrom c limit stood row [] (line ∷ lines) stop = ⊥
GoesOnFrom c limit stood row (words ∷ rows) [] None = ⊥
GoesOnFrom c limit stood row (words ∷ rows) [] (Some stop) = (stop.row ≡ row) × RowStopsOn c limit stood words stop.phase
GoesOnFrom c limit stood row (words ∷ rows) (line ∷ lines) stop =
    (last : Configuration) × RowLeaves c limit stood words line last × GoesOnFrom c limit (Some last) (row + 1) rows lines stop

-- the session table of some rows: nothing stood before the first
abbrev pub IsTableOn : Circuit → ℕ → List (List Word) → Table → Type 0
IsTableOn c limit rows table = GoesOnFrom c limit None 1 rows table.lines table.stop

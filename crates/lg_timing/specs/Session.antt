-- The session table: for each row the outputs once it has settled, and how long that took.
use Rattle.std.specs.Prelude.{◌≡◌, ℕ, ◌+◌, ◌-◌, List, [], ◌∷◌, ◌++◌, map, Option, Some, None}
use Rattle.lg_value.specs.declared.bit.Bit.{Bit}
use Rattle.lg_value.specs.declared.bit.Bit.TheVariants.{Zero, One}
use Rattle.lg_timing.specs.declared.phase.Phase.{Phase}
use Rattle.lg_timing.specs.declared.phase.Phase.TheVariants.{Settle, Rise, Fall}
use Rattle.lg_timing.specs.Circuit.{Word, Circuit, Stimulus}
use Rattle.lg_timing.specs.Instant.{value_at}
use Rattle.lg_timing.specs.Settling.{SettlesWithin, OscillatesPast}

-- a row of the table: the words of the output pins, the instants taken, and those of the rise and the fall where there is a clock
pub record Line : Type 0 where
  pub outputs : List Word
  pub settle : ℕ
  pub tick : Option (ℕ × ℕ)

-- where the table ends early: the number of the row, from 1, and its phase
pub record Stop : Type 0 where
  pub row : ℕ
  pub phase : Phase

pub record Table : Type 0 where
  pub lines : List Line
  pub stop : Option Stop

-- the words of the output pins at an instant
abbrev pub read_at : Circuit → List Stimulus → ℕ → List Word
read_at c stimuli t = map (λ (nets : List ℕ). map (value_at c stimuli t) nets) c.outputs

-- these words on the pins and this bit on the clocks, from an instant on
abbrev pub stimulus : ℕ → List Word → Bit → Stimulus
stimulus from words clock = record { from = from; words = words; clock = clock }

-- one stimulus more settles here, within the limit
abbrev pub Settles : Circuit → ℕ → List Stimulus → Stimulus → ℕ → Type 0
Settles c limit before s settled = SettlesWithin c (before ++ s ∷ []) s.from limit settled

abbrev pub Oscillates : Circuit → ℕ → List Stimulus → Stimulus → Type 0
Oscillates c limit before s = (after : ℕ) × OscillatesPast c (before ++ s ∷ []) s.from limit after

-- the stimuli of one row: its words with the clock at 0, at 1 and at 0 again
abbrev pub set_at : ℕ → List Word → Stimulus
set_at from words = stimulus from words Zero

abbrev pub rise_at : ℕ → List Word → Stimulus
rise_at from words = stimulus from words One

-- the row's words have settled, and these are its outputs then
pub record RowSettles (c : Circuit) (limit : ℕ) (before : List Stimulus) (from : ℕ) (words : List Word) (line : Line) (settled : ℕ) : Type 0 where
  pub settles : Settles c limit before (set_at from words) settled
  pub outputs : line.outputs ≡ read_at c (before ++ set_at from words ∷ []) settled
  pub settle : line.settle ≡ settled - from

-- then the clocks have risen and fallen, each after all had settled
pub record RowTicks (c : Circuit) (limit : ℕ) (before : List Stimulus) (settled : ℕ) (words : List Word) (line : Line) (after : List Stimulus) (last : ℕ) : Type 0 where
  pub risen : ℕ
  pub rises : Settles c limit before (rise_at (settled + 1) words) risen
  pub falls : Settles c limit (before ++ rise_at (settled + 1) words ∷ []) (set_at (risen + 1) words) last
  pub tick : line.tick ≡ Some (risen - (settled + 1), last - (risen + 1))
  pub stimuli : after ≡ (before ++ rise_at (settled + 1) words ∷ []) ++ set_at (risen + 1) words ∷ []

-- where there is no clock, nothing more comes of the row
abbrev pub Ticks : List ℕ → Circuit → ℕ → List Stimulus → ℕ → List Word → Line → List Stimulus → ℕ → Type 0
Ticks [] c limit before settled words line after last = (line.tick ≡ None) × (after ≡ before) × (last ≡ settled)
Ticks (clock ∷ more) c limit before settled words line after last = RowTicks c limit before settled words line after last

-- a row gives this line; these are the stimuli then, and the last of them has settled at an instant
pub record RowDone (c : Circuit) (limit : ℕ) (before : List Stimulus) (from : ℕ) (words : List Word) (line : Line) (after : List Stimulus) (last : ℕ) : Type 0 where
  pub settled : ℕ
  pub settles : RowSettles c limit before from words line settled
  pub ticks : Ticks c.clocks c limit (before ++ set_at from words ∷ []) settled words line after last

abbrev pub HasClock : List ℕ → Type 0
HasClock [] = ⊥
HasClock (clock ∷ more) = Unit {0}

-- the rise after a row's words oscillates
pub record RiseStops (c : Circuit) (limit : ℕ) (before : List Stimulus) (from : ℕ) (words : List Word) : Type 0 where
  pub settled : ℕ
  pub settles : Settles c limit before (set_at from words) settled
  pub oscillates : Oscillates c limit (before ++ set_at from words ∷ []) (rise_at (settled + 1) words)

-- the fall after it does
pub record FallStops (c : Circuit) (limit : ℕ) (before : List Stimulus) (from : ℕ) (words : List Word) : Type 0 where
  pub settled : ℕ
  pub risen : ℕ
  pub settles : Settles c limit before (set_at from words) settled
  pub rises : Settles c limit (before ++ set_at from words ∷ []) (rise_at (settled + 1) words) risen
  pub oscillates : Oscillates c limit ((before ++ set_at from words ∷ []) ++ rise_at (settled + 1) words ∷ []) (set_at (risen + 1) words)

-- a row stops in a phase: its stimulus oscillates past the limit, and those before it settle
abbrev pub RowStops : Circuit → ℕ → List Stimulus → ℕ → List Word → Phase → Type 0
RowStops c limit before from words Settle = Oscillates c limit before (set_at from words)
RowStops c limit before from words Rise = HasClock c.clocks × RiseStops c limit before from words
RowStops c limit before from words Fall = HasClock c.clocks × FallStops c limit before from words

-- Which table some rows have from an instant on, after these stimuli, the first of them being row number `row`. A stimulus
-- comes one instant behind where the one before has settled; one that goes past the limit ends the table.
abbrev pub GoesOn : Circuit → ℕ → List Stimulus → ℕ → ℕ → List (List Word) → List Line → Option Stop → Type 0
GoesOn c limit before row from [] [] None = Unit {0}
GoesOn c limit before row from [] [] (Some stop) = ⊥
GoesOn c limit before row from [] (line ∷ lines) stop = ⊥
GoesOn c limit before row from (words ∷ rows) [] None = ⊥
GoesOn c limit before row from (words ∷ rows) [] (Some stop) = (stop.row ≡ row) × RowStops c limit before from words stop.phase
GoesOn c limit before row from (words ∷ rows) (line ∷ lines) stop =
    (after : List Stimulus) × (last : ℕ) × RowDone c limit before from words line after last × GoesOn c limit after (row + 1) (last + 1) rows lines stop

-- the session table of some rows: the first stimulus stands at instant 0
abbrev pub IsTable : Circuit → ℕ → List (List Word) → Table → Type 0
IsTable c limit rows table = GoesOn c limit [] 1 0 rows table.lines table.stop

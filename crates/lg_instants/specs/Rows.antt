-- What becomes of a row of a session, and what it leaves to the next.
use Rattle.std.specs.Prelude.{ℕ, List, Option}
use Rattle.lg_instants.specs.declared.table.Ending.{Ending}
use Rattle.lg_instants.specs.declared.table.Ending.TheVariants.{Settled, Oscillates}
use Rattle.lg_instants.specs.declared.table.Row.{Row}
use Rattle.lg_instants.specs.declared.table.Row.TheVariants.{Done, Stops}
use Rattle.lg_timing.specs.declared.settling.Settling.{Settling}
use Rattle.lg_timing.specs.declared.settling.Settling.TheVariants.{Settled as SettlesThere, Oscillates as OscillatesThere}
use Rattle.lg_timing.specs.Circuit.{Word, Circuit, Stimulus}
use Rattle.lg_timing.specs.Configuration.{Configuration}
use Rattle.lg_timing.specs.Staying.{IsLedTo}
use Rattle.lg_timing.specs.RowByRow.{SettlesTo, OscillatesOn, RowLeaves, RowStopsOn}

-- what becomes of a stimulus, with the configuration where that shows
abbrev pub ending_of : Settling → Configuration → Ending
ending_of (SettlesThere took count) at = Settled took at
ending_of (OscillatesThere after count) at = Oscillates

-- a stimulus settles in a configuration on which the next may be put, or it oscillates
abbrev pub EndsIn : Circuit → ℕ → Option Configuration → Stimulus → Ending → Type 0
EndsIn c limit stood s (Settled took at) = SettlesTo c limit stood s took at × IsLedTo c at
EndsIn c limit stood s Oscillates = OscillatesOn c limit stood s

-- a row gives its line and leaves a configuration on which the next may be put, or it stops
abbrev pub RowEnds : Circuit → ℕ → Option Configuration → List Word → Row → Type 0
RowEnds c limit stood words (Done line last) = RowLeaves c limit stood words line last × IsLedTo c last
RowEnds c limit stood words (Stops phase) = RowStopsOn c limit stood words phase

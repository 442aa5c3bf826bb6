-- What becomes of a stimulus that is put, and of a row.
use Rattle.std.proofs.Common.{◌≡◌, ℕ, false, List, [], ◌∷◌, length, Option, Some, sym, subst}
use Rattle.std.specs.Prelude.{◌==◌}
use Rattle.lg_timing.specs.declared.settling.Settling.{Settling}
use Rattle.lg_timing.specs.declared.settling.Settling.TheVariants.{Settled, Oscillates}
use Rattle.lg_timing.specs.Circuit.{Word, Circuit, Stimulus}
use Rattle.lg_timing.specs.Configuration.{Configuration, staying}
use Rattle.lg_timing.specs.Session.{Line, set_at, rise_at, HasClock}
use Rattle.lg_timing.specs.Staying.{configuration_put, IsSettlingOn, IsLedTo}
use Rattle.lg_timing.specs.RowByRow.{SettlesTo, read_on, TicksOn, RowLeaves}
use Rattle.lg_instants.specs.Stepping.{instants_of}
use Rattle.lg_instants.specs.Rows.{ending_of, EndsIn}

-- what becomes of a stimulus is what its outcome says
pub ends-outcome : (c : Circuit) (limit : ℕ) (stood : Option Configuration) (s : Stimulus) (settling : Settling) (at : Configuration)
    → IsSettlingOn c stood s limit settling → at ≡ staying c (configuration_put c stood s) (instants_of settling) → IsLedTo c at
    → EndsIn c limit stood s (ending_of settling at)
ends-outcome c limit stood s (Settled took count) at settles there led = (record { settles = settles.0; there = there }, led)
ends-outcome c limit stood s (Oscillates after count) at settles there led = (after, settles.0)

pub has-clock : (clocks : List ℕ) → (length clocks == 0) ≡ false → HasClock clocks
has-clock [] some = absurd (cc some)
has-clock (clock ∷ more) some = tt

ticks : (clocks : List ℕ) (c : Circuit) (limit : ℕ) (settled risen last : Configuration) (words : List Word) (rise fall : ℕ) → HasClock clocks
    → SettlesTo c limit (Some settled) (rise_at 0 words) rise risen → SettlesTo c limit (Some risen) (set_at 0 words) fall last
    → TicksOn clocks c limit settled words (Some (rise, fall)) last
ticks [] c limit settled risen last words rise fall has rises falls = absurd has
ticks (clock ∷ more) c limit settled risen last words rise fall has rises falls = (risen, rises, falls)

-- a row whose words, rise and fall settle
pub leaves-ticked : (c : Circuit) (limit : ℕ) (stood : Option Configuration) (words : List Word) (line : Line) (outputs : List Word) (took rise fall : ℕ) (settled risen last : Configuration) → HasClock c.clocks
    → line ≡ record { outputs = outputs; settle = took; tick = Some (rise, fall) } → outputs ≡ read_on c settled
    → SettlesTo c limit stood (set_at 0 words) took settled → SettlesTo c limit (Some settled) (rise_at 0 words) rise risen → SettlesTo c limit (Some risen) (set_at 0 words) fall last
    → RowLeaves c limit stood words line last
leaves-ticked c limit stood words line outputs took rise fall settled risen last has is reads settles rises falls =
    let made : RowLeaves c limit stood words (record { outputs = outputs; settle = took; tick = Some (rise, fall) }) last = record {
      settled = settled;
      settles = settles;
      outputs = reads;
      ticks = ticks c.clocks c limit settled risen last words rise fall has rises falls;
    } in
    subst (λ l. RowLeaves c limit stood words l last) (sym is) made

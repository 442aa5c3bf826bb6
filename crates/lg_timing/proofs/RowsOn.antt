-- A session table over instants is one over configurations, row by row.
use Rattle.std.proofs.Common.{◌≡◌, ℕ, ◌+◌, ◌-◌, ◌≤◌, List, [], ◌∷◌, ◌++◌, map, Option, Some, None, sym, refl, ap, ◌∙◌, subst, arith}
use Rattle.std.specs.Prelude.{◌↔◌}
use Rattle.std.proofs.lemmas.List.Elements.{All-nil}
use Rattle.lg_value.specs.declared.bit.Bit.{Bit}
use Rattle.lg_value.specs.declared.bit.Bit.TheVariants.{Zero, One}
use Rattle.lg_timing.specs.declared.phase.Phase.{Phase}
use Rattle.lg_timing.specs.declared.phase.Phase.TheVariants.{Settle, Rise, Fall}
use Rattle.lg_timing.specs.Circuit.{Word, Circuit, Stimulus}
use Rattle.lg_timing.specs.Settling.{SettlesWithin, StayFrom}
use Rattle.lg_timing.specs.Configuration.{Configuration, configuration_at, next, staying, HaveDelays}
use Rattle.lg_timing.specs.Session.{Line, Stop, read_at, stimulus, set_at, Settles, Oscillates, Ticks, RowDone, RowStops, GoesOn}
use Rattle.lg_timing.specs.Staying.{configuration_put}
use Rattle.lg_timing.specs.RowByRow.{SettlesTo, OscillatesOn, read_on, TicksOn, RowLeaves, RowStopsOn, GoesOnFrom}
use Rattle.lg_timing.proofs.ConfigurationSteps.{configuration-first, nets_of-is}
use Rattle.lg_timing.proofs.Rest.{stay_later}
use Rattle.lg_timing.proofs.TableExists.{stay_more}
use Rattle.lg_timing.proofs.OnConfigurations.{Led, staying-led, settles-led, oscillates-led}
use Rattle.lg_timing.proofs.Put.{configuration-behind}

-- where some stimuli have come to when the next one stands at an instant
abbrev pub Stands : Circuit → List Stimulus → ℕ → Option Configuration → Type 0
Stands c before from None = (before ≡ []) × (from ≡ 0)
Stands c before from (Some k) = (t : ℕ) × (from ≡ t + 1) × (k ≡ configuration_at c before t) × StayFrom before t

-- the stimuli with one more
abbrev with_one : List Stimulus → ℕ → List Word → Bit → List Stimulus
with_one before from words clock = before ++ stimulus from words clock ∷ []

-- they lead to where it is put
put_led : (c : Circuit) (before : List Stimulus) (from : ℕ) (words : List Word) (clock : Bit) (stood : Option Configuration) → HaveDelays c → Stands c before from stood
    → Led c (configuration_put c stood (stimulus 0 words clock)) (with_one before from words clock) from
put_led c before from words clock None delays stands =
    let k : Configuration = configuration_put c None (stimulus 0 words clock) in
    let only : Led c k (with_one [] 0 words clock) 0 = record {
      delays = delays;
      stay = stay_more [] (stimulus 0 words clock) (All-nil (λ (s : Stimulus). s.from ≤ 0));
      is = sym (configuration-first c (stimulus 0 words clock ∷ []) delays);
    } in
    subst (λ b. Led c k (with_one b from words clock) from) (sym stands.0) (subst (λ f. Led c k (with_one [] f words clock) f) (sym stands.1) only)
put_led c before from words clock (Some k) delays stands =
    let t : ℕ = stands.0 in
    let s : Stimulus = stimulus from words clock in
    let sooner : t ≤ from = omega (arith, stands.1) in
    record {
      delays = delays;
      stay = stay_more before s (stay_later before t from sooner stands.3);
      is =
          ap (next c s) stands.2 ∙ sym (configuration-behind c before s t delays stands.3 stands.1)
          ∙ ap (configuration_at c (before ++ s ∷ [])) (sym stands.1);
    }

-- what has settled leaves where the next one is put
leaves : (c : Circuit) (k : Configuration) (stimuli : List Stimulus) (from took : ℕ) → Led c k stimuli from → Stands c stimuli (from + took + 1) (Some (staying c k took))
leaves c k stimuli from took led = (from + took, refl, staying-led c k stimuli from took led, stay_later stimuli from (from + took) (omega arith) led.stay)

-- one that settles at an instant settles in its configuration
record ToSettled (c : Circuit) (limit : ℕ) (before : List Stimulus) (from : ℕ) (words : List Word) (clock : Bit) (stood : Option Configuration) (settled : ℕ) : Type 0 where
  pub at : Configuration
  pub settles : SettlesTo c limit stood (stimulus 0 words clock) (settled - from) at
  pub is : at ≡ configuration_at c (with_one before from words clock) settled
  pub stands : Stands c (with_one before from words clock) (settled + 1) (Some at)

to_settled : (c : Circuit) (limit : ℕ) (before : List Stimulus) (from : ℕ) (words : List Word) (clock : Bit) (stood : Option Configuration) (settled : ℕ) → HaveDelays c → Stands c before from stood
    → Settles c limit before (stimulus from words clock) settled → ToSettled c limit before from words clock stood settled
to_settled c limit before from words clock stood settled delays stands settles =
    let stimuli : List Stimulus = with_one before from words clock in
    let k : Configuration = configuration_put c stood (stimulus 0 words clock) in
    let led = put_led c before from words clock stood delays stands in
    let there : settled ≡ from + (settled - from) = omega (arith, settles.settles.not_before) in
    record {
      at = staying c k (settled - from);
      settles = record { settles = (settles-led c k stimuli from limit (settled - from) led).1 (subst (λ t. SettlesWithin c stimuli from limit t) there settles); there = refl };
      is = staying-led c k stimuli from (settled - from) led ∙ ap (configuration_at c stimuli) (sym there);
      stands = subst (λ t. Stands c stimuli (t + 1) (Some (staying c k (settled - from)))) (sym there) (leaves c k stimuli from (settled - from) led);
    }

-- and back
record FromSettled (c : Circuit) (limit : ℕ) (before : List Stimulus) (from : ℕ) (words : List Word) (clock : Bit) (took : ℕ) (at : Configuration) : Type 0 where
  pub settles : Settles c limit before (stimulus from words clock) (from + took)
  pub is : at ≡ configuration_at c (with_one before from words clock) (from + took)
  pub stands : Stands c (with_one before from words clock) (from + took + 1) (Some at)

from_settled : (c : Circuit) (limit : ℕ) (before : List Stimulus) (from : ℕ) (words : List Word) (clock : Bit) (stood : Option Configuration) (took : ℕ) (at : Configuration) → HaveDelays c → Stands c before from stood
    → SettlesTo c limit stood (stimulus 0 words clock) took at → FromSettled c limit before from words clock took at
from_settled c limit before from words clock stood took at delays stands settles =
    let stimuli : List Stimulus = with_one before from words clock in
    let k : Configuration = configuration_put c stood (stimulus 0 words clock) in
    let led = put_led c before from words clock stood delays stands in
    record {
      settles = (settles-led c k stimuli from limit took led).0 settles.settles;
      is = settles.there ∙ staying-led c k stimuli from took led;
      stands = subst (λ j. Stands c stimuli (from + took + 1) (Some j)) (sym settles.there) (leaves c k stimuli from took led);
    }

to_oscillates : (c : Circuit) (limit : ℕ) (before : List Stimulus) (from : ℕ) (words : List Word) (clock : Bit) (stood : Option Configuration) → HaveDelays c → Stands c before from stood
    → Oscillates c limit before (stimulus from words clock) → OscillatesOn c limit stood (stimulus 0 words clock)
to_oscillates c limit before from words clock stood delays stands oscillates =
    let k : Configuration = configuration_put c stood (stimulus 0 words clock) in
    (oscillates.0, (oscillates-led c k (with_one before from words clock) from limit oscillates.0 (put_led c before from words clock stood delays stands)).1 oscillates.1)

from_oscillates : (c : Circuit) (limit : ℕ) (before : List Stimulus) (from : ℕ) (words : List Word) (clock : Bit) (stood : Option Configuration) → HaveDelays c → Stands c before from stood
    → OscillatesOn c limit stood (stimulus 0 words clock) → Oscillates c limit before (stimulus from words clock)
from_oscillates c limit before from words clock stood delays stands oscillates =
    let k : Configuration = configuration_put c stood (stimulus 0 words clock) in
    (oscillates.0, (oscillates-led c k (with_one before from words clock) from limit oscillates.0 (put_led c before from words clock stood delays stands)).0 oscillates.1)

-- the output pins of a configuration are those of its instant
read_on-is : (c : Circuit) (stimuli : List Stimulus) (t : ℕ) → read_on c (configuration_at c stimuli t) ≡ read_at c stimuli t
read_on-is c stimuli t = ap (λ (nets : ℕ → Bit). map (λ (pin : List ℕ). map nets pin) c.outputs) (nets_of-is c stimuli t)

-- the rise and the fall, and what they leave
record ToTicks (c : Circuit) (limit : ℕ) (clocks : List ℕ) (settled : Configuration) (words : List Word) (tick : Option (ℕ × ℕ)) (after : List Stimulus) (last : ℕ) : Type 0 where
  pub at : Configuration
  pub ticks : TicksOn clocks c limit settled words tick at
  pub stands : Stands c after (last + 1) (Some at)

to_ticks : (clocks : List ℕ) (c : Circuit) (limit : ℕ) (before : List Stimulus) (settled : ℕ) (k : Configuration) (words : List Word) (line : Line) (after : List Stimulus) (last : ℕ) → HaveDelays c
    → Stands c before (settled + 1) (Some k) → Ticks clocks c limit before settled words line after last → ToTicks c limit clocks k words line.tick after last
to_ticks [] c limit before settled k words line after last delays stands ticks =
    record {
      at = k;
      ticks = subst (λ tick. TicksOn [] c limit k words tick k) (sym ticks.0) refl;
      stands = subst (λ a. Stands c a (last + 1) (Some k)) (sym ticks.1) (subst (λ t. Stands c before (t + 1) (Some k)) (sym ticks.2) stands);
    }
to_ticks (clock ∷ more) c limit before settled k words line after last delays stands ticks =
    let risen = to_settled c limit before (settled + 1) words One (Some k) ticks.risen delays stands ticks.rises in
    let fallen = to_settled c limit (with_one before (settled + 1) words One) (ticks.risen + 1) words Zero (Some risen.at) last delays risen.stands ticks.falls in
    record {
      at = fallen.at;
      ticks = subst (λ tick. TicksOn (clock ∷ more) c limit k words tick fallen.at) (sym ticks.tick) (risen.at, risen.settles, fallen.settles);
      stands = subst (λ a. Stands c a (last + 1) (Some fallen.at)) (sym ticks.stimuli) fallen.stands;
    }

-- and back
record FromTicks (c : Circuit) (limit : ℕ) (clocks : List ℕ) (before : List Stimulus) (settled : ℕ) (words : List Word) (line : Line) (at : Configuration) : Type 0 where
  pub after : List Stimulus
  pub last : ℕ
  pub ticks : Ticks clocks c limit before settled words line after last
  pub stands : Stands c after (last + 1) (Some at)

from_ticks : (clocks : List ℕ) (c : Circuit) (limit : ℕ) (before : List Stimulus) (settled : ℕ) (k : Configuration) (words : List Word) (line : Line) (tick : Option (ℕ × ℕ)) (at : Configuration) → HaveDelays c
    → Stands c before (settled + 1) (Some k) → line.tick ≡ tick → TicksOn clocks c limit k words tick at → FromTicks c limit clocks before settled words line at
from_ticks [] c limit before settled k words line None at delays stands told ticks =
    record { after = before; last = settled; ticks = (told, refl, refl); stands = subst (λ j. Stands c before (settled + 1) (Some j)) (sym ticks) stands }
from_ticks [] c limit before settled k words line (Some took) at delays stands told ticks = absurd ticks
from_ticks (clock ∷ more) c limit before settled k words line None at delays stands told ticks = absurd ticks
from_ticks (clock ∷ more) c limit before settled k words line (Some took) at delays stands told ticks =
    let rise = from_settled c limit before (settled + 1) words One (Some k) took.0 ticks.0 delays stands ticks.1 in
    let risen : ℕ = settled + 1 + took.0 in
    let fall = from_settled c limit (with_one before (settled + 1) words One) (risen + 1) words Zero (Some ticks.0) took.1 at delays rise.stands ticks.2 in
    let last : ℕ = risen + 1 + took.1 in
    let up : took.0 ≡ risen - (settled + 1) = omega arith in
    let down : took.1 ≡ last - (risen + 1) = omega arith in
    record {
      after = with_one (with_one before (settled + 1) words One) (risen + 1) words Zero;
      last = last;
      ticks = record {
        risen = risen;
        rises = rise.settles;
        falls = fall.settles;
        tick = told ∙ ap (λ (n : ℕ). Some (n, took.1)) up ∙ ap (λ (n : ℕ). Some (risen - (settled + 1), n)) down;
        stimuli = refl;
      };
      stands = fall.stands;
    }

-- a row
record ToRow (c : Circuit) (limit : ℕ) (stood : Option Configuration) (words : List Word) (line : Line) (after : List Stimulus) (last : ℕ) : Type 0 where
  pub at : Configuration
  pub row : RowLeaves c limit stood words line at
  pub stands : Stands c after (last + 1) (Some at)

to_row : (c : Circuit) (limit : ℕ) (before : List Stimulus) (from : ℕ) (words : List Word) (line : Line) (after : List Stimulus) (last : ℕ) (stood : Option Configuration) → HaveDelays c → Stands c before from stood
    → RowDone c limit before from words line after last → ToRow c limit stood words line after last
to_row c limit before from words line after last stood delays stands row =
    let set : List Stimulus = with_one before from words Zero in
    let settled = to_settled c limit before from words Zero stood row.settled delays stands row.settles.settles in
    let ticked = to_ticks c.clocks c limit set row.settled settled.at words line after last delays settled.stands row.ticks in
    record {
      at = ticked.at;
      row = record {
        settled = settled.at;
        settles = subst (λ took. SettlesTo c limit stood (set_at 0 words) took settled.at) (sym row.settles.settle) settled.settles;
        outputs = row.settles.outputs ∙ sym (ap (read_on c) settled.is ∙ read_on-is c set row.settled);
        ticks = ticked.ticks;
      };
      stands = ticked.stands;
    }

record FromRow (c : Circuit) (limit : ℕ) (before : List Stimulus) (from : ℕ) (words : List Word) (line : Line) (at : Configuration) : Type 0 where
  pub after : List Stimulus
  pub last : ℕ
  pub row : RowDone c limit before from words line after last
  pub stands : Stands c after (last + 1) (Some at)

from_row : (c : Circuit) (limit : ℕ) (before : List Stimulus) (from : ℕ) (words : List Word) (line : Line) (stood : Option Configuration) (at : Configuration) → HaveDelays c → Stands c before from stood
    → RowLeaves c limit stood words line at → FromRow c limit before from words line at
from_row c limit before from words line stood at delays stands row =
    let set : List Stimulus = with_one before from words Zero in
    let settled = from_settled c limit before from words Zero stood line.settle row.settled delays stands row.settles in
    let ticked = from_ticks c.clocks c limit set (from + line.settle) row.settled words line line.tick at delays settled.stands refl row.ticks in
    record {
      after = ticked.after;
      last = ticked.last;
      row = record {
        settled = from + line.settle;
        settles = record {
          settles = settled.settles;
          outputs = row.outputs ∙ ap (read_on c) settled.is ∙ read_on-is c set (from + line.settle);
          settle = omega arith;
        };
        ticks = ticked.ticks;
      };
      stands = ticked.stands;
    }

-- a row that stops
to_stops : (c : Circuit) (limit : ℕ) (before : List Stimulus) (from : ℕ) (words : List Word) (stood : Option Configuration) (phase : Phase) → HaveDelays c → Stands c before from stood
    → RowStops c limit before from words phase → RowStopsOn c limit stood words phase
to_stops c limit before from words stood Settle delays stands stops = to_oscillates c limit before from words Zero stood delays stands stops
to_stops c limit before from words stood Rise delays stands stops =
    let s = stops.1 in
    let settled = to_settled c limit before from words Zero stood s.settled delays stands s.settles in (
      stops.0,
      record {
        took = s.settled - from;
        settled = settled.at;
        settles = settled.settles;
        oscillates = to_oscillates c limit (with_one before from words Zero) (s.settled + 1) words One (Some settled.at) delays settled.stands s.oscillates;
      },
    )
to_stops c limit before from words stood Fall delays stands stops =
    let s = stops.1 in
    let set : List Stimulus = with_one before from words Zero in
    let settled = to_settled c limit before from words Zero stood s.settled delays stands s.settles in
    let risen = to_settled c limit set (s.settled + 1) words One (Some settled.at) s.risen delays settled.stands s.rises in (
      stops.0,
      record {
        took = s.settled - from;
        settled = settled.at;
        settles = settled.settles;
        rise = s.risen - (s.settled + 1);
        risen = risen.at;
        rises = risen.settles;
        oscillates = to_oscillates c limit (with_one set (s.settled + 1) words One) (s.risen + 1) words Zero (Some risen.at) delays risen.stands s.oscillates;
      },
    )

from_stops : (c : Circuit) (limit : ℕ) (before : List Stimulus) (from : ℕ) (words : List Word) (stood : Option Configuration) (phase : Phase) → HaveDelays c → Stands c before from stood
    → RowStopsOn c limit stood words phase → RowStops c limit before from words phase
from_stops c limit before from words stood Settle delays stands stops = from_oscillates c limit before from words Zero stood delays stands stops
from_stops c limit before from words stood Rise delays stands stops =
    let s = stops.1 in
    let settled = from_settled c limit before from words Zero stood s.took s.settled delays stands s.settles in (
      stops.0,
      record {
        settled = from + s.took;
        settles = settled.settles;
        oscillates = from_oscillates c limit (with_one before from words Zero) (from + s.took + 1) words One (Some s.settled) delays settled.stands s.oscillates;
      },
    )
from_stops c limit before from words stood Fall delays stands stops =
    let s = stops.1 in
    let set : List Stimulus = with_one before from words Zero in
    let settled = from_settled c limit before from words Zero stood s.took s.settled delays stands s.settles in
    let up : ℕ = from + s.took + 1 in
    let risen = from_settled c limit set up words One (Some s.settled) s.rise s.risen delays settled.stands s.rises in (
      stops.0,
      record {
        settled = from + s.took;
        risen = up + s.rise;
        settles = settled.settles;
        rises = risen.settles;
        oscillates = from_oscillates c limit (with_one set up words One) (up + s.rise + 1) words Zero (Some s.risen) delays risen.stands s.oscillates;
      },
    )

-- the table from a row on
pub to_rest : (c : Circuit) (limit : ℕ) (before : List Stimulus) (row from : ℕ) (rows : List (List Word)) (lines : List Line) (stop : Option Stop) (stood : Option Configuration) → HaveDelays c → Stands c before from stood
    → GoesOn c limit before row from rows lines stop → GoesOnFrom c limit stood row rows lines stop
to_rest c limit before row from [] [] None stood delays stands goes = tt
to_rest c limit before row from [] [] (Some stop) stood delays stands goes = absurd goes
to_rest c limit before row from [] (line ∷ lines) stop stood delays stands goes = absurd goes
to_rest c limit before row from (words ∷ rows) [] None stood delays stands goes = absurd goes
to_rest c limit before row from (words ∷ rows) [] (Some stop) stood delays stands goes = (goes.0, to_stops c limit before from words stood stop.phase delays stands goes.1)
to_rest c limit before row from (words ∷ rows) (line ∷ lines) stop stood delays stands goes =
    let one = to_row c limit before from words line goes.0 goes.1 stood delays stands goes.2 in
    (one.at, one.row, to_rest c limit goes.0 (row + 1) (goes.1 + 1) rows lines stop (Some one.at) delays one.stands goes.3)

pub from_rest : (c : Circuit) (limit : ℕ) (before : List Stimulus) (row from : ℕ) (rows : List (List Word)) (lines : List Line) (stop : Option Stop) (stood : Option Configuration) → HaveDelays c → Stands c before from stood
    → GoesOnFrom c limit stood row rows lines stop → GoesOn c limit before row from rows lines stop
from_rest c limit before row from [] [] None stood delays stands goes = tt
from_rest c limit before row from [] [] (Some stop) stood delays stands goes = absurd goes
from_rest c limit before row from [] (line ∷ lines) stop stood delays stands goes = absurd goes
from_rest c limit before row from (words ∷ rows) [] None stood delays stands goes = absurd goes
from_rest c limit before row from (words ∷ rows) [] (Some stop) stood delays stands goes = (goes.0, from_stops c limit before from words stood stop.phase delays stands goes.1)
from_rest c limit before row from (words ∷ rows) (line ∷ lines) stop stood delays stands goes =
    let one = from_row c limit before from words line stood goes.0 delays stands goes.1 in
    (one.after, one.last, one.row, from_rest c limit one.after (row + 1) (one.last + 1) rows lines stop (Some goes.0) delays one.stands goes.2)

pub rest_on : (c : Circuit) (limit : ℕ) (before : List Stimulus) (row from : ℕ) (rows : List (List Word)) (lines : List Line) (stop : Option Stop) (stood : Option Configuration) → HaveDelays c → Stands c before from stood
    → GoesOnFrom c limit stood row rows lines stop ↔ GoesOn c limit before row from rows lines stop
rest_on c limit before row from rows lines stop stood delays stands =
    (from_rest c limit before row from rows lines stop stood delays stands, to_rest c limit before row from rows lines stop stood delays stands)

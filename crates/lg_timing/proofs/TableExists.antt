-- Rows of a circuit of steady parts have a session table: each stimulus settles or oscillates.
use Rattle.std.proofs.Common.{ℕ, ◌+◌, ◌-◌, ◌≤◌, List, [], ◌∷◌, ◌++◌, Option, Some, None, inl, inr, refl, arith}
use Rattle.std.specs.Prelude.{◌⊎◌, All}
use Rattle.std.proofs.lemmas.List.Elements.{All-nil, All-cons, All-append}
use Rattle.lg_timing.specs.declared.phase.Phase.{Phase}
use Rattle.lg_timing.specs.declared.phase.Phase.TheVariants.{Settle, Rise, Fall}
use Rattle.lg_timing.specs.Circuit.{Word, Circuit, Stimulus}
use Rattle.lg_timing.specs.Settling.{IsSteady, StayFrom}
use Rattle.lg_timing.specs.Session.{Line, Stop, Table, read_at, set_at, rise_at, Settles, Oscillates, Ticks, RowDone, HasClock, RowStops, GoesOn, IsTable}
use Rattle.lg_timing.proofs.Outcome.{settles_or_oscillates}
use Rattle.lg_timing.proofs.Rest.{stay_later}

pub stay_more : (before : List Stimulus) (s : Stimulus) → StayFrom before s.from → StayFrom (before ++ s ∷ []) s.from
stay_more before s stay =
    let stands : Stimulus → Type 0 = λ (other : Stimulus). other.from ≤ s.from in
    All-append stands before (s ∷ []) stay (All-cons stands s [] (omega arith) (All-nil stands))

-- a circuit of steady parts, with a limit
record Given : Type 1 where
  pub greatest : ℕ
  pub circuit : Circuit
  pub limit : ℕ
  pub steady : All (IsSteady greatest) circuit.parts

-- one stimulus more settles, and stands no later than it has settled, or it oscillates
record Calm (g : Given) (before : List Stimulus) (s : Stimulus) : Type 0 where
  pub at : ℕ
  pub settles : Settles g.circuit g.limit before s at
  pub stay : StayFrom (before ++ s ∷ []) (at + 1)

put_outcome : (g : Given) (before : List Stimulus) (s : Stimulus) → StayFrom before s.from → Calm g before s ⊎ Oscillates g.circuit g.limit before s
put_outcome g before s stay =
    elim (settles_or_oscillates g.greatest g.circuit (before ++ s ∷ []) s.from g.limit g.steady (stay_more before s stay)) [
      | inl found ↦ inl (record {
        at = found.0;
        settles = found.1;
        stay = stay_later (before ++ s ∷ []) s.from (found.0 + 1) (omega (arith, found.1.settles.not_before)) (stay_more before s stay);
      })
      | inr found ↦ inr found
    ]

-- the rise and the fall are done
record Ticked (g : Given) (clocks : List ℕ) (before : List Stimulus) (settled : ℕ) (words outputs : List Word) (settle : ℕ) : Type 0 where
  pub tick : Option (ℕ × ℕ)
  pub after : List Stimulus
  pub last : ℕ
  pub ticks : Ticks clocks g.circuit g.limit before settled words (record { outputs = outputs; settle = settle; tick = tick }) after last
  pub stay : StayFrom after (last + 1)

-- the rise oscillates, or settles and the fall oscillates
record FallFails (g : Given) (before : List Stimulus) (settled : ℕ) (words : List Word) : Type 0 where
  pub risen : ℕ
  pub rises : Settles g.circuit g.limit before (rise_at (settled + 1) words) risen
  pub oscillates : Oscillates g.circuit g.limit (before ++ rise_at (settled + 1) words ∷ []) (set_at (risen + 1) words)

abbrev TickFails : Given → List ℕ → List Stimulus → ℕ → List Word → Type 0
TickFails g clocks before settled words =
    HasClock clocks × (Oscillates g.circuit g.limit before (rise_at (settled + 1) words) ⊎ FallFails g before settled words)

fall_outcome : (g : Given) (clock : ℕ) (more : List ℕ) (before : List Stimulus) (settled : ℕ) (words outputs : List Word) (settle : ℕ) → Calm g before (rise_at (settled + 1) words)
    → Ticked g (clock ∷ more) before settled words outputs settle ⊎ TickFails g (clock ∷ more) before settled words
fall_outcome g clock more before settled words outputs settle rise =
    let risen : List Stimulus = before ++ rise_at (settled + 1) words ∷ [] in
    elim (put_outcome g risen (set_at (rise.at + 1) words) rise.stay) [
      | inl fall ↦ inl (record {
        tick = Some (rise.at - (settled + 1), fall.at - (rise.at + 1));
        after = risen ++ set_at (rise.at + 1) words ∷ [];
        last = fall.at;
        ticks = record { risen = rise.at; rises = rise.settles; falls = fall.settles; tick = refl; stimuli = refl };
        stay = fall.stay;
      })
      | inr oscillates ↦ inr (tt, inr (record { risen = rise.at; rises = rise.settles; oscillates = oscillates }))
    ]

tick_outcome : (g : Given) (clocks : List ℕ) (before : List Stimulus) (settled : ℕ) (words outputs : List Word) (settle : ℕ) → StayFrom before (settled + 1)
    → Ticked g clocks before settled words outputs settle ⊎ TickFails g clocks before settled words
tick_outcome g [] before settled words outputs settle stay = inl (record { tick = None; after = before; last = settled; ticks = (refl, refl, refl); stay = stay })
tick_outcome g (clock ∷ more) before settled words outputs settle stay =
    elim (put_outcome g before (rise_at (settled + 1) words) stay) [
      | inl rise ↦ fall_outcome g clock more before settled words outputs settle rise
      | inr oscillates ↦ inr (tt, inl oscillates)
    ]

-- a row is done
record Done (g : Given) (before : List Stimulus) (from : ℕ) (words : List Word) : Type 0 where
  pub line : Line
  pub after : List Stimulus
  pub last : ℕ
  pub done : RowDone g.circuit g.limit before from words line after last
  pub stay : StayFrom after (last + 1)

row_outcome : (g : Given) (before : List Stimulus) (from : ℕ) (words : List Word) → StayFrom before from → Done g before from words ⊎ ((phase : Phase) × RowStops g.circuit g.limit before from words phase)
row_outcome g before from words stay =
    elim (put_outcome g before (set_at from words) stay) [
      | inr oscillates ↦ inr (Settle, oscillates)
      | inl set ↦ after_set g before from words set
    ]
  where
    after_set : (g : Given) (before : List Stimulus) (from : ℕ) (words : List Word) → Calm g before (set_at from words) → Done g before from words ⊎ ((phase : Phase) × RowStops g.circuit g.limit before from words phase)
    after_set g before from words set =
        let with_set : List Stimulus = before ++ set_at from words ∷ [] in
        let outputs : List Word = read_at g.circuit with_set set.at in
        elim (tick_outcome g g.circuit.clocks with_set set.at words outputs (set.at - from) set.stay) [
          | inl ticked ↦ inl (record {
            line = record { outputs = outputs; settle = set.at - from; tick = ticked.tick };
            after = ticked.after;
            last = ticked.last;
            done = record { settled = set.at; settles = record { settles = set.settles; outputs = refl; settle = refl }; ticks = ticked.ticks };
            stay = ticked.stay;
          })
          | inr fails ↦ elim fails.1 [
            | inl rise ↦ inr (Rise, (fails.0, record { settled = set.at; settles = set.settles; oscillates = rise }))
            | inr fall ↦ inr (Fall, (fails.0, record { settled = set.at; risen = fall.risen; settles = set.settles; rises = fall.rises; oscillates = fall.oscillates }))
          ]
        ]

-- the table from a row on
record Rest (g : Given) (before : List Stimulus) (row from : ℕ) (rows : List (List Word)) : Type 0 where
  pub lines : List Line
  pub stop : Option Stop
  pub goes_on : GoesOn g.circuit g.limit before row from rows lines stop

rest_exists : (g : Given) (before : List Stimulus) (row from : ℕ) (rows : List (List Word)) → StayFrom before from → Rest g before row from rows
rest_exists g before row from [] stay = record { lines = []; stop = None; goes_on = tt }
rest_exists g before row from (words ∷ rows) stay =
    elim (row_outcome g before from words stay) [
      | inl done ↦
          let rest : Rest g done.after (row + 1) (done.last + 1) rows = rest_exists g done.after (row + 1) (done.last + 1) rows done.stay in
          record { lines = done.line ∷ rest.lines; stop = rest.stop; goes_on = (done.after, done.last, done.done, rest.goes_on) }
      | inr stops ↦ record { lines = []; stop = Some (record { row = row; phase = stops.0 }); goes_on = (refl, stops.1) }
    ]

-- rows have a table
pub table_exists : (greatest : ℕ) (c : Circuit) (limit : ℕ) (rows : List (List Word)) → All (IsSteady greatest) c.parts → (table : Table) × IsTable c limit rows table
table_exists greatest c limit rows steady =
    let g : Given = record { greatest = greatest; circuit = c; limit = limit; steady = steady } in
    let rest : Rest g [] 1 0 rows = rest_exists g [] 1 0 rows (All-nil (λ (s : Stimulus). s.from ≤ 0)) in
    (record { lines = rest.lines; stop = rest.stop }, rest.goes_on)

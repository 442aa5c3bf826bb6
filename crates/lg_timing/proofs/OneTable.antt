-- Rows have one session table: each stimulus settles at one instant or oscillates.
use Rattle.std.proofs.Common.{◌≡◌, ℕ, ◌+◌, ◌-◌, List, [], ◌∷◌, ◌++◌, Option, Some, None, refl, sym, ap, subst, ◌∙◌}
use Rattle.lg_timing.specs.declared.phase.Phase.{Phase}
use Rattle.lg_timing.specs.declared.phase.Phase.TheVariants.{Settle, Rise, Fall}
use Rattle.lg_timing.specs.Circuit.{Word, Circuit, Stimulus}
use Rattle.lg_timing.specs.Session.{Line, Stop, Table, read_at, set_at, rise_at, Settles, Oscillates, RowTicks, Ticks, RowDone, HasClock, RiseStops, FallStops, RowStops, GoesOn, IsTable}
use Rattle.lg_timing.proofs.Outcome.{not_both_ways, settles_once}

same_instant : (c : Circuit) (limit : ℕ) (before : List Stimulus) (s : Stimulus) (a b : ℕ) → Settles c limit before s a → Settles c limit before s b → a ≡ b
same_instant c limit before s a b ha hb = settles_once c (before ++ s ∷ []) s.from a b ha.settles hb.settles

one_of_both : (c : Circuit) (limit : ℕ) (before : List Stimulus) (s : Stimulus) (a : ℕ) → Settles c limit before s a → Oscillates c limit before s → ⊥
one_of_both c limit before s a ha o = not_both_ways c (before ++ s ∷ []) s.from limit a o.0 ha o.1

same_line : (a b : Line) → a.outputs ≡ b.outputs → a.settle ≡ b.settle → a.tick ≡ b.tick → a ≡ b
same_line a b e f g =
    let with_outputs : List Word → Line = λ outputs. record { outputs = outputs; settle = a.settle; tick = a.tick } in
    let with_settle : ℕ → Line = λ settle. record { outputs = b.outputs; settle = settle; tick = a.tick } in
    let with_tick : Option (ℕ × ℕ) → Line = λ tick. record { outputs = b.outputs; settle = b.settle; tick = tick } in
    ap with_outputs e ∙ (ap with_settle f ∙ ap with_tick g)

-- the stimuli with a row's words set, risen and fallen
abbrev with_set : List Stimulus → ℕ → List Word → List Stimulus
with_set before from words = before ++ set_at from words ∷ []

abbrev with_rise : List Stimulus → ℕ → List Word → List Stimulus
with_rise before settled words = before ++ rise_at (settled + 1) words ∷ []

-- what a row leaves
pub record SameRow (a b : Line) (after after' : List Stimulus) (last last' : ℕ) : Type 0 where
  pub tick : a.tick ≡ b.tick
  pub stimuli : after ≡ after'
  pub instant : last ≡ last'

same_ticks : (clocks : List ℕ) (c : Circuit) (limit : ℕ) (before : List Stimulus) (settled : ℕ) (words : List Word) (a b : Line) (after after' : List Stimulus) (last last' : ℕ)
    → Ticks clocks c limit before settled words a after last → Ticks clocks c limit before settled words b after' last' → SameRow a b after after' last last'
same_ticks [] c limit before settled words a b after after' last last' h k = record { tick = h.0 ∙ sym k.0; stimuli = h.1 ∙ sym k.1; instant = h.2 ∙ sym k.2 }
same_ticks (clock ∷ more) c limit before settled words a b after after' last last' h k =
    let risen : h.risen ≡ k.risen = same_instant c limit before (rise_at (settled + 1) words) h.risen k.risen h.rises k.rises in
    let falls = subst (λ (t : ℕ). Settles c limit (with_rise before settled words) (set_at (t + 1) words) last') (sym risen) k.falls in
    let instant : last ≡ last' = same_instant c limit (with_rise before settled words) (set_at (h.risen + 1) words) last last' h.falls falls in
    record {
      tick = h.tick ∙ (ap (λ (t : ℕ). Some (t - (settled + 1), last - (t + 1))) risen ∙ (ap (λ (t : ℕ). Some (k.risen - (settled + 1), t - (k.risen + 1))) instant ∙ sym k.tick));
      stimuli = h.stimuli ∙ (ap (λ (t : ℕ). with_rise before settled words ++ set_at (t + 1) words ∷ []) risen ∙ sym k.stimuli);
      instant = instant;
    }

-- a row that is done has one line
record OneRow (a b : Line) (after after' : List Stimulus) (last last' : ℕ) : Type 0 where
  pub line : a ≡ b
  pub stimuli : after ≡ after'
  pub instant : last ≡ last'

one_row : (c : Circuit) (limit : ℕ) (before : List Stimulus) (from : ℕ) (words : List Word) (a b : Line) (after after' : List Stimulus) (last last' : ℕ)
    → RowDone c limit before from words a after last → RowDone c limit before from words b after' last' → OneRow a b after after' last last'
one_row c limit before from words a b after after' last last' h k =
    let settled : h.settled ≡ k.settled = same_instant c limit before (set_at from words) h.settled k.settled h.settles.settles k.settles.settles in
    let ticks = subst (λ (t : ℕ). Ticks c.clocks c limit (with_set before from words) t words b after' last') (sym settled) k.ticks in
    let same = same_ticks c.clocks c limit (with_set before from words) h.settled words a b after after' last last' h.ticks ticks in
    record {
      line = same_line a b (h.settles.outputs ∙ (ap (read_at c (with_set before from words)) settled ∙ sym k.settles.outputs)) (h.settles.settle ∙ (ap (λ (t : ℕ). t - from) settled ∙ sym k.settles.settle)) same.tick;
      stimuli = same.stimuli;
      instant = same.instant;
    }

rise_of : (clocks : List ℕ) (c : Circuit) (limit : ℕ) (before : List Stimulus) (settled : ℕ) (words : List Word) (a : Line) (after : List Stimulus) (last : ℕ)
    → HasClock clocks → Ticks clocks c limit before settled words a after last → RowTicks c limit before settled words a after last
rise_of [] c limit before settled words a after last clock h = absurd clock
rise_of (one ∷ more) c limit before settled words a after last clock h = h

-- and does not stop
done_or_stops : (c : Circuit) (limit : ℕ) (before : List Stimulus) (from : ℕ) (words : List Word) (a : Line) (after : List Stimulus) (last : ℕ) (phase : Phase)
    → RowDone c limit before from words a after last → RowStops c limit before from words phase → ⊥
done_or_stops c limit before from words a after last Settle h stops = one_of_both c limit before (set_at from words) h.settled h.settles.settles stops
done_or_stops c limit before from words a after last Rise h stops =
    let s = stops.1 in
    let settled : h.settled ≡ s.settled = same_instant c limit before (set_at from words) h.settled s.settled h.settles.settles s.settles in
    let ticks = rise_of c.clocks c limit (with_set before from words) h.settled words a after last stops.0 h.ticks in
    one_of_both c limit (with_set before from words) (rise_at (h.settled + 1) words) ticks.risen ticks.rises
    (subst (λ (t : ℕ). Oscillates c limit (with_set before from words) (rise_at (t + 1) words)) (sym settled) s.oscillates)
done_or_stops c limit before from words a after last Fall h stops =
    let s = stops.1 in
    let set = with_set before from words in
    let settled : h.settled ≡ s.settled = same_instant c limit before (set_at from words) h.settled s.settled h.settles.settles s.settles in
    let ticks = rise_of c.clocks c limit set h.settled words a after last stops.0 h.ticks in
    let rises = subst (λ (t : ℕ). Settles c limit set (rise_at (t + 1) words) s.risen) (sym settled) s.rises in
    let risen : ticks.risen ≡ s.risen = same_instant c limit set (rise_at (h.settled + 1) words) ticks.risen s.risen ticks.rises rises in
    let moved = subst (λ (t : ℕ). Oscillates c limit (with_rise set t words) (set_at (s.risen + 1) words)) (sym settled) s.oscillates in
    one_of_both c limit (with_rise set h.settled words) (set_at (ticks.risen + 1) words) last ticks.falls
    (subst (λ (t : ℕ). Oscillates c limit (with_rise set h.settled words) (set_at (t + 1) words)) (sym risen) moved)

rise_or_fall : (c : Circuit) (limit : ℕ) (before : List Stimulus) (from : ℕ) (words : List Word) → RiseStops c limit before from words → FallStops c limit before from words → ⊥
rise_or_fall c limit before from words r f =
    let settled : f.settled ≡ r.settled = same_instant c limit before (set_at from words) f.settled r.settled f.settles r.settles in
    one_of_both c limit (with_set before from words) (rise_at (r.settled + 1) words) f.risen
    (subst (λ (t : ℕ). Settles c limit (with_set before from words) (rise_at (t + 1) words) f.risen) settled f.rises) r.oscillates

-- a row stops in one phase
one_phase : (c : Circuit) (limit : ℕ) (before : List Stimulus) (from : ℕ) (words : List Word) (a b : Phase) → RowStops c limit before from words a → RowStops c limit before from words b → a ≡ b
one_phase c limit before from words Settle Settle h k = refl
one_phase c limit before from words Settle Rise h k = absurd (one_of_both c limit before (set_at from words) k.1.settled k.1.settles h)
one_phase c limit before from words Settle Fall h k = absurd (one_of_both c limit before (set_at from words) k.1.settled k.1.settles h)
one_phase c limit before from words Rise Settle h k = absurd (one_of_both c limit before (set_at from words) h.1.settled h.1.settles k)
one_phase c limit before from words Rise Rise h k = refl
one_phase c limit before from words Rise Fall h k = absurd (rise_or_fall c limit before from words h.1 k.1)
one_phase c limit before from words Fall Settle h k = absurd (one_of_both c limit before (set_at from words) h.1.settled h.1.settles k)
one_phase c limit before from words Fall Rise h k = absurd (rise_or_fall c limit before from words k.1 h.1)
one_phase c limit before from words Fall Fall h k = refl

same_stop : (a b : Stop) → a.row ≡ b.row → a.phase ≡ b.phase → a ≡ b
same_stop a b e f =
    let with_row : ℕ → Stop = λ row. record { row = row; phase = a.phase } in
    let with_phase : Phase → Stop = λ phase. record { row = b.row; phase = phase } in
    ap with_row e ∙ ap with_phase f

cons_lines : (a b : Line) (la lb : List Line) → a ≡ b → la ≡ lb → a ∷ la ≡ b ∷ lb
cons_lines a b la lb e f = cc

one_rest : (c : Circuit) (limit : ℕ) (before : List Stimulus) (row from : ℕ) (rows : List (List Word)) (la lb : List Line) (sa sb : Option Stop)
    → GoesOn c limit before row from rows la sa → GoesOn c limit before row from rows lb sb → (la ≡ lb) × (sa ≡ sb)
one_rest c limit before row from [] [] [] None None g h = (refl, refl)
one_rest c limit before row from [] [] lb (Some stop) sb g h = absurd g
one_rest c limit before row from [] (a ∷ la) lb sa sb g h = absurd g
one_rest c limit before row from [] [] [] None (Some stop) g h = absurd h
one_rest c limit before row from [] [] (b ∷ lb) None sb g h = absurd h
one_rest c limit before row from (words ∷ rows) [] lb None sb g h = absurd g
one_rest c limit before row from (words ∷ rows) [] [] (Some s) None g h = absurd h
one_rest c limit before row from (words ∷ rows) [] [] (Some s) (Some t) g h =
    (refl, ap (λ (x : Stop). Some x) (same_stop s t (g.0 ∙ sym h.0) (one_phase c limit before from words s.phase t.phase g.1 h.1)))
one_rest c limit before row from (words ∷ rows) [] (b ∷ lb) (Some s) sb g h = absurd (done_or_stops c limit before from words b h.0 h.1 s.phase h.2 g.1)
one_rest c limit before row from (words ∷ rows) (a ∷ la) [] sa None g h = absurd h
one_rest c limit before row from (words ∷ rows) (a ∷ la) [] sa (Some t) g h = absurd (done_or_stops c limit before from words a g.0 g.1 t.phase g.2 h.1)
one_rest c limit before row from (words ∷ rows) (a ∷ la) (b ∷ lb) sa sb g h =
    let same = one_row c limit before from words a b g.0 h.0 g.1 h.1 g.2 h.2 in
    let moved = subst (λ (st : List Stimulus). GoesOn c limit st (row + 1) (g.1 + 1) rows lb sb) (sym same.stimuli) (subst (λ (t : ℕ). GoesOn c limit h.0 (row + 1) (t + 1) rows lb sb) (sym same.instant) h.3) in
    let later = one_rest c limit g.0 (row + 1) (g.1 + 1) rows la lb sa sb g.3 moved in
    (cons_lines a b la lb same.line later.0, later.1)

same_table : (a b : Table) → a.lines ≡ b.lines → a.stop ≡ b.stop → a ≡ b
same_table a b e f =
    let with_lines : List Line → Table = λ lines. record { lines = lines; stop = a.stop } in
    let with_stop : Option Stop → Table = λ stop. record { lines = b.lines; stop = stop } in
    ap with_lines e ∙ ap with_stop f

-- rows have one table
pub one_table : (c : Circuit) (limit : ℕ) (rows : List (List Word)) (a b : Table) → IsTable c limit rows a → IsTable c limit rows b → a ≡ b
one_table c limit rows a b g h = let same = one_rest c limit [] 1 0 rows a.lines b.lines a.stop b.stop g h in same_table a b same.0 same.1

-- The session table of rows of defined inputs on an accepted netlist without clocks.
use Rattle.std.proofs.Common.{◌≡◌, ℕ, ◌+◌, ◌-◌, ◌≤◌, List, [], ◌∷◌, map, None, refl, sym, subst, arith, true}
use Rattle.std.specs.List.{AllByRecursion}
use Rattle.std.proofs.lemmas.List.Elements.{All-nil}
use Rattle.lg_value.specs.declared.bit.Bit.{Bit}
use Rattle.lg_timing.specs.Circuit.{Word, Stimulus}
use Rattle.lg_timing.specs.Settling.{StayFrom}
use Rattle.lg_timing.specs.Session.{Line, Table, read_at, Ticks, GoesOn}
use Rattle.lg_timing.proofs.OneTable.{one_table}
use Rattle.lg_timing.proofs.Rest.{stay_later}
use Rattle.lg_netlist.specs.declared.netlist.Netlist.{Netlist}
use Rattle.lg_netlist.specs.Cell.{State}
use Rattle.lg_netlist.specs.Chain.{IsLongest}
use Rattle.lg_netlist.specs.Static.{input_pins, has_no_clock, start_states, states_after, AreTheStaticValues, AreStaticRows, IsDefinedRow}
use Rattle.lg_netlist.proofs.StaticLemmas.{no_clock_nets}
use Rattle.lg_sim.specs.InTime.{circuit_of}
use Rattle.lg_sim.specs.Settled.{SettlesOnRows}
use Rattle.lg_sim.proofs.StaticNets.{IsDriven}
use Rattle.lg_sim.proofs.SettlesSoon.{extended, extended_stays, row_settles}

-- what a table rests on: nets are driven, chains are no longer than the limit, and rows have static values
pub record IsStatic (n : Netlist) (longest limit : ℕ) : Type 0 where
  pub driven : IsDriven n
  pub bound : IsLongest n longest
  pub enough : longest ≤ limit
  pub values : (states : List State) (row : List Word) → IsDefinedRow (input_pins n) row → (value : ℕ → Bit) × AreTheStaticValues n states row value

-- the rest of a table
record Rest (n : Netlist) (longest limit : ℕ) (states : List State) (before : List Stimulus) (row from : ℕ) (rows : List (List Word)) : Type 0 where
  pub lines : List Line
  pub goes_on : GoesOn (circuit_of n) limit before row from rows lines None
  pub soon : AllByRecursion (λ (line : Line). line.settle ≤ longest) lines
  pub static : AreStaticRows n states rows (map (λ (line : Line). line.outputs) lines)

no_ticks : (n : Netlist) → has_no_clock n ≡ true → (limit : ℕ) (before : List Stimulus) (settled : ℕ) (words : List Word) (line : Line) → line.tick ≡ None → Ticks (circuit_of n).clocks (circuit_of n) limit before settled words line before settled
no_ticks n none limit before settled words line e =
    subst (λ (clocks : List ℕ). Ticks clocks (circuit_of n) limit before settled words line before settled) (sym (no_clock_nets n none)) (e, refl, refl)

rest : (n : Netlist) (longest limit : ℕ) → IsStatic n longest limit → (states : List State) (before : List Stimulus) (row from : ℕ) (rows : List (List Word)) → StayFrom before from
    → AllByRecursion (IsDefinedRow (input_pins n)) rows → Rest n longest limit states before row from rows
rest n longest limit g states before row from [] stay defined = record { lines = []; goes_on = tt; soon = tt; static = tt }
rest n longest limit g states before row from (words ∷ rows) stay defined =
    let c = circuit_of n in
    let stimuli = extended before from words in
    let found = g.values states words defined.0 in
    let soon = row_settles n g.driven before from words states found.0 longest limit found.1.are g.bound g.enough stay in
    let line : Line = record { outputs = read_at c stimuli soon.settled; settle = soon.settled - from; tick = None } in
    let later : StayFrom stimuli (soon.settled + 1) = stay_later stimuli from (soon.settled + 1) (omega (arith, soon.settles.settles.not_before)) (extended_stays before from words stay) in
    let more = rest n longest limit g (states_after n found.0 states) stimuli (row + 1) (soon.settled + 1) rows later defined.1 in
    record {
      lines = line ∷ more.lines;
      goes_on = (
        stimuli,
        soon.settled,
        record {
          settled = soon.settled;
          settles = record { settles = soon.settles; outputs = refl; settle = refl };
          ticks = no_ticks n g.driven.no_clock limit stimuli soon.settled words line refl;
        },
        more.goes_on,
      );
      soon = (omega (arith, soon.soon), more.soon);
      static = (found.0, found.1, sym soon.outputs, more.static);
    }

-- so such a netlist has exactly one table, which its static rows tell
pub static_table : (n : Netlist) (longest limit : ℕ) (rows : List (List Word)) → IsStatic n longest limit → AllByRecursion (IsDefinedRow (input_pins n)) rows
    → (table : Table) × SettlesOnRows n longest limit rows table
static_table n longest limit rows g defined =
    let all = rest n longest limit g (start_states n) [] 1 0 rows (All-nil (λ (s : Stimulus). s.from ≤ 0)) defined in
    let table : Table = record { lines = all.lines; stop = None } in (
      table,
      record {
        is_table = all.goes_on;
        only = λ other is. one_table (circuit_of n) limit rows other table is all.goes_on;
        none_oscillates = refl;
        soon = all.soon;
        static = all.static;
      },
    )

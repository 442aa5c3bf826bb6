-- An accepted netlist without clocks settles on its static rows, each within the longest chain.
use Rattle.std.proofs.Common.{◌≡◌, ℕ, ◌≤◌, true, List}
use Rattle.std.specs.List.{AllByRecursion}
use Rattle.lg_timing.specs.Circuit.{Word}
use Rattle.lg_timing.specs.Session.{Table}
use Rattle.lg_netlist.specs.declared.netlist.Netlist.{Netlist}
use Rattle.lg_netlist.specs.Acceptance.{IsAccepted}
use Rattle.lg_netlist.specs.Chain.{IsLongest}
use Rattle.lg_netlist.specs.Static.{has_no_clock, input_pins, IsDefinedRow}
use Rattle.lg_netlist.proofs.StaticLemmas.{static_values}
use Rattle.lg_sim.specs.Settled.{SettlesOnRows}
use Rattle.lg_sim.proofs.Accepted.{driven_when_accepted}
use Rattle.lg_sim.proofs.Tables.{static_table}

pub settles_on_rows : (n : Netlist) (longest limit : ℕ) (rows : List (List Word)) → has_no_clock n ≡ true → IsAccepted n → IsLongest n longest → longest ≤ limit
    → AllByRecursion (IsDefinedRow (input_pins n)) rows → (table : Table) × SettlesOnRows n longest limit rows table
settles_on_rows n longest limit rows none accepted bound enough defined =
    static_table n longest limit rows
    (record {
      driven = driven_when_accepted n none accepted;
      bound = bound;
      enough = enough;
      values = λ states row is_row.
          let found = static_values n states row none accepted is_row in
          (found.value, found.the);
    })
    defined

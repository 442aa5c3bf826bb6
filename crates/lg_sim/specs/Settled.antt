-- How soon a netlist settles, and on which values.
-- Source: the Logisim-evolution user guide, Value propagation, with transport delays by this project's choice.
use Rattle.std.specs.Prelude.{◌≡◌, ℕ, ◌≤◌, List, map, None}
use Rattle.std.specs.List.{AllByRecursion}
use Rattle.lg_timing.specs.Circuit.{Word}
use Rattle.lg_timing.specs.Session.{Line, Table, IsTable}
use Rattle.lg_netlist.specs.declared.netlist.Netlist.{Netlist}
use Rattle.lg_netlist.specs.Static.{start_states, AreStaticRows}
use Rattle.lg_sim.specs.InTime.{circuit_of}

-- The rows have exactly this session table at this limit: nothing oscillates, each row settles within the longest delay, and
-- its outputs are those of the static rows.
pub record SettlesOnRows (n : Netlist) (longest limit : ℕ) (rows : List (List Word)) (table : Table) : Type 0 where
  pub is_table : IsTable (circuit_of n) limit rows table
  pub only : (other : Table) → IsTable (circuit_of n) limit rows other → other ≡ table
  pub none_oscillates : table.stop ≡ None
  pub soon : AllByRecursion (λ (line : Line). line.settle ≤ longest) table.lines
  pub static : AreStaticRows n (start_states n) rows (map (λ (line : Line). line.outputs) table.lines)

-- The exported module agrees with the circuit in time: each row settles, soon, with the module's outputs.
use Rattle.std.specs.Prelude.{◌≡◌, ℕ, ◌≤◌, map}
use Rattle.std.specs.List.{AllByRecursion}
use Rattle.lg_value.specs.Word.{IsDefined}
use Rattle.lg_timing.specs.Session.{Line, Table}
use Rattle.lg_netlist.specs.declared.netlist.Netlist.{Netlist}
use Rattle.lg_netlist.specs.Chain.{IsLongest}
use Rattle.lg_netlist.specs.Static.{input_pins, IsDefinedRow}
use Rattle.lg_sim.specs.Settled.{SettlesOnRows}
use Rattle.lg_vtree.specs.declared.module.Module.{Module}
use Rattle.lg_vmeaning.specs.Rows.{start, AreRows}
use Rattle.lg_export.specs.Agreement.{Rows, numbers_of}

-- the rows have one session table at this limit, nothing oscillates and each row settles within the longest delay, on defined
-- outputs, which are those of the module
pub record AgreesInTimeOn (n : Netlist) (m : Module) (longest limit : ℕ) (rows : Rows) : Type 0 where
  pub table : Table
  pub settles : SettlesOnRows n longest limit rows table
  pub defined : AllByRecursion (λ (line : Line). AllByRecursion IsDefined line.outputs) table.lines
  pub same : AreRows m (start m) (numbers_of rows) (numbers_of (map (λ (line : Line). line.outputs) table.lines))

-- the netlist has one longest delay; and so for each list of rows of defined inputs, at each limit that this delay keeps to
pub record AgreesInTime (n : Netlist) (m : Module) : Type 0 where
  pub longest : ℕ
  pub is_longest : IsLongest n longest
  pub only : (other : ℕ) → IsLongest n other → other ≡ longest
  pub on_rows : (limit : ℕ) → longest ≤ limit → (rows : Rows) → AllByRecursion (IsDefinedRow (input_pins n)) rows → AgreesInTimeOn n m longest limit rows

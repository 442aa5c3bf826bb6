-- What is run for a module: its equations and stores over indexes. No contract of the crate's surface speaks of this.
use Rattle.std.specs.Prelude.{◌≡◌, ℕ, List, ◌++◌, map, Option, Some, None}
use Rattle.lg_vtree.specs.declared.expr.Expr.{Expr}
use Rattle.lg_vtree.specs.declared.module.Assign.{Assign}
use Rattle.lg_vtree.specs.declared.module.Stmt.{Stmt}
use Rattle.lg_vtree.specs.declared.module.Stmt.TheVariants as stmt
use Rattle.lg_vtree.specs.declared.module.Module.{Module}
use Rattle.lg_vrules.specs.Order.{IsOrder}
use Rattle.lg_vrules.specs.Things.{width_of, names_of, is_input, is_output, is_reg, is_memory}
use Rattle.lg_vrules.specs.Indexes.{index_from}
use Rattle.lg_vmachine.specs.Kept.{Kept}
use Rattle.lg_vresolve.specs.Meaning.{Valuation}
use Rattle.lg_vresolve.specs.Resolved.{resolved, index_or_0}
use Rattle.lg_vmachine.specs.declared.term.Term.{Term}
use Rattle.lg_vmachine.specs.declared.machine.Machine.{Machine}
use Rattle.lg_vmachine.specs.declared.machine.Write.{Write}
use Rattle.lg_vmeaning.specs.declared.ports.PortLine.{PortLine}
use Rattle.lg_vmeaning.specs.Ports.{port_lines}
use Rattle.lg_vmeaning.specs.Valid.{IsValid}
use Rattle.lg_vmeaning.specs.InOrder.{sources, ordered}
use Rattle.lg_vmeaning.specs.Solution.{IsOf, IsTheSolution}
use Rattle.lg_vmeaning.specs.Rows.{stmt_for, after_edge}

-- the names in the order of their numbers: inputs, registers, and what the assigns in order give
abbrev pub known : Module → List ℕ → List (List ℕ)
known m order = sources m ++ map (λ (a : Assign). a.name) (ordered m order)

abbrev pub term_of : Module → List ℕ → Expr → Term
term_of m order e = (resolved (width_of m) (index_from 0 (known m order)) (index_from 0 (names_of is_memory m)) e).term

-- what an edge stores into a register, by its statement
abbrev pub next_by : (Expr → Term) → Option Stmt → Option Term
next_by term (Some (stmt.Store name e)) = Some (term e)
next_by term _ = None

-- what an edge stores into a memory, by its statement
abbrev pub write_by : (Expr → Term) → Option Stmt → Option Write
write_by term (Some (stmt.StoreIf condition name address e)) = Some (record { condition = term condition; address = term address; value = term e })
write_by term _ = None

abbrev pub next_of : Module → List ℕ → Option Stmt → Option Term
next_of m order s = next_by (term_of m order) s

abbrev pub write_of : Module → List ℕ → Option Stmt → Option Write
write_of m order s = write_by (term_of m order) s

-- the machine of a module whose assigns stand in this order
abbrev pub machine_of : Module → List ℕ → Machine
machine_of m order = record {
  equations = map (λ (a : Assign). term_of m order a.value) (ordered m order);
  outputs = map (index_or_0 (index_from 0 (known m order))) (names_of is_output m);
  registers = map (λ (name : List ℕ). next_of m order (stmt_for m name)) (names_of is_reg m);
  memories = map (λ (name : List ℕ). write_of m order (stmt_for m name)) (names_of is_memory m);
}

-- a valid module with all that is made ready for its rows
pub record IsCompiled (m : Module) (indexes : List ℕ) (ins outs : List PortLine) (ready : Machine) : Type 0 where
  pub valid : IsValid m
  pub order : IsOrder m indexes
  pub inputs : ins ≡ port_lines is_input m
  pub outputs : outs ≡ port_lines is_output m
  pub machine : ready ≡ machine_of m indexes

-- a row: its outputs, and what is kept after its edge
pub record IsStep (m : Module) (kept : Kept) (row outputs : List ℕ) (after : Kept) : Type 0 where
  pub value : Valuation
  pub solution : IsTheSolution m kept row value
  pub gives : map value (names_of is_output m) ≡ outputs
  pub stored : after ≡ after_edge m kept value
  pub fits : IsOf m after

-- What a module means over rows: where it starts, what an edge stores, and the outputs row by row.
-- Source: IEEE 1364-2005, 6.2.1 (variable declaration assignments), 9.9.1 (initial construct), 9.2.1 (blocking assignments, in order), 9.2.2 (nonblocking assignments: all is
-- computed before anything is stored).
use Rattle.std.specs.Prelude.{◌≡◌, ℕ, ◌+◌, ◌==◌, List, [], ◌∷◌, map, zip, fold, find, filter_map, replicate, Option, Some, None, option_map, unwrap_or, slice_set, if◌then◌else◌}
use Rattle.std.specs.Str.{bytes_eq}
use Rattle.lg_vtree.specs.declared.module.Decl.{Decl}
use Rattle.lg_vtree.specs.declared.module.Decl.TheVariants as decl
use Rattle.lg_vtree.specs.declared.module.Fill.{Fill}
use Rattle.lg_vtree.specs.declared.module.Word.{Word}
use Rattle.lg_vtree.specs.declared.module.Stmt.{Stmt}
use Rattle.lg_vtree.specs.declared.module.Stmt.TheVariants as stmt
use Rattle.lg_vtree.specs.declared.module.Module.{Module}
use Rattle.lg_vrules.specs.Rules.{stmts_of, fills_of, words_of, stored_name}
use Rattle.lg_vrules.specs.Things.{names_of, is_output, is_reg, is_memory}
use Rattle.lg_vmachine.specs.Kept.{Kept}
use Rattle.lg_vresolve.specs.Meaning.{Valuation, number_of}
use Rattle.lg_vmeaning.specs.Solution.{IsTheSolution}

-- the number that fills a memory
abbrev pub filled_with : Module → List ℕ → ℕ
filled_with m name = unwrap_or (option_map (λ (f : Fill). f.value.value) (find (λ (f : Fill). bytes_eq f.name name) (fills_of m))) 0

-- the words of the memory of this name after a line of the init
abbrev pub with_word : List ℕ → List ℕ → Word → List ℕ
with_word name words w = if bytes_eq w.name name then slice_set words w.address w.value.value else words

-- a memory at the start: filled, and then the words of the init in turn
abbrev pub start_memory : Module → Decl → Option (List ℕ)
start_memory m (decl.Memory range name last) = Some (fold (with_word name) (replicate (last + 1) (filled_with m name)) (words_of m))
start_memory m (decl.Wire range name) = None
start_memory m (decl.Reg range name start) = None

abbrev pub start_number : Decl → Option ℕ
start_number (decl.Reg range name start) = Some start.value
start_number (decl.Wire range name) = None
start_number (decl.Memory range name last) = None

-- registers and memories at the start
abbrev pub start : Module → Kept
start m = record { numbers = filter_map start_number m.decls; memories = filter_map (start_memory m) m.decls }

-- the statement that stores into the register or the memory of this name
abbrev pub stmt_for : Module → List ℕ → Option Stmt
stmt_for m name = find (λ (s : Stmt). bytes_eq (stored_name s) name) (stmts_of m)

-- the number of a register after an edge
abbrev pub number_after : Module → Kept → Valuation → List ℕ × ℕ → ℕ
number_after m kept value r = stored (stmt_for m r.0)
  where
    stored : Option Stmt → ℕ
    stored (Some (stmt.Store name e)) = number_of m kept value e
    stored _ = r.1

-- the words of a memory after an edge
abbrev pub words_after : Module → Kept → Valuation → List ℕ × List ℕ → List ℕ
words_after m kept value r = stored (stmt_for m r.0)
  where
    stored : Option Stmt → List ℕ
    stored (Some (stmt.StoreIf condition name address e)) =
        if number_of m kept value condition == 0 then r.1 else slice_set r.1 (number_of m kept value address) (number_of m kept value e)
    stored _ = r.1

-- registers and memories after an edge: all that is stored is computed in one solution
abbrev pub after_edge : Module → Kept → Valuation → Kept
after_edge m kept value = record {
  numbers = map (number_after m kept value) (zip (names_of is_reg m) kept.numbers);
  memories = map (words_after m kept value) (zip (names_of is_memory m) kept.memories);
}

-- these are the registers and memories after an edge of a module with one solution for these inputs
pub record IsAfterEdge (m : Module) (kept : Kept) (row : List ℕ) (after : Kept) : Type 0 where
  pub value : Valuation
  pub solution : IsTheSolution m kept row value
  pub stored : after ≡ after_edge m kept value

-- the outputs of rows one after another: of each row those of its solution, and then comes an edge
abbrev pub AreRows : Module → Kept → List (List ℕ) → List (List ℕ) → Type 0
AreRows m kept [] [] = Unit {0}
AreRows m kept (row ∷ rows) (out ∷ outs) =
    (value : Valuation) × IsTheSolution m kept row value × (map value (names_of is_output m) ≡ out) × AreRows m (after_edge m kept value) rows outs
AreRows m kept [] (out ∷ outs) = ⊥
AreRows m kept (row ∷ rows) [] = ⊥

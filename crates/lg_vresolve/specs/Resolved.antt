-- Expressions turned into terms, and when a term has the number of an expression.
-- Source: IEEE 1364-2005, 5.2 (operands), 5.4 (widths of expressions).
use Rattle.std.specs.Prelude.{◌≡◌, ℕ, ◌+◌, ◌-◌, ◌^◌, ◌<◌, ◌≤◌, min, true, List, [], Option, Some, unwrap_or, fold, slice_index_or, Contains}
use Rattle.std.specs.List.{AllByRecursion}
use Rattle.lg_vtree.specs.declared.expr.Operator.{Operator}
use Rattle.lg_vtree.specs.declared.expr.Expr.{Expr, fold-Expr}
use Rattle.lg_vtree.specs.declared.expr.Expr.TheOpen.{Expr-F}
use Rattle.lg_vtree.specs.declared.module.Module.{Module}
use Rattle.lg_vrules.specs.declared.names.NameIndex.{NameIndex}
use Rattle.lg_vrules.specs.Things.{things, width_of, sort_of, is_memory}
use Rattle.lg_vrules.specs.Rules.{is_of, operator_width, reads_declared, expr_width}
use Rattle.lg_vrules.specs.Depends.{names_read}
use Rattle.lg_vrules.specs.Known.{KnowsThings}
use Rattle.lg_vmachine.specs.Kept.{Kept}
use Rattle.lg_vresolve.specs.Meaning.{Valuation, memory_words, number_of}
use Rattle.lg_vmachine.specs.Terms.{term_number}
use Rattle.lg_vmachine.specs.declared.term.Term.{Term}
use Rattle.lg_vmachine.specs.declared.term.Term.TheVariants as term
use Rattle.lg_vresolve.specs.declared.resolve.Resolved.{Resolved}

-- the index of a name, and 0 of one that has none
abbrev pub index_or_0 : (List ℕ → Option ℕ) → List ℕ → ℕ
index_or_0 index name = unwrap_or (index name) 0

-- some bits of a name
abbrev pub resolved_part : ℕ → ℕ → ℕ → Resolved
resolved_part index high low = let width = min (high - low + 1) (2 ^ 128 - 1) in record { term = term.Part index low width; width = width }

-- one above another
abbrev pub resolved_join : Resolved → Resolved → Resolved
resolved_join high low = record { term = term.Join high.term low.width low.term; width = min (high.width + low.width) (2 ^ 128 - 1) }

abbrev pub resolved_not : Resolved → Resolved
resolved_not e = record { term = term.Not e.width e.term; width = e.width }

abbrev pub resolved_binary : Resolved → Operator → Resolved → Resolved
resolved_binary left op right = record { term = term.Binary left.width left.term op right.term; width = operator_width op left.width }

abbrev pub resolved_choice : Resolved → Resolved → Resolved → Resolved
resolved_choice condition first second = record { term = term.Choice condition.term first.term second.term; width = first.width }

-- the term of an expression, and its width, from those of its parts; `index` and `memory` give the indexes of numbers and of memories
abbrev pub form_resolved : (List ℕ → ℕ) → (List ℕ → Option ℕ) → (List ℕ → Option ℕ) → Expr-F Resolved → Resolved
form_resolved width index memory (Expr-F.Const c) = record { term = term.Const c.value; width = c.width }
form_resolved width index memory (Expr-F.Whole name) = record { term = term.Number (index_or_0 index name); width = width name }
form_resolved width index memory (Expr-F.Bit name at) = resolved_part (index_or_0 index name) at at
form_resolved width index memory (Expr-F.Part name high low) = resolved_part (index_or_0 index name) high low
form_resolved width index memory (Expr-F.Item name e) = record { term = term.Item (index_or_0 memory name) e.term; width = width name }
form_resolved width index memory (Expr-F.Join a b more) = fold resolved_join (resolved_join a b) more
form_resolved width index memory (Expr-F.Not e) = resolved_not e
form_resolved width index memory (Expr-F.Binary a op b) = resolved_binary a op b
form_resolved width index memory (Expr-F.Choice c a b) = resolved_choice c a b

abbrev pub resolved : (List ℕ → ℕ) → (List ℕ → Option ℕ) → (List ℕ → Option ℕ) → Expr → Resolved
resolved width index memory e = fold-Expr Resolved (form_resolved width index memory) e

-- each name that an expression reads stands at its index with a number that its width can hold, and each memory at its own
pub record AreIndexed (m : Module) (kept : Kept) (value : Valuation) (e : Expr) (numbers : List ℕ) (index memory : List ℕ → Option ℕ) : Type 0 where
  pub narrow : (name : List ℕ) → width_of m name ≤ 128
  pub declared : reads_declared (sort_of m) e ≡ true
  pub small : (name : List ℕ) → Contains (names_read e) name → value name < 2 ^ width_of m name
  pub at : (name : List ℕ) → Contains (names_read e) name → value name ≡ slice_index_or numbers (index_or_0 index name) 0
  pub words_small : (name : List ℕ) → AllByRecursion (λ word. word < 2 ^ width_of m name) (memory_words m kept name)
  pub words_at : (name : List ℕ) → is_of is_memory (sort_of m) name ≡ true → slice_index_or kept.memories (index_or_0 memory name) [] ≡ memory_words m kept name

-- in each module with these names, and wherever they are indexed so, the term has the number and the width of the expression
abbrev pub IsTermOf : NameIndex → (List ℕ → Option ℕ) → (List ℕ → Option ℕ) → Expr → Resolved → Type 0
IsTermOf names index memory e r =
    (m : Module) (kept : Kept) (value : Valuation) (numbers : List ℕ) (w : ℕ) → KnowsThings (things m) names → expr_width (width_of m) e ≡ Some w → AreIndexed m kept value e numbers index memory
    → (term_number numbers kept.memories r.term ≡ number_of m kept value e) × (r.width ≡ w)

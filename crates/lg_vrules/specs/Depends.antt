-- Which wires and outputs depend on which: by the names in their expressions, whatever their values.
-- Source: IEEE 1364-2005, 6.1 (continuous assignments).
use Rattle.std.specs.Prelude.{◌≡◌, ℕ, ◌<◌, List, [], ◌∷◌, ◌++◌, slice_get, Some, Contains}
use Rattle.std.specs.List.{flat_map}
use Rattle.lg_vtree.specs.declared.module.Assign.{Assign}
use Rattle.lg_vtree.specs.declared.module.Module.{Module}
use Rattle.lg_vtree.specs.declared.expr.Expr.{Expr, fold-Expr}
use Rattle.lg_vtree.specs.declared.expr.Expr.TheOpen.{Expr-F}

-- the names that an expression reads numbers of, in order; of a word of a memory those of its address
abbrev pub form_names : Expr-F (List (List ℕ)) → List (List ℕ)
form_names (Expr-F.Const c) = []
form_names (Expr-F.Whole name) = name ∷ []
form_names (Expr-F.Bit name index) = name ∷ []
form_names (Expr-F.Part name high low) = name ∷ []
form_names (Expr-F.Item name e) = e
form_names (Expr-F.Join a b more) = a ++ b ++ flat_map (λ names. names) more
form_names (Expr-F.Not e) = e
form_names (Expr-F.Binary a op b) = a ++ b
form_names (Expr-F.Choice c a b) = c ++ a ++ b

abbrev pub names_read : Expr → List (List ℕ)
names_read e = fold-Expr (List (List ℕ)) form_names e

-- an `assign` to the first name reads the second
pub record Reads (m : Module) (name other : List ℕ) : Type 0 where
  pub at : ℕ
  pub assign : Assign
  pub stands : slice_get m.assigns at ≡ Some assign
  pub gives : assign.name ≡ name
  pub reads : Contains (names_read assign.value) other

-- each of these names reads the next, from the first name to the last
abbrev pub IsChain : Module → List ℕ → List (List ℕ) → List ℕ → Type 0
IsChain m name [] last = Reads m name last
IsChain m name (next ∷ more) last = Reads m name next × IsChain m next more last

-- the first name depends on the second
abbrev pub DependsOn : Module → List ℕ → List ℕ → Type 0
DependsOn m name other = (over : List (List ℕ)) × IsChain m name over other

-- the first `assign` whose name depends on itself
pub record IsFirstCyclic (m : Module) (at : ℕ) : Type 0 where
  pub assign : Assign
  pub stands : slice_get m.assigns at ≡ Some assign
  pub cyclic : DependsOn m assign.name assign.name
  pub first : (earlier : ℕ) (other : Assign) → earlier < at → slice_get m.assigns earlier ≡ Some other → DependsOn m other.name other.name → ⊥

-- no `assign` gives a number to a name that depends on itself
abbrev pub IsAcyclic : Module → Type 0
IsAcyclic m = (at : ℕ) (assign : Assign) → slice_get m.assigns at ≡ Some assign → DependsOn m assign.name assign.name → ⊥

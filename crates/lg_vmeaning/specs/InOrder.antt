-- Equations that stand in order: each reads only names that are known before it, and gives a number to a new one.
use Rattle.std.specs.Prelude.{filter_map, slice_get, ◌≡◌, ◌<◌, ◌^◌, ℕ, List, [], ◌∷◌, ◌++◌, ◌⊎◌, ◌↔◌, map, Contains}
use Rattle.std.specs.List.{AllByRecursion}
use Rattle.lg_vtree.specs.declared.expr.Expr.{Expr}
use Rattle.lg_vtree.specs.declared.module.Assign.{Assign}
use Rattle.lg_vtree.specs.declared.module.Module.{Module}
use Rattle.lg_vrules.specs.Things.{width_of, lines_of, names_of, is_input, is_reg, is_readable}
use Rattle.lg_vmachine.specs.Kept.{Kept}
use Rattle.lg_vresolve.specs.Meaning.{Valuation, number_of}

-- the name is one of these
abbrev pub IsIn : List (List ℕ) → List ℕ → Type 0
IsIn [] name = ⊥
IsIn (other ∷ more) name = (name ≡ other) ⊎ IsIn more name

-- these valuations give each of these names one number
abbrev pub AgreeAt : List (List ℕ) → Valuation → Valuation → Type 0
AgreeAt names v w = (name : List ℕ) → IsIn names name → v name ≡ w name

-- each of these names has a number that its width can hold
abbrev pub AreWithin : Module → List (List ℕ) → Valuation → Type 0
AreWithin m names v = (name : List ℕ) → IsIn names name → v name < 2 ^ width_of m name

-- the expression's number comes from the numbers of these names alone
abbrev pub ReadsOnly : Module → Kept → List (List ℕ) → Expr → Type 0
ReadsOnly m kept known e = (v w : Valuation) → AgreeAt known v w → number_of m kept v e ≡ number_of m kept w e

-- where these names have numbers that their widths can hold, so has the expression in this width
abbrev pub HasWidth : Module → Kept → List (List ℕ) → ℕ → Expr → Type 0
HasWidth m kept known width e = (v : Valuation) → AreWithin m known v → number_of m kept v e < 2 ^ width

-- each equation reads only names that are known before it, fits the name that it gives a number, and that name is new
abbrev pub AreInOrder : Module → Kept → List (List ℕ) → List Assign → Type 0
AreInOrder m kept known [] = Unit {0}
AreInOrder m kept known (a ∷ more) =
    ReadsOnly m kept known a.value × HasWidth m kept known (width_of m a.name) a.value × (IsIn known a.name → ⊥) × AreInOrder m kept (a.name ∷ known) more

-- no name stands twice
abbrev pub AllDiffer : List (List ℕ) → Type 0
AllDiffer [] = Unit {0}
AllDiffer (name ∷ more) = (IsIn more name → ⊥) × AllDiffer more

-- the name is known, or an equation gives it a number
abbrev pub IsGiven : List (List ℕ) → List Assign → List ℕ → Type 0
IsGiven known assigns name = IsIn known name ⊎ IsIn (map (λ (a : Assign). a.name) assigns) name

-- what is known before the equations
abbrev pub sources : Module → List (List ℕ)
sources m = names_of is_input m ++ names_of is_reg m

-- the equations of a module, in an order in which they can be solved one after another
pub record AreOrdered (m : Module) (kept : Kept) (order : List Assign) : Type 0 where
  pub sources_differ : AllDiffer (sources m)
  pub in_order : AreInOrder m kept (sources m) order
  -- the same equations stand in the order and in the module
  pub same : (a : Assign) → Contains m.assigns a ↔ Contains order a
  -- each name that has a number is known or given one, and its width is that of its line
  pub all_given : AllByRecursion (λ (l : List ℕ × ℕ). IsGiven (sources m) order l.0 × (width_of m l.0 ≡ l.1)) (lines_of is_readable m)

-- the assigns at these indexes
abbrev pub ordered : Module → List ℕ → List Assign
ordered m order = filter_map (slice_get m.assigns) order

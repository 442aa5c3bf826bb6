-- The assigns of a module in an order in which each stands after those whose names it reads.
-- Source: IEEE 1364-2005, 6.1 (continuous assignments).
use Rattle.std.specs.Prelude.{◌≡◌, ℕ, ◌<◌, List, length, slice_get, slice_index, Some, Contains}
use Rattle.lg_vtree.specs.declared.module.Assign.{Assign}
use Rattle.lg_vtree.specs.declared.module.Module.{Module}
use Rattle.lg_vrules.specs.declared.depends.Dependence.{Dependence}
use Rattle.lg_vrules.specs.declared.depends.Dependence.TheVariants.{Ordered, Cyclic}
use Rattle.lg_vrules.specs.Depends.{names_read, IsAcyclic, IsFirstCyclic}

-- an index of an assign stands in the order before this point of it
abbrev pub IsBefore : List ℕ → ℕ → ℕ → Type 0
IsBefore order i at = (before : ℕ) × (before < i) × (slice_index order before ≡ at)

-- indexes of assigns
pub record IsOrder (m : Module) (order : List ℕ) : Type 0 where
  -- each index stands in the order, once, and nothing else does
  pub each : (at : ℕ) → at < length m.assigns → IsBefore order (length order) at
  pub indexes : (i : ℕ) → i < length order → slice_index order i < length m.assigns
  pub once : (i j : ℕ) → i < length order → j < length order → slice_index order i ≡ slice_index order j → i ≡ j
  -- an assign that reads another's name stands after it
  pub after : (i at : ℕ) (a b : Assign) → i < length order → slice_get m.assigns (slice_index order i) ≡ Some a → slice_get m.assigns at ≡ Some b
      → Contains (names_read a.value) b.name → IsBefore order i at

-- the assigns stand in order, and none depends on itself; or the first that does
abbrev pub IsDependence : Module → Dependence → Type 0
IsDependence m (Ordered order) = IsAcyclic m × IsOrder m order
IsDependence m (Cyclic at) = IsFirstCyclic m at

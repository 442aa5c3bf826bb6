-- What a module means at one moment: the valuations that make each `assign` an equation.
-- Source: IEEE 1364-2005, 6.1 (continuous assignments).
use Rattle.std.specs.Prelude.{◌≡◌, ℕ, ◌+◌, ◌^◌, ◌<◌, List, [], ◌∷◌, map, length}
use Rattle.std.specs.List.{AllByRecursion}
use Rattle.lg_vtree.specs.declared.module.Assign.{Assign}
use Rattle.lg_vtree.specs.declared.module.Module.{Module}
use Rattle.lg_vrules.specs.Rules.{last_address}
use Rattle.lg_vrules.specs.Things.{sort_of, lines_of, names_of, is_input, is_output, is_reg, is_memory, is_readable}
use Rattle.lg_vmachine.specs.Kept.{Kept}
use Rattle.lg_vresolve.specs.Meaning.{Valuation, number_of}

-- a number for each of these names, which its width can hold
abbrev pub AreNumbers : List (List ℕ × ℕ) → List ℕ → Type 0
AreNumbers [] [] = Unit {0}
AreNumbers (l ∷ lines) (n ∷ numbers) = (n < 2 ^ l.1) × AreNumbers lines numbers
AreNumbers [] (n ∷ numbers) = ⊥
AreNumbers (l ∷ lines) [] = ⊥

-- words for each of these memories: one for each address, each of which its width can hold
abbrev pub AreMemories : Module → List (List ℕ × ℕ) → List (List ℕ) → Type 0
AreMemories m [] [] = Unit {0}
AreMemories m (l ∷ lines) (words ∷ memories) =
    (length words ≡ last_address (sort_of m l.0) + 1) × AllByRecursion (λ (word : ℕ). word < 2 ^ l.1) words × AreMemories m lines memories
AreMemories m [] (words ∷ memories) = ⊥
AreMemories m (l ∷ lines) [] = ⊥

-- registers and memories of this module: in the order of their declarations, in their widths and lengths
pub record IsOf (m : Module) (kept : Kept) : Type 0 where
  pub numbers : AreNumbers (lines_of is_reg m) kept.numbers
  pub memories : AreMemories m (lines_of is_memory m) kept.memories

-- the valuation gives inputs and registers these numbers, each name one that its width can hold, and makes each `assign` an equation
pub record IsSolution (m : Module) (kept : Kept) (row : List ℕ) (value : Valuation) : Type 0 where
  pub within : AllByRecursion (λ (l : List ℕ × ℕ). value l.0 < 2 ^ l.1) (lines_of is_readable m)
  pub inputs : map value (names_of is_input m) ≡ row
  pub registers : map value (names_of is_reg m) ≡ kept.numbers
  pub equations : AllByRecursion (λ (a : Assign). value a.name ≡ number_of m kept value a.value) m.assigns

-- these two valuations give each name that has a number the same one
abbrev pub AgreeOn : Module → Valuation → Valuation → Type 0
AgreeOn m v w = AllByRecursion (λ (l : List ℕ × ℕ). v l.0 ≡ w l.0) (lines_of is_readable m)

-- it is a solution, and the only one
pub record IsTheSolution (m : Module) (kept : Kept) (row : List ℕ) (value : Valuation) : Type 0 where
  pub solves : IsSolution m kept row value
  pub only : (other : Valuation) → IsSolution m kept row other → AgreeOn m value other

-- the module has exactly one solution, and these are the numbers of its outputs
pub record HasOutputs (m : Module) (kept : Kept) (row outputs : List ℕ) : Type 0 where
  pub value : Valuation
  pub solution : IsTheSolution m kept row value
  pub gives : map value (names_of is_output m) ≡ outputs

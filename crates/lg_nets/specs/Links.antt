-- Chains of links between numbers, and the classes that they make.
use Rattle.std.specs.Prelude.{◌≡◌, ℕ, ◌<◌, ◌≤◌, ◌⊎◌, List, [], ◌∷◌, length, Contains, slice_index}
use Rattle.lg_nets.specs.declared.components.Link.{Link}

-- one of the links has the two numbers, in either order
abbrev pub Linked : List Link → ℕ → ℕ → Type 0
Linked links i j = (link : Link) × Contains links link × (((link.from ≡ i) × (link.to ≡ j)) ⊎ ((link.from ≡ j) × (link.to ≡ i)))

-- links lead over these numbers from one to the other
abbrev pub Chain : List Link → ℕ → List ℕ → ℕ → Type 0
Chain links i [] j = i ≡ j
Chain links i (next ∷ more) j = Linked links i next × Chain links next more j

-- a finite list of links leads from one number to the other; the empty one from a number to itself
abbrev pub Chained : List Link → ℕ → ℕ → Type 0
Chained links i j = (over : List ℕ) × Chain links i over j

-- a label for each number below `count`: the two numbers of a link have one label, and links chain each number to its
-- label, which is no greater. So two numbers have one label exactly where links chain them
pub record AreClasses (links : List Link) (count : ℕ) (labels : List ℕ) : Type 0 where
  pub one_each : length labels ≡ count
  pub linked : (link : Link) → Contains links link → slice_index labels link.from ≡ slice_index labels link.to
  pub chained : (i : ℕ) → i < count → Chained links i (slice_index labels i)
  pub least : (i : ℕ) → i < count → slice_index labels i ≤ i

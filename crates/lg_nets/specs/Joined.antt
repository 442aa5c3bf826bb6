-- Joined places: what the wires of a sheet connect.
-- Source: the Logisim-evolution user guide, Wires: an end joins, and wires that only cross do not.
use Rattle.std.specs.Prelude.{◌≡◌, ℕ, List, [], ◌∷◌, Contains, length, slice_get, slice_index, Some, ◌↔◌, ◌<◌, ◌⊎◌, ◌≢◌, Bool, false, IsTrue, slice_index_or}
use Rattle.std.specs.List.{flat_map}
use Rattle.lg_circ.specs.declared.project.Point.{Point}
use Rattle.lg_circ.specs.declared.project.Wire.{Wire}
use Rattle.lg_nets.specs.Segment.{segment_of, Covers}

-- a bit at a point of one instance: the instance by the uses that lead to it, outermost first
pub record Place : Type 0 where
  pub path : List ℕ
  pub point : Point
  pub bit : ℕ

-- the point lies on a level or an upright wire, its ends included
abbrev pub LiesOn : Wire → Point → Type 0
LiesOn w p = Covers (segment_of w) p

-- a node of a sheet: an end of a wire, or the place of a port
abbrev pub IsNode : List Wire → List Point → Point → Type 0
IsNode wires ports p = Contains (flat_map (λ w. w.from ∷ w.to ∷ []) wires) p ⊎ Contains ports p

-- two nodes of one instance lie on one wire
pub record OnOneWire (wires : List Wire) (ports : List Point) (a b : Place) : Type 0 where
  pub wire : Wire
  pub drawn : Contains wires wire
  pub first : LiesOn wire a.point
  pub second : LiesOn wire b.point
  pub first_node : IsNode wires ports a.point
  pub second_node : IsNode wires ports b.point
  pub one_path : a.path ≡ b.path
  pub one_bit : a.bit ≡ b.bit

-- a contact between two places: so far by a wire
abbrev pub Contact : List Wire → List Point → Place → Place → Type 0
Contact wires ports a b = OnOneWire wires ports a b

-- contacts lead over these places from one to the other
abbrev pub Leads : List Wire → List Point → Place → List Place → Place → Type 0
Leads wires ports a [] b = a ≡ b
Leads wires ports a (next ∷ more) b = Contact wires ports a next × Leads wires ports next more b

-- a finite list of contacts leads from one place to the other; the empty one from a place to itself
abbrev pub Joined : List Wire → List Point → Place → Place → Type 0
Joined wires ports a b = (over : List Place) × Leads wires ports a over b

-- bit 0 at a point of the chosen sheet
abbrev pub place_at : Point → Place
place_at p = record { path = []; point = p; bit = 0 }

-- labels of ports: two ports have one label exactly where they are joined, and labels are less than how many there are
pub record AreLabels (wires : List Wire) (ports : List Point) (labels : List ℕ) : Type 0 where
  pub one_each : length labels ≡ length ports
  pub joined : (i j : ℕ) (a b : Point) → slice_get ports i ≡ Some a → slice_get ports j ≡ Some b
      → (slice_index labels i ≡ slice_index labels j) ↔ Joined wires ports (place_at a) (place_at b)
  pub small : (i : ℕ) → i < length labels → slice_index labels i < length labels

-- a wire lies along the port's point, or another port lies at it
abbrev pub IsAttached : List Wire → List Point → ℕ → Point → Type 0
IsAttached wires ports i point =
    ((wire : Wire) × Contains wires wire × LiesOn wire point) ⊎ ((j : ℕ) × (j ≢ i) × (slice_get ports j ≡ Some point))

-- one flag for each port: whether something is attached to it
pub record AreAttached (wires : List Wire) (ports : List Point) (flags : List Bool) : Type 0 where
  pub one_each : length flags ≡ length ports
  pub attached : (i : ℕ) (point : Point) → slice_get ports i ≡ Some point
      → IsTrue (slice_index_or flags i false) ↔ IsAttached wires ports i point

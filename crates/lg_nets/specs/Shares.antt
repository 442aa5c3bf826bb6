-- Which labels are shared: by a port that is not the label itself, or by a wire that lies along something.
use Rattle.std.specs.Prelude.{◌≡◌, ℕ, ◌<◌, ◌≢◌, ◌⊎◌, ◌↔◌, Bool, false, IsTrue, List, length, slice_get, slice_index, slice_index_or, Some, drop}
use Rattle.lg_circ.specs.declared.project.Wire.{Wire}
use Rattle.lg_circ.specs.Straight.{is_straight}

-- one of the first ports has the label, and is not the label itself
abbrev pub PortShares : List ℕ → ℕ → ℕ → Type 0
PortShares labels ports label = (i : ℕ) × (i < ports) × (slice_index labels i ≡ label) × (i ≢ label)

-- one of the first wires is straight and has the label
abbrev pub WireShares : List Wire → List ℕ → ℕ → ℕ → Type 0
WireShares wires labels done label =
    (k : ℕ) × (wire : Wire) × (k < done) × (slice_get wires k ≡ Some wire) × IsTrue (is_straight wire) × (slice_index labels k ≡ label)

-- the flags that were set still are, and so are those of which this holds
pub record Marks (old new : List Bool) (P : ℕ → Type 0) : Type 0 where
  pub one_each : length new ≡ length old
  pub marked : (i : ℕ) → i < length old → IsTrue (slice_index_or new i false) ↔ (IsTrue (slice_index_or old i false) ⊎ P i)

-- whether something shares the label of each port, where the labels are those of ports and then of wires
pub record AreShared (wires : List Wire) (ports : ℕ) (labels : List ℕ) (flags : List Bool) : Type 0 where
  pub one_each : length flags ≡ ports
  pub shared : (i : ℕ) → i < ports → IsTrue (slice_index_or flags i false)
      ↔ (PortShares labels ports (slice_index labels i) ⊎ WireShares wires (drop ports labels) (length wires) (slice_index labels i))

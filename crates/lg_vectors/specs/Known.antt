-- What an index of names knows. No contract of the crate's surface speaks of this.
use Rattle.std.specs.Prelude.{◌≡◌, ℕ, false, List, Some, None, slice_get, String}
use Rattle.std.specs.declared.alloc.Global.{Global}
use Rattle.std.specs.BTreeMap.{BTreeMap, get_by_text}
use Rattle.std.specs.BTreeSet.{BTreeSet, contains_text}
use Rattle.lg_vectors.specs.declared.pin.PinShape.{PinShape}
use Rattle.lg_vectors.specs.Binding.{pin_names, has_name}

-- just these names are in a set
pub record KnowsNames (names : List (List ℕ)) (seen : BTreeSet (String Global)) : Type 0 where
  pub known : (name : List ℕ) → contains_text seen name ≡ has_name names name

-- under each name stands the place of a pin with that name, and under no other name a place
pub record KnowsPins (pins : List PinShape) (index : BTreeMap (String Global) ℕ) : Type 0 where
  pub found : (name : List ℕ) (place : ℕ) → get_by_text index name ≡ Some place
      → (pin : PinShape) × (slice_get pins place ≡ Some pin) × (pin.name ≡ name)
  pub none : (name : List ℕ) → get_by_text index name ≡ None → has_name (pin_names pins) name ≡ false

-- The indexes of names in a list, and those of what an expression reads.
use Rattle.std.specs.Prelude.{◌≡◌, ℕ, ◌+◌, Bool, List, [], ◌∷◌, Option, Some, None, if◌then◌else◌}
use Rattle.std.specs.BTreeMap.{get_by_text}
use Rattle.std.specs.List.{flat_map}
use Rattle.std.specs.Str.{bytes_eq}
use Rattle.lg_vrules.specs.declared.indexes.Indexes.{Indexes}

-- the index that is kept of a name
abbrev pub index_under : Indexes → List ℕ → Option ℕ
index_under indexes name = get_by_text indexes.indexes name

-- the index of a name among names, counted from a number
abbrev pub index_from : ℕ → List (List ℕ) → List ℕ → Option ℕ
index_from n [] name = None
index_from n (other ∷ names) name = if bytes_eq other name then Some n else index_from (n + 1) names name

pub record KnowsIndexes (names : List (List ℕ)) (indexes : Indexes) : Type 0 where
  pub known : (name : List ℕ) → index_under indexes name ≡ index_from 0 names name

abbrev pub index_list : Option ℕ → List ℕ
index_list None = []
index_list (Some index) = index ∷ []

-- the indexes of some names, of those that have one
abbrev pub indexes_of : (List ℕ → Option ℕ) → List (List ℕ) → List ℕ
indexes_of index names = flat_map (λ name. index_list (index name)) names

abbrev pub first_marked_from : ℕ → List Bool → Option ℕ
first_marked_from n [] = None
first_marked_from n (mark ∷ marks) = if mark then Some n else first_marked_from (n + 1) marks

-- What a set of names knows.
use Rattle.std.specs.Prelude.{◌≡◌, ℕ, Bool, true, false, List, Option, Some, None}
use Rattle.std.specs.BTreeSet.{contains_text}
use Rattle.lg_vnames.specs.declared.name_set.NameSet.{NameSet}
use Rattle.lg_vnames.specs.Names.{is_among, all_differ}

-- a name is in a set
abbrev pub holds : NameSet → List ℕ → Bool
holds set name = contains_text set.names name

-- just these names are in a set, and they differ
pub record KnowsNames (some : List (List ℕ)) (set : NameSet) : Type 0 where
  pub differ : all_differ some ≡ true
  pub known : (name : List ℕ) → holds set name ≡ is_among name some

-- the set of some names, and none where two of them are equal
abbrev pub IsSet : List (List ℕ) → Option NameSet → Type 0
IsSet some None = all_differ some ≡ false
IsSet some (Some set) = KnowsNames some set

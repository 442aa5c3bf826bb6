-- What an index of names knows.
use Rattle.std.specs.Prelude.{◌≡◌, ◌≤◌, ℕ, Bool, true, false, List, map, Option, Some, None, is_none, option_map, unwrap_or}
use Rattle.std.specs.BTreeMap.{get_by_text}
use Rattle.std.specs.Map.{lookup, update}
use Rattle.std.specs.Str.{bytes_eq}
use Rattle.lg_vtree.specs.declared.module.Module.{Module}
use Rattle.lg_vrules.specs.declared.names.Sort.{Sort}
use Rattle.lg_vrules.specs.declared.names.Thing.{Thing}
use Rattle.lg_vrules.specs.declared.names.NameIndex.{NameIndex}
use Rattle.lg_vrules.specs.declared.once.Target.{Target}
use Rattle.lg_vrules.specs.declared.once.Target.TheVariants as target
use Rattle.lg_vrules.specs.Things.{range_width, things, names, is_assignable, is_reg, is_memory}
use Rattle.lg_vrules.specs.Rules.{all_differ}

-- what stands under a name
abbrev pub under : NameIndex → List ℕ → Option Thing
under index name = get_by_text index.things name

abbrev pub sort_under : NameIndex → List ℕ → Option Sort
sort_under index name = option_map (λ (t : Thing). t.sort) (under index name)

abbrev pub width_under : NameIndex → List ℕ → ℕ
width_under index name = unwrap_or (option_map (λ (t : Thing). range_width t.high) (under index name)) 0

-- just these things stand under their names, which differ
pub record KnowsThings (some : List (List ℕ × Thing)) (index : NameIndex) : Type 0 where
  pub differ : all_differ (map (λ (t : List ℕ × Thing). t.0) some) ≡ true
  pub known : (name : List ℕ) → under index name ≡ lookup (λ other. bytes_eq other name) some

-- the index of a module's names, and none where two of them are equal
abbrev pub IsIndex : Module → Option NameIndex → Type 0
IsIndex m None = all_differ (names m) ≡ false
IsIndex m (Some index) = KnowsThings (things m) index

-- the name was new, and now the thing stands under it
pub record Adds (old new : NameIndex) (name : List ℕ) (thing : Thing) (added : Bool) : Type 0 where
  pub was_new : added ≡ is_none (under old name)
  pub updated : (other : List ℕ) → under new other ≡ update bytes_eq (under old) name (Some thing) other

-- no name is wider than 128 bits
abbrev pub AreNarrow : NameIndex → Type 0
AreNarrow index = (name : List ℕ) → width_under index name ≤ 128

abbrev pub is_target : Target → Sort → Bool
is_target target.Assigned = is_assignable
is_target target.Stored = is_reg
is_target target.Filled = is_memory

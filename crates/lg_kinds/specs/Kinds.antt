-- Which kinds a name in a library means. Source: the library reference of Logisim-evolution.
use Rattle.std.specs.Prelude.{ℕ, Bool, true, false, ◌≡◌, ◌≢◌, ◌⊎◌, List, [], ◌∷◌, Option, Some, None, codes}
use Rattle.std.specs.List.{list_any}
use Rattle.std.specs.Str.{bytes_eq}
use denote.Bor.{Bor}
use Rattle.lg_kinds.specs.declared.fault.PartFault.{PartFault}
use Rattle.lg_kinds.specs.declared.fault.PartFault.TheVariants.{UnknownKind, OutsideLibrary, Memory}
use Rattle.lg_kinds.specs.declared.kind.Kind.{Kind}
use Rattle.lg_kinds.specs.Table.{name_of}

-- the descriptions of the libraries that are accepted
abbrev pub libraries : List (List ℕ)
libraries =
    codes "#Wiring" ∷ codes "#Gates" ∷ codes "#Plexers" ∷ codes "#Arithmetic" ∷ codes "#Memory" ∷ codes "#I/O" ∷ codes "#Base" ∷ []

-- a description is that of an accepted library
abbrev pub is_accepted : List ℕ → Bool
is_accepted library = list_any (bytes_eq library) libraries

-- the description of a library; empty where there is none, which is not accepted
abbrev pub library_of : Option (Bor (List ℕ)) → List ℕ
library_of None = []
library_of (Some desc) = desc.now

-- the kind of this name, in an accepted library
pub record IsKind (library name : List ℕ) (kind : Kind) : Type 0 where
  pub accepted : is_accepted library ≡ true
  pub named : name_of kind ≡ name

-- no kind has this name, in an accepted library
pub record IsUnknown (library name : List ℕ) : Type 0 where
  pub accepted : is_accepted library ≡ true
  pub unnamed : (kind : Kind) → name_of kind ≢ name

-- a name in a library is refused: for the library, for the name, or for want of memory
abbrev pub RefusesKind : List ℕ → List ℕ → PartFault → Type 0
RefusesKind library name fault =
    (fault ≡ Memory)
    ⊎ (((is_accepted library ≡ false) × (fault ≡ OutsideLibrary library)) ⊎ (IsUnknown library name × (fault ≡ UnknownKind name)))

-- the kind has the name, and no other has it
abbrev pub IsOnly : List ℕ → Kind → Type 0
IsOnly name kind = (name_of kind ≡ name) × ((other : Kind) → name_of other ≡ name → other ≡ kind)

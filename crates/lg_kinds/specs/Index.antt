-- Places that are found by two names.
use Rattle.std.specs.Prelude.{ℕ, ◌≡◌, ◌&&◌, List, Option, Some, if◌then◌else◌}
use Rattle.std.specs.BTreeMap.{get_by_text}
use Rattle.std.specs.Option.{option_and_then}
use Rattle.std.specs.Str.{bytes_eq}
use Rattle.lg_kinds.specs.declared.index.Index.{Index}

-- the place under two names
abbrev pub found : Index → List ℕ → List ℕ → Option ℕ
found index first second = option_and_then (λ inside. get_by_text inside second) (get_by_text index.places first)

-- after a place was put under two names it is found there, and under others what was found before
abbrev pub Puts : List ℕ → List ℕ → ℕ → Index → Index → Type 0
Puts first second place old new =
    (a b : List ℕ) → found new a b ≡ (if bytes_eq first a && bytes_eq second b then Some place else found old a b)

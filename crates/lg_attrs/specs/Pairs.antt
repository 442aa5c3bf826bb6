-- Names and values in lists, as the attributes of an element and of a component, and the libraries of a project.
use Rattle.std.specs.Prelude.{ℕ, Bool, true, not, ◌&&◌, List, [], ◌∷◌, map, Option, find, option_map}
use Rattle.std.specs.List.{list_all, list_any}
use Rattle.std.specs.Str.{bytes_eq}
use denote.Bor.{Bor}

-- the first value under a name
abbrev pub value_under : List ℕ → List (List ℕ × List ℕ) → Option (List ℕ)
value_under name pairs = option_map (λ (a : List ℕ × List ℕ). a.1) (find (λ (a : List ℕ × List ℕ). bytes_eq a.0 name) pairs)

-- no name stands twice
abbrev pub names_differ : List (List ℕ × List ℕ) → Bool
names_differ [] = true
names_differ (a ∷ more) = not (list_any (λ (b : List ℕ × List ℕ). bytes_eq a.0 b.0) more) && names_differ more

-- the pairs have these names alone, each at most once
abbrev pub has_only : List (List ℕ) → List (List ℕ × List ℕ) → Bool
has_only names pairs = list_all (λ (s : List ℕ × List ℕ). list_any (bytes_eq s.0) names) pairs && names_differ pairs

-- the texts that a list of references leads to
abbrev pub texts : List (Bor (List ℕ)) → List (List ℕ)
texts references = map (λ (r : Bor (List ℕ)). r.now) references

-- What is held under a name, read from the entries as they are kept.
use Rattle.std.proofs.Common.{ℕ, ◌≡◌, List, [], ◌∷◌, map, Option, Some, option_map, cond, true, false, refl, find, bytes_eq, String, Vec, string_bytes}
use Rattle.std.specs.declared.alloc.Global.{Global}
use Rattle.lg_io.specs.MemFiles.{content_of, named_bytes}

-- the content of the first entry of the name, among the entries that are kept
abbrev kept_content : List (String Global × Vec ℕ Global) → List ℕ → Option (List ℕ)
kept_content entries name = option_map (λ entry. entry.1.items) (find (λ entry. bytes_eq (string_bytes entry.0) name) entries)

pub content_of-named
    : (entries : List (String Global × Vec ℕ Global)) (name : List ℕ)
    → content_of (map named_bytes entries) name ≡ kept_content entries name
content_of-named [] name = refl
content_of-named (entry ∷ entries) name =
    elim (bytes_eq (string_bytes entry.0) name) as (λ b.
    option_map (λ e. e.1) (cond b (Some (named_bytes entry)) (find (λ e. bytes_eq e.0 name) (map named_bytes entries)))
    ≡ option_map (λ e. e.1.items) (cond b (Some entry) (find (λ e. bytes_eq (string_bytes e.0) name) entries)))
    [ true ↦ refl | false ↦ content_of-named entries name ]

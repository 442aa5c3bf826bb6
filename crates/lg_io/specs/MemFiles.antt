-- Contents in memory, as a contract sees them.
use Rattle.std.specs.Prelude.{ℕ, List, Option, option_map, find, bytes_eq, String, Vec, string_bytes}
use Rattle.std.specs.declared.alloc.Global.{Global}

-- contents under their names, the numbers of the calls that fail, the number of the next call, and how many have failed
pub record FilesState : Type 0 where
  pub entries : List (List ℕ × List ℕ)
  pub fails : List ℕ
  pub calls : ℕ
  pub faults : ℕ

-- a name and a content as their bytes
abbrev pub named_bytes : String Global × Vec ℕ Global → List ℕ × List ℕ
named_bytes entry = (string_bytes entry.0, entry.1.items)

-- what is held under a name: the content of the first entry of that name
abbrev pub content_of : List (List ℕ × List ℕ) → List ℕ → Option (List ℕ)
content_of entries name = option_map (λ entry. entry.1) (find (λ entry. bytes_eq entry.0 name) entries)

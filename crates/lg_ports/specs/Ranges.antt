-- The ranges of attributes. Source: the library reference of Logisim-evolution; the numbers are this project's.
use Rattle.std.specs.Prelude.{ℕ, ◌≡◌, ◌^◌, ◌<◌, ◌≤◌, ◌⊎◌, true, List, ◌++◌, IsSomeAnd, codes}
use Rattle.std.specs.List.{list_any}
use Rattle.std.specs.Str.{bytes_eq}
use Rattle.lg_memory.specs.Image.{Spells}
use Rattle.lg_ports.specs.Contents.{IsContents}
use Rattle.lg_ports.specs.Given.{Given, number_of, number}
use Rattle.lg_kinds.specs.Rows.{Range, Any, OneOf, Number, Group, End, Literal, Contents}

-- a number from one to another
abbrev pub IsWithin : ℕ → ℕ → List ℕ → Type 0
IsWithin low high text = IsSomeAnd (number_of text) (λ n. (low ≤ n) × (n ≤ high))

-- the number of one of so many ends, or `none`
abbrev pub IsEnd : ℕ → List ℕ → Type 0
IsEnd fanout text = (text ≡ codes "none") ⊎ IsSomeAnd (number_of text) (λ n. n < fanout)

-- a text says a number: by decimal digits, or by `0x` and hexadecimal ones
abbrev pub Says : List ℕ → ℕ → Type 0
Says text n = Spells 10 text n ⊎ ((digits : List ℕ) × (text ≡ codes "0x" ++ digits) × Spells 16 digits n)

-- a number of 64 bits
abbrev pub IsLiteral : List ℕ → Type 0
IsLiteral text = (n : ℕ) × Says text n × (n < 2 ^ 64)

-- a value of a component is in a range
abbrev pub InRange : Given → Range → List ℕ → Type 0
InRange given Any text = Unit {0}
InRange given (OneOf words) text = list_any (bytes_eq text) words ≡ true
InRange given (Number low high) text = IsWithin low high text
InRange given Group text = IsWithin 1 (number given (codes "width")) text
InRange given End text = IsEnd (number given (codes "fanout")) text
InRange given Literal text = IsLiteral text
InRange given Contents text = IsContents (number given (codes "addrWidth")) (number given (codes "dataWidth")) text

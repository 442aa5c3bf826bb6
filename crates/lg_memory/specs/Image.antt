-- Memory images. Source: the library reference of Logisim-evolution, Memory Library, ROM: the raw image `v2.0 raw`, in
-- this project's form.
use Rattle.std.specs.Prelude.{ℕ, Bool, true, false, ◌≡◌, ◌+◌, ◌-◌, ◌*◌, ◌^◌, ◌<◌, ◌≤◌, ◌==◌, nat_le, ◌&&◌, ◌||◌, ◌⊎◌, if◌then◌else◌, List, [], ◌∷◌, ◌++◌, length, replicate, All, codes}
use Rattle.std.specs.List.{fold, flat_map}
use Rattle.lg_memory.specs.declared.run.Run.{Run}

-- white space: space, tab, CR, LF
abbrev pub is_white : ℕ → Bool
is_white c = c == 32 || (c == 9 || (c == 13 || c == 10))

-- a text without its comments, from a place that is inside one or not: a comment goes from `#` to before the
-- next LF or to the end of the text
abbrev pub uncommented : Bool → List ℕ → List ℕ
uncommented inside [] = []
uncommented inside (c ∷ rest) =
    if c == 10 then c ∷ uncommented false rest
    else (if inside || c == 35 then uncommented true rest else c ∷ uncommented false rest)

-- the value of a digit, in either case; any other character has 16, which no digit has
abbrev pub digit_value : ℕ → ℕ
digit_value c =
    if nat_le 48 c && nat_le c 57 then c - 48
    else (if nat_le 97 c && nat_le c 102 then c - 87
    else (if nat_le 65 c && nat_le c 70 then c - 55 else 16))

-- the number that digits are in a base, the highest digit first
abbrev pub number_in : ℕ → List ℕ → ℕ
number_in base text = fold (λ n c. base * n + digit_value c) 0 text

-- a text is a number in a base: one digit or more
pub record Spells (base : ℕ) (text : List ℕ) (n : ℕ) : Type 0 where
  pub some : 1 ≤ length text
  pub digits : All (λ c. digit_value c < base) text
  pub value : number_in base text ≡ n

-- `V` is a word in hexadecimal digits, below a bound
pub record IsValue (bound : ℕ) (text : List ℕ) (run : Run) : Type 0 where
  pub once : run.count ≡ 1
  pub spelled : Spells 16 text run.value
  pub fits : run.value < bound

-- `N*V` is so many words in a row, N in decimal digits
pub record IsTimes (bound : ℕ) (text times word : List ℕ) (run : Run) : Type 0 where
  pub parts : text ≡ times ++ 42 ∷ word
  pub count : Spells 10 times run.count
  pub some : 1 ≤ run.count
  pub most : run.count ≤ 1048576
  pub spelled : Spells 16 word run.value
  pub fits : run.value < bound

-- a text without white space is a run of words, `V` or `N*V`
abbrev pub IsRun : ℕ → List ℕ → Run → Type 0
IsRun bound text run = IsValue bound text run ⊎ ((times word : List ℕ) × IsTimes bound text times word run)

-- a text ends, or goes on with a character that passes a test
abbrev pub EndsOrStarts : (ℕ → Bool) → List ℕ → Type 0
EndsOrStarts test [] = Unit
EndsOrStarts test (c ∷ rest) = test c ≡ true

-- a text is runs with white space between them, before the first and after the last
abbrev pub AreRuns : ℕ → List ℕ → List Run → Type 0
AreRuns bound text [] = All (λ c. is_white c ≡ true) text
AreRuns bound text (run ∷ runs) =
    (gap word rest : List ℕ) × (text ≡ gap ++ (word ++ rest)) × All (λ c. is_white c ≡ true) gap × IsRun bound word run × EndsOrStarts is_white rest × AreRuns bound rest runs

-- the words of runs
abbrev pub words_of_runs : List Run → List ℕ
words_of_runs runs = flat_map (λ (run : Run). replicate run.count run.value) runs

-- the words that a text has behind the first line of an image
abbrev pub HasWords : ℕ → List ℕ → List ℕ → Type 0
HasWords bound text words = (runs : List Run) × AreRuns bound (uncommented false text) runs × (words ≡ words_of_runs runs)

-- an image's first line, which ends in LF or in CR LF, and the text behind it
abbrev pub HasHeader : List ℕ → List ℕ → Type 0
HasHeader bytes text = (bytes ≡ codes "v2.0 raw\n" ++ text) ⊎ (bytes ≡ codes "v2.0 raw\r\n" ++ text)

-- bytes are an image with these words of a width
abbrev pub IsImage : ℕ → List ℕ → List ℕ → Type 0
IsImage width bytes words = (text : List ℕ) × HasHeader bytes text × HasWords (2 ^ width) text words

-- How the words of an image are found from the front on. No contract of the crate's surface speaks of this.
use Rattle.std.specs.Prelude.{ℕ, Bool, true, false, ◌≡◌, ◌==◌, ◌||◌, not, ◌<◌, ◌≤◌, if◌then◌else◌, List, [], ◌∷◌, ◌++◌, length}
use Rattle.lg_memory.specs.Image.{is_white, HasWords}

-- the text from the first word on, from a place that is inside a comment or not
abbrev pub after_gap : Bool → List ℕ → List ℕ
after_gap inside [] = []
after_gap inside (c ∷ rest) =
    if c == 10 then after_gap false rest
    else (if inside || c == 35 then after_gap true rest
    else (if is_white c then after_gap false rest else c ∷ rest))

-- neither white space nor the beginning of a comment
abbrev pub is_word_byte : ℕ → Bool
is_word_byte c = not (is_white c || c == 35)

-- what is kept of the words so far: all of them, or just that there are more than a limit
abbrev pub Keeps : ℕ → List ℕ → Bool → List ℕ → Type 0
Keeps limit kept false words = (kept ≡ words) × (length words ≤ limit)
Keeps limit kept true words = limit < length words

-- A text has some words and then those of the rest, and no others.
pub record GoesOn (bound : ℕ) (text words rest : List ℕ) : Type 0 where
  pub with_more : (more : List ℕ) → HasWords bound rest more → HasWords bound text (words ++ more)
  pub only : (all : List ℕ) → HasWords bound text all → (more : List ℕ) × HasWords bound rest more × (all ≡ words ++ more)

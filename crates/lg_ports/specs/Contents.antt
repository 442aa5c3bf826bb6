-- The contents of a ROM. Source: the library reference of Logisim-evolution, Memory Library, ROM; the form is this
-- project's.
use Rattle.std.specs.Prelude.{ℕ, ◌≡◌, ◌^◌, ◌≤◌, ◌⊎◌, Bool, ◌&&◌, nat_le, List, [], ◌++◌, length, take, drop, codes}
use Rattle.std.specs.List.{prefix_len}
use Rattle.lg_memory.specs.Form.{IsStoreSize}
use Rattle.lg_memory.specs.Image.{Spells, HasWords}

-- a decimal digit
abbrev pub is_decimal : ℕ → Bool
is_decimal c = nat_le 48 c && nat_le c 57

-- a text is a mark and a rest
abbrev pub Marked : List ℕ → List ℕ → List ℕ → Type 0
Marked mark text rest = text ≡ mark ++ rest

-- a text is a number in decimal digits, and a rest that begins with none
abbrev pub Numbered : ℕ → List ℕ → List ℕ → Type 0
Numbered n text rest =
    let size = prefix_len is_decimal text in
    Spells 10 (take size text) n × (rest ≡ drop size text)

-- a text is a line end and a rest
abbrev pub EndsLine : List ℕ → List ℕ → Type 0
EndsLine text rest = Marked (codes "\n") text rest ⊎ Marked (codes "\r\n") text rest

-- the one, and with what it leaves the other
abbrev pub Then : (List ℕ → List ℕ → Type 0) → (List ℕ → List ℕ → Type 0) → List ℕ → List ℕ → Type 0
Then One Other text rest = (middle : List ℕ) × One text middle × Other middle rest

-- the first line of a ROM's contents, with its two widths, and the rest
abbrev pub HasWidths : ℕ → ℕ → List ℕ → List ℕ → Type 0
HasWidths address width =
    Then (Marked (codes "addr/data: ")) (Then (Numbered address) (Then (Marked (codes " ")) (Then (Numbered width) EndsLine)))

-- the contents of a ROM with words in them: no more than there are addresses
pub record HasContents (address width : ℕ) (text : List ℕ) : Type 0 where
  pub sizes : IsStoreSize address width
  pub rest : List ℕ
  pub words : List ℕ
  pub widths : HasWidths address width text rest
  pub has_words : HasWords (2 ^ width) rest words
  pub fit : length words ≤ 2 ^ address

-- the contents of a ROM: nothing, or words
abbrev pub IsContents : ℕ → ℕ → List ℕ → Type 0
IsContents address width text = (text ≡ []) ⊎ HasContents address width text

-- the words of a text that is the contents of a ROM
abbrev pub AreContents : ℕ → ℕ → List ℕ → List ℕ → Type 0
AreContents address width text words =
    ((text ≡ []) × (words ≡ [])) ⊎ ((contents : HasContents address width text) × (contents.words ≡ words))

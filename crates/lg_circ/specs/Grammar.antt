-- The spelling of project texts: which bytes are the text of which tree. A tree has many texts.
-- Source: the `.circ` form of Logisim-evolution (user guide), which is in the Extensible Markup Language (XML) 1.0, in the profile of this project.
use Rattle.std.specs.Prelude.{◌≡◌, ℕ, zero, suc, ◌<◌, ◌-◌, ◌+◌, ◌*◌, ◌==◌, nat_lt, nat_le, nat_eq, Bool, true, not, ◌&&◌, ◌||◌, IsTrue, List, [], ◌∷◌, ◌++◌, length, drop, fold, codes, ◌⊎◌, Option, Some, None, is_some, if◌then◌else◌}
use Rattle.std.specs.Char.{is_ascii_alphabetic, is_ascii_digit, is_ascii_hexdigit, encode_utf8}
use Rattle.std.specs.List.{list_all, flat_map, starts_with, AllByRecursion}
use Rattle.std.specs.Str.{IsUtf8, bytes_eq}
use Rattle.lg_circ.specs.declared.element.Element.{Element}
use Rattle.lg_attrs.specs.Pairs.{names_differ}
use Rattle.lg_circ.specs.Tree.{name_of, attributes_of, text_of, children_of}

-- space, tab, carriage return, line feed
abbrev pub is_white : ℕ → Bool
is_white c = c == 32 || c == 9 || c == 13 || c == 10

-- nothing but white space
abbrev pub IsWhite : List ℕ → Type 0
IsWhite bytes = IsTrue (list_all is_white bytes)

-- white space, and at least one of it
abbrev pub IsGap : List ℕ → Type 0
IsGap bytes = IsWhite bytes × (0 < length bytes)

-- an ASCII letter, `_` or `:`
abbrev pub begins_name : ℕ → Bool
begins_name c = is_ascii_alphabetic c || c == 95 || c == 58

-- one of those, a digit, `-` or `.`
abbrev pub continues_name : ℕ → Bool
continues_name c = begins_name c || is_ascii_digit c || c == 45 || c == 46

-- a name of the grammar
abbrev pub IsName : List ℕ → Type 0
IsName [] = ⊥
IsName (c ∷ cs) = IsTrue (begins_name c && list_all continues_name cs)

-- the mark stands nowhere in the bytes
abbrev pub lacks : List ℕ → List ℕ → Bool
lacks mark [] = true
lacks mark (c ∷ cs) = not (starts_with nat_eq (c ∷ cs) mark) && lacks mark cs

-- the number that a hexadecimal digit says
abbrev pub hex_digit : ℕ → ℕ
hex_digit c = if nat_le c 57 then c - 48 else if nat_le c 70 then c - 55 else c - 87

-- the number that digits say, in a base
abbrev pub number_in : ℕ → List ℕ → ℕ
number_in base digits = fold (λ n c. base * n + hex_digit c) 0 digits

-- a character of Unicode, as a number
abbrev pub is_scalar : ℕ → Bool
is_scalar n = nat_lt n 55296 || (nat_lt 57343 n && nat_lt n 1114112)

-- digits of a kind, at least one
abbrev pub are_digits : (ℕ → Bool) → List ℕ → Bool
are_digits is_digit digits = not (length digits == 0) && list_all is_digit digits

-- the character of a number in digits
abbrev pub numbered : (ℕ → Bool) → ℕ → List ℕ → Option ℕ
numbered is_digit base digits = if are_digits is_digit digits && is_scalar (number_in base digits) then Some (number_in base digits) else None

-- the character that stands between `&` and `;`: one of five by its name, and each by its number, decimal after `#`, hexadecimal after `#x`
abbrev pub character_of : List ℕ → Option ℕ
character_of name =
    if bytes_eq name (codes "lt") then Some 60 else
    if bytes_eq name (codes "gt") then Some 62 else
    if bytes_eq name (codes "amp") then Some 38 else
    if bytes_eq name (codes "quot") then Some 34 else
    if bytes_eq name (codes "apos") then Some 39 else
    if starts_with nat_eq name (codes "#x") then numbered is_ascii_hexdigit 16 (drop 2 name) else
    if starts_with nat_eq name (codes "#") then numbered is_ascii_digit 10 (drop 1 name) else None

-- what texts are made of: bytes that stand for themselves, `&` and `;` with the name of a character between them, comments, and elements with their own texts
pub data Piece : Type 0 where
  own : ℕ → Piece
  reference : List ℕ → Piece
  comment : List ℕ → Piece
  element : Element → List ℕ → Piece

-- how a piece is spelled
abbrev pub spelling_of : Piece → List ℕ
spelling_of (own c) = c ∷ []
spelling_of (reference name) = codes "&" ++ name ++ codes ";"
spelling_of (comment inside) = codes "<!--" ++ inside ++ codes "-->"
spelling_of (element e bytes) = bytes

-- the UTF-8 bytes of a character, if there is one
abbrev pub bytes_of : Option ℕ → List ℕ
bytes_of None = []
bytes_of (Some c) = encode_utf8 c

-- the characters that a piece stands for
abbrev pub characters_of : Piece → List ℕ
characters_of (own c) = c ∷ []
characters_of (reference name) = bytes_of (character_of name)
characters_of (comment inside) = []
characters_of (element e bytes) = []

-- the element that a piece is, if it is one
abbrev pub elements_of : Piece → List Element
elements_of (own c) = []
elements_of (reference name) = []
elements_of (comment inside) = []
elements_of (element e bytes) = e ∷ []

-- the bytes are pieces that are allowed here, one after the other, which stand for these characters and elements
pub record IsMadeOf (IsAllowed : Piece → Type 0) (characters : List ℕ) (elements : List Element) (bytes : List ℕ) : Type 0 where
  pub pieces : List Piece
  pub allowed : AllByRecursion IsAllowed pieces
  pub characters_are : characters ≡ flat_map characters_of pieces
  pub elements_are : elements ≡ flat_map elements_of pieces
  pub spelled : bytes ≡ flat_map spelling_of pieces

-- neither `<` nor `&`
abbrev pub is_own : ℕ → Bool
is_own c = not (c == 60 || c == 38)

-- inside a value: references, and characters other than `<`, `&` and its own quote
abbrev pub IsInValue : ℕ → Piece → Type 0
IsInValue quote (own c) = IsTrue (is_own c && not (c == quote))
IsInValue quote (reference name) = IsTrue (is_some (character_of name))
IsInValue quote (comment inside) = ⊥
IsInValue quote (element e bytes) = ⊥

-- inside an element: characters other than `<` and `&`, references, comments without `--` in them, and elements
abbrev pub IsInElement : (Element → List ℕ → Type 0) → Piece → Type 0
IsInElement Spells (own c) = IsTrue (is_own c)
IsInElement Spells (reference name) = IsTrue (is_some (character_of name))
IsInElement Spells (comment inside) = IsTrue (lacks (codes "--") inside)
IsInElement Spells (element e bytes) = Spells e bytes

-- before and after the root: white space and comments
abbrev pub IsAround : Piece → Type 0
IsAround (own c) = IsTrue (is_white c)
IsAround (reference name) = ⊥
IsAround (comment inside) = IsTrue (lacks (codes "--") inside)
IsAround (element e bytes) = ⊥

-- how one attribute is spelled, with the white space before it
pub record SpellsAttribute (name value bytes : List ℕ) : Type 0 where
  pub gap : List ℕ
  pub before_equals : List ℕ
  pub after_equals : List ℕ
  pub quote : ℕ
  pub inside : List ℕ
  pub is_gap : IsGap gap
  pub is_name : IsName name
  pub white_before : IsWhite before_equals
  pub white_after : IsWhite after_equals
  pub is_quote : (quote ≡ 34) ⊎ (quote ≡ 39)
  pub says : IsMadeOf (IsInValue quote) value [] inside
  pub spelled : bytes ≡ gap ++ name ++ before_equals ++ codes "=" ++ after_equals ++ quote ∷ inside ++ quote ∷ []

-- how attributes are spelled, one after the other
abbrev pub SpellsAttributes : List (List ℕ × List ℕ) → List ℕ → Type 0
SpellsAttributes [] bytes = bytes ≡ []
SpellsAttributes (a ∷ more) bytes = (first others : List ℕ) × SpellsAttribute a.0 a.1 first × SpellsAttributes more others × (bytes ≡ first ++ others)

-- `<NAME attributes>content</NAME>`
pub record SpellsOpen (Spells : Element → List ℕ → Type 0) (e : Element) (attributes bytes : List ℕ) : Type 0 where
  pub white : List ℕ
  pub content : List ℕ
  pub white_at_end : List ℕ
  pub is_white : IsWhite white
  pub inside : IsMadeOf (IsInElement Spells) (text_of e) (children_of e) content
  pub is_white_at_end : IsWhite white_at_end
  pub spelled : bytes ≡ codes "<" ++ name_of e ++ attributes ++ white ++ codes ">" ++ content ++ codes "</" ++ name_of e ++ white_at_end ++ codes ">"

-- `<NAME attributes/>`
pub record SpellsEmpty (e : Element) (attributes bytes : List ℕ) : Type 0 where
  pub white : List ℕ
  pub is_white : IsWhite white
  pub no_text : text_of e ≡ []
  pub no_children : children_of e ≡ []
  pub spelled : bytes ≡ codes "<" ++ name_of e ++ attributes ++ white ++ codes "/>"

-- how an element with at most so many levels is spelled; an element without others inside has one level
unfoldable pub SpellsElement : ℕ → Element → List ℕ → Type 0
SpellsElement zero e bytes = ⊥
SpellsElement (suc levels) e bytes =
    IsName (name_of e) × IsTrue (names_differ (attributes_of e))
    × (attributes : List ℕ) × SpellsAttributes (attributes_of e) attributes
    × (SpellsEmpty e attributes bytes ⊎ SpellsOpen (SpellsElement levels) e attributes bytes)

-- how an element is spelled, whatever its levels
abbrev pub Spells : Element → List ℕ → Type 0
Spells e bytes = (levels : ℕ) × SpellsElement levels e bytes

-- white space and comments
abbrev pub IsMisc : List ℕ → Type 0
IsMisc bytes = (pieces : List Piece) × AllByRecursion IsAround pieces × (bytes ≡ flat_map spelling_of pieces)

-- nothing, or the mark of the order of bytes in UTF-8
abbrev pub IsMark : List ℕ → Type 0
IsMark bytes = (bytes ≡ []) ⊎ (bytes ≡ 239 ∷ 187 ∷ 191 ∷ [])

-- nothing, or `<?xml`, white space, anything without `?>`, and `?>`
abbrev pub IsDeclaration : List ℕ → Type 0
IsDeclaration bytes =
    (bytes ≡ []) ⊎ ((gap inside : List ℕ) × IsGap gap × IsTrue (lacks (codes "?>") inside) × (bytes ≡ codes "<?xml" ++ gap ++ inside ++ codes "?>"))

-- the whole text of a tree: UTF-8, the element `project`, and what may stand before and after it
pub record SpellsText (root : Element) (bytes : List ℕ) : Type 0 where
  pub mark : List ℕ
  pub declaration : List ℕ
  pub before : List ℕ
  pub inside : List ℕ
  pub after : List ℕ
  pub is_utf8 : IsUtf8 bytes
  pub is_mark : IsMark mark
  pub is_declaration : IsDeclaration declaration
  pub misc_before : IsMisc before
  pub element : Spells root inside
  pub is_project : name_of root ≡ codes "project"
  pub misc_after : IsMisc after
  pub spelled : bytes ≡ mark ++ declaration ++ before ++ inside ++ after

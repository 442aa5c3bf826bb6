-- Reading bytes from the left: a value and the bytes after it, where one stands there. The private functions of the reader cite these.
use Rattle.std.specs.Prelude.{◌≡◌, ℕ, zero, suc, ◌==◌, nat_le, Bool, false, not, ◌&&◌, ◌||◌, List, [], ◌∷◌, ◌++◌, length, Option, Some, None, is_some, Result, Ok, Err, codes, if◌then◌else◌, option_map}
use Rattle.std.specs.Char.{is_ascii_alphabetic, is_ascii_digit, encode_utf8}
use Rattle.std.specs.Str.{bytes_eq}
use denote.Bor.{Bor}
use Rattle.lg_circ.specs.declared.element.Element.{Element, roll-Element}
use Rattle.lg_circ.specs.declared.fault.CircFault.{CircFault}
use Rattle.lg_circ.specs.declared.fault.CircFault.TheVariants.{TooLong, TooDeep, NotProject, Memory}
use Rattle.lg_circ.specs.declared.class.Class.{Class}
use Rattle.lg_circ.specs.declared.class.Class.TheVariants.{White, NameStart, Name, Reference, Own, Characters, Double, Single, TagEnd}
use Rattle.lg_attrs.specs.Pairs.{names_differ}
use Rattle.lg_circ.specs.Grammar.{is_white, begins_name, continues_name, character_of}
use Rattle.lg_circ.specs.Tree.{name_of, attributes_of, text_of, children_of, greatest_level}
use Rattle.lg_circ.specs.Meaning.{◌>>=◌}

-- which fault a function may give where reading gives this
abbrev pub Fails : {Y : Type 0} → CircFault → Option Y → Type 0
Fails Memory read = Unit {0}
Fails NotProject read = read ≡ None
Fails TooDeep read = ⊥
Fails TooLong read = ⊥

-- what a function returned, seen by view, is what reading gives, unless memory ran out
abbrev pub Gives : {X Y : Type 0} → (X → Y) → Result X CircFault → Option Y → Type 0
Gives view (Ok x) read = read ≡ Some (view x)
Gives view (Err fault) read = Fails fault read

-- what a reference leads to, if there is one
abbrev pub now_of : Option (Bor (List ℕ)) → Option (List ℕ)
now_of text = option_map (λ (t : Bor (List ℕ)). t.now) text

-- `>` or `/`
abbrev pub ends_tag : ℕ → Bool
ends_tag c = c == 62 || c == 47

-- neither `<` nor this quote
abbrev pub is_quoted : ℕ → ℕ → Bool
is_quoted quote c = not (c == 60) && not (c == quote)

-- what the name or the number of a character is made of
abbrev pub is_reference : ℕ → Bool
is_reference c = is_ascii_alphabetic c || is_ascii_digit c || c == 35

-- the bytes of a class
abbrev pub passes : Class → ℕ → Bool
passes White = is_white
passes NameStart = begins_name
passes Name = continues_name
passes Reference = is_reference
passes Own = λ c. not (c == 38)
passes Characters = λ c. not (c == 60)
passes Double = is_quoted 34
passes Single = is_quoted 39
passes TagEnd = ends_tag

-- the first byte passes
abbrev pub begins : (ℕ → Bool) → List ℕ → Bool
begins p [] = false
begins p (c ∷ cs) = p c

-- the bytes at the front that pass
abbrev pub front_of : (ℕ → Bool) → List ℕ → List ℕ
front_of p [] = []
front_of p (c ∷ cs) = if p c then c ∷ front_of p cs else []

-- the bytes from the first on that does not pass
abbrev pub rest_of : (ℕ → Bool) → List ℕ → List ℕ
rest_of p [] = []
rest_of p (c ∷ cs) = if p c then rest_of p cs else c ∷ cs

-- the bytes after a mark
abbrev pub after_mark : List ℕ → List ℕ → Option (List ℕ)
after_mark [] bytes = Some bytes
after_mark (m ∷ mark) [] = None
after_mark (m ∷ mark) (c ∷ cs) = if c == m then after_mark mark cs else None

-- the first where there is one, and else the second
abbrev pub either : {A : Type 0} → Option A → Option A → Option A
either None other = other
either (Some x) other = Some x

-- the bytes after the first place where a mark stands
abbrev pub after_first : List ℕ → List ℕ → Option (List ℕ)
after_first mark [] = after_mark mark []
after_first mark (c ∷ cs) = either (after_mark mark (c ∷ cs)) (after_first mark cs)

-- what follows a comment
unfoldable pub after_comment : List ℕ → Option (List ℕ)
after_comment bytes = do
  start ← after_mark (codes "<!--") bytes
  end ← after_first (codes "--") start
  either (after_mark (codes ">") end) (after_mark (codes "->") end)

-- goes on after a comment, and stops where there is none
abbrev pub on_after : Option (List ℕ) → (List ℕ → List ℕ) → List ℕ → List ℕ
on_after None more here = here
on_after (Some after) more here = more after

-- what follows white space and comments, of which there are fewer than a count
unfoldable pub after_misc : ℕ → List ℕ → List ℕ
after_misc zero bytes = bytes
after_misc (suc n) bytes = on_after (after_comment (rest_of is_white bytes)) (after_misc n) (rest_of is_white bytes)

-- what follows white space, of which there is some
abbrev pub after_gap : List ℕ → Option (List ℕ)
after_gap bytes = if begins is_white bytes then Some (rest_of is_white bytes) else None

-- what follows a declaration
unfoldable pub after_declaration : List ℕ → Option (List ℕ)
after_declaration bytes = do
  start ← after_mark (codes "<?xml") bytes
  if begins is_white start then after_first (codes "?>") start else None

-- what follows the mark of the order of bytes, if it stands there
abbrev pub after_byte_mark : List ℕ → List ℕ
after_byte_mark bytes = on_after (after_mark (239 ∷ 187 ∷ 191 ∷ []) bytes) (λ after. after) bytes

-- where the first element may begin
unfoldable pub after_prolog : List ℕ → List ℕ
after_prolog bytes =
    let start = after_byte_mark bytes in
    let rest = on_after (after_declaration start) (λ after. after) start in
    after_misc (suc (length rest)) rest

-- the character behind a `&`, and what follows its `;`
unfoldable pub reference_at : List ℕ → Option (ℕ × List ℕ)
reference_at bytes = do
  c ← character_of (front_of is_reference bytes)
  rest ← after_mark (codes ";") (rest_of is_reference bytes)
  Some (c, rest)

-- the characters in front of a reference, the reference, and more
abbrev pub said_behind : (List ℕ → Option (List ℕ)) → List ℕ → Option (List ℕ) → Option (List ℕ)
said_behind more front None = Some front
said_behind more front (Some bytes) = do
  x ← reference_at bytes
  others ← more x.1
  Some (front ++ encode_utf8 x.0 ++ others)

-- the characters that a text without `<` stands for, with fewer references than a count
unfoldable pub said_by : ℕ → List ℕ → Option (List ℕ)
said_by zero raw = None
said_by (suc n) raw = said_behind (said_by n) (front_of (passes Own) raw) (after_mark (codes "&") (rest_of (passes Own) raw))

unfoldable pub said_of : List ℕ → Option (List ℕ)
said_of raw = said_by (suc (length raw)) raw

-- characters behind some that were said before
abbrev pub said_after : List ℕ → Option (List ℕ) → Option (List ℕ)
said_after before said = said >>= λ text. Some (before ++ text)

-- a name
unfoldable pub name_at : List ℕ → Option (List ℕ × List ℕ)
name_at bytes = if begins begins_name bytes then Some (front_of continues_name bytes, rest_of continues_name bytes) else None

-- a value behind its quote
unfoldable pub value_at : ℕ → List ℕ → Option (List ℕ × List ℕ)
value_at quote bytes = do
  end ← after_mark (quote ∷ []) (rest_of (is_quoted quote) bytes)
  value ← said_of (front_of (is_quoted quote) bytes)
  Some (value, end)

-- a value in its quotes
unfoldable pub quoted_at : List ℕ → Option (List ℕ × List ℕ)
quoted_at bytes = either (after_mark (codes "\"") bytes >>= value_at 34) (after_mark (codes "'") bytes >>= value_at 39)

-- an attribute with the white space before it
unfoldable pub attribute_at : List ℕ → Option ((List ℕ × List ℕ) × List ℕ)
attribute_at bytes = do
  start ← after_gap bytes
  name ← name_at start
  equals ← after_mark (codes "=") (rest_of is_white name.1)
  value ← quoted_at (rest_of is_white equals)
  Some ((name.0, value.0), value.1)

-- the attributes up to the end of a tag, fewer than a count
unfoldable pub attributes_at : ℕ → List ℕ → Option (List (List ℕ × List ℕ) × List ℕ)
attributes_at zero bytes = None
attributes_at (suc n) bytes = if begins ends_tag (rest_of is_white bytes) then Some ([], rest_of is_white bytes) else (do
  first ← attribute_at bytes
  others ← attributes_at n first.1
  Some (first.0 ∷ others.0, others.1))

-- a tag up to its end: the name and the attributes
unfoldable pub tag_at : List ℕ → Option (List ℕ × List (List ℕ × List ℕ) × List ℕ)
tag_at bytes = do
  start ← after_mark (codes "<") bytes
  name ← name_at start
  attributes ← attributes_at (suc (length name.1)) name.1
  if names_differ attributes.0 then Some (name.0, attributes.0, attributes.1) else None

-- what stands between characters: a comment, an element with nothing inside, the first tag of an element, the last
pub data Token : Type 0 where
  nothing : Token
  stands : List ℕ → List (List ℕ × List ℕ) → Token
  starts : List ℕ → List (List ℕ × List ℕ) → Token
  ends : List ℕ → Token

-- an element with nothing inside, or the first tag of an element
unfoldable pub first_at : List ℕ → Option (Token × List ℕ)
first_at bytes = do
  tag ← tag_at bytes
  either (after_mark (codes "/>") tag.2 >>= λ rest. Some (stands tag.0 tag.1, rest)) (after_mark (codes ">") tag.2 >>= λ rest. Some (starts tag.0 tag.1, rest))

-- the last tag of an element, behind its `</`
unfoldable pub last_at : List ℕ → Option (Token × List ℕ)
last_at bytes = do
  name ← name_at bytes
  rest ← after_mark (codes ">") (rest_of is_white name.1)
  Some (ends name.0, rest)

-- what stands here between characters
unfoldable pub token_at : List ℕ → Option (Token × List ℕ)
token_at bytes =
    if is_some (after_mark (codes "<!--") bytes) then (after_comment bytes >>= λ rest. Some (nothing, rest)) else
    if is_some (after_mark (codes "</") bytes) then (after_mark (codes "</") bytes >>= last_at) else first_at bytes

-- characters, and what stands behind them
unfoldable pub event_at : List ℕ → Option (List ℕ × Token × List ℕ)
event_at bytes = do
  text ← said_of (front_of (passes Characters) bytes)
  found ← token_at (rest_of (passes Characters) bytes)
  Some (text, found.0, found.1)

-- an element of this name with these attributes and nothing inside
abbrev pub bare : List ℕ → List (List ℕ × List ℕ) → Element
bare name attributes = roll-Element (record { name = name; attributes = attributes; text = []; children = [] })

-- the element with more characters
abbrev pub with_text : Element → List ℕ → Element
with_text e text = roll-Element (record { name = name_of e; attributes = attributes_of e; text = text_of e ++ text; children = children_of e })

-- the element with one more inside
abbrev pub with_child : Element → Element → Element
with_child e child = roll-Element (record { name = name_of e; attributes = attributes_of e; text = text_of e; children = children_of e ++ child ∷ [] })

-- where reading stands behind a token: elements are open, the innermost first; or the root is whole; or there is a level too many
pub data Next : Type 0 where
  goes : Element → List Element → Next
  whole : Element → Next
  deep : Next

-- the innermost element is whole
abbrev pub closed : Element → List Element → Next
closed top [] = whole top
closed top (outer ∷ around) = goes (with_child outer top) around

-- one step of reading, with the innermost open element and those around it
abbrev pub moves : Element → List Element → Token → Option Next
moves top around nothing = Some (goes top around)
moves top around (stands name attributes) = Some (goes (with_child top (bare name attributes)) around)
moves top around (starts name attributes) = Some (goes (bare name attributes) (top ∷ around))
moves top around (ends name) = if bytes_eq name (name_of top) then Some (closed top around) else None

-- the token is an element, or the first tag of one, on a level that is not read
abbrev pub is_deep : List Element → Token → Bool
is_deep around nothing = false
is_deep around (stands name attributes) = nat_le greatest_level (suc (length around))
is_deep around (starts name attributes) = nat_le greatest_level (suc (length around))
is_deep around (ends name) = false

-- one step that goes no deeper than is read
abbrev pub step_at : Element → List Element → Token → Option Next
step_at top around token = if is_deep around token then Some deep else moves top around token

-- characters, a token and the step
unfoldable pub next_at : Element → List Element → List ℕ → Option (Next × List ℕ)
next_at top around bytes = do
  event ← event_at bytes
  next ← step_at (with_text top event.0) around event.1
  Some (next, event.2)

-- the same with the names of the open elements alone, of any number
abbrev pub names_after : List (List ℕ) → Token → Option (List (List ℕ))
names_after names nothing = Some names
names_after names (stands name attributes) = Some names
names_after names (starts name attributes) = Some (name ∷ names)
names_after [] (ends name) = None
names_after (last ∷ names) (ends name) = if bytes_eq name last then Some names else None

-- characters, a token and its step
unfoldable pub names_at : List (List ℕ) → List ℕ → Option (List (List ℕ) × List ℕ)
names_at names bytes = do
  event ← event_at bytes
  next ← names_after names event.1
  Some (next, event.2)

-- the name that a token says
abbrev pub name_said : Token → List ℕ
name_said nothing = []
name_said (stands name attributes) = name
name_said (starts name attributes) = name
name_said (ends name) = name

-- the first element of a text, which is called `project`
unfoldable pub root_at : List ℕ → Option (Token × List ℕ)
root_at bytes = do
  found ← first_at (after_prolog bytes)
  if bytes_eq (name_said found.0) (codes "project") then Some found else None

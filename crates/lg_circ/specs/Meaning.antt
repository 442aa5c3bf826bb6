-- The project of a tree: what its elements say. All other elements and attributes are passed over.
-- Source: the `.circ` form of Logisim-evolution, in the profile of this project.
use Rattle.std.specs.Prelude.{ℕ, ◌+◌, ◌-◌, ◌*◌, ◌==◌, nat_le, Bool, false, ◌&&◌, IsTrue, refl, List, [], ◌∷◌, ◌++◌, length, fold, Option, Some, None, option_and_then, unwrap_or, if◌then◌else◌, codes, ℤ, pos, neg_ℤ}
use Rattle.std.specs.Char.{is_ascii_digit}
use Rattle.std.specs.List.{before_first, after_first, list_all}
use Rattle.std.specs.Str.{bytes_eq}
use Rattle.lg_circ.specs.declared.element.Element.{Element}
use Rattle.lg_circ.specs.declared.project.Point.{Point}
use Rattle.lg_circ.specs.declared.project.Wire.{Wire}
use Rattle.lg_circ.specs.declared.project.Comp.{Comp}
use Rattle.lg_circ.specs.declared.project.Sheet.{Sheet}
use Rattle.lg_circ.specs.declared.project.Project.{Project}
use Rattle.lg_circ.specs.Bounds.{is_on_sheet, is_limit, usual_limit, given}
use Rattle.lg_attrs.specs.Pairs.{value_under}
use Rattle.lg_circ.specs.Tree.{text_of, children_named, child_named, attribute}

-- goes on with what is there
infixl 10 ◌>>=◌
abbrev pub ◌>>=◌ : {A B : Type 0} → Option A → (A → Option B) → Option B
o >>= f = option_and_then f o

-- what each item gives, where every one gives something
abbrev pub each : {A B : Type 0} → (A → Option B) → List A → Option (List B)
each f [] = Some []
each f (x ∷ xs) = do
  y ← f x
  ys ← each f xs
  Some (y ∷ ys)

-- the number that decimal digits say
abbrev pub number_of : List ℕ → ℕ
number_of digits = fold (λ n c. 10 * n + (c - 48)) 0 digits

-- the number of a text of decimal digits, at least one
abbrev pub decimal_of : List ℕ → Option ℕ
decimal_of [] = None
decimal_of (c ∷ cs) = if list_all is_ascii_digit (c ∷ cs) then Some (number_of (c ∷ cs)) else None

-- the size of a coordinate: 1 to 7 decimal digits
abbrev pub size_of : List ℕ → Option ℕ
size_of digits = if nat_le (length digits) 7 then decimal_of digits else None

-- a coordinate, with a `-` where it is negative
abbrev pub coordinate_of : List ℕ → Option ℤ
coordinate_of [] = None
coordinate_of (c ∷ digits) =
    if c == 45 then (size_of digits >>= λ n. Some (neg_ℤ (pos n))) else (size_of (c ∷ digits) >>= λ n. Some (pos n))

-- the text before a `)` that is its end
abbrev pub before_end : List ℕ → Option (List ℕ)
before_end text =
    let front = before_first (λ c. c == 41) text in
    if bytes_eq text (front ++ codes ")") then Some front else None

-- the point of a text `x,y)`, which is what follows the `(`
abbrev pub coordinates_of : List ℕ → Option Point
coordinates_of text = do
  x ← coordinate_of (before_first (λ d. d == 44) text)
  ys ← before_end (after_first (λ d. d == 44) text)
  y ← coordinate_of ys
  Some (record { x = x; y = y })

-- the point of a text: `(x,y)` without spaces
abbrev pub point_of : List ℕ → Option Point
point_of [] = None
point_of (c ∷ rest) = if c == 40 then coordinates_of rest else None

-- a library: its name, and its description or the empty text
abbrev pub lib_of : Element → Option (List ℕ × List ℕ)
lib_of e = do
  name ← attribute (codes "name") e
  Some (name, unwrap_or (attribute (codes "desc") e) [])

-- a setting of a component or of the options: its name, and its `val` or else its own characters
abbrev pub setting_of : Element → Option (List ℕ × List ℕ)
setting_of e = do
  name ← attribute (codes "name") e
  Some (name, unwrap_or (attribute (codes "val") e) (text_of e))

abbrev pub settings_of : Element → Option (List (List ℕ × List ℕ))
settings_of e = each setting_of (children_named (codes "a") e)

-- a wire, whose ends are on the sheet
abbrev pub wire_of : Element → Option Wire
wire_of e = do
  from ← attribute (codes "from") e >>= point_of
  to ← attribute (codes "to") e >>= point_of
  given (is_on_sheet from && is_on_sheet to) (λ on_sheet. record { from = from; to = to; on_sheet = on_sheet })

-- a component, which stands on the sheet
abbrev pub comp_of : Element → Option Comp
comp_of e = do
  name ← attribute (codes "name") e
  loc ← attribute (codes "loc") e >>= point_of
  settings ← settings_of e
  given (is_on_sheet loc) (λ on_sheet. record { lib = attribute (codes "lib") e; name = name; loc = loc; attrs = record { list = settings }; on_sheet = on_sheet })

abbrev pub sheet_of : Element → Option Sheet
sheet_of e = do
  name ← attribute (codes "name") e
  comps ← each comp_of (children_named (codes "comp") e)
  wires ← each wire_of (children_named (codes "wire") e)
  Some (record { name = name; comps = comps; wires = wires })

-- the settings of the first element `options`
abbrev pub options_of : Option Element → Option (List (List ℕ × List ℕ))
options_of None = Some []
options_of (Some e) = settings_of e

-- a number that a project may set as its limit
abbrev pub Limit : Type 0
Limit = (n : ℕ) × IsTrue (is_limit n)

-- the limit that a text says: a decimal in its range, and else the usual one
abbrev pub limit_of : Option (List ℕ) → Limit
limit_of text = unwrap_or (text >>= decimal_of >>= λ n. given (is_limit n) (λ in_range. (n, in_range))) (usual_limit, refl)

abbrev pub is_error : Option (List ℕ) → Bool
is_error None = false
is_error (Some text) = bytes_eq text (codes "error")

abbrev pub project_of : Element → Option Project
project_of root = do
  libs ← each lib_of (children_named (codes "lib") root)
  options ← options_of (child_named (codes "options") root)
  sheets ← each sheet_of (children_named (codes "circuit") root)
  Some (record {
    libs = libs;
    main = child_named (codes "main") root >>= attribute (codes "name");
    strict = is_error (value_under (codes "gateUndefined") options);
    limit = (limit_of (value_under (codes "simlimit") options)).0;
    sheets = sheets;
    limit_in_range = (limit_of (value_under (codes "simlimit") options)).1;
  })

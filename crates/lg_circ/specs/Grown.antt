-- What the tree of a text is, as far as it was grown.
use Rattle.std.specs.Prelude.{◌≡◌, ℕ, IsTrue, false, List, [], ◌∷◌, ◌++◌, Result, Ok, Err}
use Rattle.std.specs.List.{flat_map, AllByRecursion}
use Rattle.lg_circ.specs.declared.element.Element.{Element, roll-Element}
use Rattle.lg_circ.specs.declared.project.Project.{Project}
use Rattle.lg_circ.specs.declared.fault.CircFault.{CircFault}
use Rattle.lg_circ.specs.declared.fault.CircFault.TheVariants.{TooLong, TooDeep, NotProject, Memory}
use Rattle.lg_circ.specs.Grammar.{Piece, characters_of, elements_of, spelling_of, IsInElement, IsName, IsWhite, Spells, IsMisc, SpellsText}
use Rattle.lg_circ.specs.Tree.{name_of, attributes_of, text_of, children_of, has_levels, greatest_level}
use Rattle.lg_circ.specs.Reading.{with_child, Next, goes, whole, deep}
use Rattle.lg_circ.specs.Project.{IsTooDeep, IsNoProject, SaysProject}

-- the element with more inside
abbrev pub filled : Element → List Piece → Element
filled e pieces = roll-Element (record {
  name = name_of e;
  attributes = attributes_of e;
  text = text_of e ++ flat_map characters_of pieces;
  children = children_of e ++ flat_map elements_of pieces;
})

-- the bytes are the rest of what stands inside an open element, its last tag, and bytes with which the whole element goes on
pub record Inside (GoesOn : Element → List ℕ → Type 0) (top : Element) (bytes : List ℕ) : Type 0 where
  pub pieces : List Piece
  pub white : List ℕ
  pub after : List ℕ
  pub is_name : IsName (name_of top)
  pub allowed : AllByRecursion (IsInElement Spells) pieces
  pub is_white : IsWhite white
  pub spelled : bytes ≡ flat_map spelling_of pieces ++ (60 ∷ 47 ∷ (name_of top ++ (white ++ (62 ∷ after))))
  pub goes_on : GoesOn (filled top pieces) after

-- the bytes behind a whole element complete the elements around it, the innermost first, to the root of a text
abbrev pub Closed : List Element → Element → Element → List ℕ → Type 0
Closed [] root e after = (root ≡ e) × IsMisc after
Closed (outer ∷ around) root e after = Inside (Closed around root) (with_child outer e) after

-- the bytes complete the open elements to the root of a text
abbrev pub Completes : Element → List Element → List ℕ → Element → Type 0
Completes top around bytes root = Inside (Closed around root) top bytes

-- where reading stands, the bytes complete the text of this root
abbrev pub Stands : Next → List ℕ → Element → Type 0
Stands (goes top around) bytes root = Completes top around bytes root
Stands (whole e) bytes root = (root ≡ e) × IsMisc bytes
Stands deep bytes root = ⊥

-- the roots are just those with which reading goes on from here
pub record Reaches (IsRoot : Element → Type 0) (next : Next) (bytes : List ℕ) : Type 0 where
  pub to : (root : Element) → IsRoot root → Stands next bytes root
  pub from : (root : Element) → Stands next bytes root → IsRoot root

-- what was made of a text with these roots
abbrev pub Makes : (Element → Type 0) → Result Element CircFault → Type 0
Makes IsRoot (Ok e) = IsRoot e × IsTrue (has_levels greatest_level e)
Makes IsRoot (Err TooDeep) = (root : Element) → IsRoot root → has_levels greatest_level root ≡ false
Makes IsRoot (Err NotProject) = (root : Element) → IsRoot root → ⊥
Makes IsRoot (Err Memory) = Unit {0}
Makes IsRoot (Err TooLong) = ⊥

-- whether there are roots
abbrev pub Judges : (Element → Type 0) → Result Unit CircFault → Type 0
Judges IsRoot (Ok _) = (root : Element) × IsRoot root
Judges IsRoot (Err NotProject) = (root : Element) → IsRoot root → ⊥
Judges IsRoot (Err Memory) = Unit {0}
Judges IsRoot (Err TooDeep) = ⊥
Judges IsRoot (Err TooLong) = ⊥

-- the tree of a text, or why there is none
abbrev pub IsTreeOf : List ℕ → Result Element CircFault → Type 0
IsTreeOf text (Ok e) = SpellsText e text × IsTrue (has_levels greatest_level e)
IsTreeOf text (Err TooDeep) = IsTooDeep text
IsTreeOf text (Err NotProject) = (root : Element) → SpellsText root text → ⊥
IsTreeOf text (Err Memory) = Unit {0}
IsTreeOf text (Err TooLong) = ⊥

-- the project of a text, or why there is none
abbrev pub IsProjectOf : List ℕ → Result Project CircFault → Type 0
IsProjectOf text (Ok p) = SaysProject text p
IsProjectOf text (Err TooDeep) = IsTooDeep text
IsProjectOf text (Err NotProject) = IsNoProject text
IsProjectOf text (Err Memory) = Unit {0}
IsProjectOf text (Err TooLong) = ⊥

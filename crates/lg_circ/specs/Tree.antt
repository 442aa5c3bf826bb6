-- Elements as trees: the name, the attributes, the own characters and the elements inside.
use Rattle.std.specs.Prelude.{ℕ, zero, suc, List, Bool, false, Option, find, filter}
use Rattle.std.specs.List.{list_all}
use Rattle.std.specs.Str.{bytes_eq}
use Rattle.lg_circ.specs.declared.element.Element.{Element, out-Element}
use Rattle.lg_attrs.specs.Pairs.{value_under}

abbrev pub name_of : Element → List ℕ
name_of e = (out-Element e).name

abbrev pub attributes_of : Element → List (List ℕ × List ℕ)
attributes_of e = (out-Element e).attributes

abbrev pub text_of : Element → List ℕ
text_of e = (out-Element e).text

abbrev pub children_of : Element → List Element
children_of e = (out-Element e).children

-- the element has this name
abbrev pub is_named : List ℕ → Element → Bool
is_named name e = bytes_eq (name_of e) name

-- the elements of this name right inside an element, in text order
abbrev pub children_named : List ℕ → Element → List Element
children_named name e = filter (is_named name) (children_of e)

-- the first element of this name right inside an element
abbrev pub child_named : List ℕ → Element → Option Element
child_named name e = find (is_named name) (children_of e)

-- the value of an element's attribute
abbrev pub attribute : List ℕ → Element → Option (List ℕ)
attribute name e = value_under name (attributes_of e)

-- the element has at most so many levels; one without others inside has one level
unfoldable pub has_levels : ℕ → Element → Bool
has_levels zero e = false
has_levels (suc levels) e = list_all (has_levels levels) (children_of e)

-- how many levels of a project are read
abbrev pub greatest_level : ℕ
greatest_level = 64

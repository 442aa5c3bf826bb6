-- How the functions on bytes see the code's values.
use Rattle.std.specs.Prelude.{ℕ, List, reverse, map}
use denote.Bor.{Bor}
use Rattle.lg_circ.specs.declared.element.Element.{Element}
use Rattle.lg_circ.specs.declared.tag.Tag.{Tag}
use Rattle.lg_circ.specs.declared.tag.Markup.{Markup}
use Rattle.lg_circ.specs.declared.tag.Markup.TheVariants.{Nothing, Stands, Starts, Ends}
use Rattle.lg_circ.specs.declared.tree.Open.{Open}
use Rattle.lg_circ.specs.declared.tree.Step.{Step}
use Rattle.lg_circ.specs.declared.tree.Step.TheVariants.{On, Whole, Deep}
use Rattle.lg_circ.specs.Reading.{Token, nothing, stands, starts, ends, Next, goes, whole, deep}

-- a tag, and what follows it
abbrev pub view_tag : Tag → List ℕ → List ℕ × List (List ℕ × List ℕ) × List ℕ
view_tag tag rest = (tag.name.now, tag.attributes, rest)

-- what stands between characters
abbrev pub view_markup : Markup → Token
view_markup Nothing = nothing
view_markup (Stands tag) = stands tag.name.now tag.attributes
view_markup (Starts tag) = starts tag.name.now tag.attributes
view_markup (Ends name) = ends name.now

-- the elements around the innermost open one, the innermost first
abbrev pub around_of : Open → List Element
around_of stack = reverse stack.around

-- where reading stands
abbrev pub view_step : Step → Next
view_step (On stack) = goes stack.top (around_of stack)
view_step (Whole root) = whole root
view_step Deep = deep

-- the names of open elements, the innermost first
abbrev pub view_names : List (Bor (List ℕ)) → List (List ℕ)
view_names names = reverse (map (λ (name : Bor (List ℕ)). name.now) names)

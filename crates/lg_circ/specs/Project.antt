-- Which texts say which project, and why a text is refused.
use Rattle.std.specs.Prelude.{◌≡◌, ℕ, IsTrue, not, List, Result, Ok, Err, Some}
use Rattle.lg_circ.specs.declared.element.Element.{Element}
use Rattle.lg_circ.specs.declared.project.Project.{Project}
use Rattle.lg_circ.specs.declared.fault.CircFault.{CircFault}
use Rattle.lg_circ.specs.declared.fault.CircFault.TheVariants.{TooLong, TooDeep, NotProject, Memory}
use Rattle.lg_circ.specs.Grammar.{SpellsText}
use Rattle.lg_circ.specs.Tree.{has_levels, greatest_level}
use Rattle.lg_circ.specs.Meaning.{project_of}

-- the text spells a tree that is not too deep, and this is what the tree says
pub record SaysProject (bytes : List ℕ) (project : Project) : Type 0 where
  pub root : Element
  pub text : SpellsText root bytes
  pub in_bounds : IsTrue (has_levels greatest_level root)
  pub meaning : project_of root ≡ Some project

-- the text spells a tree with more levels than are read
pub record IsTooDeep (bytes : List ℕ) : Type 0 where
  pub root : Element
  pub text : SpellsText root bytes
  pub deeper : IsTrue (not (has_levels greatest_level root))

-- the text is not too deep, and says no project
pub record IsNoProject (bytes : List ℕ) : Type 0 where
  pub not_deep : IsTooDeep bytes → ⊥
  pub says_none : (project : Project) → SaysProject bytes project → ⊥

-- this project was read, unless memory ran out
abbrev pub ReadsAs : Project → Result Project CircFault → Type 0
ReadsAs project (Ok p) = p ≡ project
ReadsAs project (Err fault) = fault ≡ Memory

-- the text was refused for this, unless memory ran out
abbrev pub RefusesAs : CircFault → Result Project CircFault → Type 0
RefusesAs cause (Ok p) = ⊥
RefusesAs cause (Err Memory) = Unit {0}
RefusesAs cause (Err TooLong) = cause ≡ TooLong
RefusesAs cause (Err TooDeep) = cause ≡ TooDeep
RefusesAs cause (Err NotProject) = cause ≡ NotProject

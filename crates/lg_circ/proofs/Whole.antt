-- What follows for a call that gives the project of a text, or the cause why there is none.
use Rattle.std.proofs.Common.{◌≡◌, ℕ, List, true, Result, Ok, Err, refl, sym, ap, ◌∙◌}
use Rattle.std.specs.Prelude.{length, not, IfOk, IsErrOf}
use Rattle.std.specs.Str.{IsUtf8}
use Rattle.std.proofs.lemmas.Bool.{false≢true}
use Rattle.std.proofs.lemmas.Option.{none-some}
use Rattle.lg_circ.specs.declared.element.Element.{Element}
use Rattle.lg_circ.specs.Tree.{has_levels, greatest_level}
use Rattle.lg_circ.specs.Grammar.{SpellsText}
use Rattle.lg_circ.specs.Meaning.{project_of}
use Rattle.lg_circ.specs.Reading.{Gives}
use Rattle.std.specs.List.{All}
use Rattle.lg_circ.specs.declared.project.Project.{Project}
use Rattle.lg_circ.specs.declared.fault.CircFault.{CircFault}
use Rattle.lg_circ.specs.declared.fault.CircFault.TheVariants.{TooLong, TooDeep, NotProject, Memory}
use Rattle.lg_circ.specs.Project.{SaysProject, IsTooDeep, IsNoProject, ReadsAs, RefusesAs}
use Rattle.lg_circ.specs.Grown.{Makes, IsTreeOf, IsProjectOf}
use Rattle.lg_circ.proofs.Decided.{same_tree, one_project, deep_says_none}
use Rattle.lg_circ.proofs.Few.{IsFew, project_few}

-- what is no tree is no project
pub no_tree : (text : List ℕ) (fault : CircFault) → IsTreeOf text (Err fault) → IsProjectOf text (Err fault)
no_tree text Memory h = tt
no_tree text TooLong h = absurd h
no_tree text TooDeep h = h
no_tree text NotProject h = record { not_deep = λ d. h d.root d.text; says_none = λ p s. h s.root s.text }

-- what a tree says is what its text says
pub tree_says : (text : List ℕ) (root : Element) (result : Result Project CircFault) → IsTreeOf text (Ok root) → Gives (λ p. p) result (project_of root) → IsProjectOf text result
tree_says text root (Ok p) t g = record { root = root; text = t.0; in_bounds = t.1; meaning = g }
tree_says text root (Err Memory) t g = tt
tree_says text root (Err TooLong) t g = absurd g
tree_says text root (Err TooDeep) t g = absurd g
tree_says text root (Err NotProject) t g = record {
  not_deep = λ d.
      let levels : has_levels greatest_level d.root ≡ true = ap (has_levels greatest_level) (same_tree text d.root root d.text t.0) ∙ t.1 in
      false≢true (sym (ap not levels) ∙ d.deeper);
  says_none = λ p s. none-some p (sym g ∙ ap project_of (same_tree text root s.root t.0 s.text) ∙ s.meaning);
}

-- another cause stays
pub other_cause : (text : List ℕ) (fault : CircFault) → (fault ≡ TooDeep → ⊥) → Makes (λ root. SpellsText root text) (Err fault) → IsTreeOf text (Err fault)
other_cause text Memory other h = tt
other_cause text TooLong other h = absurd h
other_cause text TooDeep other h = absurd (other refl)
other_cause text NotProject other h = h

-- what is no text says no project
pub no_text : (bytes : List ℕ) → (IsUtf8 bytes → ⊥) → IsNoProject bytes
no_text bytes h = record { not_deep = λ d. h d.text.is_utf8; says_none = λ p s. h s.text.is_utf8 }

pub is_found : (bytes : List ℕ) (r : Result Project CircFault) → IsProjectOf bytes r → IfOk r (λ p. SaysProject bytes p)
is_found bytes (Ok p) h = h
is_found bytes (Err e) h = tt

pub is_few : (bytes : List ℕ) (r : Result Project CircFault) → IsProjectOf bytes r → IfOk r (λ p. All (IsFew (length bytes)) p.sheets)
is_few bytes (Ok p) h = project_few bytes p h
is_few bytes (Err e) h = tt

pub is_only : (bytes : List ℕ) (r : Result Project CircFault) → IsProjectOf bytes r → (p : Project) → SaysProject bytes p → ReadsAs p r
is_only bytes (Ok q) h p is = one_project bytes q p h is
is_only bytes (Err Memory) h p is = refl
is_only bytes (Err TooLong) h p is = absurd h
is_only bytes (Err TooDeep) h p is = absurd (deep_says_none bytes p h is)
is_only bytes (Err NotProject) h p is = absurd (h.says_none p is)

pub is_deep : (bytes : List ℕ) (r : Result Project CircFault) → IsProjectOf bytes r → IsErrOf r TooDeep → IsTooDeep bytes
is_deep bytes (Ok q) h e = absurd cc
is_deep bytes (Err Memory) h e = absurd cc
is_deep bytes (Err TooLong) h e = absurd h
is_deep bytes (Err TooDeep) h e = h
is_deep bytes (Err NotProject) h e = absurd cc

pub is_none : (bytes : List ℕ) (r : Result Project CircFault) → IsProjectOf bytes r → IsErrOf r NotProject → IsNoProject bytes
is_none bytes (Ok q) h e = absurd cc
is_none bytes (Err Memory) h e = absurd cc
is_none bytes (Err TooLong) h e = absurd h
is_none bytes (Err TooDeep) h e = absurd cc
is_none bytes (Err NotProject) h e = h

pub deep_is_refused : (bytes : List ℕ) (r : Result Project CircFault) → IsProjectOf bytes r → IsTooDeep bytes → RefusesAs TooDeep r
deep_is_refused bytes (Ok q) h d = deep_says_none bytes q d h
deep_is_refused bytes (Err Memory) h d = tt
deep_is_refused bytes (Err TooLong) h d = absurd h
deep_is_refused bytes (Err TooDeep) h d = refl
deep_is_refused bytes (Err NotProject) h d = absurd (h.not_deep d)

pub none_is_refused : (bytes : List ℕ) (r : Result Project CircFault) → IsProjectOf bytes r → IsNoProject bytes → RefusesAs NotProject r
none_is_refused bytes (Ok q) h d = d.says_none q h
none_is_refused bytes (Err Memory) h d = tt
none_is_refused bytes (Err TooLong) h d = absurd h
none_is_refused bytes (Err TooDeep) h d = absurd (d.not_deep h)
none_is_refused bytes (Err NotProject) h d = refl

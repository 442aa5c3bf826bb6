-- The steps of reading: behind each the same roots are left, and where there is none, there is no root.
use Rattle.std.proofs.Common.{◌≡◌, ℕ, ◌<◌, cond, List, [], ◌∷◌, length, Some, None, sym, ap, subst, ◌∙◌, arith, inl, inr}
use Rattle.std.specs.Prelude.{codes, is_some}
use Rattle.std.specs.Str.{bytes_eq}
use Rattle.std.proofs.lemmas.Bool.{cond-true}
use Rattle.std.proofs.lemmas.List.{length-append}
use Rattle.std.proofs.lemmas.Option.{same_Some, none-some}
use Rattle.lg_circ.specs.declared.element.Element.{Element}
use Rattle.lg_circ.specs.declared.class.Class.TheVariants.{Characters}
use Rattle.lg_circ.specs.Tree.{name_of}
use Rattle.lg_circ.specs.Meaning.{◌>>=◌}
use Rattle.lg_circ.specs.Reading.{passes, rest_of, front_of, after_mark, after_comment, said_of, Token, nothing, stands, starts, ends, first_at, last_at, token_at, event_at, bare, with_text, with_child, Next, goes, closed, moves}
use Rattle.lg_circ.specs.Grown.{Inside, Closed, Stands, Reaches}
use Rattle.lg_circ.proofs.Marks.{bind_some, guard_some, after_mark_takes, same_bytes, bytes_same}
use Rattle.lg_circ.proofs.Pieces.{chosen, front_rest}
use Rattle.lg_circ.proofs.First.{comment_takes}
use Rattle.lg_circ.proofs.Elements.{last_takes, TakesOne, one_takes}
use Rattle.lg_circ.proofs.Tokens.{Means, event_seen, event_means}

-- a whole element goes on as the elements around it do
to_closed : (top : Element) (around : List Element) (rest : List ℕ) (root : Element) → Closed around root top rest → Stands (closed top around) rest root
to_closed top [] rest root h = h
to_closed top (outer ∷ around) rest root h = h

from_closed : (top : Element) (around : List Element) (rest : List ℕ) (root : Element) → Stands (closed top around) rest root → Closed around root top rest
from_closed top [] rest root h = h
from_closed top (outer ∷ around) rest root h = h

pub moves_to : (top : Element) (around : List Element) (token : Token) (rest : List ℕ) (root : Element) (next : Next) → moves top around token ≡ Some next → Means (Closed around root) top token rest → Stands next rest root
moves_to top around nothing rest root next e m = subst (λ (n : Next). Stands n rest root) (same_Some _ next e) m
moves_to top around (stands name attributes) rest root next e m = subst (λ (n : Next). Stands n rest root) (same_Some _ next e) m
moves_to top around (starts name attributes) rest root next e m = subst (λ (n : Next). Stands n rest root) (same_Some _ next e) m
moves_to top around (ends name) rest root next e m =
    let g = guard_some (bytes_eq name (name_of top)) (Some (closed top around)) next e in
    subst (λ (n : Next). Stands n rest root) (same_Some (closed top around) next g.1) (to_closed top around rest root m.1)

pub moves_from : (top : Element) (around : List Element) (token : Token) (rest : List ℕ) (root : Element) (next : Next) → moves top around token ≡ Some next → Stands next rest root → Means (Closed around root) top token rest
moves_from top around nothing rest root next e m = subst (λ (n : Next). Stands n rest root) (sym (same_Some (goes top around) next e)) m
moves_from top around (stands name attributes) rest root next e m = subst (λ (n : Next). Stands n rest root) (sym (same_Some (goes (with_child top (bare name attributes)) around) next e)) m
moves_from top around (starts name attributes) rest root next e m = subst (λ (n : Next). Stands n rest root) (sym (same_Some (goes (bare name attributes) (top ∷ around)) next e)) m
moves_from top around (ends name) rest root next e m =
    let g = guard_some (bytes_eq name (name_of top)) (Some (closed top around)) next e in
    (same_bytes name (name_of top) g.0, from_closed top around rest root (subst (λ (n : Next). Stands n rest root) (sym (same_Some (closed top around) next g.1)) m))

pub moves_none : (K : Element → List ℕ → Type 0) (top : Element) (around : List Element) (token : Token) (rest : List ℕ) → moves top around token ≡ None → Means K top token rest → ⊥
moves_none K top around nothing rest e m = cc
moves_none K top around (stands name attributes) rest e m = cc
moves_none K top around (starts name attributes) rest e m = cc
moves_none K top around (ends name) rest e m = none-some (closed top around) (sym e ∙ cond-true (bytes_eq name (name_of top)) (Some (closed top around)) None (bytes_same name (name_of top) m.0))

abbrev Event : Type 0
Event = List ℕ × Token × List ℕ

-- what was read is what is seen
pub seen_as : (K : Element → List ℕ → Type 0) (top : Element) (bytes : List ℕ) (x : List ℕ × Token × List ℕ) → event_at bytes ≡ Some x → Inside K top bytes → Means K (with_text top x.0) x.1 x.2
seen_as K top bytes x e i =
    let s = event_seen K top bytes i in
    subst (λ (y : Event). Means K (with_text top y.0) y.1 y.2) (same_Some (s.text, s.token, s.rest) x (sym s.read ∙ e)) s.means

-- the same roots are left behind a step
pub moves_reach : (IsRoot : Element → Type 0) (top : Element) (around : List Element) (bytes : List ℕ) (x : List ℕ × Token × List ℕ) (next : Next) → event_at bytes ≡ Some x → moves (with_text top x.0) around x.1 ≡ Some next
    → Reaches IsRoot (goes top around) bytes → Reaches IsRoot next x.2
moves_reach IsRoot top around bytes x next e m so_far = record {
  to = λ root is. moves_to (with_text top x.0) around x.1 x.2 root next m (seen_as (Closed around root) top bytes x e (so_far.to root is));
  from = λ root h. so_far.from root (event_means (Closed around root) top bytes x e (moves_from (with_text top x.0) around x.1 x.2 root next m h));
}

-- where nothing can be read there is no root
pub event_fails : (IsRoot : Element → Type 0) (top : Element) (around : List Element) (bytes : List ℕ) → event_at bytes ≡ None → Reaches IsRoot (goes top around) bytes → (root : Element) → IsRoot root → ⊥
event_fails IsRoot top around bytes e so_far root is =
    let s = event_seen (Closed around root) top bytes (so_far.to root is) in
    none-some (s.text, s.token, s.rest) (sym e ∙ s.read)

pub moves_fail : (IsRoot : Element → Type 0) (top : Element) (around : List Element) (bytes : List ℕ) (x : List ℕ × Token × List ℕ) → event_at bytes ≡ Some x → moves (with_text top x.0) around x.1 ≡ None → Reaches IsRoot (goes top around) bytes
    → (root : Element) → IsRoot root → ⊥
moves_fail IsRoot top around bytes x e m so_far root is = moves_none (Closed around root) (with_text top x.0) around x.1 x.2 m (seen_as (Closed around root) top bytes x e (so_far.to root is))

token_shorter : (bytes : List ℕ) (x : Token × List ℕ) → token_at bytes ≡ Some x → length x.1 < length bytes
unfolding token_at
token_shorter bytes x e =
    elim (chosen (is_some (after_mark (codes "<!--") bytes)) (after_comment bytes >>= λ rest. Some (nothing, rest)) (cond (is_some (after_mark (codes "</") bytes)) (after_mark (codes "</") bytes >>= last_at) (first_at bytes)) (Some x) e) [
      | inl w ↦
          let a = bind_some (after_comment bytes) (λ rest. Some (nothing, rest)) x w.1 in
          let t = comment_takes bytes a.0 a.1 in
          let l = simp length-append at (ap (λ (y : List ℕ). length y) t.parts) in
          let same : a.0 ≡ x.1 = ap (λ (y : Token × List ℕ). y.1) (same_Some (nothing, a.0) x a.2) in
          subst (λ (r : List ℕ). length r < length bytes) same (omega (arith, l))
      | inr v ↦
          elim (chosen (is_some (after_mark (codes "</") bytes)) (after_mark (codes "</") bytes >>= last_at) (first_at bytes) (Some x) v.1) [
            | inl w ↦
                let a = bind_some (after_mark (codes "</") bytes) last_at x w.1 in
                let t = last_takes a.0 x a.2 in
                let l = simp length-append at (ap (λ (y : List ℕ). length y) (after_mark_takes (codes "</") bytes a.0 a.1)) in
                let k = simp length-append at (ap (λ (y : List ℕ). length y) t.parts) in
                omega (arith, l, k)
            | inr w ↦ one_shorter x.0 x.1 (one_takes bytes x w.1)
          ]
    ]
  where
    one_shorter : (token : Token) (rest : List ℕ) → TakesOne bytes token rest → length rest < length bytes
    one_shorter nothing rest t = absurd t
    one_shorter (ends name) rest t = absurd t
    one_shorter (stands name attributes) rest t = let l = simp length-append at (ap (λ (y : List ℕ). length y) t.parts) in omega (arith, l)
    one_shorter (starts name attributes) rest t = let l = simp length-append at (ap (λ (y : List ℕ). length y) t.parts) in omega (arith, l)

pub event_shorter : (bytes : List ℕ) (x : List ℕ × Token × List ℕ) → event_at bytes ≡ Some x → length x.2 < length bytes
unfolding event_at
event_shorter bytes x e =
    let p = passes Characters in
    let a = bind_some (said_of (front_of p bytes)) (λ text. token_at (rest_of p bytes) >>= λ found. Some (text, found.0, found.1)) x e in
    let b = bind_some (token_at (rest_of p bytes)) (λ found. Some (a.0, found.0, found.1)) x a.2 in
    let l = simp length-append at (ap (λ (y : List ℕ). length y) (front_rest p bytes)) in
    let k = token_shorter (rest_of p bytes) b.0 b.1 in
    let same : b.0.1 ≡ x.2 = ap (λ (y : Event). y.2) (same_Some (a.0, b.0.0, b.0.1) x b.2) in
    subst (λ (r : List ℕ). length r < length bytes) same (omega (arith, l, k))

-- Reading with the names of the open elements alone.
use Rattle.std.proofs.Common.{◌≡◌, ℕ, suc, ◌<◌, Bool, true, false, cond, List, [], ◌∷◌, ◌++◌, length, Option, Some, None, refl, sym, ap, subst, ◌∙◌, arith}
use Rattle.std.specs.Prelude.{map, option_and_then}
use Rattle.std.specs.Str.{bytes_eq}
use Rattle.std.proofs.lemmas.Bool.{cond-true}
use Rattle.std.proofs.lemmas.Option.{same_Some}
use Rattle.lg_circ.specs.declared.element.Element.{Element}
use Rattle.lg_circ.specs.Tree.{name_of, attributes_of, text_of, children_of}
use Rattle.lg_circ.specs.Meaning.{◌>>=◌}
use Rattle.lg_circ.specs.Reading.{Token, nothing, stands, starts, ends, event_at, bare, with_text, with_child, Next, goes, whole, deep, closed, moves, names_after, names_at}
use Rattle.lg_circ.specs.Grown.{Reaches}
use Rattle.lg_circ.proofs.Marks.{bind_some, guard_some}
use Rattle.lg_circ.proofs.Steps.{moves_reach, moves_fail, event_fails, event_shorter}
use Rattle.lg_circ.proofs.Parts.{name_made}

-- these are the names of the elements that are open
abbrev pub AreNames : Next → List (List ℕ) → Type 0
AreNames (goes top around) names = names ≡ name_of top ∷ map name_of around
AreNames (whole e) names = names ≡ []
AreNames deep names = ⊥

-- so far the names were followed, and the same roots are left
pub record Follows (IsRoot : Element → Type 0) (names : List (List ℕ)) (bytes : List ℕ) : Type 0 where
  pub next : Next
  pub are : AreNames next names
  pub reaches : Reaches IsRoot next bytes

closed_names : (top : Element) (around : List Element) → AreNames (closed top around) (map name_of around)
closed_names top [] = refl
closed_names top (outer ∷ around) = ap (λ (n : List ℕ). n ∷ map name_of around) (sym (name_made (name_of outer) (attributes_of outer) (text_of outer) (children_of outer ++ top ∷ [])))

-- a step of names is one of elements
moves_names : (top : Element) (around : List Element) (token : Token) (names : List (List ℕ)) → names_after (name_of top ∷ map name_of around) token ≡ Some names → (next : Next) × (moves top around token ≡ Some next) × AreNames next names
moves_names top around nothing names e = (goes top around, refl, sym (same_Some _ names e))
moves_names top around (stands name attributes) names e =
    (goes (with_child top (bare name attributes)) around, refl, sym (same_Some _ names e) ∙ ap (λ (n : List ℕ). n ∷ map name_of around) (sym (name_made (name_of top) (attributes_of top) (text_of top) (children_of top ++ bare name attributes ∷ []))))
moves_names top around (starts name attributes) names e =
    (goes (bare name attributes) (top ∷ around), refl, sym (same_Some _ names e) ∙ ap (λ (n : List ℕ). n ∷ name_of top ∷ map name_of around) (sym (name_made name attributes [] [])))
moves_names top around (ends name) names e =
    let g = guard_some (bytes_eq name (name_of top)) (Some (map name_of around)) names e in
    (closed top around, cond-true (bytes_eq name (name_of top)) (Some (closed top around)) None g.0, subst (AreNames (closed top around)) (same_Some (map name_of around) names g.1) (closed_names top around))

moves_no_names : (top : Element) (around : List Element) (token : Token) → names_after (name_of top ∷ map name_of around) token ≡ None → moves top around token ≡ None
moves_no_names top around nothing e = absurd cc
moves_no_names top around (stands name attributes) e = absurd cc
moves_no_names top around (starts name attributes) e = absurd cc
moves_no_names top around (ends name) e = by_test (bytes_eq name (name_of top)) e
  where
    by_test : (b : Bool) → cond b (Some (map name_of around)) None ≡ None → cond b (Some (closed top around)) None ≡ None
    by_test true e = absurd cc
    by_test false e = refl

text_names : (top : Element) (around : List Element) (text : List ℕ) → name_of top ∷ map name_of around ≡ name_of (with_text top text) ∷ map name_of around
text_names top around text = ap (λ (n : List ℕ). n ∷ map name_of around) (sym (name_made (name_of top) (attributes_of top) (text_of top ++ text) (children_of top)))

abbrev with_rest : List ℕ → List (List ℕ) → Option (List (List ℕ) × List ℕ)
with_rest rest next = Some (next, rest)

-- the names behind an event
abbrev follow : List (List ℕ) → List ℕ × Token × List ℕ → Option (List (List ℕ) × List ℕ)
follow names event = names_after names event.1 >>= λ next. Some (next, event.2)

-- one step
pub names_follow : (IsRoot : Element → Type 0) (names more : List (List ℕ)) (bytes rest : List ℕ) → 0 < length names → names_at names bytes ≡ Some (more, rest) → Follows IsRoot names bytes → Follows IsRoot more rest × (length rest < length bytes)
unfolding names_at
names_follow IsRoot names more bytes rest some e f = by_next f.next f.are f.reaches
  where
    by_next : (next : Next) → AreNames next names → Reaches IsRoot next bytes → Follows IsRoot more rest × (length rest < length bytes)
    by_next deep are reaches = absurd are
    by_next (whole x) are reaches = let none : length names ≡ 0 = ap (λ (n : List (List ℕ)). length n) are in absurd (omega (arith, none, some))
    by_next (goes top around) are reaches =
        let a = bind_some (event_at bytes) (follow names) (more, rest) e in
        let b = bind_some (names_after names a.0.1) (λ next. Some (next, a.0.2)) (more, rest) a.2 in
        let same = same_Some (b.0, a.0.2) (more, rest) b.2 in
        let named = ap (λ (n : List (List ℕ)). names_after n a.0.1) (sym (are ∙ text_names top around a.0.0)) ∙ b.1 in
        let m = moves_names (with_text top a.0.0) around a.0.1 b.0 named in
        let r = moves_reach IsRoot top around bytes a.0 m.0 a.1 m.1 reaches in
        let shorter = event_shorter bytes a.0 a.1 in
        let rest_is : a.0.2 ≡ rest = ap (λ (x : List (List ℕ) × List ℕ). x.1) same in
        let more_is : b.0 ≡ more = ap (λ (x : List (List ℕ) × List ℕ). x.0) same in
        (record { next = m.0; are = subst (AreNames m.0) more_is m.2; reaches = subst (Reaches IsRoot m.0) rest_is r }, subst (λ (t : List ℕ). length t < length bytes) rest_is shorter)

pub names_fail : (IsRoot : Element → Type 0) (names : List (List ℕ)) (bytes : List ℕ) → 0 < length names → names_at names bytes ≡ None → Follows IsRoot names bytes → (root : Element) → IsRoot root → ⊥
unfolding names_at
names_fail IsRoot names bytes some e f = by_next f.next f.are f.reaches
  where
    by_next : (next : Next) → AreNames next names → Reaches IsRoot next bytes → (root : Element) → IsRoot root → ⊥
    by_next deep are reaches = absurd are
    by_next (whole x) are reaches = let none : length names ≡ 0 = ap (λ (n : List (List ℕ)). length n) are in absurd (omega (arith, none, some))
    by_next (goes top around) are reaches = by_event (event_at bytes) refl e
      where
        by_event : (o : Option (List ℕ × Token × List ℕ)) → event_at bytes ≡ o → (o >>= follow names) ≡ None → (root : Element) → IsRoot root → ⊥
        by_event None k e = event_fails IsRoot top around bytes k reaches
        by_event (Some x) k e =
            let named = ap (λ (n : List (List ℕ)). names_after n x.1) (sym (are ∙ text_names top around x.0)) ∙ no_names (names_after names x.1) x.2 e in
            moves_fail IsRoot top around bytes x k (moves_no_names (with_text top x.0) around x.1 named) reaches
          where
            no_names : (o : Option (List (List ℕ))) (rest : List ℕ) → option_and_then (with_rest rest) o ≡ None → o ≡ None
            no_names None rest e = refl
            no_names (Some n) rest e = absurd cc

-- in the end no element is open
pub follows_end : (IsRoot : Element → Type 0) (names : List (List ℕ)) (bytes : List ℕ) → names ≡ [] → Follows IsRoot names bytes → (e : Element) × Reaches IsRoot (whole e) bytes
follows_end IsRoot names bytes none f = by_next f.next f.are f.reaches
  where
    by_next : (next : Next) → AreNames next names → Reaches IsRoot next bytes → (e : Element) × Reaches IsRoot (whole e) bytes
    by_next deep are reaches = absurd are
    by_next (whole x) are reaches = (x, reaches)
    by_next (goes top around) are reaches = let no : length names ≡ 0 = ap (λ (n : List (List ℕ)). length n) none in
        let some : length names ≡ suc (length (map name_of around)) = ap (λ (n : List (List ℕ)). length n) are in absurd (omega (arith, no, some))

-- The parts of elements that were made, and elements that are the same.
use Rattle.std.proofs.Common.{◌≡◌, ℕ, List, [], ◌∷◌, ◌++◌, refl, sym, ap, ◌∙◌, append_assoc}
use Rattle.std.specs.List.{flat_map}
use Rattle.std.proofs.lemmas.List.{append-nil}
use Rattle.std.proofs.lemmas.Grind.{flat_map-append}
use Rattle.lg_circ.specs.declared.element.Element.{Element, roll-Element, out-roll-Element, roll-out-Element}
use Rattle.lg_circ.specs.Tree.{name_of, attributes_of, text_of, children_of}
use Rattle.lg_circ.specs.Grammar.{Piece, element, characters_of, elements_of}
use Rattle.lg_circ.specs.Reading.{bare, with_text, with_child}
use Rattle.lg_circ.specs.Grown.{filled}

abbrev Pairs : Type 0
Pairs = List (List ℕ × List ℕ)

abbrev pub made : List ℕ → List (List ℕ × List ℕ) → List ℕ → List Element → Element
made name attributes text children = roll-Element (record { name = name; attributes = attributes; text = text; children = children })

pub name_made : (n : List ℕ) (a : List (List ℕ × List ℕ)) (t : List ℕ) (c : List Element) → name_of (made n a t c) ≡ n
name_made n a t c = ap (λ r. r.name) (out-roll-Element (record { name = n; attributes = a; text = t; children = c }))

pub attributes_made : (n : List ℕ) (a : List (List ℕ × List ℕ)) (t : List ℕ) (c : List Element) → attributes_of (made n a t c) ≡ a
attributes_made n a t c = ap (λ r. r.attributes) (out-roll-Element (record { name = n; attributes = a; text = t; children = c }))

pub text_made : (n : List ℕ) (a : List (List ℕ × List ℕ)) (t : List ℕ) (c : List Element) → text_of (made n a t c) ≡ t
text_made n a t c = ap (λ r. r.text) (out-roll-Element (record { name = n; attributes = a; text = t; children = c }))

pub children_made : (n : List ℕ) (a : List (List ℕ × List ℕ)) (t : List ℕ) (c : List Element) → children_of (made n a t c) ≡ c
children_made n a t c = ap (λ r. r.children) (out-roll-Element (record { name = n; attributes = a; text = t; children = c }))

-- elements of the same parts
pub made_same : (n n' : List ℕ) (a a' : List (List ℕ × List ℕ)) (t t' : List ℕ) (c c' : List Element) → n ≡ n' → a ≡ a' → t ≡ t' → c ≡ c' → made n a t c ≡ made n' a' t' c'
made_same n n' a a' t t' c c' en ea et ec =
    ap (λ (x : List ℕ). made x a t c) en ∙ ap (λ (x : Pairs). made n' x t c) ea ∙ ap (λ (x : List ℕ). made n' a' x c) et ∙ ap (λ (x : List Element). made n' a' t' x) ec

pub made_again : (e : Element) → made (name_of e) (attributes_of e) (text_of e) (children_of e) ≡ e
made_again e = roll-out-Element e

-- nothing more inside
pub filled-nil : (e : Element) → filled e [] ≡ e
filled-nil e = made_same _ _ _ _ _ _ _ _ refl refl (append-nil (text_of e)) (append-nil (children_of e)) ∙ made_again e

pub filled-append : (e : Element) (ps qs : List Piece) → filled e (ps ++ qs) ≡ made (name_of e) (attributes_of e) ((text_of e ++ flat_map characters_of ps) ++ flat_map characters_of qs) ((children_of e ++ flat_map elements_of ps) ++ flat_map elements_of qs)
filled-append e ps qs = made_same _ _ _ _ _ _ _ _ refl refl
    (ap (λ (t : List ℕ). text_of e ++ t) (flat_map-append characters_of ps qs) ∙ sym (append_assoc (text_of e) (flat_map characters_of ps) (flat_map characters_of qs)))
    (ap (λ (t : List Element). children_of e ++ t) (flat_map-append elements_of ps qs) ∙ sym (append_assoc (children_of e) (flat_map elements_of ps) (flat_map elements_of qs)))

-- one more element inside, and what follows it
pub filled_child : (e child : Element) (b : List ℕ) (ps : List Piece) → filled (with_child e child) ps ≡ filled e (element child b ∷ ps)
filled_child e child b ps =
    let c = children_of e ++ child ∷ [] in
    made_same _ _ _ _ _ _ _ _ (name_made (name_of e) (attributes_of e) (text_of e) c) (attributes_made (name_of e) (attributes_of e) (text_of e) c)
    (ap (λ (t : List ℕ). t ++ flat_map characters_of ps) (text_made (name_of e) (attributes_of e) (text_of e) c))
    (ap (λ (t : List Element). t ++ flat_map elements_of ps) (children_made (name_of e) (attributes_of e) (text_of e) c) ∙ append_assoc (children_of e) (child ∷ []) (flat_map elements_of ps))

-- more characters, and what follows them
pub filled_text : (e : Element) (raws ps : List Piece) → flat_map elements_of raws ≡ [] → filled (with_text e (flat_map characters_of raws)) ps ≡ filled e (raws ++ ps)
filled_text e raws ps none =
    let t = text_of e ++ flat_map characters_of raws in
    made_same _ _ _ _ _ _ _ _ (name_made (name_of e) (attributes_of e) t (children_of e)) (attributes_made (name_of e) (attributes_of e) t (children_of e))
    (ap (λ (x : List ℕ). x ++ flat_map characters_of ps) (text_made (name_of e) (attributes_of e) t (children_of e)))
    (ap (λ (x : List Element). x ++ flat_map elements_of ps) (children_made (name_of e) (attributes_of e) t (children_of e) ∙ sym (append-nil (children_of e)) ∙ ap (λ (x : List Element). children_of e ++ x) (sym none)))
    ∙ sym (filled-append e raws ps)

-- what stands inside makes an element of the bare one
pub filled_bare : (e : Element) (ps : List Piece) → text_of e ≡ flat_map characters_of ps → children_of e ≡ flat_map elements_of ps → filled (bare (name_of e) (attributes_of e)) ps ≡ e
filled_bare e ps et ec =
    let n = name_of e in
    let a = attributes_of e in
    made_same _ _ _ _ _ _ _ _ (name_made n a [] []) (attributes_made n a [] []) (ap (λ (x : List ℕ). x ++ flat_map characters_of ps) (text_made n a [] []) ∙ sym et) (ap (λ (x : List Element). x ++ flat_map elements_of ps) (children_made n a [] []) ∙ sym ec)
    ∙ made_again e

pub bare_again : (e : Element) → text_of e ≡ [] → children_of e ≡ [] → bare (name_of e) (attributes_of e) ≡ e
bare_again e et ec = made_same _ _ _ _ _ _ _ _ refl refl (sym et) (sym ec) ∙ made_again e

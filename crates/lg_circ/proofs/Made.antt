-- Pieces one after the other.
use Rattle.std.proofs.Common.{◌≡◌, ℕ, Bool, true, List, [], ◌∷◌, ◌++◌, refl, sym, ap, ◌∙◌}
use Rattle.std.specs.List.{flat_map, list_all, AllByRecursion}
use Rattle.std.proofs.lemmas.Grind.{flat_map-append}
use Rattle.std.proofs.lemmas.Bool.{and_parts}
use Rattle.lg_circ.specs.declared.element.Element.{Element}
use Rattle.lg_circ.specs.Grammar.{Piece, own, characters_of, elements_of, spelling_of, IsMadeOf}

pub all_append : {A : Type 0} (P : A → Type 0) (xs ys : List A) → AllByRecursion P xs → AllByRecursion P ys → AllByRecursion P (xs ++ ys)
all_append P [] ys first others = others
all_append P (x ∷ xs) ys first others = (first.0, all_append P xs ys first.1 others)

pub all_weaker : {A : Type 0} (P Q : A → Type 0) → ((x : A) → P x → Q x) → (xs : List A) → AllByRecursion P xs → AllByRecursion Q xs
all_weaker P Q weaker [] all = tt
all_weaker P Q weaker (x ∷ xs) all = (weaker x all.0, all_weaker P Q weaker xs all.1)

-- nothing is made of nothing
pub made_nothing : (A : Piece → Type 0) → IsMadeOf A [] [] []
made_nothing A = record { pieces = []; allowed = tt; characters_are = refl; elements_are = refl; spelled = refl }

pub made_append : (A : Piece → Type 0) (text more : List ℕ) (es others : List Element) (bytes after : List ℕ) → IsMadeOf A text es bytes → IsMadeOf A more others after → IsMadeOf A (text ++ more) (es ++ others) (bytes ++ after)
made_append A text more es others bytes after m n = record {
  pieces = m.pieces ++ n.pieces;
  allowed = all_append A m.pieces n.pieces m.allowed n.allowed;
  characters_are = ap (λ (t : List ℕ). t ++ more) m.characters_are ∙ ap (λ (t : List ℕ). flat_map characters_of m.pieces ++ t) n.characters_are ∙ sym (flat_map-append characters_of m.pieces n.pieces);
  elements_are = ap (λ (t : List Element). t ++ others) m.elements_are ∙ ap (λ (t : List Element). flat_map elements_of m.pieces ++ t) n.elements_are ∙ sym (flat_map-append elements_of m.pieces n.pieces);
  spelled = ap (λ (t : List ℕ). t ++ after) m.spelled ∙ ap (λ (t : List ℕ). flat_map spelling_of m.pieces ++ t) n.spelled ∙ sym (flat_map-append spelling_of m.pieces n.pieces);
}

pub made_weaker : (A B : Piece → Type 0) (text : List ℕ) (es : List Element) (bytes : List ℕ) → ((p : Piece) → A p → B p) → IsMadeOf A text es bytes → IsMadeOf B text es bytes
made_weaker A B text es bytes weaker m = record {
  pieces = m.pieces;
  allowed = all_weaker A B weaker m.pieces m.allowed;
  characters_are = m.characters_are;
  elements_are = m.elements_are;
  spelled = m.spelled;
}

-- bytes that stand for themselves
owns : List ℕ → List Piece
owns [] = []
owns (c ∷ cs) = own c ∷ owns cs

owns_characters : (cs : List ℕ) → cs ≡ flat_map characters_of (owns cs)
unfolding owns
owns_characters [] = refl
owns_characters (c ∷ cs) = ap (λ (t : List ℕ). c ∷ t) (owns_characters cs)

owns_spelling : (cs : List ℕ) → cs ≡ flat_map spelling_of (owns cs)
unfolding owns
owns_spelling [] = refl
owns_spelling (c ∷ cs) = ap (λ (t : List ℕ). c ∷ t) (owns_spelling cs)

owns_elements : (cs : List ℕ) → [] ≡ flat_map elements_of (owns cs)
unfolding owns
owns_elements [] = refl
owns_elements (c ∷ cs) = owns_elements cs

owns_allowed : (A : Piece → Type 0) (p : ℕ → Bool) → ((c : ℕ) → p c ≡ true → A (own c)) → (cs : List ℕ) → list_all p cs ≡ true → AllByRecursion A (owns cs)
unfolding owns
owns_allowed A p each [] all = tt
owns_allowed A p each (c ∷ cs) all = let b = and_parts (p c) (list_all p cs) all in (each c b.0, owns_allowed A p each cs b.1)

pub made_own : (A : Piece → Type 0) (p : ℕ → Bool) → ((c : ℕ) → p c ≡ true → A (own c)) → (cs : List ℕ) → list_all p cs ≡ true → IsMadeOf A cs [] cs
made_own A p each cs all = record {
  pieces = owns cs;
  allowed = owns_allowed A p each cs all;
  characters_are = owns_characters cs;
  elements_are = owns_elements cs;
  spelled = owns_spelling cs;
}

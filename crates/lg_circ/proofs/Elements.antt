-- Elements and their tags: what was read is spelled so, and what is spelled so is read again.
use Rattle.std.proofs.Common.{◌≡◌, ℕ, zero, suc, ◌+◌, ◌≤◌, true, List, [], ◌∷◌, ◌++◌, Some, refl, sym, ap, subst, ◌∙◌, append_assoc, arith, inl, inr, ◌⊎◌}
use Rattle.std.specs.Prelude.{IsTrue, codes}
use Rattle.std.specs.List.{list_all, flat_map, AllByRecursion}
use Rattle.std.proofs.lemmas.Bool.{and_parts}
use Rattle.std.proofs.lemmas.List.{append-nil}
use Rattle.std.proofs.lemmas.Option.{same_Some}
use Rattle.lg_circ.specs.declared.element.Element.{Element}
use Rattle.lg_attrs.specs.Pairs.{names_differ}
use Rattle.lg_circ.specs.Tree.{name_of, attributes_of, text_of, children_of}
use Rattle.lg_circ.specs.Grammar.{begins_name, continues_name, IsName, is_white, IsWhite, Piece, own, reference, comment, element, characters_of, elements_of, spelling_of, IsInElement, SpellsAttributes, SpellsEmpty, SpellsOpen, SpellsElement, Spells}
use Rattle.lg_circ.specs.Meaning.{◌>>=◌}
use Rattle.lg_circ.specs.Reading.{rest_of, front_of, after_mark, either, name_at, tag_at, Token, nothing, stands, starts, ends, first_at, last_at, bare}
use Rattle.lg_circ.specs.Grown.{filled, Inside}
use Rattle.lg_circ.proofs.Marks.{bind_some, after_mark_takes}
use Rattle.lg_circ.proofs.Pieces.{bind_at, front_rest, front_all, rest_again, name_takes, name_again, white_ends_name}
use Rattle.lg_circ.proofs.First.{either_cases}
use Rattle.lg_circ.proofs.Made.{made_weaker, all_weaker}
use Rattle.lg_circ.proofs.Tags.{TakesTag, tag_takes, tag_again}
use Rattle.lg_circ.proofs.Parts.{name_made, attributes_made, text_made, children_made, filled_bare, bare_again}

abbrev Pairs : Type 0
Pairs = List (List ℕ × List ℕ)

-- the last tag behind its `</`
pub record TakesLast (bytes : List ℕ) (token : Token) (rest : List ℕ) : Type 0 where
  pub name : List ℕ
  pub white : List ℕ
  pub is_name : IsName name
  pub is_white : IsWhite white
  pub is : token ≡ ends name
  pub parts : bytes ≡ name ++ (white ++ (62 ∷ rest))

pub last_takes : (bytes : List ℕ) (x : Token × List ℕ) → last_at bytes ≡ Some x → TakesLast bytes x.0 x.1
unfolding last_at
last_takes bytes x e =
    let a = bind_some (name_at bytes) (λ name. after_mark (codes ">") (rest_of is_white name.1) >>= λ rest. Some (ends name.0, rest)) x e in
    let b = bind_some (after_mark (codes ">") (rest_of is_white a.0.1)) (λ rest. Some (ends a.0.0, rest)) x a.2 in
    let t = name_takes bytes a.0 a.1 in
    let made : Token × List ℕ = (ends a.0.0, b.0) in
    subst (λ (y : Token × List ℕ). TakesLast bytes y.0 y.1) (same_Some made x b.2) (record {
      name = a.0.0;
      white = front_of is_white a.0.1;
      is_name = t.0;
      is_white = front_all is_white a.0.1;
      is = refl;
      parts = t.1 ∙ ap (λ (r : List ℕ). a.0.0 ++ r) (sym (front_rest is_white a.0.1) ∙ ap (λ (r : List ℕ). front_of is_white a.0.1 ++ r) (after_mark_takes (codes ">") (rest_of is_white a.0.1) b.0 b.1));
    })

pub last_again : (name white rest : List ℕ) → IsName name → IsWhite white → last_at (name ++ (white ++ (62 ∷ rest))) ≡ Some (ends name, rest)
unfolding last_at
last_again name white rest named w =
    let end : List ℕ = white ++ (62 ∷ rest) in
    bind_at (name_at (name ++ end)) (λ x. after_mark (codes ">") (rest_of is_white x.1) >>= λ r. Some (ends x.0, r)) (name, end) (name_again name end named (white_ends_name white (62 ∷ rest) w refl))
    ∙ ap (λ (t : List ℕ). after_mark (codes ">") t >>= λ r. Some (ends name, r)) (rest_again is_white white (62 ∷ rest) w refl)

-- an element with nothing inside, or the first tag of one
abbrev pub TakesOne : List ℕ → Token → List ℕ → Type 0
TakesOne bytes nothing rest = ⊥
TakesOne bytes (stands name attributes) rest = TakesTag bytes name attributes (47 ∷ 62 ∷ rest)
TakesOne bytes (starts name attributes) rest = TakesTag bytes name attributes (62 ∷ rest)
TakesOne bytes (ends name) rest = ⊥

pub one_takes : (bytes : List ℕ) (x : Token × List ℕ) → first_at bytes ≡ Some x → TakesOne bytes x.0 x.1
unfolding first_at
one_takes bytes x e =
    let a = bind_some (tag_at bytes) (λ tag. either (after_mark (codes "/>") tag.2 >>= λ rest. Some (stands tag.0 tag.1, rest)) (after_mark (codes ">") tag.2 >>= λ rest. Some (starts tag.0 tag.1, rest))) x e in
    let tag = a.0 in
    let t = tag_takes bytes tag a.1 in
    elim (either_cases (after_mark (codes "/>") tag.2 >>= λ rest. Some (stands tag.0 tag.1, rest)) (after_mark (codes ">") tag.2 >>= λ rest. Some (starts tag.0 tag.1, rest)) x a.2) [
      | inl w ↦
          let b = bind_some (after_mark (codes "/>") tag.2) (λ rest. Some (stands tag.0 tag.1, rest)) x w in
          let made : Token × List ℕ = (stands tag.0 tag.1, b.0) in
          subst (λ (y : Token × List ℕ). TakesOne bytes y.0 y.1) (same_Some made x b.2) (subst (λ (r : List ℕ). TakesTag bytes tag.0 tag.1 r) (after_mark_takes (codes "/>") tag.2 b.0 b.1) t)
      | inr w ↦
          let b = bind_some (after_mark (codes ">") tag.2) (λ rest. Some (starts tag.0 tag.1, rest)) x w.1 in
          let made : Token × List ℕ = (starts tag.0 tag.1, b.0) in
          subst (λ (y : Token × List ℕ). TakesOne bytes y.0 y.1) (same_Some made x b.2) (subst (λ (r : List ℕ). TakesTag bytes tag.0 tag.1 r) (after_mark_takes (codes ">") tag.2 b.0 b.1) t)
    ]

stands_again : (name : List ℕ) (attributes : List (List ℕ × List ℕ)) (text white rest : List ℕ) → IsName name → IsTrue (names_differ attributes) → SpellsAttributes attributes text → IsWhite white
    → first_at (60 ∷ (name ++ (text ++ (white ++ (47 ∷ 62 ∷ rest))))) ≡ Some (stands name attributes, rest)
unfolding first_at
stands_again name attributes text white rest named differ s w =
    bind_at (tag_at (60 ∷ (name ++ (text ++ (white ++ (47 ∷ 62 ∷ rest)))))) (λ tag. either (after_mark (codes "/>") tag.2 >>= λ r. Some (stands tag.0 tag.1, r)) (after_mark (codes ">") tag.2 >>= λ r. Some (starts tag.0 tag.1, r))) (name, attributes, 47 ∷ 62 ∷ rest)
    (tag_again name attributes text white (47 ∷ 62 ∷ rest) named differ s w refl)

starts_again : (name : List ℕ) (attributes : List (List ℕ × List ℕ)) (text white rest : List ℕ) → IsName name → IsTrue (names_differ attributes) → SpellsAttributes attributes text → IsWhite white
    → first_at (60 ∷ (name ++ (text ++ (white ++ (62 ∷ rest))))) ≡ Some (starts name attributes, rest)
unfolding first_at
starts_again name attributes text white rest named differ s w =
    bind_at (tag_at (60 ∷ (name ++ (text ++ (white ++ (62 ∷ rest)))))) (λ tag. either (after_mark (codes "/>") tag.2 >>= λ r. Some (stands tag.0 tag.1, r)) (after_mark (codes ">") tag.2 >>= λ r. Some (starts tag.0 tag.1, r))) (name, attributes, 62 ∷ rest)
    (tag_again name attributes text white (62 ∷ rest) named differ s w refl)

-- what is spelled with some levels at most is so with more
deeper : (l m : ℕ) (e : Element) (b : List ℕ) → l ≤ m → SpellsElement l e b → SpellsElement m e b
unfolding SpellsElement
deeper zero m e b le s = absurd s
deeper (suc l) zero e b le s = absurd (omega (arith, le))
deeper (suc l) (suc m) e b le s = (
  s.0,
  s.1,
  s.2,
  s.3,
  elim s.4 as (λ _. SpellsEmpty e s.2 b ⊎ SpellsOpen (SpellsElement m) e s.2 b) [
    | inl a ↦ inl a
    | inr a ↦ inr (record {
      white = a.white;
      content = a.content;
      white_at_end = a.white_at_end;
      is_white = a.is_white;
      inside = made_weaker (IsInElement (SpellsElement l)) (IsInElement (SpellsElement m)) (text_of e) (children_of e) a.content (λ p h. piece_deeper (λ d c k. deeper l m d c (omega (arith, le)) k) p h) a.inside;
      is_white_at_end = a.is_white_at_end;
      spelled = a.spelled;
    })
  ],
)
  where
    piece_deeper : ((d : Element) (c : List ℕ) → SpellsElement l d c → SpellsElement m d c) → (p : Piece) → IsInElement (SpellsElement l) p → IsInElement (SpellsElement m) p
    piece_deeper more (own c) h = h
    piece_deeper more (reference name) h = h
    piece_deeper more (comment inside) h = h
    piece_deeper more (element d c) h = more d c h

piece_more : (l m : ℕ) → l ≤ m → (p : Piece) → IsInElement (SpellsElement l) p → IsInElement (SpellsElement m) p
piece_more l m le (own c) h = h
piece_more l m le (reference name) h = h
piece_more l m le (comment inside) h = h
piece_more l m le (element e b) h = deeper l m e b le h

pub piece_any : (l : ℕ) (p : Piece) → IsInElement (SpellsElement l) p → IsInElement Spells p
piece_any l (own c) h = h
piece_any l (reference name) h = h
piece_any l (comment inside) h = h
piece_any l (element e b) h = (l, h)

piece_level : (p : Piece) → IsInElement Spells p → (l : ℕ) × IsInElement (SpellsElement l) p
piece_level (own c) h = (0, h)
piece_level (reference name) h = (0, h)
piece_level (comment inside) h = (0, h)
piece_level (element e b) h = h

-- pieces have so many levels at most
all_levels : (ps : List Piece) → AllByRecursion (IsInElement Spells) ps → (l : ℕ) × AllByRecursion (IsInElement (SpellsElement l)) ps
all_levels [] all = (0, tt)
all_levels (p ∷ ps) all =
    let first = piece_level p all.0 in
    let others = all_levels ps all.1 in
    let l = first.0 + others.0 in
    (l, (piece_more first.0 l (omega arith) p first.1, all_weaker (IsInElement (SpellsElement others.0)) (IsInElement (SpellsElement l)) (piece_more others.0 l (omega arith)) ps others.1))

open_grouped : (name attributes white content white_at_end rest : List ℕ) → (codes "<" ++ name ++ attributes ++ white ++ codes ">" ++ content ++ codes "</" ++ name ++ white_at_end ++ codes ">") ++ rest ≡ 60 ∷ (name ++ (attributes ++ (white ++ (62 ∷ (content ++ (60 ∷ 47 ∷ (name ++ (white_at_end ++ (62 ∷ rest)))))))))
open_grouped name attributes white content white_at_end rest = simp append_assoc

empty_grouped : (name attributes white rest : List ℕ) → (codes "<" ++ name ++ attributes ++ white ++ codes "/>") ++ rest ≡ 60 ∷ (name ++ (attributes ++ (white ++ (47 ∷ 62 ∷ rest))))
empty_grouped name attributes white rest = simp append_assoc

-- with which a first token goes on
abbrev pub OneMeans : (Element → List ℕ → Type 0) → Token → List ℕ → Type 0
OneMeans K nothing rest = ⊥
OneMeans K (stands name attributes) rest = K (bare name attributes) rest
OneMeans K (starts name attributes) rest = Inside K (bare name attributes) rest
OneMeans K (ends name) rest = ⊥

-- an element is read, or its first tag
pub one_seen : (K : Element → List ℕ → Type 0) (e : Element) (b rest : List ℕ) → Spells e b → K e rest → (x : Token × List ℕ) × (first_at (b ++ rest) ≡ Some x) × OneMeans K x.0 x.1
unfolding SpellsElement
one_seen K e b rest spells k = seen spells.0 spells.1
  where
    seen : (l : ℕ) → SpellsElement l e b → (x : Token × List ℕ) × (first_at (b ++ rest) ≡ Some x) × OneMeans K x.0 x.1
    seen zero s = absurd s
    seen (suc l) s =
        let name = name_of e in
        let attributes = attributes_of e in
        elim s.4 as (λ _. (x : Token × List ℕ) × (first_at (b ++ rest) ≡ Some x) × OneMeans K x.0 x.1) [
          | inl a ↦ (
            (stands name attributes, rest),
            ap (λ (t : List ℕ). first_at (t ++ rest)) a.spelled ∙ ap first_at (empty_grouped name s.2 a.white rest) ∙ stands_again name attributes s.2 a.white rest s.0 s.1 s.3 a.is_white,
            subst (λ (y : Element). K y rest) (sym (bare_again e a.no_text a.no_children)) k,
          )
          | inr a ↦
              let m = a.inside in
              let last : List ℕ = 60 ∷ 47 ∷ (name ++ (a.white_at_end ++ (62 ∷ rest))) in
              let called = name_made name attributes [] [] in (
                (starts name attributes, a.content ++ last),
                ap (λ (t : List ℕ). first_at (t ++ rest)) a.spelled ∙ ap first_at (open_grouped name s.2 a.white a.content a.white_at_end rest) ∙ starts_again name attributes s.2 a.white (a.content ++ last) s.0 s.1 s.3 a.is_white,
                record {
                  pieces = m.pieces;
                  white = a.white_at_end;
                  after = rest;
                  is_name = subst IsName (sym called) s.0;
                  allowed = all_weaker (IsInElement (SpellsElement l)) (IsInElement Spells) (piece_any l) m.pieces m.allowed;
                  is_white = a.is_white_at_end;
                  spelled = ap (λ (t : List ℕ). t ++ last) m.spelled ∙ ap (λ (n : List ℕ). flat_map spelling_of m.pieces ++ (60 ∷ 47 ∷ (n ++ (a.white_at_end ++ (62 ∷ rest))))) (sym called);
                  goes_on = subst (λ (y : Element). K y rest) (sym (filled_bare e m.pieces m.characters_are m.elements_are)) k;
                },
              )
        ]

-- what was read stands for an element
pub record MeansOne (K : Element → List ℕ → Type 0) (bytes : List ℕ) : Type 0 where
  pub e : Element
  pub text : List ℕ
  pub rest : List ℕ
  pub spells : Spells e text
  pub parts : bytes ≡ text ++ rest
  pub goes_on : K e rest

-- the tag of an element with its whole text
spells_empty : (name : List ℕ) (attributes : List (List ℕ × List ℕ)) (bytes rest : List ℕ) (t : TakesTag bytes name attributes (47 ∷ 62 ∷ rest)) → Spells (bare name attributes) (codes "<" ++ name ++ t.text ++ t.white ++ codes "/>")
unfolding SpellsElement
spells_empty name attributes bytes rest t =
    let e = bare name attributes in
    let called = name_made name attributes [] [] in
    let has = attributes_made name attributes [] [] in (
      1,
      (
        subst IsName (sym called) t.is_name,
        subst (λ (a : Pairs). IsTrue (names_differ a)) (sym has) t.differ,
        t.text,
        subst (λ (a : Pairs). SpellsAttributes a t.text) (sym has) t.spells,
        inl (record {
          white = t.white;
          is_white = t.is_white;
          no_text = text_made name attributes [] [];
          no_children = children_made name attributes [] [];
          spelled = ap (λ (n : List ℕ). codes "<" ++ n ++ t.text ++ t.white ++ codes "/>") (sym called);
        }),
      ),
    )

spells_open : (name : List ℕ) (attributes : List (List ℕ × List ℕ)) (bytes rest : List ℕ) (t : TakesTag bytes name attributes rest) (ps : List Piece) (white : List ℕ) → AllByRecursion (IsInElement Spells) ps → IsWhite white
    → Spells (filled (bare name attributes) ps) (codes "<" ++ name ++ t.text ++ t.white ++ codes ">" ++ flat_map spelling_of ps ++ codes "</" ++ name ++ white ++ codes ">")
unfolding SpellsElement
spells_open name attributes bytes rest t ps white all w =
    let d = bare name attributes in
    let characters = text_of d ++ flat_map characters_of ps in
    let inner = children_of d ++ flat_map elements_of ps in
    let e = filled d ps in
    let called : name_of e ≡ name = name_made (name_of d) (attributes_of d) characters inner ∙ name_made name attributes [] [] in
    let has : attributes_of e ≡ attributes = attributes_made (name_of d) (attributes_of d) characters inner ∙ attributes_made name attributes [] [] in
    let says : text_of e ≡ flat_map characters_of ps = text_made (name_of d) (attributes_of d) characters inner ∙ ap (λ (x : List ℕ). x ++ flat_map characters_of ps) (text_made name attributes [] []) in
    let holds : children_of e ≡ flat_map elements_of ps = children_made (name_of d) (attributes_of d) characters inner ∙ ap (λ (x : List Element). x ++ flat_map elements_of ps) (children_made name attributes [] []) in
    let l = all_levels ps all in (
      suc l.0,
      (
        subst IsName (sym called) t.is_name,
        subst (λ (a : Pairs). IsTrue (names_differ a)) (sym has) t.differ,
        t.text,
        subst (λ (a : Pairs). SpellsAttributes a t.text) (sym has) t.spells,
        inr (record {
          white = t.white;
          content = flat_map spelling_of ps;
          white_at_end = white;
          is_white = t.is_white;
          inside = record { pieces = ps; allowed = l.1; characters_are = says; elements_are = holds; spelled = refl };
          is_white_at_end = w;
          spelled = ap (λ (n : List ℕ). codes "<" ++ n ++ t.text ++ t.white ++ codes ">" ++ flat_map spelling_of ps ++ codes "</" ++ n ++ white ++ codes ">") (sym called);
        }),
      ),
    )

pub one_means : (K : Element → List ℕ → Type 0) (bytes : List ℕ) (x : Token × List ℕ) → first_at bytes ≡ Some x → OneMeans K x.0 x.1 → MeansOne K bytes
one_means K bytes x e k = by_token x.0 x.1 (one_takes bytes x e) k
  where
    by_token : (token : Token) (rest : List ℕ) → TakesOne bytes token rest → OneMeans K token rest → MeansOne K bytes
    by_token nothing rest t k = absurd t
    by_token (ends name) rest t k = absurd t
    by_token (stands name attributes) rest t k = record {
      e = bare name attributes;
      text = codes "<" ++ name ++ t.text ++ t.white ++ codes "/>";
      rest = rest;
      spells = spells_empty name attributes bytes rest t;
      parts = t.parts ∙ sym (empty_grouped name t.text t.white rest);
      goes_on = k;
    }
    by_token (starts name attributes) rest t i =
        let called = name_made name attributes [] [] in
        let content = flat_map spelling_of i.pieces in
        let inside : rest ≡ content ++ (60 ∷ 47 ∷ (name ++ (i.white ++ (62 ∷ i.after)))) = i.spelled ∙ ap (λ (n : List ℕ). content ++ (60 ∷ 47 ∷ (n ++ (i.white ++ (62 ∷ i.after))))) called in
        record {
          e = filled (bare name attributes) i.pieces;
          text = codes "<" ++ name ++ t.text ++ t.white ++ codes ">" ++ content ++ codes "</" ++ name ++ i.white ++ codes ">";
          rest = i.after;
          spells = spells_open name attributes bytes (62 ∷ rest) t i.pieces i.white i.allowed i.is_white;
          parts = t.parts ∙ ap (λ (r : List ℕ). 60 ∷ (name ++ (t.text ++ (t.white ++ (62 ∷ r))))) inside ∙ sym (open_grouped name t.text t.white content i.white i.after);
          goes_on = i.goes_on;
        }

-- an element begins with `<` and a name
pub spells_begins : (e : Element) (b : List ℕ) → Spells e b → (c : ℕ) × (cs : List ℕ) × (b ≡ 60 ∷ c ∷ cs) × (begins_name c ≡ true)
unfolding SpellsElement
spells_begins e b s = opens s.0 s.1
  where
    opened : (name after text : List ℕ) → IsName name → text ≡ 60 ∷ (name ++ after) → (c : ℕ) × (cs : List ℕ) × (text ≡ 60 ∷ c ∷ cs) × (begins_name c ≡ true)
    opened [] after text h e = absurd h
    opened (c ∷ cs) after text h e = (c, cs ++ after, e, (and_parts (begins_name c) (list_all continues_name cs) h).0)

    opens : (l : ℕ) → SpellsElement l e b → (c : ℕ) × (cs : List ℕ) × (b ≡ 60 ∷ c ∷ cs) × (begins_name c ≡ true)
    opens zero s = absurd s
    opens (suc l) s =
        elim s.4 as (λ _. (c : ℕ) × (cs : List ℕ) × (b ≡ 60 ∷ c ∷ cs) × (begins_name c ≡ true)) [
          | inl a ↦ opened (name_of e) (s.2 ++ (a.white ++ (47 ∷ 62 ∷ []))) b s.0 (a.spelled ∙ sym (append-nil _) ∙ empty_grouped (name_of e) s.2 a.white [])
          | inr a ↦ opened (name_of e) (s.2 ++ (a.white ++ (62 ∷ (a.content ++ (60 ∷ 47 ∷ (name_of e ++ (a.white_at_end ++ (62 ∷ [])))))))) b s.0
              (a.spelled ∙ sym (append-nil _) ∙ open_grouped (name_of e) s.2 a.white a.content a.white_at_end [])
        ]

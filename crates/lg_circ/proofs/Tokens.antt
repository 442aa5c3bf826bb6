-- What stands inside an element, step by step: the bytes complete an open element just where they go on as what was read says.
use Rattle.std.proofs.Common.{◌≡◌, ℕ, suc, Bool, true, false, cond, eqb, List, [], ◌∷◌, ◌++◌, length, Some, None, refl, sym, ap, subst, ◌∙◌, append_assoc, arith, inl, inr}
use Rattle.std.specs.Prelude.{IsTrue, codes, is_some, not, ◌||◌}
use Rattle.std.specs.List.{flat_map, AllByRecursion}
use Rattle.std.proofs.lemmas.Bool.{false≢true}
use Rattle.std.proofs.lemmas.Bool.Decides.{nat_tests}
use Rattle.std.proofs.lemmas.Grind.{flat_map-append}
use Rattle.std.proofs.lemmas.Option.{same_Some}
use Rattle.lg_circ.specs.declared.element.Element.{Element}
use Rattle.lg_circ.specs.Tree.{name_of, attributes_of, text_of, children_of}
use Rattle.lg_circ.specs.Grammar.{begins_name, IsName, IsWhite, is_own, Piece, own, reference, comment, element, characters_of, elements_of, spelling_of, IsInElement, Spells, lacks}
use Rattle.lg_circ.specs.Meaning.{◌>>=◌}
use Rattle.lg_circ.specs.Reading.{is_reference, rest_of, front_of, after_mark, after_comment, said_of, Token, nothing, stands, starts, ends, first_at, last_at, token_at, event_at, bare, with_text, with_child}
use Rattle.lg_circ.specs.Grown.{filled, Inside}
use Rattle.lg_circ.proofs.Marks.{bind_some, after_mark_takes}
use Rattle.lg_circ.proofs.Pieces.{bind_at, chosen, Stops, front_rest, front_all, front_again, rest_again}
use Rattle.lg_circ.proofs.First.{comment_takes, comment_again}
use Rattle.lg_circ.proofs.Made.{all_append, all_weaker}
use Rattle.lg_circ.proofs.Said.{IsRaw, said_takes, said_again}
use Rattle.lg_circ.proofs.Tags.{raw_passes}
use Rattle.lg_circ.proofs.Elements.{last_takes, last_again, one_takes, OneMeans, one_seen, MeansOne, one_means, spells_begins}
use Rattle.lg_circ.proofs.Parts.{name_made, filled-nil, filled_child, filled_text}

-- with which an open element goes on behind a token
abbrev pub Means : (Element → List ℕ → Type 0) → Element → Token → List ℕ → Type 0
Means K top nothing rest = Inside K top rest
Means K top (stands name attributes) rest = Inside K (with_child top (bare name attributes)) rest
Means K top (starts name attributes) rest = Inside (λ e after. Inside K (with_child top e) after) (bare name attributes) rest
Means K top (ends name) rest = (name ≡ name_of top) × K top rest

child_name : (top child : Element) → name_of (with_child top child) ≡ name_of top
child_name top child = name_made (name_of top) (attributes_of top) (text_of top) (children_of top ++ child ∷ [])

text_name : (top : Element) (text : List ℕ) → name_of (with_text top text) ≡ name_of top
text_name top text = name_made (name_of top) (attributes_of top) (text_of top ++ text) (children_of top)

abbrev not_lt : ℕ → Bool
not_lt c = not (eqb c 60)

-- a token was read
record SeesToken (K : Element → List ℕ → Type 0) (top : Element) (bytes : List ℕ) : Type 0 where
  token : Token
  rest : List ℕ
  read : token_at bytes ≡ Some (token, rest)
  means : Means K top token rest

-- what follows a piece inside an element
abbrev followed : Element → List Piece → List ℕ → List ℕ → List ℕ
followed top ps white after = flat_map spelling_of ps ++ (60 ∷ 47 ∷ (name_of top ++ (white ++ (62 ∷ after))))

sees_end : (K : Element → List ℕ → Type 0) (top : Element) (white after : List ℕ) → IsName (name_of top) → IsWhite white → K (filled top []) after → SeesToken K top (followed top [] white after)
unfolding token_at
sees_end K top white after named w k = record {
  token = ends (name_of top);
  rest = after;
  read = last_again (name_of top) white after named w;
  means = (refl, subst (λ (e : Element). K e after) (filled-nil top) k);
}

sees_comment : (K : Element → List ℕ → Type 0) (top : Element) (inside : List ℕ) (ps : List Piece) (white after : List ℕ) → IsName (name_of top) → IsTrue (lacks (codes "--") inside) → AllByRecursion (IsInElement Spells) ps → IsWhite white → K (filled top (comment inside ∷ ps)) after
    → SeesToken K top (followed top (comment inside ∷ ps) white after)
unfolding token_at
sees_comment K top inside ps white after named lacking all w k =
    let rest : List ℕ = followed top ps white after in
    let grouped : followed top (comment inside ∷ ps) white after ≡ (codes "<!--" ++ inside ++ codes "-->") ++ rest = append_assoc (codes "<!--" ++ inside ++ codes "-->") (flat_map spelling_of ps) (60 ∷ 47 ∷ (name_of top ++ (white ++ (62 ∷ after)))) in
    record {
      token = nothing;
      rest = rest;
      read = ap token_at grouped ∙ bind_at (after_comment ((codes "<!--" ++ inside ++ codes "-->") ++ rest)) (λ r. Some (nothing, r)) rest (comment_again inside rest lacking);
      means = record { pieces = ps; white = white; after = after; is_name = named; allowed = all; is_white = w; spelled = refl; goes_on = k };
    }

-- an element is neither a comment nor a last tag
element_token : (b rest : List ℕ) (c : ℕ) (cs : List ℕ) → b ≡ 60 ∷ c ∷ cs → begins_name c ≡ true → token_at (b ++ rest) ≡ first_at (b ++ rest)
unfolding token_at
element_token b rest c cs e h =
    let no_comment : eqb c 33 ≡ false = other c h in
    let no_end : eqb c 47 ≡ false = slash c h in
    ap (λ (t : List ℕ). token_at (t ++ rest)) e
    ∙ ap (λ (x : Bool). cond (is_some (cond x (after_mark (codes "--") (cs ++ rest)) None)) (after_comment (60 ∷ c ∷ (cs ++ rest)) >>= λ r. Some (nothing, r)) (cond (is_some (after_mark (codes "</") (60 ∷ c ∷ (cs ++ rest)))) (after_mark (codes "</") (60 ∷ c ∷ (cs ++ rest)) >>= last_at) (first_at (60 ∷ c ∷ (cs ++ rest))))) no_comment
    ∙ ap (λ (x : Bool). cond (is_some (cond x (Some (cs ++ rest)) None)) (cond x (Some (cs ++ rest)) None >>= last_at) (first_at (60 ∷ c ∷ (cs ++ rest)))) no_end
    ∙ ap (λ (t : List ℕ). first_at (t ++ rest)) (sym e)
  where
    other : (c : ℕ) → begins_name c ≡ true → eqb c 33 ≡ false
    other c h = grind (arith, nat_tests)

    slash : (c : ℕ) → begins_name c ≡ true → eqb c 47 ≡ false
    slash c h = grind (arith, nat_tests)

one_as_token : (K : Element → List ℕ → Type 0) (top : Element) (token : Token) (rest : List ℕ) → OneMeans (λ e after. Inside K (with_child top e) after) token rest → Means K top token rest
one_as_token K top nothing rest h = absurd h
one_as_token K top (stands name attributes) rest h = h
one_as_token K top (starts name attributes) rest h = h
one_as_token K top (ends name) rest h = absurd h

sees_element : (K : Element → List ℕ → Type 0) (top e : Element) (b : List ℕ) (ps : List Piece) (white after : List ℕ) → IsName (name_of top) → Spells e b → AllByRecursion (IsInElement Spells) ps → IsWhite white → K (filled top (element e b ∷ ps)) after
    → SeesToken K top (followed top (element e b ∷ ps) white after)
sees_element K top e b ps white after named spells all w k =
    let rest : List ℕ = followed top ps white after in
    let grouped : followed top (element e b ∷ ps) white after ≡ b ++ rest = append_assoc b (flat_map spelling_of ps) (60 ∷ 47 ∷ (name_of top ++ (white ++ (62 ∷ after)))) in
    let called = child_name top e in
    let inside : Inside K (with_child top e) rest = record {
      pieces = ps;
      white = white;
      after = after;
      is_name = subst IsName (sym called) named;
      allowed = all;
      is_white = w;
      spelled = ap (λ (n : List ℕ). flat_map spelling_of ps ++ (60 ∷ 47 ∷ (n ++ (white ++ (62 ∷ after))))) (sym called);
      goes_on = subst (λ (y : Element). K y after) (sym (filled_child top e b ps)) k;
    } in
    let seen = one_seen (λ d r. Inside K (with_child top d) r) e b rest spells inside in
    let begins = spells_begins e b spells in
    record {
      token = seen.0.0;
      rest = seen.0.1;
      read = ap token_at grouped ∙ element_token b rest begins.0 begins.1 begins.2 begins.3 ∙ seen.1;
      means = one_as_token K top seen.0.0 seen.0.1 seen.2;
    }

token_seen : (K : Element → List ℕ → Type 0) (top : Element) (bytes : List ℕ) → Inside K top bytes → Stops not_lt bytes → SeesToken K top bytes
token_seen K top bytes i stops = by_pieces i.pieces i.allowed i.spelled i.goes_on
  where
    not_own : (c : ℕ) (more : List ℕ) → bytes ≡ c ∷ more → not_lt c ≡ true → ⊥
    not_own c more e h = let no : not_lt c ≡ false = subst (Stops not_lt) e stops in false≢true (sym no ∙ h)

    own_not_lt : (c : ℕ) → is_own c ≡ true → not_lt c ≡ true
    own_not_lt c h = grind (arith, nat_tests)

    by_pieces : (ps : List Piece) → AllByRecursion (IsInElement Spells) ps → bytes ≡ followed top ps i.white i.after → K (filled top ps) i.after → SeesToken K top bytes
    by_pieces [] all e k = subst (SeesToken K top) (sym e) (sees_end K top i.white i.after i.is_name i.is_white k)
    by_pieces (own c ∷ ps) all e k = absurd (not_own c (followed top ps i.white i.after) e (own_not_lt c all.0))
    by_pieces (reference name ∷ ps) all e k = absurd (not_own 38 (((name ++ codes ";") ++ flat_map spelling_of ps) ++ (60 ∷ 47 ∷ (name_of top ++ (i.white ++ (62 ∷ i.after))))) e refl)
    by_pieces (comment inside ∷ ps) all e k = subst (SeesToken K top) (sym e) (sees_comment K top inside ps i.white i.after i.is_name all.0 all.1 i.is_white k)
    by_pieces (element d b ∷ ps) all e k = subst (SeesToken K top) (sym e) (sees_element K top d b ps i.white i.after i.is_name all.0 all.1 i.is_white k)

-- an element inside, and what follows it
inside_element : (K : Element → List ℕ → Type 0) (top e : Element) (b bytes rest : List ℕ) → Spells e b → bytes ≡ b ++ rest → Inside K (with_child top e) rest → Inside K top bytes
inside_element K top e b bytes rest spells parts i =
    let called = child_name top e in
    record {
      pieces = element e b ∷ i.pieces;
      white = i.white;
      after = i.after;
      is_name = subst IsName called i.is_name;
      allowed = (spells, i.allowed);
      is_white = i.is_white;
      spelled = parts ∙ ap (λ (r : List ℕ). b ++ r) (i.spelled ∙ ap (λ (n : List ℕ). flat_map spelling_of i.pieces ++ (60 ∷ 47 ∷ (n ++ (i.white ++ (62 ∷ i.after))))) called)
          ∙ sym (append_assoc b (flat_map spelling_of i.pieces) (60 ∷ 47 ∷ (name_of top ++ (i.white ++ (62 ∷ i.after)))));
      goes_on = subst (λ (y : Element). K y i.after) (filled_child top e b i.pieces) i.goes_on;
    }

token_as_one : (K : Element → List ℕ → Type 0) (top : Element) (bytes : List ℕ) (token : Token) (rest : List ℕ) → first_at bytes ≡ Some (token, rest) → Means K top token rest → MeansOne (λ e after. Inside K (with_child top e) after) bytes
token_as_one K top bytes nothing rest e m = absurd (one_takes bytes (nothing, rest) e)
token_as_one K top bytes (stands name attributes) rest e m = one_means (λ d after. Inside K (with_child top d) after) bytes (stands name attributes, rest) e m
token_as_one K top bytes (starts name attributes) rest e m = one_means (λ d after. Inside K (with_child top d) after) bytes (starts name attributes, rest) e m
token_as_one K top bytes (ends name) rest e m = absurd (one_takes bytes (ends name, rest) e)

token_means : (K : Element → List ℕ → Type 0) (top : Element) (bytes : List ℕ) (x : Token × List ℕ) → token_at bytes ≡ Some x → Means K top x.0 x.1 → Inside K top bytes
unfolding token_at
token_means K top bytes x e m =
    elim (chosen (is_some (after_mark (codes "<!--") bytes)) (after_comment bytes >>= λ rest. Some (nothing, rest)) (cond (is_some (after_mark (codes "</") bytes)) (after_mark (codes "</") bytes >>= last_at) (first_at bytes)) (Some x) e) [
      | inl w ↦
          let a = bind_some (after_comment bytes) (λ rest. Some (nothing, rest)) x w.1 in
          let t = comment_takes bytes a.0 a.1 in
          let made : Token × List ℕ = (nothing, a.0) in
          let i : Inside K top a.0 = subst (λ (y : Token × List ℕ). Means K top y.0 y.1) (sym (same_Some made x a.2)) m in
          record {
            pieces = comment t.inside ∷ i.pieces;
            white = i.white;
            after = i.after;
            is_name = i.is_name;
            allowed = (t.lacking, i.allowed);
            is_white = i.is_white;
            spelled = t.parts ∙ ap (λ (r : List ℕ). (codes "<!--" ++ t.inside ++ codes "-->") ++ r) i.spelled
                ∙ sym (append_assoc (codes "<!--" ++ t.inside ++ codes "-->") (flat_map spelling_of i.pieces) (60 ∷ 47 ∷ (name_of top ++ (i.white ++ (62 ∷ i.after)))));
            goes_on = i.goes_on;
          }
      | inr v ↦
          elim (chosen (is_some (after_mark (codes "</") bytes)) (after_mark (codes "</") bytes >>= last_at) (first_at bytes) (Some x) v.1) [
            | inl w ↦
                let a = bind_some (after_mark (codes "</") bytes) last_at x w.1 in
                let t = last_takes a.0 x a.2 in
                let k : (t.name ≡ name_of top) × K top x.1 = subst (λ (y : Token). Means K top y x.1) t.is m in
                record {
                  pieces = [];
                  white = t.white;
                  after = x.1;
                  is_name = subst IsName k.0 t.is_name;
                  allowed = tt;
                  is_white = t.is_white;
                  spelled = after_mark_takes (codes "</") bytes a.0 a.1 ∙ ap (λ (r : List ℕ). 60 ∷ 47 ∷ r) (t.parts ∙ ap (λ (n : List ℕ). n ++ (t.white ++ (62 ∷ x.1))) k.0);
                  goes_on = subst (λ (y : Element). K y x.1) (sym (filled-nil top)) k.1;
                }
            | inr w ↦
                let o = token_as_one K top bytes x.0 x.1 w.1 m in
                inside_element K top o.e o.text bytes o.rest o.spells o.parts o.goes_on
          ]
    ]

-- pieces of characters and references in front, and the rest, which begins with `<`
record Splits (ps : List Piece) : Type 0 where
  raws : List Piece
  others : List Piece
  whole : ps ≡ raws ++ others
  are_raw : AllByRecursion (IsRaw not_lt) raws
  allowed : AllByRecursion (IsInElement Spells) others
  stops : (more : List ℕ) → Stops not_lt (flat_map spelling_of others ++ (60 ∷ more))

own_raw : (c : ℕ) → is_own c ≡ true → (not_lt c ≡ true) × (not (eqb c 38) ≡ true)
own_raw c h = apart (eqb c 60) (eqb c 38) h
  where
    apart : (a b : Bool) → not (a || b) ≡ true → (not a ≡ true) × (not b ≡ true)
    apart true b h = absurd cc
    apart false true h = absurd cc
    apart false false h = (refl, refl)

split_pieces : (ps : List Piece) → AllByRecursion (IsInElement Spells) ps → Splits ps
split_pieces [] all = record { raws = []; others = []; whole = refl; are_raw = tt; allowed = tt; stops = λ more. refl }
split_pieces (own c ∷ ps) all =
    let s = split_pieces ps all.1 in
    record { raws = own c ∷ s.raws; others = s.others; whole = ap (λ (x : List Piece). own c ∷ x) s.whole; are_raw = (own_raw c all.0, s.are_raw); allowed = s.allowed; stops = s.stops }
split_pieces (reference name ∷ ps) all =
    let s = split_pieces ps all.1 in
    record { raws = reference name ∷ s.raws; others = s.others; whole = ap (λ (x : List Piece). reference name ∷ x) s.whole; are_raw = (all.0, s.are_raw); allowed = s.allowed; stops = s.stops }
split_pieces (comment inside ∷ ps) all = record { raws = []; others = comment inside ∷ ps; whole = refl; are_raw = tt; allowed = all; stops = λ more. refl }
split_pieces (element e b ∷ ps) all = record { raws = []; others = element e b ∷ ps; whole = refl; are_raw = tt; allowed = all; stops = λ more. element_stops more (spells_begins e b all.0) }
  where
    element_stops : (more : List ℕ) → ((c : ℕ) × (cs : List ℕ) × (b ≡ 60 ∷ c ∷ cs) × (begins_name c ≡ true)) → Stops not_lt ((b ++ flat_map spelling_of ps) ++ (60 ∷ more))
    element_stops more o = subst (λ (t : List ℕ). Stops not_lt ((t ++ flat_map spelling_of ps) ++ (60 ∷ more))) (sym o.2) refl

no_elements : (p : ℕ → Bool) (raws : List Piece) → AllByRecursion (IsRaw p) raws → flat_map elements_of raws ≡ []
no_elements p [] all = refl
no_elements p (own c ∷ raws) all = no_elements p raws all.1
no_elements p (reference name ∷ raws) all = no_elements p raws all.1
no_elements p (comment inside ∷ raws) all = absurd all.0
no_elements p (element e b ∷ raws) all = absurd all.0

not_lt_name : (c : ℕ) → is_reference c ≡ true → not_lt c ≡ true
not_lt_name c h = grind (arith, nat_tests)

raw_inside : (p : Piece) → IsRaw not_lt p → IsInElement Spells p
raw_inside (own c) h = together (eqb c 60) (eqb c 38) h.0 h.1
  where
    together : (a b : Bool) → not a ≡ true → not b ≡ true → not (a || b) ≡ true
    together true b h k = absurd cc
    together false true h k = absurd cc
    together false false h k = refl
raw_inside (reference name) h = h
raw_inside (comment inside) h = absurd h
raw_inside (element e b) h = absurd h

-- characters were read, and what stands behind them
record SeesCharacters (K : Element → List ℕ → Type 0) (top : Element) (bytes : List ℕ) : Type 0 where
  text : List ℕ
  said : said_of (front_of not_lt bytes) ≡ Some text
  stops : Stops not_lt (rest_of not_lt bytes)
  inside : Inside K (with_text top text) (rest_of not_lt bytes)

characters_seen : (K : Element → List ℕ → Type 0) (top : Element) (bytes : List ℕ) → Inside K top bytes → SeesCharacters K top bytes
unfolding said_of
characters_seen K top bytes i =
    let s = split_pieces i.pieces i.allowed in
    let raw = flat_map spelling_of s.raws in
    let text = flat_map characters_of s.raws in
    let more : List ℕ = 47 ∷ (name_of top ++ (i.white ++ (62 ∷ i.after))) in
    let behind : List ℕ = flat_map spelling_of s.others ++ (60 ∷ more) in
    let parts : bytes ≡ raw ++ behind =
    i.spelled ∙ ap (λ (ps : List Piece). flat_map spelling_of ps ++ (60 ∷ more)) s.whole ∙ ap (λ (t : List ℕ). t ++ (60 ∷ more)) (flat_map-append spelling_of s.raws s.others) ∙ append_assoc raw (flat_map spelling_of s.others) (60 ∷ more) in
    let pass = raw_passes not_lt s.raws not_lt_name refl refl s.are_raw in
    let front : front_of not_lt bytes ≡ raw = ap (front_of not_lt) parts ∙ front_again not_lt raw behind pass (s.stops more) in
    let rest : rest_of not_lt bytes ≡ behind = ap (rest_of not_lt) parts ∙ rest_again not_lt raw behind pass (s.stops more) in
    let called = text_name top text in
    record {
      text = text;
      said = ap said_of front ∙ said_again not_lt s.raws (suc (length raw)) s.are_raw (omega arith);
      stops = subst (Stops not_lt) (sym rest) (s.stops more);
      inside = subst (Inside K (with_text top text)) (sym rest) (record {
        pieces = s.others;
        white = i.white;
        after = i.after;
        is_name = subst IsName (sym called) i.is_name;
        allowed = s.allowed;
        is_white = i.is_white;
        spelled = ap (λ (n : List ℕ). flat_map spelling_of s.others ++ (60 ∷ 47 ∷ (n ++ (i.white ++ (62 ∷ i.after))))) (sym called);
        goes_on = subst (λ (y : Element). K y i.after) (ap (filled top) s.whole ∙ sym (filled_text top s.raws s.others (no_elements not_lt s.raws s.are_raw))) i.goes_on;
      });
    }

characters_mean : (K : Element → List ℕ → Type 0) (top : Element) (bytes text : List ℕ) → said_of (front_of not_lt bytes) ≡ Some text → Inside K (with_text top text) (rest_of not_lt bytes) → Inside K top bytes
unfolding said_of
characters_mean K top bytes text e i =
    let raw = front_of not_lt bytes in
    let m = said_takes not_lt (suc (length raw)) raw text e (front_all not_lt bytes) in
    let called = text_name top text in
    let raws = m.pieces in
    let last : List ℕ = 60 ∷ 47 ∷ (name_of top ++ (i.white ++ (62 ∷ i.after))) in
    let rest : rest_of not_lt bytes ≡ flat_map spelling_of i.pieces ++ last = i.spelled ∙ ap (λ (n : List ℕ). flat_map spelling_of i.pieces ++ (60 ∷ 47 ∷ (n ++ (i.white ++ (62 ∷ i.after))))) called in
    record {
      pieces = raws ++ i.pieces;
      white = i.white;
      after = i.after;
      is_name = subst IsName called i.is_name;
      allowed = all_append (IsInElement Spells) raws i.pieces (all_weaker (IsRaw not_lt) (IsInElement Spells) raw_inside raws m.allowed) i.allowed;
      is_white = i.is_white;
      spelled = sym (front_rest not_lt bytes) ∙ ap (λ (r : List ℕ). raw ++ r) rest ∙ sym (append_assoc raw (flat_map spelling_of i.pieces) last) ∙ ap (λ (t : List ℕ). (t ++ flat_map spelling_of i.pieces) ++ last) m.spelled
          ∙ ap (λ (t : List ℕ). t ++ last) (sym (flat_map-append spelling_of raws i.pieces));
      goes_on = subst (λ (y : Element). K y i.after) (ap (λ (t : List ℕ). filled (with_text top t) i.pieces) m.characters_are ∙ filled_text top raws i.pieces (sym m.elements_are)) i.goes_on;
    }

-- characters and a token were read
pub record SeesEvent (K : Element → List ℕ → Type 0) (top : Element) (bytes : List ℕ) : Type 0 where
  pub text : List ℕ
  pub token : Token
  pub rest : List ℕ
  pub read : event_at bytes ≡ Some (text, token, rest)
  pub means : Means K (with_text top text) token rest

pub event_seen : (K : Element → List ℕ → Type 0) (top : Element) (bytes : List ℕ) → Inside K top bytes → SeesEvent K top bytes
unfolding event_at
event_seen K top bytes i =
    let c = characters_seen K top bytes i in
    let t = token_seen K (with_text top c.text) (rest_of not_lt bytes) c.inside c.stops in
    record {
      text = c.text;
      token = t.token;
      rest = t.rest;
      read = bind_at (said_of (front_of not_lt bytes)) (λ text. token_at (rest_of not_lt bytes) >>= λ found. Some (text, found.0, found.1)) c.text c.said
          ∙ bind_at (token_at (rest_of not_lt bytes)) (λ found. Some (c.text, found.0, found.1)) (t.token, t.rest) t.read;
      means = t.means;
    }

pub event_means : (K : Element → List ℕ → Type 0) (top : Element) (bytes : List ℕ) (x : List ℕ × Token × List ℕ) → event_at bytes ≡ Some x → Means K (with_text top x.0) x.1 x.2 → Inside K top bytes
unfolding event_at
event_means K top bytes x e m =
    let a = bind_some (said_of (front_of not_lt bytes)) (λ text. token_at (rest_of not_lt bytes) >>= λ found. Some (text, found.0, found.1)) x e in
    let b = bind_some (token_at (rest_of not_lt bytes)) (λ found. Some (a.0, found.0, found.1)) x a.2 in
    let made : List ℕ × Token × List ℕ = (a.0, b.0.0, b.0.1) in
    let moved = subst (λ (y : List ℕ × Token × List ℕ). Means K (with_text top y.0) y.1 y.2) (sym (same_Some made x b.2)) m in
    characters_mean K top bytes a.0 a.1 (token_means K (with_text top a.0) (rest_of not_lt bytes) b.0 b.1 moved)

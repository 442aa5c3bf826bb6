-- The whole text: what stands before and after its first element.
use Rattle.std.proofs.Common.{◌≡◌, ℕ, zero, suc, ◌<◌, Bool, true, false, cond, eqb, List, [], ◌∷◌, ◌++◌, length, Option, Some, None, refl, sym, ap, subst, ◌∙◌, append_assoc, arith, inl, inr, ◌⊎◌}
use Rattle.std.specs.Prelude.{codes}
use Rattle.std.specs.List.{flat_map, AllByRecursion}
use Rattle.std.specs.Str.{IsUtf8, bytes_eq}
use Rattle.std.proofs.lemmas.Bool.{cond-true}
use Rattle.std.proofs.lemmas.Bool.Decides.{nat_tests}
use Rattle.std.proofs.lemmas.List.{append-nil, length-append}
use Rattle.std.proofs.lemmas.Grind.{flat_map-append}
use Rattle.std.proofs.lemmas.Option.{same_Some}
use Rattle.lg_circ.specs.declared.element.Element.{Element}
use Rattle.lg_circ.specs.Tree.{name_of, attributes_of, text_of, children_of}
use Rattle.lg_circ.specs.Grammar.{begins_name, is_white, IsWhite, Piece, own, reference, comment, element, characters_of, elements_of, spelling_of, IsAround, Spells, IsMisc, IsMark, IsDeclaration, SpellsText}
use Rattle.lg_circ.specs.Meaning.{◌>>=◌}
use Rattle.lg_circ.specs.Reading.{begins, front_of, rest_of, after_mark, either, after_first, after_comment, on_after, after_misc, after_declaration, after_byte_mark, after_prolog, Token, nothing, stands, starts, ends, first_at, name_said, root_at, bare}
use Rattle.lg_circ.specs.Grown.{Closed}
use Rattle.lg_circ.proofs.Marks.{bind_some, guard_some, none_from, after_mark_takes, same_bytes, bytes_same}
use Rattle.lg_circ.proofs.Pieces.{bind_at, Stops, front_rest, front_all, rest_again}
use Rattle.lg_circ.proofs.First.{comment_takes, comment_again, declaration_takes, declaration_again}
use Rattle.lg_circ.proofs.Made.{all_append, made_own}
use Rattle.lg_circ.proofs.Elements.{OneMeans, one_seen, one_means, spells_begins}
use Rattle.lg_circ.proofs.Parts.{name_made}

-- no white space and no comment stands here
pub record NoMisc (bytes : List ℕ) : Type 0 where
  pub no_white : Stops is_white bytes
  pub no_comment : after_comment bytes ≡ None

no_mark : (mark bytes : List ℕ) → ((rest : List ℕ) → bytes ≡ mark ++ rest → ⊥) → after_mark mark bytes ≡ None
no_mark mark bytes h = none_from (after_mark mark bytes) (λ rest e. h rest (after_mark_takes mark bytes rest e))

bind_none : {A B : Type 0} (o : Option A) (f : A → Option B) → o ≡ None → (o >>= f) ≡ None
bind_none o f e = ap (λ (p : Option _). p >>= f) e

nothing_left : NoMisc []
unfolding after_comment
nothing_left = record { no_white = tt; no_comment = refl }

comment_white : (inside rest : List ℕ) → Stops is_white ((codes "<!--" ++ inside ++ codes "-->") ++ rest)
comment_white inside rest = refl

misc_step : (n : ℕ) (bytes rest : List ℕ) → Stops is_white bytes → after_comment bytes ≡ Some rest → after_misc (suc n) bytes ≡ after_misc n rest
unfolding after_misc
misc_step n bytes rest stops e =
    let stays : rest_of is_white bytes ≡ bytes = rest_again is_white [] bytes refl stops in
    ap (λ (t : List ℕ). on_after (after_comment t) (after_misc n) t) stays ∙ ap (λ (o : Option (List ℕ)). on_after o (after_misc n) bytes) e

white_step : (n c : ℕ) (bytes : List ℕ) → is_white c ≡ true → after_misc (suc n) (c ∷ bytes) ≡ after_misc (suc n) bytes
unfolding after_misc
white_step n c bytes e = ap (λ (t : List ℕ). on_after (after_comment t) (after_misc n) t) (cond-true (is_white c) (rest_of is_white bytes) (c ∷ bytes) e)

pub misc_again : (n : ℕ) (ps : List Piece) (rest : List ℕ) → AllByRecursion IsAround ps → NoMisc rest → length (flat_map spelling_of ps) < n → after_misc n (flat_map spelling_of ps ++ rest) ≡ rest
unfolding after_misc
misc_again zero ps rest all stop lt = absurd (omega (arith, lt))
misc_again (suc n) [] rest all stop lt =
    let stays : rest_of is_white rest ≡ rest = rest_again is_white [] rest refl stop.no_white in
    ap (λ (t : List ℕ). on_after (after_comment t) (after_misc n) t) stays ∙ ap (λ (o : Option (List ℕ)). on_after o (after_misc n) rest) stop.no_comment
misc_again (suc n) (own c ∷ ps) rest all stop lt = white_step n c (flat_map spelling_of ps ++ rest) all.0 ∙ misc_again (suc n) ps rest all.1 stop (omega (arith, lt))
misc_again (suc n) (reference name ∷ ps) rest all stop lt = absurd all.0
misc_again (suc n) (element e b ∷ ps) rest all stop lt = absurd all.0
misc_again (suc n) (comment inside ∷ ps) rest all stop lt =
    let text : List ℕ = codes "<!--" ++ inside ++ codes "-->" in
    let more : List ℕ = flat_map spelling_of ps ++ rest in
    let long = length-append (inside ++ codes "-->") (flat_map spelling_of ps) in
    ap (after_misc (suc n)) (append_assoc text (flat_map spelling_of ps) rest)
    ∙ misc_step n (text ++ more) more refl (comment_again inside more all.0)
    ∙ misc_again n ps rest all.1 stop (omega (arith, lt, long))

-- white space and comments were read
pub record TakesMisc (bytes rest : List ℕ) : Type 0 where
  pub text : List ℕ
  pub is_misc : IsMisc text
  pub parts : bytes ≡ text ++ rest

misc_join : (a b : List ℕ) → IsMisc a → IsMisc b → IsMisc (a ++ b)
misc_join a b m n = (
  m.0 ++ n.0,
  all_append IsAround m.0 n.0 m.1 n.1,
  ap (λ (t : List ℕ). t ++ b) m.2 ∙ ap (λ (t : List ℕ). flat_map spelling_of m.0 ++ t) n.2 ∙ sym (flat_map-append spelling_of m.0 n.0),
)

misc_white : (white : List ℕ) → IsWhite white → IsMisc white
misc_white white w = let m = made_own IsAround is_white (λ c h. h) white w in (m.pieces, m.allowed, m.spelled)

pub misc_takes : (n : ℕ) (bytes : List ℕ) → TakesMisc bytes (after_misc n bytes)
unfolding after_misc
misc_takes zero bytes = record { text = []; is_misc = ([], tt, refl); parts = refl }
misc_takes (suc n) bytes = by_comment (λ r. misc_takes n r) (after_comment (rest_of is_white bytes)) refl
  where
    by_comment : ((r : List ℕ) → TakesMisc r (after_misc n r)) → (o : Option (List ℕ)) → after_comment (rest_of is_white bytes) ≡ o → TakesMisc bytes (on_after o (after_misc n) (rest_of is_white bytes))
    by_comment later None e = record { text = front_of is_white bytes; is_misc = misc_white (front_of is_white bytes) (front_all is_white bytes); parts = sym (front_rest is_white bytes) }
    by_comment later (Some after) e =
        let white = front_of is_white bytes in
        let c = comment_takes (rest_of is_white bytes) after e in
        let m = later after in
        let text : List ℕ = codes "<!--" ++ c.inside ++ codes "-->" in
        record {
          text = white ++ (text ++ m.text);
          is_misc = misc_join white (text ++ m.text) (misc_white white (front_all is_white bytes)) (misc_join text m.text (comment c.inside ∷ [], (c.lacking, tt), sym (append-nil text)) m.is_misc);
          parts = sym (front_rest is_white bytes) ∙ ap (λ (r : List ℕ). white ++ r) (c.parts ∙ ap (λ (r : List ℕ). text ++ r) m.parts ∙ sym (append_assoc text m.text (after_misc n after)))
              ∙ sym (append_assoc white (text ++ m.text) (after_misc n after));
        }

-- white space and comments alone
pub misc_all : (bytes : List ℕ) → IsMisc bytes → after_misc (suc (length bytes)) bytes ≡ []
misc_all bytes m =
    let whole : bytes ≡ flat_map spelling_of m.0 ++ [] = m.2 ∙ sym (append-nil (flat_map spelling_of m.0)) in
    let long : length bytes ≡ length (flat_map spelling_of m.0) = ap (λ (t : List ℕ). length t) m.2 in
    ap (after_misc (suc (length bytes))) whole ∙ misc_again (suc (length bytes)) m.0 [] m.1 nothing_left (omega (arith, long))

pub all_misc : (bytes : List ℕ) → after_misc (suc (length bytes)) bytes ≡ [] → IsMisc bytes
all_misc bytes e =
    let t = misc_takes (suc (length bytes)) bytes in
    subst IsMisc (sym (t.parts ∙ ap (λ (r : List ℕ). t.text ++ r) e ∙ append-nil t.text)) t.is_misc

-- an element begins with no white space, and is no comment, no declaration and no mark
record IsOpened (bytes : List ℕ) : Type 0 where
  c : ℕ
  cs : List ℕ
  is : bytes ≡ 60 ∷ c ∷ cs
  named : begins_name c ≡ true

opened_no_misc : (bytes : List ℕ) → IsOpened bytes → NoMisc bytes
unfolding after_comment
opened_no_misc bytes o = record {
  no_white = subst (Stops is_white) (sym o.is) refl;
  no_comment = ap after_comment o.is ∙ ap (λ (b : Bool). cond b (after_mark (codes "--") o.cs) None >>= λ start. after_first (codes "--") start >>= λ end. either (after_mark (codes ">") end) (after_mark (codes "->") end)) (other o.c o.named);
}
  where
    other : (c : ℕ) → begins_name c ≡ true → eqb c 33 ≡ false
    other c h = grind (arith, nat_tests)

-- a text that begins with `<` and with no `?` behind it, or with white space, has no declaration in front
abbrev NoQuestion : List ℕ → Type 0
NoQuestion [] = Unit {0}
NoQuestion (c ∷ []) = Unit {0}
NoQuestion (c ∷ d ∷ ds) = (eqb c 60 ≡ false) ⊎ (eqb d 63 ≡ false)

no_declaration : (bytes : List ℕ) → NoQuestion bytes → after_declaration bytes ≡ None
unfolding after_declaration
no_declaration [] h = refl
no_declaration (c ∷ []) h = bind_none (after_mark (codes "<?xml") (c ∷ [])) (λ start. cond (begins is_white start) (after_first (codes "?>") start) None) (one (eqb c 60))
  where
    one : (b : Bool) → cond b (after_mark (codes "?xml") []) None ≡ None
    one true = refl
    one false = refl
no_declaration (c ∷ d ∷ ds) h = bind_none (after_mark (codes "<?xml") (c ∷ d ∷ ds)) (λ start. cond (begins is_white start) (after_first (codes "?>") start) None) (two (eqb c 60) (eqb d 63) h)
  where
    two : (a b : Bool) → (a ≡ false) ⊎ (b ≡ false) → cond a (cond b (after_mark (codes "xml") ds) None) None ≡ None
    two true true h = absurd (elim h [ inl e ↦ cc | inr e ↦ cc ])
    two true false h = refl
    two false b h = refl

-- what stands in front of an element, with it
misc_no_question : (ps : List Piece) (rest : List ℕ) → AllByRecursion IsAround ps → IsOpened rest → NoQuestion (flat_map spelling_of ps ++ rest)
misc_no_question [] rest all o = subst NoQuestion (sym o.is) (inr (other o.c o.named))
  where
    other : (c : ℕ) → begins_name c ≡ true → eqb c 63 ≡ false
    other c h = grind (arith, nat_tests)
misc_no_question (own c ∷ ps) rest all o = white_no_question c (flat_map spelling_of ps ++ rest) (other c all.0)
  where
    other : (c : ℕ) → is_white c ≡ true → eqb c 60 ≡ false
    other c h = grind (arith, nat_tests)

    white_no_question : (c : ℕ) (bytes : List ℕ) → eqb c 60 ≡ false → NoQuestion (c ∷ bytes)
    white_no_question c [] h = tt
    white_no_question c (d ∷ ds) h = inl h
misc_no_question (comment inside ∷ ps) rest all o = inr refl
misc_no_question (reference name ∷ ps) rest all o = absurd all.0
misc_no_question (element e b ∷ ps) rest all o = absurd all.0

-- no mark of the order of bytes begins these
abbrev NoByteMark : List ℕ → Type 0
NoByteMark [] = Unit {0}
NoByteMark (c ∷ cs) = eqb c 239 ≡ false

no_byte_mark : (bytes : List ℕ) → NoByteMark bytes → after_byte_mark bytes ≡ bytes
no_byte_mark [] h = refl
no_byte_mark (c ∷ cs) h = ap (λ (b : Bool). on_after (cond b (after_mark (187 ∷ 191 ∷ []) cs) None) (λ after. after) (c ∷ cs)) h

misc_no_mark : (ps : List Piece) (rest : List ℕ) → AllByRecursion IsAround ps → IsOpened rest → NoByteMark (flat_map spelling_of ps ++ rest)
misc_no_mark [] rest all o = subst NoByteMark (sym o.is) refl
misc_no_mark (own c ∷ ps) rest all o = other c all.0
  where
    other : (c : ℕ) → is_white c ≡ true → eqb c 239 ≡ false
    other c h = grind (arith, nat_tests)
misc_no_mark (comment inside ∷ ps) rest all o = refl
misc_no_mark (reference name ∷ ps) rest all o = absurd all.0
misc_no_mark (element e b ∷ ps) rest all o = absurd all.0

-- behind a mark, a declaration, white space and comments
prolog_behind : (bytes start rest : List ℕ) → after_byte_mark bytes ≡ start → on_after (after_declaration start) (λ after. after) start ≡ rest → after_prolog bytes ≡ after_misc (suc (length rest)) rest
unfolding after_prolog
prolog_behind bytes start rest e k =
    ap (λ (s : List ℕ). let r = on_after (after_declaration s) (λ after. after) s in after_misc (suc (length r)) r) e ∙ ap (λ (r : List ℕ). after_misc (suc (length r)) r) k

misc_behind : (before rest : List ℕ) → IsMisc before → IsOpened rest → after_misc (suc (length (before ++ rest))) (before ++ rest) ≡ rest
misc_behind before rest m o =
    let long = length-append before rest in
    let same : length before ≡ length (flat_map spelling_of m.0) = ap (λ (t : List ℕ). length t) m.2 in
    ap (λ (t : List ℕ). after_misc (suc (length (before ++ rest))) (t ++ rest)) m.2 ∙ misc_again (suc (length (before ++ rest))) m.0 rest m.1 (opened_no_misc rest o) (omega (arith, long, same))

declaration_behind : (declaration before rest : List ℕ) → IsDeclaration declaration → IsMisc before → IsOpened rest → on_after (after_declaration (declaration ++ (before ++ rest))) (λ after. after) (declaration ++ (before ++ rest)) ≡ before ++ rest
declaration_behind declaration before rest (inl e) m o =
    let none : after_declaration (before ++ rest) ≡ None = no_declaration (before ++ rest) (subst (λ (t : List ℕ). NoQuestion (t ++ rest)) (sym m.2) (misc_no_question m.0 rest m.1 o)) in
    ap (λ (d : List ℕ). on_after (after_declaration (d ++ (before ++ rest))) (λ after. after) (d ++ (before ++ rest))) e
    ∙ ap (λ (x : Option (List ℕ)). on_after x (λ after. after) (before ++ rest)) none
declaration_behind declaration before rest (inr d) m o =
    let tail : List ℕ = before ++ rest in
    ap (λ (t : List ℕ). on_after (after_declaration (t ++ tail)) (λ after. after) (t ++ tail)) d.4
    ∙ ap (λ (x : Option (List ℕ)). on_after x (λ after. after) ((codes "<?xml" ++ d.0 ++ d.1 ++ codes "?>") ++ tail)) (declaration_again d.0 d.1 tail d.2 d.3)

mark_behind : (mark declaration before rest : List ℕ) → IsMark mark → IsDeclaration declaration → IsMisc before → IsOpened rest → after_byte_mark (mark ++ (declaration ++ (before ++ rest))) ≡ declaration ++ (before ++ rest)
mark_behind mark declaration before rest (inr e) d m o = ap (λ (t : List ℕ). after_byte_mark (t ++ (declaration ++ (before ++ rest)))) e
mark_behind mark declaration before rest (inl e) (inr d) m o =
    ap (λ (t : List ℕ). after_byte_mark (t ++ (declaration ++ (before ++ rest)))) e ∙ ap (λ (t : List ℕ). after_byte_mark (t ++ (before ++ rest))) d.4 ∙ ap (λ (t : List ℕ). t ++ (before ++ rest)) (sym d.4)
mark_behind mark declaration before rest (inl e) (inl k) m o =
    ap (λ (t : List ℕ). after_byte_mark (t ++ (declaration ++ (before ++ rest)))) e ∙ ap (λ (t : List ℕ). after_byte_mark (t ++ (before ++ rest))) k
    ∙ no_byte_mark (before ++ rest) (subst (λ (t : List ℕ). NoByteMark (t ++ rest)) (sym m.2) (misc_no_mark m.0 rest m.1 o))
    ∙ ap (λ (t : List ℕ). t ++ (before ++ rest)) (sym k)

-- in a text that spells a tree the first element is found
prolog_again : (root : Element) (bytes : List ℕ) (s : SpellsText root bytes) → after_prolog bytes ≡ s.inside ++ s.after
prolog_again root bytes s =
    let rest : List ℕ = s.inside ++ s.after in
    let b = spells_begins root s.inside s.element in
    let o : IsOpened rest = record { c = b.0; cs = b.1 ++ s.after; is = ap (λ (t : List ℕ). t ++ s.after) b.2; named = b.3 } in
    let grouped : bytes ≡ s.mark ++ (s.declaration ++ (s.before ++ rest)) = s.spelled ∙ simp append_assoc in
    ap after_prolog grouped
    ∙ prolog_behind (s.mark ++ (s.declaration ++ (s.before ++ rest))) (s.declaration ++ (s.before ++ rest)) (s.before ++ rest) (mark_behind s.mark s.declaration s.before rest s.is_mark s.is_declaration s.misc_before o)
    (declaration_behind s.declaration s.before rest s.is_declaration s.misc_before o)
    ∙ misc_behind s.before rest s.misc_before o

-- what was read in front of the first element
record TakesProlog (bytes rest : List ℕ) : Type 0 where
  mark : List ℕ
  declaration : List ℕ
  before : List ℕ
  is_mark : IsMark mark
  is_declaration : IsDeclaration declaration
  is_misc : IsMisc before
  parts : bytes ≡ mark ++ (declaration ++ (before ++ rest))

mark_takes : (bytes : List ℕ) → (mark : List ℕ) × IsMark mark × (bytes ≡ mark ++ after_byte_mark bytes)
mark_takes bytes = by_mark (after_mark (239 ∷ 187 ∷ 191 ∷ []) bytes) refl
  where
    by_mark : (o : Option (List ℕ)) → after_mark (239 ∷ 187 ∷ 191 ∷ []) bytes ≡ o → (mark : List ℕ) × IsMark mark × (bytes ≡ mark ++ on_after o (λ after. after) bytes)
    by_mark None e = ([], inl refl, refl)
    by_mark (Some after) e = (239 ∷ 187 ∷ 191 ∷ [], inr refl, after_mark_takes (239 ∷ 187 ∷ 191 ∷ []) bytes after e)

declared_takes : (bytes : List ℕ) → (text : List ℕ) × IsDeclaration text × (bytes ≡ text ++ on_after (after_declaration bytes) (λ after. after) bytes)
declared_takes bytes = by_declaration (after_declaration bytes) refl
  where
    by_declaration : (o : Option (List ℕ)) → after_declaration bytes ≡ o → (text : List ℕ) × IsDeclaration text × (bytes ≡ text ++ on_after o (λ after. after) bytes)
    by_declaration None e = ([], inl refl, refl)
    by_declaration (Some after) e = declaration_takes bytes after e

prolog_takes : (bytes : List ℕ) → TakesProlog bytes (after_prolog bytes)
unfolding after_prolog
prolog_takes bytes =
    let m = mark_takes bytes in
    let start = after_byte_mark bytes in
    let d = declared_takes start in
    let rest = on_after (after_declaration start) (λ after. after) start in
    let t = misc_takes (suc (length rest)) rest in
    record {
      mark = m.0;
      declaration = d.0;
      before = t.text;
      is_mark = m.1;
      is_declaration = d.1;
      is_misc = t.is_misc;
      parts = m.2 ∙ ap (λ (r : List ℕ). m.0 ++ r) (d.2 ∙ ap (λ (r : List ℕ). d.0 ++ r) t.parts);
    }

-- the roots with which the first token of a text goes on
abbrev pub Root : Token → List ℕ → Element → Type 0
Root token rest root = OneMeans (Closed [] root) token rest

one_name : (root : Element) (token : Token) (rest : List ℕ) → Root token rest root → name_said token ≡ name_of root
one_name root nothing rest h = absurd h
one_name root (ends name) rest h = absurd h
one_name root (stands name attributes) rest h = sym (ap name_of h.0 ∙ name_made name attributes [] [])
one_name root (starts name attributes) rest i =
    let d = bare name attributes in
    sym (ap name_of i.goes_on.0 ∙ name_made (name_of d) (attributes_of d) (text_of d ++ flat_map characters_of i.pieces) (children_of d ++ flat_map elements_of i.pieces) ∙ name_made name attributes [] [])

abbrev checked : Token × List ℕ → Option (Token × List ℕ)
checked found = cond (bytes_eq (name_said found.0) (codes "project")) (Some found) None

pub record SeesRoot (root : Element) (bytes : List ℕ) : Type 0 where
  pub token : Token
  pub rest : List ℕ
  pub read : root_at bytes ≡ Some (token, rest)
  pub means : Root token rest root

pub root_seen : (root : Element) (bytes : List ℕ) → SpellsText root bytes → SeesRoot root bytes
unfolding root_at
root_seen root bytes s =
    let one = one_seen (Closed [] root) root s.inside s.after s.element (refl, s.misc_after) in
    let found = ap first_at (prolog_again root bytes s) ∙ one.1 in
    let named = bytes_same (name_said one.0.0) (codes "project") (one_name root one.0.0 one.0.1 one.2 ∙ s.is_project) in
    record {
      token = one.0.0;
      rest = one.0.1;
      read = bind_at (first_at (after_prolog bytes)) checked one.0 found ∙ cond-true (bytes_eq (name_said one.0.0) (codes "project")) (Some one.0) None named;
      means = one.2;
    }

pub root_means : (root : Element) (bytes : List ℕ) (x : Token × List ℕ) → IsUtf8 bytes → root_at bytes ≡ Some x → Root x.0 x.1 root → SpellsText root bytes
unfolding root_at
root_means root bytes x u e m =
    let a = bind_some (first_at (after_prolog bytes)) checked x e in
    let g = guard_some (bytes_eq (name_said a.0.0) (codes "project")) (Some a.0) x a.2 in
    let same : a.0 ≡ x = same_Some a.0 x g.1 in
    let mine : Root a.0.0 a.0.1 root = subst (λ (y : Token × List ℕ). Root y.0 y.1 root) (sym same) m in
    let o = one_means (Closed [] root) (after_prolog bytes) a.0 a.1 mine in
    let p = prolog_takes bytes in
    let is : root ≡ o.e = o.goes_on.0 in
    record {
      mark = p.mark;
      declaration = p.declaration;
      before = p.before;
      inside = o.text;
      after = o.rest;
      is_utf8 = u;
      is_mark = p.is_mark;
      is_declaration = p.is_declaration;
      misc_before = p.is_misc;
      element = subst (λ (y : Element). Spells y o.text) (sym is) o.spells;
      is_project = sym (one_name root a.0.0 a.0.1 mine) ∙ same_bytes (name_said a.0.0) (codes "project") g.0;
      misc_after = o.goes_on.1;
      spelled = p.parts ∙ ap (λ (r : List ℕ). p.mark ++ (p.declaration ++ (p.before ++ r))) o.parts ∙ sym (simp append_assoc);
    }

-- Values, attributes and tags: what was read is spelled so, and what is spelled so is read again.
use Rattle.std.proofs.Common.{◌≡◌, ℕ, zero, suc, ◌<◌, ◌≤◌, Bool, true, false, cond, eqb, ◌&&◌, List, [], ◌∷◌, ◌++◌, length, Option, Some, None, refl, sym, ap, subst, ◌∙◌, append_assoc, arith, inl, inr, ◌⊎◌}
use Rattle.std.specs.Prelude.{IsTrue, codes, is_some, not, ◌||◌}
use Rattle.std.specs.List.{list_all, flat_map, AllByRecursion}
use Rattle.std.proofs.lemmas.Bool.{and_parts, and_from, cond-true, cond-false}
use Rattle.std.proofs.lemmas.Bool.Decides.{nat_tests}
use Rattle.std.proofs.lemmas.List.{length-append}
use Rattle.std.proofs.lemmas.List.Folds.{list_all-append}
use Rattle.std.proofs.lemmas.Option.{same_Some}
use Rattle.lg_attrs.specs.Pairs.{names_differ}
use Rattle.lg_circ.specs.Grammar.{is_white, IsWhite, IsGap, continues_name, IsName, character_of, Piece, own, reference, comment, element, spelling_of, IsMadeOf, IsInValue, SpellsAttribute, SpellsAttributes}
use Rattle.lg_circ.specs.Meaning.{◌>>=◌}
use Rattle.lg_circ.specs.Reading.{ends_tag, is_quoted, is_reference, begins, front_of, rest_of, after_mark, either, after_gap, name_at, said_of, value_at, quoted_at, attribute_at, attributes_at, tag_at}
use Rattle.lg_circ.proofs.Marks.{bind_some, guard_some, after_mark_takes, after_mark_again}
use Rattle.lg_circ.proofs.Pieces.{bind_at, chosen, Stops, front_rest, front_all, front_again, rest_again, name_not_white, name_no_end, white_not_in_name, white_ends_name, end_ends_name, end_ends_white, name_takes, name_again, gap_takes, gap_again}
use Rattle.lg_circ.proofs.First.{either_cases}
use Rattle.lg_circ.proofs.Made.{made_weaker, all_weaker}
use Rattle.lg_circ.proofs.Said.{IsRaw, reference_plain, said_takes, said_again}

abbrev Pairs : Type 0
Pairs = List (List ℕ × List ℕ)

-- what is so of both quotes
record IsQuote (quote : ℕ) : Type 0 where
  either_one : (quote ≡ 34) ⊎ (quote ≡ 39)
  stops : is_quoted quote quote ≡ false
  names : (c : ℕ) → is_reference c ≡ true → is_quoted quote c ≡ true
  and_passes : is_quoted quote 38 ≡ true
  end_passes : is_quoted quote 59 ≡ true
  not_white : is_white quote ≡ false

double : IsQuote 34
double = record { either_one = inl refl; stops = refl; names = passes; and_passes = refl; end_passes = refl; not_white = refl }
  where
    passes : (c : ℕ) → is_reference c ≡ true → is_quoted 34 c ≡ true
    passes c h = grind (arith, nat_tests)

single : IsQuote 39
single = record { either_one = inr refl; stops = refl; names = passes; and_passes = refl; end_passes = refl; not_white = refl }
  where
    passes : (c : ℕ) → is_reference c ≡ true → is_quoted 39 c ≡ true
    passes c h = grind (arith, nat_tests)

quote_of : (quote : ℕ) → (quote ≡ 34) ⊎ (quote ≡ 39) → IsQuote quote
quote_of quote (inl e) = subst IsQuote (sym e) double
quote_of quote (inr e) = subst IsQuote (sym e) single

tests_joined : (a b q : Bool) → (not a && not q) ≡ true → not b ≡ true → (not (a || b) && not q) ≡ true
tests_joined true b q h k = absurd cc
tests_joined false true q h k = absurd cc
tests_joined false false q h k = h

tests_apart : (a b q : Bool) → (not (a || b) && not q) ≡ true → ((not a && not q) ≡ true) × (not b ≡ true)
tests_apart true b q h = absurd cc
tests_apart false true q h = absurd cc
tests_apart false false q h = (h, refl)

raw_value : (quote : ℕ) (p : Piece) → IsRaw (is_quoted quote) p → IsInValue quote p
raw_value quote (own c) h = tests_joined (eqb c 60) (eqb c 38) (eqb c quote) h.0 h.1
raw_value quote (reference name) h = h
raw_value quote (comment inside) h = h
raw_value quote (element e bytes) h = h

value_raw : (quote : ℕ) (p : Piece) → IsInValue quote p → IsRaw (is_quoted quote) p
value_raw quote (own c) h = tests_apart (eqb c 60) (eqb c 38) (eqb c quote) h
value_raw quote (reference name) h = h
value_raw quote (comment inside) h = h
value_raw quote (element e bytes) h = h

both_pass : (p : ℕ → Bool) (xs ys : List ℕ) → list_all p xs ≡ true → list_all p ys ≡ true → list_all p (xs ++ ys) ≡ true
both_pass p xs ys h k = list_all-append p xs ys ∙ and_from (list_all p xs) (list_all p ys) h k

all_pass : (p q : ℕ → Bool) → ((c : ℕ) → p c ≡ true → q c ≡ true) → (cs : List ℕ) → list_all p cs ≡ true → list_all q cs ≡ true
all_pass p q weaker [] all = refl
all_pass p q weaker (c ∷ cs) all = let b = and_parts (p c) (list_all p cs) all in and_from (q c) (list_all q cs) (weaker c b.0) (all_pass p q weaker cs b.1)

reference_passes : (p : ℕ → Bool) (name : List ℕ) → ((c : ℕ) → is_reference c ≡ true → p c ≡ true) → p 38 ≡ true → p 59 ≡ true → is_some (character_of name) ≡ true → list_all p (codes "&" ++ name ++ codes ";") ≡ true
reference_passes p name names first last h = by_name (character_of name) refl h
  where
    by_name : (o : Option ℕ) → character_of name ≡ o → is_some o ≡ true → list_all p (codes "&" ++ name ++ codes ";") ≡ true
    by_name None e k = absurd cc
    by_name (Some c) e k =
        both_pass p (codes "&" ++ name) (codes ";") (both_pass p (codes "&") name (and_from (p 38) true first refl) (all_pass is_reference p names name (reference_plain name c e))) (and_from (p 59) true last refl)

-- the bytes of pieces without `<`
pub raw_passes : (p : ℕ → Bool) (pieces : List Piece) → ((c : ℕ) → is_reference c ≡ true → p c ≡ true) → p 38 ≡ true → p 59 ≡ true → AllByRecursion (IsRaw p) pieces → list_all p (flat_map spelling_of pieces) ≡ true
raw_passes p [] names first last all = refl
raw_passes p (own c ∷ pieces) names first last all = and_from (p c) (list_all p (flat_map spelling_of pieces)) all.0.0 (raw_passes p pieces names first last all.1)
raw_passes p (reference name ∷ pieces) names first last all = both_pass p (codes "&" ++ name ++ codes ";") (flat_map spelling_of pieces) (reference_passes p name names first last all.0) (raw_passes p pieces names first last all.1)
raw_passes p (comment inside ∷ pieces) names first last all = absurd all.0
raw_passes p (element e bytes ∷ pieces) names first last all = absurd all.0

-- what was read of a value in quotes
record TakesValue (bytes value rest : List ℕ) : Type 0 where
  quote : ℕ
  inside : List ℕ
  is_quote : (quote ≡ 34) ⊎ (quote ≡ 39)
  says : IsMadeOf (IsInValue quote) value [] inside
  parts : bytes ≡ quote ∷ (inside ++ (quote ∷ rest))

value_takes : (quote : ℕ) → IsQuote quote → (bytes : List ℕ) (x : List ℕ × List ℕ) → value_at quote bytes ≡ Some x → TakesValue (quote ∷ bytes) x.0 x.1
unfolding value_at said_of
value_takes quote is bytes x e =
    let raw = front_of (is_quoted quote) bytes in
    let a = bind_some (after_mark (quote ∷ []) (rest_of (is_quoted quote) bytes)) (λ end. said_of raw >>= λ value. Some (value, end)) x e in
    let b = bind_some (said_of raw) (λ value. Some (value, a.0)) x a.2 in
    let made : List ℕ × List ℕ = (b.0, a.0) in
    let says = said_takes (is_quoted quote) (suc (length raw)) raw b.0 b.1 (front_all (is_quoted quote) bytes) in
    subst (λ (y : List ℕ × List ℕ). TakesValue (quote ∷ bytes) y.0 y.1) (same_Some made x b.2) (record {
      quote = quote;
      inside = raw;
      is_quote = is.either_one;
      says = made_weaker (IsRaw (is_quoted quote)) (IsInValue quote) b.0 [] raw (raw_value quote) says;
      parts = ap (λ (t : List ℕ). quote ∷ t) (sym (front_rest (is_quoted quote) bytes) ∙ ap (λ (r : List ℕ). raw ++ r) (after_mark_takes (quote ∷ []) (rest_of (is_quoted quote) bytes) a.0 a.1));
    })

value_again : (quote : ℕ) → IsQuote quote → (value inside rest : List ℕ) → IsMadeOf (IsInValue quote) value [] inside → value_at quote (inside ++ (quote ∷ rest)) ≡ Some (value, rest)
unfolding value_at said_of
value_again quote is value inside rest m =
    let text : List ℕ = inside ++ (quote ∷ rest) in
    let raws = all_weaker (IsInValue quote) (IsRaw (is_quoted quote)) (value_raw quote) m.pieces m.allowed in
    let pass : list_all (is_quoted quote) inside ≡ true = ap (λ (t : List ℕ). list_all (is_quoted quote) t) m.spelled ∙ raw_passes (is_quoted quote) m.pieces is.names is.and_passes is.end_passes raws in
    let front = front_again (is_quoted quote) inside (quote ∷ rest) pass is.stops in
    let behind = rest_again (is_quoted quote) inside (quote ∷ rest) pass is.stops in
    let said : said_of inside ≡ Some value =
    ap said_of m.spelled ∙ said_again (is_quoted quote) m.pieces (suc (length (flat_map spelling_of m.pieces))) raws (omega arith) ∙ ap (λ (t : List ℕ). Some t) (sym m.characters_are) in
    bind_at (after_mark (quote ∷ []) (rest_of (is_quoted quote) text)) (λ end. said_of (front_of (is_quoted quote) text) >>= λ v. Some (v, end)) rest (ap (after_mark (quote ∷ [])) behind ∙ after_mark_again (quote ∷ []) rest)
    ∙ bind_at (said_of (front_of (is_quoted quote) text)) (λ v. Some (v, rest)) value (ap said_of front ∙ said)

quoted_takes : (bytes : List ℕ) (x : List ℕ × List ℕ) → quoted_at bytes ≡ Some x → TakesValue bytes x.0 x.1
unfolding quoted_at
quoted_takes bytes x e =
    elim (either_cases (after_mark (codes "\"") bytes >>= value_at 34) (after_mark (codes "'") bytes >>= value_at 39) x e) [
      | inl w ↦
          let a = bind_some (after_mark (codes "\"") bytes) (value_at 34) x w in
          subst (λ (t : List ℕ). TakesValue t x.0 x.1) (sym (after_mark_takes (codes "\"") bytes a.0 a.1)) (value_takes 34 double a.0 x a.2)
      | inr w ↦
          let a = bind_some (after_mark (codes "'") bytes) (value_at 39) x w.1 in
          subst (λ (t : List ℕ). TakesValue t x.0 x.1) (sym (after_mark_takes (codes "'") bytes a.0 a.1)) (value_takes 39 single a.0 x a.2)
    ]

quoted_again : (quote : ℕ) (value inside rest : List ℕ) → (quote ≡ 34) ⊎ (quote ≡ 39) → IsMadeOf (IsInValue quote) value [] inside → quoted_at (quote ∷ (inside ++ (quote ∷ rest))) ≡ Some (value, rest)
unfolding quoted_at
quoted_again quote value inside rest (inl e) m =
    let there : quoted_at (34 ∷ (inside ++ (34 ∷ rest))) ≡ Some (value, rest) =
    ap (λ (o : Option (List ℕ × List ℕ)). either o (after_mark (codes "'") (34 ∷ (inside ++ (34 ∷ rest))) >>= value_at 39)) (value_again 34 double value inside rest (subst (λ (q : ℕ). IsMadeOf (IsInValue q) value [] inside) e m)) in
    ap (λ (q : ℕ). quoted_at (q ∷ (inside ++ (q ∷ rest)))) e ∙ there
quoted_again quote value inside rest (inr e) m =
    let there : quoted_at (39 ∷ (inside ++ (39 ∷ rest))) ≡ Some (value, rest) = value_again 39 single value inside rest (subst (λ (q : ℕ). IsMadeOf (IsInValue q) value [] inside) e m) in
    ap (λ (q : ℕ). quoted_at (q ∷ (inside ++ (q ∷ rest)))) e ∙ there

attribute_grouped : (gap name w1 w2 inside end : List ℕ) (q : ℕ) → (gap ++ name ++ w1 ++ codes "=" ++ w2 ++ q ∷ inside ++ q ∷ []) ++ end ≡ gap ++ (name ++ (w1 ++ (61 ∷ (w2 ++ (q ∷ (inside ++ (q ∷ end)))))))
attribute_grouped gap name w1 w2 inside end q = simp append_assoc

attribute_parts : (bytes gap start name r1 w1 r2 equals w2 r3 tail : List ℕ) → bytes ≡ gap ++ start → start ≡ name ++ r1 → w1 ++ r2 ≡ r1 → r2 ≡ 61 ∷ equals → w2 ++ r3 ≡ equals → r3 ≡ tail
    → bytes ≡ gap ++ (name ++ (w1 ++ (61 ∷ (w2 ++ tail))))
attribute_parts bytes gap start name r1 w1 r2 equals w2 r3 tail e0 e1 e2 e3 e4 e5 = cc

abbrev k3 : List ℕ → List ℕ → Option ((List ℕ × List ℕ) × List ℕ)
k3 name equals = quoted_at (rest_of is_white equals) >>= λ value. Some ((name, value.0), value.1)

abbrev k2 : List ℕ × List ℕ → Option ((List ℕ × List ℕ) × List ℕ)
k2 name = after_mark (codes "=") (rest_of is_white name.1) >>= λ equals. k3 name.0 equals

abbrev k1 : List ℕ → Option ((List ℕ × List ℕ) × List ℕ)
k1 start = name_at start >>= λ name. k2 name

pub attribute_takes : (bytes : List ℕ) (x : (List ℕ × List ℕ) × List ℕ) → attribute_at bytes ≡ Some x → (text : List ℕ) × SpellsAttribute x.0.0 x.0.1 text × (bytes ≡ text ++ x.1)
unfolding attribute_at
attribute_takes bytes x e =
    let a = bind_some (after_gap bytes) k1 x e in
    let b = bind_some (name_at a.0) k2 x a.2 in
    let c = bind_some (after_mark (codes "=") (rest_of is_white b.0.1)) (λ equals. k3 b.0.0 equals) x b.2 in
    let d = bind_some (quoted_at (rest_of is_white c.0)) (λ value. Some ((b.0.0, value.0), value.1)) x c.2 in
    let t0 = gap_takes bytes a.0 a.1 in
    let t1 = name_takes a.0 b.0 b.1 in
    let w1 = front_of is_white b.0.1 in
    let w2 = front_of is_white c.0 in
    let v = quoted_takes (rest_of is_white c.0) d.0 d.1 in
    let q = v.quote in
    let text = t0.0 ++ b.0.0 ++ w1 ++ codes "=" ++ w2 ++ q ∷ v.inside ++ q ∷ [] in
    let parts : bytes ≡ text ++ d.0.1 =
    attribute_parts bytes t0.0 a.0 b.0.0 b.0.1 w1 (rest_of is_white b.0.1) c.0 w2 (rest_of is_white c.0) (q ∷ (v.inside ++ (q ∷ d.0.1)))
    t0.2 t1.1 (front_rest is_white b.0.1) (after_mark_takes (codes "=") _ _ c.1) (front_rest is_white c.0) v.parts
    ∙ sym (attribute_grouped t0.0 b.0.0 w1 w2 v.inside d.0.1 q) in
    let spells : SpellsAttribute b.0.0 d.0.0 text = record {
      gap = t0.0;
      before_equals = w1;
      after_equals = w2;
      quote = q;
      inside = v.inside;
      is_gap = t0.1;
      is_name = t1.0;
      white_before = front_all is_white b.0.1;
      white_after = front_all is_white c.0;
      is_quote = v.is_quote;
      says = v.says;
      spelled = refl;
    } in
    let made : (List ℕ × List ℕ) × List ℕ = ((b.0.0, d.0.0), d.0.1) in
    subst (λ (y : (List ℕ × List ℕ) × List ℕ). (t : List ℕ) × SpellsAttribute y.0.0 y.0.1 t × (bytes ≡ t ++ y.1)) (same_Some made x d.2) (text, spells, parts)

-- how an attribute and what follows it stand in the text
pub attribute_at_front : (name value text rest : List ℕ) (s : SpellsAttribute name value text) → text ++ rest ≡ s.gap ++ (name ++ (s.before_equals ++ (61 ∷ (s.after_equals ++ (s.quote ∷ (s.inside ++ (s.quote ∷ rest)))))))
attribute_at_front name value text rest s = ap (λ (t : List ℕ). t ++ rest) s.spelled ∙ attribute_grouped s.gap name s.before_equals s.after_equals s.inside rest s.quote

pub attribute_again : (name value text rest : List ℕ) → SpellsAttribute name value text → attribute_at (text ++ rest) ≡ Some ((name, value), rest)
unfolding attribute_at
attribute_again name value text rest s =
    let r3 : List ℕ = s.quote ∷ (s.inside ++ (s.quote ∷ rest)) in
    let r2 : List ℕ = s.after_equals ++ r3 in
    let r1 : List ℕ = s.before_equals ++ (61 ∷ r2) in
    let not_white : Stops is_white r3 = (quote_of s.quote s.is_quote).not_white in
    ap attribute_at (attribute_at_front name value text rest s)
    ∙ bind_at (after_gap (s.gap ++ (name ++ r1))) k1 (name ++ r1) (gap_again s.gap (name ++ r1) s.is_gap (name_not_white name r1 s.is_name))
    ∙ bind_at (name_at (name ++ r1)) k2 (name, r1) (name_again name r1 s.is_name (white_ends_name s.before_equals (61 ∷ r2) s.white_before refl))
    ∙ bind_at (after_mark (codes "=") (rest_of is_white r1)) (λ equals. k3 name equals) r2 (ap (after_mark (codes "=")) (rest_again is_white s.before_equals (61 ∷ r2) s.white_before refl))
    ∙ bind_at (quoted_at (rest_of is_white r2)) (λ v. Some ((name, v.0), v.1)) (value, rest) (ap quoted_at (rest_again is_white s.after_equals r3 s.white_after not_white) ∙ quoted_again s.quote value s.inside rest s.is_quote s.says)

-- what was read of attributes
pub record TakesAttributes (bytes : List ℕ) (attributes : List (List ℕ × List ℕ)) (rest : List ℕ) : Type 0 where
  pub text : List ℕ
  pub white : List ℕ
  pub spells : SpellsAttributes attributes text
  pub is_white : IsWhite white
  pub parts : bytes ≡ text ++ (white ++ rest)
  pub ends : begins ends_tag rest ≡ true

pub attributes_takes : (n : ℕ) (bytes : List ℕ) (x : List (List ℕ × List ℕ) × List ℕ) → attributes_at n bytes ≡ Some x → TakesAttributes bytes x.0 x.1
unfolding attributes_at
attributes_takes zero bytes x e = absurd cc
attributes_takes (suc n) bytes x e =
    let more : Option (Pairs × List ℕ) = attribute_at bytes >>= λ first. attributes_at n first.1 >>= λ others. Some (first.0 ∷ others.0, others.1) in
    elim (chosen (begins ends_tag (rest_of is_white bytes)) (Some ([], rest_of is_white bytes)) more (Some x) e) [
      | inl w ↦
          let made : Pairs × List ℕ = ([], rest_of is_white bytes) in
          subst (λ (y : Pairs × List ℕ). TakesAttributes bytes y.0 y.1) (same_Some made x w.1)
          (record { text = []; white = front_of is_white bytes; spells = refl; is_white = front_all is_white bytes; parts = sym (front_rest is_white bytes); ends = w.0 })
      | inr w ↦
          let a = bind_some (attribute_at bytes) (λ first. attributes_at n first.1 >>= λ others. Some (first.0 ∷ others.0, others.1)) x w.1 in
          let b = bind_some (attributes_at n a.0.1) (λ others. Some (a.0.0 ∷ others.0, others.1)) x a.2 in
          let first = attribute_takes bytes a.0 a.1 in
          let others = attributes_takes n a.0.1 b.0 b.1 in
          let made : Pairs × List ℕ = (a.0.0 ∷ b.0.0, b.0.1) in
          subst (λ (y : Pairs × List ℕ). TakesAttributes bytes y.0 y.1) (same_Some made x b.2)
          (record {
            text = first.0 ++ others.text;
            white = others.white;
            spells = (first.0, others.text, first.1, others.spells, refl);
            is_white = others.is_white;
            parts = first.2 ∙ ap (λ (t : List ℕ). first.0 ++ t) others.parts ∙ sym (append_assoc first.0 others.text (others.white ++ b.0.1));
            ends = others.ends;
          })
    ]

-- an attribute is no end of a tag
attribute_no_end : (name value text rest : List ℕ) → SpellsAttribute name value text → begins ends_tag (rest_of is_white (text ++ rest)) ≡ false
attribute_no_end name value text rest s =
    let after : List ℕ = s.before_equals ++ (61 ∷ (s.after_equals ++ (s.quote ∷ (s.inside ++ (s.quote ∷ rest))))) in
    ap (λ (t : List ℕ). begins ends_tag (rest_of is_white t)) (attribute_at_front name value text rest s)
    ∙ ap (λ (t : List ℕ). begins ends_tag t) (rest_again is_white s.gap (name ++ after) s.is_gap.0 (name_not_white name after s.is_name))
    ∙ name_no_end name after s.is_name

pub attributes_again : (n : ℕ) (attributes : List (List ℕ × List ℕ)) (text white tag : List ℕ) → SpellsAttributes attributes text → IsWhite white → begins ends_tag tag ≡ true → length attributes < n → attributes_at n (text ++ (white ++ tag)) ≡ Some (attributes, tag)
unfolding attributes_at
attributes_again zero attributes text white tag s w ends lt = absurd (omega (arith, lt))
attributes_again (suc n) [] text white tag s w ends lt =
    let found = rest_again is_white white tag w (end_ends_white tag ends) in
    let bytes : List ℕ = white ++ tag in
    let more : Option (Pairs × List ℕ) = attribute_at bytes >>= λ first. attributes_at n first.1 >>= λ others. Some (first.0 ∷ others.0, others.1) in
    ap (λ (t : List ℕ). attributes_at (suc n) (t ++ bytes)) s
    ∙ ap (λ (r : List ℕ). cond (begins ends_tag r) (Some ([], r)) more) found
    ∙ cond-true (begins ends_tag tag) (Some ([], tag)) more ends
attributes_again (suc n) (a ∷ attributes) text white tag s w ends lt =
    let first = s.0 in
    let others = s.1 in
    let after : List ℕ = others ++ (white ++ tag) in
    let bytes : List ℕ = first ++ after in
    let grouped : text ++ (white ++ tag) ≡ bytes = ap (λ (t : List ℕ). t ++ (white ++ tag)) s.4 ∙ append_assoc first others (white ++ tag) in
    ap (λ (t : List ℕ). attributes_at (suc n) t) grouped
    ∙ cond-false (begins ends_tag (rest_of is_white bytes)) (Some ([], rest_of is_white bytes)) (attribute_at bytes >>= λ x. attributes_at n x.1 >>= λ y. Some (x.0 ∷ y.0, y.1)) (attribute_no_end a.0 a.1 first after s.2)
    ∙ bind_at (attribute_at bytes) (λ x. attributes_at n x.1 >>= λ y. Some (x.0 ∷ y.0, y.1)) ((a.0, a.1), after) (attribute_again a.0 a.1 first after s.2)
    ∙ bind_at (attributes_at n after) (λ y. Some (a ∷ y.0, y.1)) (attributes, tag) (attributes_again n attributes others white tag s.3 w ends (omega (arith, lt)))

-- the bytes of an attribute, of which there are some
attribute_long : (name value text : List ℕ) → SpellsAttribute name value text → 0 < length text
attribute_long name value text s =
    let e = simp length-append at (ap (λ (t : List ℕ). length t) s.spelled) in
    omega (arith, e, s.is_gap.1)

pub attributes_fit : (attributes : List (List ℕ × List ℕ)) (text : List ℕ) → SpellsAttributes attributes text → length attributes ≤ length text
attributes_fit [] text s = omega arith
attributes_fit (a ∷ attributes) text s =
    let first = attribute_long a.0 a.1 s.0 s.2 in
    let others = attributes_fit attributes s.1 s.3 in
    let e = simp length-append at (ap (λ (t : List ℕ). length t) s.4) in
    omega (arith, first, others, e)

-- attributes, white space or the end of the tag end a name
attributes_end_name : (attributes : List (List ℕ × List ℕ)) (text white tag : List ℕ) → SpellsAttributes attributes text → IsWhite white → begins ends_tag tag ≡ true → Stops continues_name (text ++ (white ++ tag))
attributes_end_name [] text white tag s w ends = subst (λ (t : List ℕ). Stops continues_name (t ++ (white ++ tag))) (sym s) (white_ends_name white tag w (end_ends_name tag ends))
attributes_end_name (a ∷ attributes) text white tag s w ends =
    let rest : List ℕ = s.1 ++ (white ++ tag) in
    let first = s.2 in
    let after : List ℕ = a.0 ++ (first.before_equals ++ (61 ∷ (first.after_equals ++ (first.quote ∷ (first.inside ++ (first.quote ∷ rest)))))) in
    let grouped : text ++ (white ++ tag) ≡ first.gap ++ after = ap (λ (t : List ℕ). t ++ (white ++ tag)) s.4 ∙ append_assoc s.0 s.1 (white ++ tag) ∙ attribute_at_front a.0 a.1 s.0 rest first in
    subst (Stops continues_name) (sym grouped) (gap_ends_name first.gap after first.is_gap)
  where
    gap_ends_name : (gap after : List ℕ) → IsGap gap → Stops continues_name (gap ++ after)
    gap_ends_name [] after h = absurd (omega (arith, h.1))
    gap_ends_name (c ∷ cs) after h = white_not_in_name c (and_parts (is_white c) (list_all is_white cs) h.0).0

-- what was read of a tag
pub record TakesTag (bytes name : List ℕ) (attributes : List (List ℕ × List ℕ)) (rest : List ℕ) : Type 0 where
  pub is_name : IsName name
  pub differ : IsTrue (names_differ attributes)
  pub text : List ℕ
  pub white : List ℕ
  pub spells : SpellsAttributes attributes text
  pub is_white : IsWhite white
  pub parts : bytes ≡ 60 ∷ (name ++ (text ++ (white ++ rest)))
  pub ends : begins ends_tag rest ≡ true

abbrev TagValue : Type 0
TagValue = List ℕ × List (List ℕ × List ℕ) × List ℕ

abbrev checked : List ℕ → List (List ℕ × List ℕ) × List ℕ → Option TagValue
checked name attributes = cond (names_differ attributes.0) (Some (name, attributes.0, attributes.1)) None

abbrev attributed : List ℕ × List ℕ → Option TagValue
attributed name = attributes_at (suc (length name.1)) name.1 >>= λ attributes. checked name.0 attributes

pub tag_takes : (bytes : List ℕ) (x : List ℕ × List (List ℕ × List ℕ) × List ℕ) → tag_at bytes ≡ Some x → TakesTag bytes x.0 x.1 x.2
unfolding tag_at
tag_takes bytes x e =
    let a = bind_some (after_mark (codes "<") bytes) (λ start. name_at start >>= λ name. attributed name) x e in
    let b = bind_some (name_at a.0) (λ name. attributed name) x a.2 in
    let c = bind_some (attributes_at (suc (length b.0.1)) b.0.1) (λ attributes. checked b.0.0 attributes) x b.2 in
    let g = guard_some (names_differ c.0.0) (Some (b.0.0, c.0.0, c.0.1)) x c.2 in
    let name = name_takes a.0 b.0 b.1 in
    let t = attributes_takes (suc (length b.0.1)) b.0.1 c.0 c.1 in
    let made : TagValue = (b.0.0, c.0.0, c.0.1) in
    subst (λ (y : TagValue). TakesTag bytes y.0 y.1 y.2) (same_Some made x g.1)
    (record {
      is_name = name.0;
      differ = g.0;
      text = t.text;
      white = t.white;
      spells = t.spells;
      is_white = t.is_white;
      parts = after_mark_takes (codes "<") bytes a.0 a.1 ∙ ap (λ (r : List ℕ). 60 ∷ r) (name.1 ∙ ap (λ (r : List ℕ). b.0.0 ++ r) t.parts);
      ends = t.ends;
    })

pub tag_again : (name : List ℕ) (attributes : List (List ℕ × List ℕ)) (text white rest : List ℕ) → IsName name → IsTrue (names_differ attributes) → SpellsAttributes attributes text → IsWhite white → begins ends_tag rest ≡ true
    → tag_at (60 ∷ (name ++ (text ++ (white ++ rest)))) ≡ Some (name, attributes, rest)
unfolding tag_at
tag_again name attributes text white rest named differ s w ends =
    let inside : List ℕ = text ++ (white ++ rest) in
    let long = length-append text (white ++ rest) in
    let fit = attributes_fit attributes text s in
    bind_at (after_mark (codes "<") (60 ∷ (name ++ inside))) (λ start. name_at start >>= λ x. attributed x) (name ++ inside) refl
    ∙ bind_at (name_at (name ++ inside)) (λ x. attributed x) (name, inside) (name_again name inside named (attributes_end_name attributes text white rest s w ends))
    ∙ bind_at (attributes_at (suc (length inside)) inside) (λ x. checked name x) (attributes, rest) (attributes_again (suc (length inside)) attributes text white rest s w ends (omega (arith, long, fit)))
    ∙ cond-true (names_differ attributes) (Some (name, attributes, rest)) None differ

-- Characters and references: what was read is spelled so, and what is spelled so is read again.
use Rattle.std.proofs.Common.{◌≡◌, ℕ, zero, suc, ◌<◌, Bool, true, false, cond, eqb, ◌&&◌, List, [], ◌∷◌, ◌++◌, length, Option, Some, None, refl, sym, ap, subst, ◌∙◌, append_assoc, arith, inl, inr, ◌⊎◌, drop}
use Rattle.std.specs.Prelude.{codes, is_some, not, nat_eq}
use Rattle.std.specs.Char.{is_ascii_digit, is_ascii_hexdigit, encode_utf8}
use Rattle.std.specs.List.{list_all, flat_map, starts_with, AllByRecursion}
use Rattle.std.specs.Str.{bytes_eq}
use Rattle.std.proofs.lemmas.Bool.{and_parts, and_from, cases_Bool, eqb-true}
use Rattle.std.proofs.lemmas.Bool.Decides.{nat_tests}
use Rattle.std.proofs.lemmas.List.{length-append, append-nil}
use Rattle.std.proofs.lemmas.List.Folds.{list_all-append}
use Rattle.std.proofs.lemmas.Option.{same_Some}
use Rattle.lg_circ.specs.declared.class.Class.TheVariants.{Own}
use Rattle.lg_circ.specs.Grammar.{are_digits, numbered, number_in, is_scalar, character_of, bytes_of, Piece, own, reference, comment, element, characters_of, spelling_of, IsMadeOf}
use Rattle.lg_circ.specs.Meaning.{◌>>=◌}
use Rattle.lg_circ.specs.Reading.{passes, is_reference, front_of, rest_of, after_mark, reference_at, said_behind, said_by, said_after}
use Rattle.lg_circ.proofs.Marks.{bind_some, guard_some, after_mark_takes, same_bytes}
use Rattle.lg_circ.proofs.Pieces.{bind_at, chosen, front_rest, front_all, front_again, rest_again}
use Rattle.lg_circ.proofs.Made.{made_append, made_own}

-- the tests are weaker
all_of : (p q : ℕ → Bool) → ((c : ℕ) → p c ≡ true → q c ≡ true) → (cs : List ℕ) → list_all p cs ≡ true → list_all q cs ≡ true
all_of p q weaker [] all = refl
all_of p q weaker (c ∷ cs) all = let b = and_parts (p c) (list_all p cs) all in and_from (q c) (list_all q cs) (weaker c b.0) (all_of p q weaker cs b.1)

hex_reference : (c : ℕ) → is_ascii_hexdigit c ≡ true → is_reference c ≡ true
hex_reference c h = grind (arith, nat_tests)

digit_reference : (c : ℕ) → is_ascii_digit c ≡ true → is_reference c ≡ true
digit_reference c h = grind (arith, nat_tests)

numbered_digits : (p : ℕ → Bool) (base : ℕ) (digits : List ℕ) (c : ℕ) → numbered p base digits ≡ Some c → list_all p digits ≡ true
numbered_digits p base digits c e =
    let g = guard_some (are_digits p digits && is_scalar (number_in base digits)) (Some (number_in base digits)) c e in
    (and_parts (not (eqb (length digits) 0)) (list_all p digits) (and_parts (are_digits p digits) (is_scalar (number_in base digits)) g.0).0).1

hex_name : (name : List ℕ) → starts_with nat_eq name (codes "#x") ≡ true → list_all is_reference (drop 2 name) ≡ true → list_all is_reference name ≡ true
hex_name [] s h = absurd cc
hex_name (c ∷ []) s h = absurd (grind (arith, nat_tests, s))
hex_name (c ∷ d ∷ ds) s h =
    let b = and_parts (eqb 35 c) (eqb 120 d && true) s in
    let d_is = and_parts (eqb 120 d) true b.1 in
    and_from (is_reference c) (is_reference d && list_all is_reference ds) (ap is_reference (sym (eqb-true 35 c b.0))) (and_from (is_reference d) (list_all is_reference ds) (ap is_reference (sym (eqb-true 120 d d_is.0))) h)

decimal_name : (name : List ℕ) → starts_with nat_eq name (codes "#") ≡ true → list_all is_reference (drop 1 name) ≡ true → list_all is_reference name ≡ true
decimal_name [] s h = absurd cc
decimal_name (c ∷ cs) s h =
    let b = and_parts (eqb 35 c) true s in
    and_from (is_reference c) (list_all is_reference cs) (ap is_reference (sym (eqb-true 35 c b.0))) h

named_so : (name known : List ℕ) → bytes_eq name known ≡ true → list_all is_reference known ≡ true → list_all is_reference name ≡ true
named_so name known e h = ap (λ (t : List ℕ). list_all is_reference t) (same_bytes name known e) ∙ h

-- the tests on a name, from each on
abbrev o6 : List ℕ → Option ℕ
o6 name = cond (starts_with nat_eq name (codes "#")) (numbered is_ascii_digit 10 (drop 1 name)) None

abbrev o5 : List ℕ → Option ℕ
o5 name = cond (starts_with nat_eq name (codes "#x")) (numbered is_ascii_hexdigit 16 (drop 2 name)) (o6 name)

abbrev o4 : List ℕ → Option ℕ
o4 name = cond (bytes_eq name (codes "apos")) (Some 39) (o5 name)

abbrev o3 : List ℕ → Option ℕ
o3 name = cond (bytes_eq name (codes "quot")) (Some 34) (o4 name)

abbrev o2 : List ℕ → Option ℕ
o2 name = cond (bytes_eq name (codes "amp")) (Some 38) (o3 name)

abbrev o1 : List ℕ → Option ℕ
o1 name = cond (bytes_eq name (codes "gt")) (Some 62) (o2 name)

-- what the name of a character is made of
pub reference_plain : (name : List ℕ) (c : ℕ) → character_of name ≡ Some c → list_all is_reference name ≡ true
reference_plain name c e0 = elim (chosen (bytes_eq name (codes "lt")) (Some 60) (o1 name) (Some c) e0) [
  | inl w ↦ named_so name (codes "lt") w.0 refl
  | inr e1 ↦ elim (chosen (bytes_eq name (codes "gt")) (Some 62) (o2 name) (Some c) e1.1) [
    | inl w ↦ named_so name (codes "gt") w.0 refl
    | inr e2 ↦ elim (chosen (bytes_eq name (codes "amp")) (Some 38) (o3 name) (Some c) e2.1) [
      | inl w ↦ named_so name (codes "amp") w.0 refl
      | inr e3 ↦ elim (chosen (bytes_eq name (codes "quot")) (Some 34) (o4 name) (Some c) e3.1) [
        | inl w ↦ named_so name (codes "quot") w.0 refl
        | inr e4 ↦ elim (chosen (bytes_eq name (codes "apos")) (Some 39) (o5 name) (Some c) e4.1) [
          | inl w ↦ named_so name (codes "apos") w.0 refl
          | inr e5 ↦ elim (chosen (starts_with nat_eq name (codes "#x")) (numbered is_ascii_hexdigit 16 (drop 2 name)) (o6 name) (Some c) e5.1) [
            | inl w ↦ hex_name name w.0 (all_of is_ascii_hexdigit is_reference hex_reference (drop 2 name) (numbered_digits is_ascii_hexdigit 16 (drop 2 name) c w.1))
            | inr e6 ↦ elim (chosen (starts_with nat_eq name (codes "#")) (numbered is_ascii_digit 10 (drop 1 name)) None (Some c) e6.1) [
              | inl w ↦ decimal_name name w.0 (all_of is_ascii_digit is_reference digit_reference (drop 1 name) (numbered_digits is_ascii_digit 10 (drop 1 name) c w.1))
              | inr e7 ↦ absurd (let no = e7.1 in cc)
            ]
          ]
        ]
      ]
    ]
  ]
]

-- a reference behind its `&`
pub record TakesReference (bytes : List ℕ) (c : ℕ) (rest : List ℕ) : Type 0 where
  pub name : List ℕ
  pub is : character_of name ≡ Some c
  pub parts : bytes ≡ name ++ (59 ∷ rest)

pub reference_takes : (bytes : List ℕ) (c : ℕ) (rest : List ℕ) → reference_at bytes ≡ Some (c, rest) → TakesReference bytes c rest
unfolding reference_at
reference_takes bytes c rest e =
    let a = bind_some (character_of (front_of is_reference bytes)) (λ d. after_mark (codes ";") (rest_of is_reference bytes) >>= λ r. Some (d, r)) (c, rest) e in
    let b = bind_some (after_mark (codes ";") (rest_of is_reference bytes)) (λ r. Some (a.0, r)) (c, rest) a.2 in
    let same : (a.0, b.0) ≡ (c, rest) = same_Some (a.0, b.0) (c, rest) b.2 in
    record {
      name = front_of is_reference bytes;
      is = a.1 ∙ ap (λ (x : ℕ × List ℕ). Some x.0) same;
      parts = sym (front_rest is_reference bytes) ∙ ap (λ (r : List ℕ). front_of is_reference bytes ++ r) (after_mark_takes (codes ";") (rest_of is_reference bytes) b.0 b.1 ∙ ap (λ (x : ℕ × List ℕ). 59 ∷ x.1) same);
    }

pub reference_again : (name : List ℕ) (c : ℕ) (rest : List ℕ) → character_of name ≡ Some c → reference_at (name ++ (59 ∷ rest)) ≡ Some (c, rest)
unfolding reference_at
reference_again name c rest e =
    let plain = reference_plain name c e in
    let front = front_again is_reference name (59 ∷ rest) plain refl in
    let behind = rest_again is_reference name (59 ∷ rest) plain refl in
    bind_at (character_of (front_of is_reference (name ++ (59 ∷ rest)))) (λ d. after_mark (codes ";") (rest_of is_reference (name ++ (59 ∷ rest))) >>= λ r. Some (d, r)) c (ap character_of front ∙ e)
    ∙ ap (λ (t : List ℕ). after_mark (codes ";") t >>= λ r. Some (c, r)) behind

-- bytes other than `&` of a kind, and references
abbrev pub IsRaw : (ℕ → Bool) → Piece → Type 0
IsRaw p (own c) = (p c ≡ true) × (not (eqb c 38) ≡ true)
IsRaw p (reference name) = is_some (character_of name) ≡ true
IsRaw p (comment inside) = ⊥
IsRaw p (element e bytes) = ⊥

raw_own : (p : ℕ → Bool) (raw : List ℕ) → list_all p raw ≡ true → list_all (λ c. not (eqb c 38)) raw ≡ true → IsMadeOf (IsRaw p) raw [] raw
raw_own p raw h k = made_own (IsRaw p) (λ c. p c && not (eqb c 38)) (λ c b. and_parts (p c) (not (eqb c 38)) b) raw (both raw h k)
  where
    both : (raw : List ℕ) → list_all p raw ≡ true → list_all (λ c. not (eqb c 38)) raw ≡ true → list_all (λ c. p c && not (eqb c 38)) raw ≡ true
    both [] h k = refl
    both (c ∷ cs) h k =
        let a = and_parts (p c) (list_all p cs) h in
        let b = and_parts (not (eqb c 38)) (list_all (λ d. not (eqb d 38)) cs) k in
        and_from (p c && not (eqb c 38)) (list_all (λ d. p d && not (eqb d 38)) cs) (and_from (p c) (not (eqb c 38)) a.0 b.0) (both cs a.1 b.1)

raw_reference : (p : ℕ → Bool) (name : List ℕ) (c : ℕ) → character_of name ≡ Some c → IsMadeOf (IsRaw p) (encode_utf8 c) [] (38 ∷ (name ++ (59 ∷ [])))
raw_reference p name c e = record {
  pieces = reference name ∷ [];
  allowed = (ap (λ (o : Option ℕ). is_some o) e, tt);
  characters_are = sym (append-nil (encode_utf8 c)) ∙ ap (λ (o : Option ℕ). bytes_of o ++ []) (sym e);
  elements_are = refl;
  spelled = sym (append-nil (38 ∷ (name ++ (59 ∷ []))));
}

-- what the bytes in front and those behind both pass
all_front : (p : ℕ → Bool) (xs ys : List ℕ) → list_all p (xs ++ ys) ≡ true → (list_all p xs ≡ true) × (list_all p ys ≡ true)
all_front p xs ys h = and_parts (list_all p xs) (list_all p ys) (sym (list_all-append p xs ys) ∙ h)

abbrev no_and : ℕ → Bool
no_and c = not (eqb c 38)

-- behind the bytes other than `&` there is one, or nothing
no_more : (xs : List ℕ) → after_mark (codes "&") (rest_of no_and xs) ≡ None → rest_of no_and xs ≡ []
no_more [] e = refl
no_more (c ∷ cs) e = by_byte (λ k. no_more cs k) (cases_Bool (eqb c 38))
  where
    by_byte : (after_mark (codes "&") (rest_of no_and cs) ≡ None → rest_of no_and cs ≡ []) → (eqb c 38 ≡ true) ⊎ (eqb c 38 ≡ false) → rest_of no_and (c ∷ cs) ≡ []
    by_byte later (inl t) =
        let stays : rest_of no_and (c ∷ cs) ≡ c ∷ cs = ap (λ (b : Bool). cond (not b) (rest_of no_and cs) (c ∷ cs)) t in
        let found : after_mark (codes "&") (c ∷ cs) ≡ Some cs = ap (λ (b : Bool). cond b (Some cs) None) t in
        let none : after_mark (codes "&") (c ∷ cs) ≡ None = ap (after_mark (codes "&")) (sym stays) ∙ e in
        absurd cc
    by_byte later (inr f) =
        let goes : rest_of no_and (c ∷ cs) ≡ rest_of no_and cs = ap (λ (b : Bool). cond (not b) (rest_of no_and cs) (c ∷ cs)) f in
        goes ∙ later (ap (after_mark (codes "&")) (sym goes) ∙ e)

pub said_takes : (p : ℕ → Bool) (n : ℕ) (raw text : List ℕ) → said_by n raw ≡ Some text → list_all p raw ≡ true → IsMadeOf (IsRaw p) text [] raw
unfolding said_by
said_takes p zero raw text e h = absurd cc
said_takes p (suc n) raw text e h = by_rest (λ r t k l. said_takes p n r t k l) (after_mark (codes "&") (rest_of (passes Own) raw)) refl e
  where
    by_rest : ((r t : List ℕ) → said_by n r ≡ Some t → list_all p r ≡ true → IsMadeOf (IsRaw p) t [] r) → (o : Option (List ℕ)) → after_mark (codes "&") (rest_of (passes Own) raw) ≡ o → said_behind (said_by n) (front_of (passes Own) raw) o ≡ Some text → IsMadeOf (IsRaw p) text [] raw
    by_rest later None m k =
        let front = front_of no_and raw in
        let whole : front ≡ raw = sym (append-nil front) ∙ ap (λ (r : List ℕ). front ++ r) (sym (no_more raw m)) ∙ front_rest no_and raw in
        let all : list_all no_and raw ≡ true = ap (λ (t : List ℕ). list_all no_and t) (sym whole) ∙ front_all no_and raw in
        subst (λ (t : List ℕ). IsMadeOf (IsRaw p) t [] raw) (sym whole ∙ same_Some front text k) (raw_own p raw h all)
    by_rest later (Some bytes) m k =
        let front = front_of no_and raw in
        let a = bind_some (reference_at bytes) (λ x. said_by n x.1 >>= λ others. Some (front ++ encode_utf8 x.0 ++ others)) text k in
        let b = bind_some (said_by n a.0.1) (λ others. Some (front ++ encode_utf8 a.0.0 ++ others)) text a.2 in
        let t = reference_takes bytes a.0.0 a.0.1 a.1 in
        let name : List ℕ = t.name in
        let rest : List ℕ = a.0.1 in
        let spelled : List ℕ = 38 ∷ (name ++ (59 ∷ [])) in
        let grouped : (front ++ spelled) ++ rest ≡ front ++ (38 ∷ (name ++ (59 ∷ rest))) = simp append_assoc in
        let parts : raw ≡ (front ++ spelled) ++ rest =
        sym (front_rest no_and raw) ∙ ap (λ (r : List ℕ). front ++ r) (after_mark_takes (codes "&") (rest_of no_and raw) bytes m ∙ ap (λ (r : List ℕ). 38 ∷ r) t.parts) ∙ sym grouped in
        let halves = all_front p (front ++ spelled) rest (ap (λ (t : List ℕ). list_all p t) (sym parts) ∙ h) in
        let quarters = all_front p front spelled halves.0 in
        let first = made_append (IsRaw p) front (encode_utf8 a.0.0) [] [] front spelled (raw_own p front quarters.0 (front_all no_and raw)) (raw_reference p name a.0.0 t.is) in
        let more = later rest b.0 b.1 halves.1 in
        let made = made_append (IsRaw p) (front ++ encode_utf8 a.0.0) b.0 [] [] (front ++ spelled) rest first more in
        subst (λ (x : List ℕ). IsMadeOf (IsRaw p) x [] raw) (same_Some (front ++ encode_utf8 a.0.0 ++ b.0) text b.2)
        (subst (λ (r : List ℕ). IsMadeOf (IsRaw p) (front ++ encode_utf8 a.0.0 ++ b.0) [] r) (sym parts) made)

-- a byte in front of what is said
own_first : (n c : ℕ) (raw : List ℕ) → not (eqb c 38) ≡ true → said_by (suc n) (c ∷ raw) ≡ said_after (c ∷ []) (said_by (suc n) raw)
unfolding said_by
own_first n c raw e =
    ap (λ (b : Bool). said_behind (said_by n) (cond b (c ∷ front_of no_and raw) []) (after_mark (codes "&") (cond b (rest_of no_and raw) (c ∷ raw)))) e
    ∙ behind (after_mark (codes "&") (rest_of no_and raw))
  where
    regroup : (o : Option (List ℕ)) (x : ℕ) → (o >>= λ others. Some ((c ∷ front_of no_and raw) ++ encode_utf8 x ++ others)) ≡ said_after (c ∷ []) (o >>= λ others. Some (front_of no_and raw ++ encode_utf8 x ++ others))
    regroup None x = refl
    regroup (Some others) x = refl

    referred : (o : Option (ℕ × List ℕ)) → (o >>= λ x. said_by n x.1 >>= λ others. Some ((c ∷ front_of no_and raw) ++ encode_utf8 x.0 ++ others)) ≡ said_after (c ∷ []) (o >>= λ x. said_by n x.1 >>= λ others. Some (front_of no_and raw ++ encode_utf8 x.0 ++ others))
    referred None = refl
    referred (Some x) = regroup (said_by n x.1) x.0

    behind : (o : Option (List ℕ)) → said_behind (said_by n) (c ∷ front_of no_and raw) o ≡ said_after (c ∷ []) (said_behind (said_by n) (front_of no_and raw) o)
    behind None = refl
    behind (Some bytes) = referred (reference_at bytes)

pub said_again : (p : ℕ → Bool) (pieces : List Piece) (n : ℕ) → AllByRecursion (IsRaw p) pieces → length (flat_map spelling_of pieces) < n → said_by n (flat_map spelling_of pieces) ≡ Some (flat_map characters_of pieces)
unfolding said_by
said_again p pieces zero all lt = absurd (omega (arith, lt))
said_again p [] (suc n) all lt = refl
said_again p (own c ∷ pieces) (suc n) all lt = own_first n c (flat_map spelling_of pieces) all.0.1 ∙ ap (said_after (c ∷ [])) (said_again p pieces (suc n) all.1 (omega (arith, lt)))
said_again p (reference name ∷ pieces) (suc n) all lt = by_name (λ less. said_again p pieces n all.1 less) (character_of name) refl all.0
  where
    by_name : (length (flat_map spelling_of pieces) < n → said_by n (flat_map spelling_of pieces) ≡ Some (flat_map characters_of pieces)) → (o : Option ℕ) → character_of name ≡ o → is_some o ≡ true → said_by (suc n) ((codes "&" ++ name ++ codes ";") ++ flat_map spelling_of pieces) ≡ Some (bytes_of (character_of name) ++ flat_map characters_of pieces)
    by_name later None e h = absurd cc
    by_name later (Some c) e h =
        let rest : List ℕ = flat_map spelling_of pieces in
        let said : List ℕ = flat_map characters_of pieces in
        let grouped : (codes "&" ++ name ++ codes ";") ++ rest ≡ 38 ∷ (name ++ (59 ∷ rest)) = simp append_assoc in
        let long = length-append name (59 ∷ rest) in
        let whole = ap (λ (t : List ℕ). length t) grouped in
        ap (λ (t : List ℕ). said_by (suc n) t) grouped
        ∙ bind_at (reference_at (name ++ (59 ∷ rest))) (λ x. said_by n x.1 >>= λ others. Some (encode_utf8 x.0 ++ others)) (c, rest) (reference_again name c rest e)
        ∙ bind_at (said_by n rest) (λ others. Some (encode_utf8 c ++ others)) said (later (omega (arith, lt, long, whole)))
        ∙ ap (λ (o : Option ℕ). Some (bytes_of o ++ said)) (sym e)
said_again p (comment inside ∷ pieces) (suc n) all lt = absurd all.0
said_again p (element e bytes ∷ pieces) (suc n) all lt = absurd all.0

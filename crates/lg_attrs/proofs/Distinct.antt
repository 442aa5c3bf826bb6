-- Names that differ, as a set of those before tells.
use Rattle.std.proofs.Common.{◌≡◌, ℕ, ◌+◌, ◌<◌, ◌≤◌, Bool, true, false, cond, ◌&&◌, ◌||◌, List, [], ◌∷◌, ◌++◌, length, get_or, take, drop, refl, sym, ap, ◌∙◌, inl, inr, ◌⊎◌}
use Rattle.std.specs.Prelude.{not}
use Rattle.std.specs.List.{list_any}
use Rattle.std.specs.Str.{bytes_eq}
use Rattle.std.proofs.lemmas.Bool.{cases_Bool, and_parts, false≢true}
use Rattle.std.proofs.lemmas.Slice.Eq.{bytes_eq-Decides}
use Rattle.std.proofs.lemmas.List.{take_more, take-append-drop, take_all}
use Rattle.std.proofs.lemmas.List.Folds.{list_any-append}
use Rattle.lg_attrs.specs.Pairs.{names_differ}

abbrev Pair : Type 0
Pair = List ℕ × List ℕ

-- the name is one of these
abbrev pub is_among : List ℕ → List (List ℕ × List ℕ) → Bool
is_among name pairs = list_any (λ (b : List ℕ × List ℕ). bytes_eq name b.0) pairs

-- texts are compared in either order
pub swapped : (xs ys : List ℕ) → bytes_eq xs ys ≡ bytes_eq ys xs
swapped xs ys = by_test (cases_Bool (bytes_eq xs ys)) (cases_Bool (bytes_eq ys xs))
  where
    by_test : (bytes_eq xs ys ≡ true) ⊎ (bytes_eq xs ys ≡ false) → (bytes_eq ys xs ≡ true) ⊎ (bytes_eq ys xs ≡ false) → bytes_eq xs ys ≡ bytes_eq ys xs
    by_test (inl a) b = a ∙ sym ((bytes_eq-Decides ys xs).1 (sym ((bytes_eq-Decides xs ys).0 a)))
    by_test (inr a) (inl b) = (bytes_eq-Decides xs ys).1 (sym ((bytes_eq-Decides ys xs).0 b)) ∙ sym b
    by_test (inr a) (inr b) = a ∙ sym b

shuffled : (a b c d : Bool) → (not (a || (b || false)) && (c && not d)) ≡ ((not a && c) && not (b || d))
shuffled true b c d = refl
shuffled false true true d = refl
shuffled false true false d = refl
shuffled false false true d = refl
shuffled false false false d = refl

-- one more name differs where it is none of those before
differ-snoc : (pairs : List (List ℕ × List ℕ)) (x : List ℕ × List ℕ) → names_differ (pairs ++ x ∷ []) ≡ (names_differ pairs && not (is_among x.0 pairs))
differ-snoc [] x = refl
differ-snoc (a ∷ pairs) x =
    ap (λ (b : Bool). not b && names_differ (pairs ++ x ∷ [])) (list_any-append (λ (b : Pair). bytes_eq a.0 b.0) pairs (x ∷ []))
    ∙ ap (λ (b : Bool). not (is_among a.0 pairs || (bytes_eq a.0 x.0 || false)) && b) (differ-snoc pairs x)
    ∙ shuffled (is_among a.0 pairs) (bytes_eq a.0 x.0) (names_differ pairs) (is_among x.0 pairs)
    ∙ ap (λ (b : Bool). (not (is_among a.0 pairs) && names_differ pairs) && not (b || is_among x.0 pairs)) (swapped a.0 x.0)

-- names that differ differ in front
differ_front : (xs ys : List (List ℕ × List ℕ)) → names_differ (xs ++ ys) ≡ true → names_differ xs ≡ true
differ_front [] ys h = refl
differ_front (a ∷ xs) ys h =
    let p = and_parts (not (is_among a.0 (xs ++ ys))) (names_differ (xs ++ ys)) h in
    let k = ap not (sym (list_any-append (λ (b : Pair). bytes_eq a.0 b.0) xs ys)) ∙ p.0 in
    both (is_among a.0 xs) (is_among a.0 ys) (names_differ xs) k (differ_front xs ys p.1)
  where
    both : (a b c : Bool) → not (a || b) ≡ true → c ≡ true → (not a && c) ≡ true
    both true b c h k = absurd cc
    both false b c h k = k

-- the names so far differ, and the set has just these
pub record Distinct (member : List ℕ → Bool) (i : ℕ) (pairs : List (List ℕ × List ℕ)) : Type 0 where
  pub has : (q : List ℕ) → member q ≡ is_among q (take i pairs)
  pub differ : names_differ (take i pairs) ≡ true

pub distinct_start : (member : List ℕ → Bool) (pairs : List (List ℕ × List ℕ)) → ((q : List ℕ) → member q ≡ false) → Distinct member 0 pairs
distinct_start member pairs none = record { has = none; differ = refl }

taken : (i : ℕ) (pairs : List (List ℕ × List ℕ)) (x : List ℕ × List ℕ) → i < length pairs → x ≡ get_or pairs i x → take (i + 1) pairs ≡ take i pairs ++ x ∷ []
taken i pairs x lt at = take_more pairs i x lt ∙ ap (λ (y : Pair). take i pairs ++ y ∷ []) (sym at)

pub distinct_goes_on : (old new : List ℕ → Bool) (i : ℕ) (pairs : List (List ℕ × List ℕ)) (x : List ℕ × List ℕ) → i < length pairs → x ≡ get_or pairs i x → old x.0 ≡ false → ((q : List ℕ) → new q ≡ cond (bytes_eq x.0 q) true (old q)) → Distinct old i pairs → Distinct new (i + 1) pairs
distinct_goes_on old new i pairs x lt at absent update d = record {
  has = λ q. update q ∙ ap (λ (b : Bool). cond (bytes_eq x.0 q) true b) (d.has q) ∙ joined (bytes_eq x.0 q) (bytes_eq q x.0) (is_among q (take i pairs)) (swapped x.0 q) ∙ sym (ap (is_among q) (taken i pairs x lt at) ∙ list_any-append (λ (b : Pair). bytes_eq q b.0) (take i pairs) (x ∷ []));
  differ = ap names_differ (taken i pairs x lt at) ∙ differ-snoc (take i pairs) x ∙ ap (λ (b : Bool). b && not (is_among x.0 (take i pairs))) d.differ ∙ ap not (sym (d.has x.0) ∙ absent);
}
  where
    joined : (a b c : Bool) → a ≡ b → cond a true c ≡ (c || (b || false))
    joined true b true e = refl
    joined true b false e = e ∙ sym (plain b)
      where
        plain : (b : Bool) → (b || false) ≡ b
        plain true = refl
        plain false = refl
    joined false b true e = refl
    joined false b false e = e ∙ sym (plain b)
      where
        plain : (b : Bool) → (b || false) ≡ b
        plain true = refl
        plain false = refl

pub distinct_fails : (member : List ℕ → Bool) (i : ℕ) (pairs : List (List ℕ × List ℕ)) (x : List ℕ × List ℕ) → i < length pairs → x ≡ get_or pairs i x → member x.0 ≡ true → Distinct member i pairs → false ≡ names_differ pairs
distinct_fails member i pairs x lt at present d = by_test (cases_Bool (names_differ pairs))
  where
    by_test : (names_differ pairs ≡ true) ⊎ (names_differ pairs ≡ false) → false ≡ names_differ pairs
    by_test (inr f) = sym f
    by_test (inl t) =
        let whole = take-append-drop (i + 1) pairs in
        let front = differ_front (take (i + 1) pairs) (drop (i + 1) pairs) (ap names_differ whole ∙ t) in
        let same = sym (ap names_differ (taken i pairs x lt at) ∙ differ-snoc (take i pairs) x) ∙ front in
        let k = and_parts (names_differ (take i pairs)) (not (is_among x.0 (take i pairs))) same in
        let l : not true ≡ true = ap not (sym (sym (d.has x.0) ∙ present)) ∙ k.1 in
        absurd (false≢true l)

pub distinct_end : (member : List ℕ → Bool) (i : ℕ) (pairs : List (List ℕ × List ℕ)) → length pairs ≤ i → Distinct member i pairs → true ≡ names_differ pairs
distinct_end member i pairs le d = sym d.differ ∙ ap names_differ (take_all i pairs le)

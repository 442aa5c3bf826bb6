-- Indexes of names among names that differ.
use Rattle.std.proofs.Common.{◌≡◌, ℕ, ◌+◌, ◌<◌, Bool, true, false, cond, List, [], ◌∷◌, ◌++◌, length, map, take, drop, get_or, Option, Some, None, refl, sym, ap, ◌∙◌, arith, take-append-drop, Bor}
use Rattle.std.specs.Map.{update}
use Rattle.std.specs.Str.{bytes_eq}
use Rattle.std.proofs.lemmas.List.{map_more, map-append, length-map, length-take-le}
use Rattle.std.proofs.lemmas.Bool.{false≢true}
use Rattle.std.proofs.lemmas.List.Concat.{flat_map-append}
use Rattle.std.proofs.lemmas.Slice.Eq.{bytes_eq-Decides}
use Rattle.lg_vrules.specs.declared.indexes.Indexes.{Indexes}
use Rattle.lg_vrules.specs.Rules.{is_among, all_differ}
use Rattle.lg_vrules.specs.Indexes.{index_under, index_from, index_list, indexes_of, KnowsIndexes}
use Rattle.lg_vrules.proofs.NameLemmas.{neither, clash, differ_front}

-- one name more, which is new
pub index_more : (n : ℕ) (some : List (List ℕ)) (name q : List ℕ) → is_among name some ≡ false → index_from n (some ++ name ∷ []) q ≡ cond (bytes_eq name q) (Some (n + length some)) (index_from n some q)
index_more n [] name q fresh = let here : n ≡ n + 0 = omega arith in ap (λ k. cond (bytes_eq name q) (Some k) None) here
index_more n (s ∷ some) name q fresh =
    let apart = neither (bytes_eq s name) (is_among name some) fresh in
    let on : n + 1 + length some ≡ n + length (s ∷ some) = omega arith in
    step (bytes_eq s q) (bytes_eq name q) refl refl apart.0 (index_more (n + 1) some name q apart.1 ∙ ap (λ k. cond (bytes_eq name q) (Some k) (index_from (n + 1) some q)) on)
  where
    same : bytes_eq s q ≡ true → bytes_eq name q ≡ true → bytes_eq s name ≡ true
    same e f = (bytes_eq-Decides s name).1 ((bytes_eq-Decides s q).0 e ∙ sym ((bytes_eq-Decides name q).0 f))

    step : (here new : Bool) → bytes_eq s q ≡ here → bytes_eq name q ≡ new → bytes_eq s name ≡ false
        → index_from (n + 1) (some ++ name ∷ []) q ≡ cond (bytes_eq name q) (Some (n + length (s ∷ some))) (index_from (n + 1) some q)
        → cond (bytes_eq s q) (Some n) (index_from (n + 1) (some ++ name ∷ []) q) ≡ cond (bytes_eq name q) (Some (n + length (s ∷ some))) (cond (bytes_eq s q) (Some n) (index_from (n + 1) some q))
    step true true e f apart rest = absurd (false≢true (sym apart ∙ same e f))
    step true false e f apart rest = rw (e, f) refl
    step false new e f apart rest = rw e rest

abbrev pub texts : List (Bor (List ℕ)) → List (List ℕ)
texts names = map (λ (name : Bor (List ℕ)). name.now) names

pub texts_more : (names : List (Bor (List ℕ))) (i : ℕ) (none : Bor (List ℕ)) → i < length names → texts (take (i + 1) names) ≡ texts (take i names) ++ (get_or names i none).now ∷ []
texts_more names i none lt = map_more (λ (n : Bor (List ℕ)). n.now) names i none lt

-- a name of names that differ does not stand before its index
pub fresh_at : (names : List (Bor (List ℕ))) (i : ℕ) (none : Bor (List ℕ)) → all_differ (texts names) ≡ true → i < length names → is_among (get_or names i none).now (texts (take i names)) ≡ false
fresh_at names i none differ lt = step (get_or names i none).now refl (is_among (get_or names i none).now (texts (take i names))) refl
  where
    step : (name : List ℕ) → (get_or names i none).now ≡ name → (b : Bool) → is_among name (texts (take i names)) ≡ b → is_among name (texts (take i names)) ≡ false
    step name is false e = e
    step name is true e =
        let more : texts (take (i + 1) names) ≡ texts (take i names) ++ name ∷ [] = texts_more names i none lt ∙ ap (λ (n : List ℕ). texts (take i names) ++ n ∷ []) is in
        let front : all_differ (texts (take (i + 1) names)) ≡ false = ap all_differ more ∙ clash (texts (take i names)) name e in
        let split : texts names ≡ texts (take (i + 1) names) ++ texts (drop (i + 1) names) = ap texts (sym (take-append-drop (i + 1) names)) ∙ map-append (λ (n : Bor (List ℕ)). n.now) (take (i + 1) names) (drop (i + 1) names) in
        let whole : all_differ (texts names) ≡ false = ap all_differ split ∙ differ_front (texts (take (i + 1) names)) (texts (drop (i + 1) names)) front in
        absurd (false≢true (sym whole ∙ differ))

pub count_at : (names : List (Bor (List ℕ))) (i : ℕ) → i < length names → i ≡ length (texts (take i names))
count_at names i lt = sym (length-map (take i names) (λ (n : Bor (List ℕ)). n.now) ∙ length-take-le i names (omega (arith, lt)))

pub KnowsIndexes-more : (some : List (List ℕ)) (name : List ℕ) (at : ℕ) (old new : Indexes) → KnowsIndexes some old → is_among name some ≡ false → at ≡ length some
    → ((q : List ℕ) → index_under new q ≡ update bytes_eq (index_under old) name (Some at) q) → KnowsIndexes (some ++ name ∷ []) new
KnowsIndexes-more some name at old new knows fresh here updated = record {
  known = λ q.
      let count : at ≡ 0 + length some = omega (arith, here) in
      updated q ∙ (ap (λ (o : Option ℕ). cond (bytes_eq name q) (Some at) o) (knows.known q)
      ∙ (ap (λ (k : ℕ). cond (bytes_eq name q) (Some k) (index_from 0 some q)) count ∙ sym (index_more 0 some name q fresh)));
}

-- the indexes of some names and of others
pub indexes_both : (index : List ℕ → Option ℕ) (some others : List (List ℕ)) → indexes_of index (some ++ others) ≡ indexes_of index some ++ indexes_of index others
indexes_both index some others = flat_map-append (λ name. index_list (index name)) some others

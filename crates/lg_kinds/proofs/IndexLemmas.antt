-- Places under two names.
use Rattle.std.proofs.Common.{◌≡◌, ◌∙◌, sym, ap, ℕ, Bool, true, false, cond, ◌&&◌, List, [], ◌∷◌, map, Option, Some, is_some, refl, inl, inr, ◌⊎◌}
use Rattle.std.specs.Prelude.{String, string_bytes}
use Rattle.std.specs.BTreeMap.{BTreeMap, get_by_text, keys, btree_map_len, IsOrdered}
use Rattle.std.specs.Cmp.{IsEquivalence}
use Rattle.std.specs.Cmp.Lexicographic.{slice_cmp}
use Rattle.std.specs.List.{list_any, AllByRecursion, IsDistinct}
use Rattle.std.specs.Map.{update}
use Rattle.std.specs.Option.{option_and_then}
use Rattle.std.specs.Ordering.{is_eq, nat_cmp, eq_by_cmp}
use Rattle.std.specs.Set.{distinct_count, is_member}
use Rattle.std.specs.Str.{bytes_eq}
use Rattle.std.specs.String.{string_cmp}
use Rattle.std.proofs.lemmas.Bool.{cases_Bool}
use Rattle.std.proofs.lemmas.List.{length-map}
use Rattle.std.proofs.lemmas.Map.Keys.{IsDistinct-from_sorted}
use Rattle.std.proofs.lemmas.Map.Made.{is_some-lookup, length-from_keys}
use Rattle.std.proofs.lemmas.Map.Text.{is_eq-slice_cmp}
use Rattle.std.proofs.lemmas.Slice.Eq.{bytes_eq-Decides}
use Rattle.lg_attrs.proofs.Distinct.{swapped}

-- texts are equal by their bytes
pub bytes_eq_equiv : IsEquivalence bytes_eq
bytes_eq_equiv = record {
  refl = λ x. (bytes_eq-Decides x x).1 refl;
  symm = swapped;
  congr = λ x y z h. ap (λ (t : List ℕ). bytes_eq t z) ((bytes_eq-Decides x y).0 h);
}

-- what is found after a map under the first name was put there, in which a place was put under the second
pub puts : {M : Type 0} (look : M → List ℕ → Option ℕ) (old new : List ℕ → Option M) (before after : M) (first second : List ℕ) (place : ℕ) → ((b : List ℕ) → option_and_then (λ m. look m b) (old first) ≡ look before b)
    → ((q : List ℕ) → new q ≡ update bytes_eq old first (Some after) q) → ((b : List ℕ) → look after b ≡ update bytes_eq (look before) second (Some place) b)
    → (a b : List ℕ) → option_and_then (λ m. look m b) (new a) ≡ cond (bytes_eq first a && bytes_eq second b) (Some place) (option_and_then (λ m. look m b) (old a))
puts look old new before after first second place was outer inner a b = by_test (cases_Bool (bytes_eq first a))
  where
    by_test : (bytes_eq first a ≡ true) ⊎ (bytes_eq first a ≡ false) → option_and_then (λ m. look m b) (new a) ≡ cond (bytes_eq first a && bytes_eq second b) (Some place) (option_and_then (λ m. look m b) (old a))
    by_test (inl h) =
        let same = (bytes_eq-Decides first a).0 h in
        let here : new a ≡ Some after = outer a ∙ ap (λ (t : Bool). cond t (Some after) (old a)) h in
        ap (λ o. option_and_then (λ m. look m b) o) here ∙ inner b ∙ ap (λ (o : Option ℕ). cond (bytes_eq second b) (Some place) o) (sym (was b) ∙ ap (λ (t : List ℕ). option_and_then (λ m. look m b) (old t)) same)
        ∙ sym (ap (λ (t : Bool). cond (t && bytes_eq second b) (Some place) (option_and_then (λ m. look m b) (old a))) h)
    by_test (inr h) =
        let there : new a ≡ old a = outer a ∙ ap (λ (t : Bool). cond t (Some after) (old a)) h in
        ap (λ o. option_and_then (λ m. look m b) o) there ∙ sym (ap (λ (t : Bool). cond (t && bytes_eq second b) (Some place) (option_and_then (λ m. look m b) (old a))) h)

member_bytes : {Y : Type 0} (q : List ℕ) (ks : List (String Y)) → list_any (λ k. is_eq (slice_cmp nat_cmp q (string_bytes k))) ks ≡ is_member bytes_eq (map string_bytes ks) q
member_bytes q [] = refl
member_bytes q (k ∷ ks) = rw (is_eq-slice_cmp q (string_bytes k), member_bytes q ks) refl

distinct_bytes : {Y : Type 0} (ks : List (String Y)) → IsDistinct (eq_by_cmp string_cmp) ks → IsDistinct bytes_eq (map string_bytes ks)
unfolding IsDistinct
distinct_bytes [] d = tt
distinct_bytes {Y = Y} (k ∷ ks) d = (others k ks d.0, distinct_bytes ks d.1)
  where
    others : (k : String Y) (ks : List (String Y)) → AllByRecursion (λ y. eq_by_cmp string_cmp k y ≡ false) ks → AllByRecursion (λ t. bytes_eq (string_bytes k) t ≡ false) (map string_bytes ks)
    others k [] h = tt
    others k (j ∷ js) h = (sym (is_eq-slice_cmp (string_bytes k) (string_bytes j)) ∙ h.0, others k js h.1)

-- a map has as many texts as there are different ones among any that it has
pub texts_counted : {X Y : Type 0} (m : BTreeMap (String Y) X) (names : List (List ℕ)) → IsOrdered string_cmp m → ((q : List ℕ) → is_member bytes_eq names q ≡ is_some (get_by_text m q)) → btree_map_len m ≡ distinct_count bytes_eq names
texts_counted m names ordered has =
    sym (length-map m.entries (λ e. e.0)) ∙ sym (length-map (keys m) string_bytes)
    ∙ length-from_keys bytes_eq_equiv (map string_bytes (keys m)) names (distinct_bytes (keys m) (IsDistinct-from_sorted string_cmp (keys m) ordered)) (λ q. sym (member_bytes q (keys m)) ∙ sym (is_some-lookup _ m.entries) ∙ sym (has q))

-- no text is counted where none is found
pub none_counted : (names : List (List ℕ)) → ((q : List ℕ) → is_member bytes_eq names q ≡ false) → 0 ≡ distinct_count bytes_eq names
unfolding IsDistinct
none_counted names none = length-from_keys bytes_eq_equiv [] names tt (λ q. sym (none q))

-- Numbered names are all different, so among more of them than are taken one is free.
use Rattle.std.proofs.Common.{◌≡◌, ℕ, zero, suc, ◌+◌, ◌^◌, ◌<◌, ◌≤◌, Bool, true, false, ◌||◌, List, [], ◌∷◌, ◌++◌, length, map, refl, sym, subst, ◌∙◌, arith, append_assoc}
use Rattle.std.specs.Prelude.{codes}
use Rattle.std.specs.List.{range_with_len, IsDistinct, AllByRecursion}
use Rattle.std.specs.Fmt.{decimal}
use Rattle.std.specs.Str.{bytes_eq}
use Rattle.std.specs.Set.{is_member}
use Rattle.std.specs.Cmp.Lexicographic.{nat_list_eq_equiv}
use Rattle.std.proofs.lemmas.Bool.{false≢true}
use Rattle.std.proofs.lemmas.Fmt.{decimal_injective}
use Rattle.std.proofs.lemmas.List.{append_cancel_left, append-nil}
use Rattle.std.proofs.lemmas.List.FromFn.{length-map-range_with_len}
use Rattle.std.proofs.lemmas.Map.Made.{length-le_from_is_member}
use Rattle.std.proofs.lemmas.Map.Steps.{list_any_congr}
use Rattle.std.proofs.lemmas.Slice.Eq.{bytes_eq-Decides}
use Rattle.lg_names.specs.Names.{is_taken, numbered_name, name_of_label, IsFreeName, AreNames}

-- one name more at the end
pub AreNames-more : (taken labels names : List (List ℕ)) (label : List ℕ) (name : List ℕ) → AreNames taken labels names → IsFreeName (taken ++ names) (name_of_label label) name → AreNames taken (labels ++ label ∷ []) (names ++ name ∷ [])
AreNames-more taken [] [] label name h free = (subst (λ (t : List (List ℕ)). IsFreeName t (name_of_label label) name) (append-nil taken) free, tt)
AreNames-more taken [] (n ∷ names) label name h free = absurd h
AreNames-more taken (l ∷ labels) [] label name h free = absurd h
AreNames-more taken (l ∷ labels) (n ∷ names) label name h free =
    (h.0, AreNames-more (taken ++ n ∷ []) labels names label name h.1 (subst (λ (t : List (List ℕ)). IsFreeName t (name_of_label label) name) (sym (append_assoc taken (n ∷ []) names)) free))

numbered_name_injective : (name : List ℕ) (m n : ℕ) → m < 2 ^ 64 → n < 2 ^ 64 → numbered_name name m ≡ numbered_name name n → m ≡ n
numbered_name_injective name m n fits_m fits_n e =
    let whole : name ++ (codes "_" ++ decimal m) ≡ name ++ (codes "_" ++ decimal n) = sym (append_assoc name (codes "_") (decimal m)) ∙ (e ∙ append_assoc name (codes "_") (decimal n)) in
    let tails = append_cancel_left name (codes "_" ++ decimal m) (codes "_" ++ decimal n) whole in
    decimal_injective m n fits_m fits_n (append_cancel_left (codes "_") (decimal m) (decimal n) tails)

not_same : (name : List ℕ) (m n : ℕ) → m < n → n < 2 ^ 64 → (b : Bool) → bytes_eq (numbered_name name m) (numbered_name name n) ≡ b → b ≡ false
not_same name m n less fits false e = refl
not_same name m n less fits true e =
    let same : m ≡ n = numbered_name_injective name m n (omega arith) fits ((bytes_eq-Decides (numbered_name name m) (numbered_name name n)).0 e) in
    absurd (omega arith)

differ : (name : List ℕ) (m a k : ℕ) → m < a → a + k < 2 ^ 64 → AllByRecursion (λ y. bytes_eq (numbered_name name m) y ≡ false) (map (numbered_name name) (range_with_len a k))
differ name m a zero less fits = tt
differ name m a (suc k) less fits = (not_same name m a less (omega arith) _ refl, differ name m (a + 1) k (omega arith) (omega arith))

distinct : (name : List ℕ) (a k : ℕ) → a + k < 2 ^ 64 → IsDistinct bytes_eq (map (numbered_name name) (range_with_len a k))
unfolding IsDistinct
distinct name a zero fits = tt
distinct name a (suc k) fits = (differ name a (a + 1) k (omega arith) (omega arith), distinct name (a + 1) k (omega arith))

either : (taken : List (List ℕ)) (q first : List ℕ) (rest : List (List ℕ)) (b : Bool) → bytes_eq q first ≡ b → is_member bytes_eq taken first ≡ true
    → (is_member bytes_eq rest q ≡ true → is_member bytes_eq taken q ≡ true) → (b || is_member bytes_eq rest q) ≡ true → is_member bytes_eq taken q ≡ true
either taken q first rest true e here others h = list_any_congr nat_list_eq_equiv q first taken e ∙ here
either taken q first rest false e here others h = others h

all_among : (taken : List (List ℕ)) (name : List ℕ) (a k : ℕ) → ((n : ℕ) → a ≤ n → n < a + k → is_taken taken (numbered_name name n) ≡ true)
    → (q : List ℕ) → is_member bytes_eq (map (numbered_name name) (range_with_len a k)) q ≡ true → is_member bytes_eq taken q ≡ true
all_among taken name a zero all q h = absurd (false≢true h)
all_among taken name a (suc k) all q h =
    either taken q (numbered_name name a) (map (numbered_name name) (range_with_len (a + 1) k)) (bytes_eq q (numbered_name name a)) refl (all a (omega arith) (omega arith))
    (all_among taken name (a + 1) k (λ n low high. all n (omega arith) (omega arith)) q) h

-- not all of more numbered names are taken than there are taken names
pub one_is_free : (taken : List (List ℕ)) (name : List ℕ) → length taken < 2 ^ 63 → ((n : ℕ) → 2 ≤ n → n < length taken + 3 → is_taken taken (numbered_name name n) ≡ true) → ⊥
one_is_free taken name small all =
    let names = map (numbered_name name) (range_with_len 2 (length taken + 1)) in
    let more : length names ≤ length taken = length-le_from_is_member nat_list_eq_equiv names taken (distinct name 2 (length taken + 1) (omega arith)) (all_among taken name 2 (length taken + 1) (λ n low high. all n low (omega arith))) in
    absurd (omega (arith, length-map-range_with_len (numbered_name name) 2 (length taken + 1)))

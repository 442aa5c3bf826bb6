-- All labels have names, if they are few enough to number.
use Rattle.std.proofs.Common.{◌≡◌, ℕ, zero, suc, ◌+◌, ◌^◌, ◌<◌, ◌≤◌, Bool, true, false, List, [], ◌∷◌, ◌++◌, length, refl, sym, subst, arith, inl, inr, ◌⊎◌, MatchBool}
use Rattle.std.proofs.lemmas.Bool.{cases_Bool, cases_eq}
use Rattle.std.proofs.lemmas.List.{length-append}
use Rattle.lg_names.specs.Names.{is_taken, numbered_name, name_of_label, IsFirstFree, IsFreeName, AreNames}
use Rattle.lg_names.proofs.NameLemmas.{one_is_free}

-- the numbers from two on are taken up to this one
abbrev AreTaken : List (List ℕ) → List ℕ → ℕ → Type 0
AreTaken taken name end = (n : ℕ) → 2 ≤ n → n < end → is_taken taken (numbered_name name n) ≡ true

-- one number more is taken
taken_more : (taken : List (List ℕ)) (name : List ℕ) (end : ℕ) → AreTaken taken name end → is_taken taken (numbered_name name end) ≡ true → AreTaken taken name (suc end)
taken_more taken name end before here n low less = by_case (cases_eq n end)
  where
    by_case : (n ≡ end) ⊎ (n ≡ end → ⊥) → is_taken taken (numbered_name name n) ≡ true
    by_case (inl e) = subst (λ (k : ℕ). is_taken taken (numbered_name name k) ≡ true) (sym e) here
    by_case (inr ne) = before n low (omega arith)

-- among so many numbers from this one on the first free one, or all are taken
free_or_taken : (taken : List (List ℕ)) (name : List ℕ) (more from : ℕ) → 2 ≤ from → AreTaken taken name from → ((found : List ℕ) × IsFirstFree taken name found) ⊎ AreTaken taken name (from + more)
free_or_taken taken name zero from low before = inr (λ n least less. before n least (omega arith))
free_or_taken taken name (suc more) from low before =
    by_test (cases_Bool (is_taken taken (numbered_name name from))) (λ t. free_or_taken taken name more (suc from) (omega arith) (taken_more taken name from before t))
  where
    end : AreTaken taken name (suc from + more) → AreTaken taken name (from + suc more)
    end all n least less = all n least (omega arith)

    later : ((found : List ℕ) × IsFirstFree taken name found) ⊎ AreTaken taken name (suc from + more) → ((found : List ℕ) × IsFirstFree taken name found) ⊎ AreTaken taken name (from + suc more)
    later (inl h) = inl h
    later (inr all) = inr (end all)

    by_test : (is_taken taken (numbered_name name from) ≡ true) ⊎ (is_taken taken (numbered_name name from) ≡ false)
        → (is_taken taken (numbered_name name from) ≡ true → ((found : List ℕ) × IsFirstFree taken name found) ⊎ AreTaken taken name (suc from + more))
        → ((found : List ℕ) × IsFirstFree taken name found) ⊎ AreTaken taken name (from + suc more)
    by_test (inl t) go_on = later (go_on t)
    by_test (inr f) go_on = inl (numbered_name name from, record { number = from; from_two = low; numbered = refl; free = f; first = before })

first_free_exists : (taken : List (List ℕ)) (name : List ℕ) → length taken < 2 ^ 63 → (found : List ℕ) × IsFirstFree taken name found
first_free_exists taken name few = found_one (free_or_taken taken name (length taken + 1) 2 (omega arith) (λ n low less. absurd (omega arith)))
  where
    found_one : ((found : List ℕ) × IsFirstFree taken name found) ⊎ AreTaken taken name (2 + (length taken + 1)) → (found : List ℕ) × IsFirstFree taken name found
    found_one (inl h) = h
    found_one (inr all) = absurd (one_is_free taken name few (λ n low less. all n low (omega arith)))

free_name_exists : (taken : List (List ℕ)) (name : List ℕ) → length taken < 2 ^ 63 → (found : List ℕ) × IsFreeName taken name found
free_name_exists taken name few = by_test (is_taken taken name)
  where
    by_test : (b : Bool) → (found : List ℕ) × MatchBool b (IsFirstFree taken name found) (found ≡ name)
    by_test true = first_free_exists taken name few
    by_test false = (name, refl)

names_from : (taken labels : List (List ℕ)) → length taken + length labels < 2 ^ 63 → (names : List (List ℕ)) × AreNames taken labels names
names_from taken [] few = ([], tt)
names_from taken (label ∷ labels) few =
    first (free_name_exists taken (name_of_label label) (omega arith)) (λ (name : List ℕ). names_from (taken ++ name ∷ []) labels (omega (arith, length-append taken (name ∷ []))))
  where
    others : (name : List ℕ) → IsFreeName taken (name_of_label label) name → (names : List (List ℕ)) × AreNames (taken ++ name ∷ []) labels names → (names : List (List ℕ)) × AreNames taken (label ∷ labels) names
    others name free (names, are) = (name ∷ names, (free, are))

    first : (name : List ℕ) × IsFreeName taken (name_of_label label) name → ((name : List ℕ) → (names : List (List ℕ)) × AreNames (taken ++ name ∷ []) labels names)
        → (names : List (List ℕ)) × AreNames taken (label ∷ labels) names
    first (name, free) go_on = others name free (go_on name)

pub names_exist : (labels : List (List ℕ)) → length labels < 2 ^ 63 → (names : List (List ℕ)) × AreNames [] labels names
names_exist labels few = names_from [] labels (omega arith)

-- What is known of taken names, when a name and a next number come to it.
use Rattle.std.proofs.Common.{◌≡◌, ℕ, ◌+◌, ◌<◌, ◌≤◌, Bool, true, false, cond, ◌||◌, List, [], ◌∷◌, ◌++◌, length, Option, Some, is_some, Result, Ok, Err, refl, sym, ap, subst, ◌∙◌, arith, inl, inr, ◌⊎◌}
use Rattle.std.proofs.lemmas.Option.{same_Some}
use Rattle.std.specs.Prelude.{IfOk}
use Rattle.std.specs.Map.{update}
use Rattle.std.specs.Str.{bytes_eq}
use Rattle.std.proofs.lemmas.Bool.{cases_lt, false≢true}
use Rattle.std.proofs.lemmas.List.{length-append}
use Rattle.std.proofs.lemmas.List.Folds.{list_any-append}
use Rattle.std.proofs.lemmas.Slice.Eq.{bytes_eq-Decides}
use Rattle.lg_names.specs.Names.{is_taken, numbered_name, IsFirstFree, IsFreeName}
use Rattle.lg_names.specs.NextNumbers.{IsTriedTo, KnowsTaken, IsFirstFreeNumber}

abbrev some : ℕ → Option ℕ
some n = Some n

or_left : (a b : Bool) → a ≡ true → (a || b) ≡ true
or_left true b e = refl
or_left false b e = absurd (false≢true e)

or_here : (a b : Bool) → b ≡ true → (a || (b || false)) ≡ true
or_here true b e = refl
or_here false true e = refl
or_here false false e = absurd (false≢true e)

bytes_eq_flip : (a b : Bool) (xs ys : List ℕ) → bytes_eq xs ys ≡ a → bytes_eq ys xs ≡ b → a ≡ b
bytes_eq_flip true true xs ys e f = refl
bytes_eq_flip false false xs ys e f = refl
bytes_eq_flip true false xs ys e f = sym ((bytes_eq-Decides ys xs).1 (sym ((bytes_eq-Decides xs ys).0 e))) ∙ f
bytes_eq_flip false true xs ys e f = sym e ∙ (bytes_eq-Decides xs ys).1 (sym ((bytes_eq-Decides ys xs).0 f))

-- a taken name stays taken
pub still_taken : (taken : List (List ℕ)) (found name : List ℕ) → is_taken taken name ≡ true → is_taken (taken ++ found ∷ []) name ≡ true
still_taken taken found name e = list_any-append (bytes_eq name) taken (found ∷ []) ∙ or_left (is_taken taken name) (bytes_eq name found || false) e

now_taken : (taken : List (List ℕ)) (found : List ℕ) → is_taken (taken ++ found ∷ []) found ≡ true
now_taken taken found = list_any-append (bytes_eq found) taken (found ∷ []) ∙ or_here (is_taken taken found) (bytes_eq found found) ((bytes_eq-Decides found found).1 refl)

still_tried : (taken : List (List ℕ)) (found name : List ℕ) (n : ℕ) → IsTriedTo taken name n → IsTriedTo (taken ++ found ∷ []) name n
still_tried taken found name n t = record {
  from_two = t.from_two;
  few = omega (arith, t.few, length-append taken (found ∷ []));
  before = λ m low high. still_taken taken found (numbered_name name m) (t.before m low high);
}

not_tried : (taken : List (List ℕ)) (name : List ℕ) (n : ℕ) → 2 ≡ n → IsTriedTo taken name n
not_tried taken name n e = record {
  from_two = omega arith;
  few = omega arith;
  before = λ m low high. absurd (omega arith);
}

known_more : (here t : Bool) (old : Option ℕ) → is_some old ≡ t → is_some (cond here (some 2) old) ≡ (t || (here || false))
known_more true true old e = refl
known_more true false old e = refl
known_more false true old e = e
known_more false false old e = e

tried_more : (taken : List (List ℕ)) (found name : List ℕ) (n : ℕ) (here : Bool) (old : Option ℕ) → (old ≡ some n → IsTriedTo taken name n) → cond here (some 2) old ≡ some n
    → IsTriedTo (taken ++ found ∷ []) name n
tried_more taken found name n true old t e = not_tried (taken ++ found ∷ []) name n (same_Some 2 n e)
tried_more taken found name n false old t e = still_tried taken found name n (t e)

-- one name more is taken, for which no number was tried
pub KnowsTaken-more : (taken : List (List ℕ)) (next after : List ℕ → Option ℕ) (found : List ℕ) → KnowsTaken taken next → ((name : List ℕ) → after name ≡ update bytes_eq next found (some 2) name)
    → KnowsTaken (taken ++ found ∷ []) after
KnowsTaken-more taken next after found k e = record {
  known = λ name.
      let flipped : bytes_eq found name ≡ bytes_eq name found = bytes_eq_flip (bytes_eq found name) (bytes_eq name found) found name refl refl in
      ap is_some (e name) ∙ known_more (bytes_eq found name) (is_taken taken name) (next name) (k.known name)
      ∙ (ap (λ (b : Bool). is_taken taken name || (b || false)) flipped ∙ sym (list_any-append (bytes_eq name) taken (found ∷ [])));
  tried = λ name n h. tried_more taken found name n (bytes_eq found name) (next name) (k.tried name n) (sym (e name) ∙ h);
}

known_set : (taken : List (List ℕ)) (name q : List ℕ) (n : ℕ) (here : Bool) (old : Option ℕ) → bytes_eq name q ≡ here → is_taken taken name ≡ true → is_some old ≡ is_taken taken q
    → is_some (cond here (some n) old) ≡ is_taken taken q
known_set taken name q n true old e t k = sym (ap (is_taken taken) (sym ((bytes_eq-Decides name q).0 e)) ∙ t)
known_set taken name q n false old e t k = k

tried_set : (taken : List (List ℕ)) (name q : List ℕ) (n m : ℕ) (here : Bool) (old : Option ℕ) → bytes_eq name q ≡ here → IsTriedTo taken name n → (old ≡ some m → IsTriedTo taken q m)
    → cond here (some n) old ≡ some m → IsTriedTo taken q m
tried_set taken name q n m true old e t others h =
    subst (λ (k : ℕ). IsTriedTo taken q k) (same_Some n m h) (subst (λ (x : List ℕ). IsTriedTo taken x n) ((bytes_eq-Decides name q).0 e) t)
tried_set taken name q n m false old e t others h = others h

-- a taken name gets another next number
pub KnowsTaken-set : (taken : List (List ℕ)) (next after : List ℕ → Option ℕ) (name : List ℕ) (n : ℕ) → KnowsTaken taken next → is_taken taken name ≡ true → IsTriedTo taken name n
    → ((q : List ℕ) → after q ≡ update bytes_eq next name (some n) q) → KnowsTaken taken after
KnowsTaken-set taken next after name n k here t e = record {
  known = λ q. ap is_some (e q) ∙ known_set taken name q n (bytes_eq name q) (next q) refl here (k.known q);
  tried = λ q m h. tried_set taken name q n m (bytes_eq name q) (next q) refl t (k.tried q m) (sym (e q) ∙ h);
}

before_next : (taken : List (List ℕ)) (name : List ℕ) (number m : ℕ) → IsFirstFreeNumber taken name number → 2 ≤ m → m ≤ number → (m < number) ⊎ (number ≤ m)
    → is_taken (taken ++ numbered_name name number ∷ []) (numbered_name name m) ≡ true
before_next taken name number m f low high (inl less) = still_taken taken (numbered_name name number) (numbered_name name m) (f.tried.before m low less)
before_next taken name number m f low high (inr more) =
    let same : number ≡ m = omega arith in
    subst (λ (n : ℕ). is_taken (taken ++ numbered_name name number ∷ []) (numbered_name name n) ≡ true) same (now_taken taken (numbered_name name number))

-- the number after the one that is taken now
pub IsTriedTo-next : (taken : List (List ℕ)) (name : List ℕ) (number : ℕ) → IsFirstFreeNumber taken name number → IsTriedTo (taken ++ numbered_name name number ∷ []) name (number + 1)
IsTriedTo-next taken name number f = record {
  from_two = omega (arith, f.tried.from_two);
  few = omega (arith, f.tried.few, length-append taken (numbered_name name number ∷ []));
  before = λ m low high. before_next taken name number m f low (omega arith) (cases_lt m number);
}

-- a number whose name is not known
pub IsFirstFreeNumber-here : (taken : List (List ℕ)) (next : List ℕ → Option ℕ) (name found : List ℕ) (tried number : ℕ) → KnowsTaken taken next → IsTriedTo taken name tried → tried ≤ number
    → number < length taken + 3 → ((n : ℕ) → 2 ≤ n → n < number → is_taken taken (numbered_name name n) ≡ true) → found ≡ numbered_name name number → is_some (next found) ≡ false
    → IsFirstFreeNumber taken name number
IsFirstFreeNumber-here taken next name found tried number k t more few before e free = record {
  tried = record { from_two = omega (arith, t.from_two); few = omega arith; before = before };
  free = ap (is_taken taken) (sym e) ∙ (sym (k.known found) ∙ free);
}

-- one number more is taken
pub before_more : (taken : List (List ℕ)) (next : List ℕ → Option ℕ) (name found : List ℕ) (number : ℕ) → KnowsTaken taken next
    → ((n : ℕ) → 2 ≤ n → n < number → is_taken taken (numbered_name name n) ≡ true) → found ≡ numbered_name name number → is_some (next found) ≡ true
    → (m : ℕ) → 2 ≤ m → m < number + 1 → is_taken taken (numbered_name name m) ≡ true
before_more taken next name found number k before e here m low high = by_place (cases_lt m number)
  where
    by_place : (m < number) ⊎ (number ≤ m) → is_taken taken (numbered_name name m) ≡ true
    by_place (inl less) = before m low less
    by_place (inr more) =
        let same : number ≡ m = omega arith in
        ap (λ (n : ℕ). is_taken taken (numbered_name name n)) (sym same) ∙ (ap (is_taken taken) (sym e) ∙ (sym (k.known found) ∙ here))

-- the first free name of one that is taken
pub IsFreeName-first : {E : Type 0} (taken : List (List ℕ)) (name : List ℕ) (r : Result (List ℕ) E) → is_taken taken name ≡ true → IfOk r (λ found. IsFirstFree taken name found)
    → IfOk r (λ found. IsFreeName taken name found)
IsFreeName-first taken name (Ok found) e f = rw e f
IsFreeName-first taken name (Err x) e f = tt

-- the name itself
pub IsFreeName-itself : (taken : List (List ℕ)) (name : List ℕ) → is_taken taken name ≡ false → IsFreeName taken name name
IsFreeName-itself taken name e = rw e (refl {a = name})

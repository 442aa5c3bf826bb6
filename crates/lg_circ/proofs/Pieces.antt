-- Pieces of the text: what was read is spelled so, and what is spelled so is read again.
use Rattle.std.proofs.Common.{◌≡◌, ℕ, ◌<◌, Bool, true, false, cond, List, [], ◌∷◌, ◌++◌, length, Option, Some, None, refl, sym, ap, subst, ◌∙◌, arith, inl, inr, ◌⊎◌}
use Rattle.std.specs.List.{list_all}
use Rattle.std.proofs.lemmas.Bool.{and_parts, and_from, or_left, cases_Bool, cond-true, cond-false}
use Rattle.std.proofs.lemmas.Bool.Decides.{nat_tests}
use Rattle.std.proofs.lemmas.Option.{same_Some}
use Rattle.lg_circ.specs.Grammar.{is_white, IsWhite, IsGap, begins_name, continues_name, IsName}
use Rattle.lg_circ.specs.Meaning.{◌>>=◌}
use Rattle.lg_circ.specs.Reading.{ends_tag, begins, front_of, rest_of, after_gap, name_at}
use Rattle.lg_circ.proofs.Marks.{guard_some}

-- a step that did not fail goes on with its value
pub bind_at : {A B : Type 0} (o : Option A) (f : A → Option B) (x : A) → o ≡ Some x → (o >>= f) ≡ f x
bind_at o f x e = ap (λ (p : Option _). p >>= f) e

-- which way a choice went
pub chosen : {A : Type 0} (b : Bool) (x y z : A) → cond b x y ≡ z → ((b ≡ true) × (x ≡ z)) ⊎ ((b ≡ false) × (y ≡ z))
chosen true x y z e = inl (refl, e)
chosen false x y z e = inr (refl, e)

pub front_rest : (p : ℕ → Bool) (xs : List ℕ) → front_of p xs ++ rest_of p xs ≡ xs
front_rest p [] = refl
front_rest p (x ∷ xs) = elim (p x) as (λ b. cond b (x ∷ front_of p xs) [] ++ cond b (rest_of p xs) (x ∷ xs) ≡ x ∷ xs) [ true ↦ ap (λ (ys : List ℕ). x ∷ ys) (front_rest p xs) | false ↦ refl ]

pub front_cons : (p : ℕ → Bool) (c : ℕ) (cs : List ℕ) → p c ≡ true → front_of p (c ∷ cs) ≡ c ∷ front_of p cs
front_cons p c cs e = cond-true (p c) (c ∷ front_of p cs) [] e

pub front_all : (p : ℕ → Bool) (xs : List ℕ) → list_all p (front_of p xs) ≡ true
front_all p [] = refl
front_all p (x ∷ xs) =
    elim (cases_Bool (p x)) [
      | inl e ↦ ap (λ (ys : List ℕ). list_all p ys) (front_cons p x xs e) ∙ and_from (p x) (list_all p (front_of p xs)) e (front_all p xs)
      | inr e ↦ ap (λ (ys : List ℕ). list_all p ys) (cond-false (p x) (x ∷ front_of p xs) [] e)
    ]

-- there is nothing, or the first byte does not pass
abbrev pub Stops : (ℕ → Bool) → List ℕ → Type 0
Stops p [] = Unit {0}
Stops p (c ∷ cs) = p c ≡ false

pub front_again : (p : ℕ → Bool) (xs ys : List ℕ) → list_all p xs ≡ true → Stops p ys → front_of p (xs ++ ys) ≡ xs
front_again p [] [] all stop = refl
front_again p [] (y ∷ ys) all stop = cond-false (p y) (y ∷ front_of p ys) [] stop
front_again p (x ∷ xs) ys all stop =
    let b = and_parts (p x) (list_all p xs) all in
    front_cons p x (xs ++ ys) b.0 ∙ ap (λ (zs : List ℕ). x ∷ zs) (front_again p xs ys b.1 stop)

pub rest_again : (p : ℕ → Bool) (xs ys : List ℕ) → list_all p xs ≡ true → Stops p ys → rest_of p (xs ++ ys) ≡ ys
rest_again p [] [] all stop = refl
rest_again p [] (y ∷ ys) all stop = cond-false (p y) (rest_of p ys) (y ∷ ys) stop
rest_again p (x ∷ xs) ys all stop =
    let b = and_parts (p x) (list_all p xs) all in
    cond-true (p x) (rest_of p (xs ++ ys)) (x ∷ (xs ++ ys)) b.0 ∙ rest_again p xs ys b.1 stop

-- kinds of bytes that have none in common
pub starts_name_not_white : (c : ℕ) → begins_name c ≡ true → is_white c ≡ false
starts_name_not_white c e = grind (arith, nat_tests)

pub starts_name_no_end : (c : ℕ) → begins_name c ≡ true → ends_tag c ≡ false
starts_name_no_end c e = grind (arith, nat_tests)

pub white_not_in_name : (c : ℕ) → is_white c ≡ true → continues_name c ≡ false
white_not_in_name c e = grind (arith, nat_tests)

pub end_not_in_name : (c : ℕ) → ends_tag c ≡ true → continues_name c ≡ false
end_not_in_name c e = grind (arith, nat_tests)

pub end_not_white : (c : ℕ) → ends_tag c ≡ true → is_white c ≡ false
end_not_white c e = grind (arith, nat_tests)

pub starts_name_in_name : (c : ℕ) → begins_name c ≡ true → continues_name c ≡ true
starts_name_in_name c e = or_left _ _ (or_left _ _ (or_left _ _ e))

pub name_not_white : (name rest : List ℕ) → IsName name → Stops is_white (name ++ rest)
name_not_white [] rest h = absurd h
name_not_white (c ∷ cs) rest h = starts_name_not_white c (and_parts (begins_name c) (list_all continues_name cs) h).0

pub name_no_end : (name rest : List ℕ) → IsName name → begins ends_tag (name ++ rest) ≡ false
name_no_end [] rest h = absurd h
name_no_end (c ∷ cs) rest h = starts_name_no_end c (and_parts (begins_name c) (list_all continues_name cs) h).0

pub white_ends_name : (white rest : List ℕ) → IsWhite white → Stops continues_name rest → Stops continues_name (white ++ rest)
white_ends_name [] rest h stop = stop
white_ends_name (c ∷ cs) rest h stop = white_not_in_name c (and_parts (is_white c) (list_all is_white cs) h).0

pub end_ends_name : (tag : List ℕ) → begins ends_tag tag ≡ true → Stops continues_name tag
end_ends_name [] h = tt
end_ends_name (c ∷ cs) h = end_not_in_name c h

pub end_ends_white : (tag : List ℕ) → begins ends_tag tag ≡ true → Stops is_white tag
end_ends_white [] h = tt
end_ends_white (c ∷ cs) h = end_not_white c h

pub name_takes : (bytes : List ℕ) (x : List ℕ × List ℕ) → name_at bytes ≡ Some x → IsName x.0 × (bytes ≡ x.0 ++ x.1)
unfolding name_at
name_takes [] x e = absurd cc
name_takes (c ∷ cs) x e =
    let g = guard_some (begins_name c) (Some (front_of continues_name (c ∷ cs), rest_of continues_name (c ∷ cs))) x e in
    let front = front_cons continues_name c cs (starts_name_in_name c g.0) in
    let named : IsName (c ∷ front_of continues_name cs) = and_from (begins_name c) (list_all continues_name (front_of continues_name cs)) g.0 (front_all continues_name cs) in
    let made : List ℕ × List ℕ = (front_of continues_name (c ∷ cs), rest_of continues_name (c ∷ cs)) in
    subst (λ (y : List ℕ × List ℕ). IsName y.0 × (c ∷ cs ≡ y.0 ++ y.1)) (same_Some made x g.1)
    (subst IsName (sym front) named, sym (front_rest continues_name (c ∷ cs)))

pub name_again : (name rest : List ℕ) → IsName name → Stops continues_name rest → name_at (name ++ rest) ≡ Some (name, rest)
unfolding name_at
name_again [] rest h stop = absurd h
name_again (c ∷ cs) rest h stop =
    let b = and_parts (begins_name c) (list_all continues_name cs) h in
    let all : list_all continues_name (c ∷ cs) ≡ true = and_from (continues_name c) (list_all continues_name cs) (starts_name_in_name c b.0) b.1 in
    let text : List ℕ = (c ∷ cs) ++ rest in
    cond-true (begins_name c) (Some (front_of continues_name text, rest_of continues_name text)) None b.0
    ∙ ap (λ (f : List ℕ). Some (f, rest_of continues_name text)) (front_again continues_name (c ∷ cs) rest all stop)
    ∙ ap (λ (r : List ℕ). Some (c ∷ cs, r)) (rest_again continues_name (c ∷ cs) rest all stop)

pub gap_takes : (bytes rest : List ℕ) → after_gap bytes ≡ Some rest → (gap : List ℕ) × IsGap gap × (bytes ≡ gap ++ rest)
gap_takes [] rest e = absurd cc
gap_takes (c ∷ cs) rest e =
    let g = guard_some (is_white c) (Some (rest_of is_white (c ∷ cs))) rest e in
    let front = front_cons is_white c cs g.0 in
    let long : 0 < length (front_of is_white (c ∷ cs)) = subst (λ (f : List ℕ). 0 < length f) (sym front) (omega arith) in
    (front_of is_white (c ∷ cs), (front_all is_white (c ∷ cs), long), sym (front_rest is_white (c ∷ cs)) ∙ ap (λ (r : List ℕ). front_of is_white (c ∷ cs) ++ r) (same_Some _ _ g.1))

pub gap_again : (gap rest : List ℕ) → IsGap gap → Stops is_white rest → after_gap (gap ++ rest) ≡ Some rest
gap_again [] rest h stop = absurd (omega (arith, h.1))
gap_again (c ∷ cs) rest h stop =
    let b = and_parts (is_white c) (list_all is_white cs) h.0 in
    cond-true (is_white c) (Some (rest_of is_white ((c ∷ cs) ++ rest))) None b.0 ∙ ap (λ (r : List ℕ). Some r) (rest_again is_white (c ∷ cs) rest h.0 stop)

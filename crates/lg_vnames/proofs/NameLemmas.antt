-- A set of names takes one name more, or tells that it is there.
use Rattle.std.proofs.Common.{◌≡◌, ℕ, Bool, true, false, cond, ◌&&◌, ◌||◌, List, [], ◌∷◌, ◌++◌, refl, sym, ap, subst, ◌∙◌}
use Rattle.std.specs.Prelude.{not}
use Rattle.std.specs.Str.{bytes_eq}
use Rattle.std.proofs.lemmas.Bool.{and_parts}
use Rattle.std.proofs.lemmas.Slice.Eq.{bytes_eq-Decides}
use Rattle.lg_vnames.specs.declared.name_set.NameSet.{NameSet}
use Rattle.lg_vnames.specs.Names.{is_among, all_differ}
use Rattle.lg_vnames.specs.Sets.{holds, KnowsNames}

-- booleans

or_join : (a b c : Bool) → (a || (b || c)) ≡ ((a || b) || c)
or_join true b c = refl
or_join false b c = refl

or_false : (b : Bool) → (b || false) ≡ b
or_false true = refl
or_false false = refl

or_true : (b : Bool) → (b || true) ≡ true
or_true true = refl
or_true false = refl

and_false : (b : Bool) → (b && false) ≡ false
and_false true = refl
and_false false = refl

pub neither : (a b : Bool) → (a || b) ≡ false → (a ≡ false) × (b ≡ false)
neither true b e = absurd (cc e)
neither false b e = (refl, e)

not_not : (b : Bool) → not (not b) ≡ b
not_not true = refl
not_not false = refl

pub not_true : (b : Bool) → not b ≡ true → b ≡ false
not_true true e = absurd (cc e)
not_true false e = refl

pub both : {a b : Bool} → a ≡ true → b ≡ true → (a && b) ≡ true
both e f = rw (e, f) refl

-- names

pub flip : (a b : List ℕ) → bytes_eq a b ≡ bytes_eq b a
flip a b = same (bytes_eq a b) (bytes_eq b a) refl refl
  where
    same : (x y : Bool) → bytes_eq a b ≡ x → bytes_eq b a ≡ y → bytes_eq a b ≡ bytes_eq b a
    same true y e f = e ∙ sym ((bytes_eq-Decides b a).1 (sym ((bytes_eq-Decides a b).0 e)))
    same false true e f = (bytes_eq-Decides a b).1 (sym ((bytes_eq-Decides b a).0 f)) ∙ sym f
    same false false e f = e ∙ sym f

among_more : (some : List (List ℕ)) (other name : List ℕ) → is_among name (some ++ other ∷ []) ≡ (is_among name some || bytes_eq other name)
among_more [] other name = or_false (bytes_eq other name)
among_more (s ∷ some) other name = ap (λ (b : Bool). bytes_eq s name || b) (among_more some other name) ∙ or_join (bytes_eq s name) (is_among name some) (bytes_eq other name)

pub differ_more : (some : List (List ℕ)) (name : List ℕ) → all_differ some ≡ true → is_among name some ≡ false → all_differ (some ++ name ∷ []) ≡ true
differ_more [] name d fresh = refl
differ_more (s ∷ some) name d fresh =
    let parts = and_parts (not (is_among s some)) (all_differ some) d in
    let apart = neither (bytes_eq s name) (is_among name some) fresh in
    let first : not (is_among s (some ++ name ∷ [])) ≡ true = rw (among_more some name s, flip name s, apart.0, or_false (is_among s some)) parts.0 in
    both first (differ_more some name parts.1 apart.1)

-- names of which two are equal, with more behind them
pub differ_front : (some more : List (List ℕ)) → all_differ some ≡ false → all_differ (some ++ more) ≡ false
differ_front [] more e = absurd (cc e)
differ_front (s ∷ some) more e = step (is_among s some) refl (λ f. differ_front some more f)
  where
    stays : (some : List (List ℕ)) → is_among s some ≡ true → is_among s (some ++ more) ≡ true
    stays [] f = absurd (cc f)
    stays (t ∷ some) f = or_on (bytes_eq t s) (is_among s some) (is_among s (some ++ more)) (λ g. stays some g) f
      where
        or_on : (a b c : Bool) → (b ≡ true → c ≡ true) → (a || b) ≡ true → (a || c) ≡ true
        or_on true b c g f = refl
        or_on false b c g f = g f

    step : (b : Bool) → is_among s some ≡ b → (all_differ some ≡ false → all_differ (some ++ more) ≡ false) → (not (is_among s (some ++ more)) && all_differ (some ++ more)) ≡ false
    step true f rest = rw (stays some f) refl
    step false f rest =
        let later : all_differ some ≡ false = subst (λ (b : Bool). (not b && all_differ some) ≡ false) f e in
        rw (rest later) (and_false (not (is_among s (some ++ more))))

-- a name that stands already
pub clash : (some : List (List ℕ)) (name : List ℕ) → is_among name some ≡ true → all_differ (some ++ name ∷ []) ≡ false
clash [] name e = absurd (cc e)
clash (s ∷ some) name e = step (bytes_eq s name) refl e (λ f. clash some name f)
  where
    step : (b : Bool) → bytes_eq s name ≡ b → (bytes_eq s name || is_among name some) ≡ true → (is_among name some ≡ true → all_differ (some ++ name ∷ []) ≡ false)
        → (not (is_among s (some ++ name ∷ [])) && all_differ (some ++ name ∷ [])) ≡ false
    step true f e rest = rw (among_more some name s, flip name s, f, or_true (is_among s some)) refl
    step false f e rest =
        let later : is_among name some ≡ true = subst (λ (b : Bool). (b || is_among name some) ≡ true) f e in
        rw (rest later) (and_false (not (is_among s (some ++ name ∷ []))))

-- sets

-- a set takes a new name
pub KnowsNames-more : (some : List (List ℕ)) (name : List ℕ) (old new : NameSet) → KnowsNames some old → holds old name ≡ false → ((q : List ℕ) → holds new q ≡ cond (bytes_eq name q) true (holds old q)) → KnowsNames (some ++ name ∷ []) new
KnowsNames-more some name old new knows fresh grows = record {
  differ = differ_more some name knows.differ (sym (knows.known name) ∙ fresh);
  known = λ q. grows q ∙ (turned (bytes_eq name q) (holds old q) ∙ (ap (λ (b : Bool). b || bytes_eq name q) (knows.known q) ∙ sym (among_more some name q)));
}
  where
    turned : (new old : Bool) → cond new true old ≡ (old || new)
    turned true true = refl
    turned true false = refl
    turned false true = refl
    turned false false = refl

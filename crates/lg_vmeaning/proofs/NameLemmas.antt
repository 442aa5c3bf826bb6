-- The names of things that differ, sort by sort.
use Rattle.std.proofs.Common.{◌≡◌, ℕ, Bool, true, false, cond, ◌||◌, List, [], ◌∷◌, map, Option, Some, refl, sym, ap, subst, ◌∙◌, inl, inr, ◌⊎◌}
use Rattle.std.specs.Prelude.{not, option_map, unwrap_or, filter}
use Rattle.std.specs.List.{AllByRecursion, list_all}
use Rattle.std.specs.Map.{lookup}
use Rattle.std.specs.Str.{bytes_eq}
use Rattle.std.proofs.lemmas.Bool.{and_parts, false≢true}
use Rattle.std.proofs.lemmas.Option.{same_Some}
use Rattle.std.proofs.lemmas.Slice.Eq.{bytes_eq-Decides}
use Rattle.lg_vrules.specs.declared.names.Sort.{Sort}
use Rattle.lg_vrules.specs.declared.names.Thing.{Thing}
use Rattle.lg_vrules.specs.Things.{range_width}
use Rattle.lg_vrules.specs.Rules.{is_among, all_differ}
use Rattle.lg_vrules.proofs.NameLemmas.{not_true}
use Rattle.lg_vmeaning.specs.InOrder.{IsIn, AllDiffer}

abbrev pub Named : Type 0
Named = List ℕ × Thing

abbrev pub found : List Named → List ℕ → Option Thing
found all name = lookup (λ other. bytes_eq other name) all

abbrev pub firsts : List Named → List (List ℕ)
firsts all = map (λ (t : Named). t.0) all

abbrev pub lines_in : (Sort → Bool) → List Named → List (List ℕ × ℕ)
lines_in is all = map (λ (t : Named). (t.0, range_width t.1.high)) (filter (λ (t : Named). is t.1.sort) all)

abbrev pub names_in : (Sort → Bool) → List Named → List (List ℕ)
names_in is all = map (λ (l : List ℕ × ℕ). l.0) (lines_in is all)

-- the line is one of these
abbrev pub IsLine : List (List ℕ × ℕ) → List ℕ × ℕ → Type 0
IsLine [] l = ⊥
IsLine (other ∷ more) l = (l ≡ other) ⊎ IsLine more l

pub at_lines : (P : List ℕ × ℕ → Type 0) (lines : List (List ℕ × ℕ)) → ((l : List ℕ × ℕ) → IsLine lines l → P l) → AllByRecursion P lines
at_lines P [] each = tt
at_lines P (l ∷ lines) each = (each l (inl refl), at_lines P lines (λ other here. each other (inr here)))

pub at_line : (P : List ℕ × ℕ → Type 0) (lines : List (List ℕ × ℕ)) (l : List ℕ × ℕ) → AllByRecursion P lines → IsLine lines l → P l
at_line P [] l all here = absurd here
at_line P (other ∷ lines) l all (inl e) = subst P (sym e) all.0
at_line P (other ∷ lines) l all (inr here) = at_line P lines l all.1 here

pub line_name : (lines : List (List ℕ × ℕ)) (l : List ℕ × ℕ) → IsLine lines l → IsIn (map (λ (l : List ℕ × ℕ). l.0) lines) l.0
line_name [] l here = absurd here
line_name (other ∷ lines) l (inl e) = inl (ap (λ (l : List ℕ × ℕ). l.0) e)
line_name (other ∷ lines) l (inr here) = inr (line_name lines l here)

pub in_among : (names : List (List ℕ)) (name : List ℕ) → is_among name names ≡ true → IsIn names name
in_among [] name e = absurd (cc e)
in_among (other ∷ names) name e = step (bytes_eq other name) refl e (in_among names name)
  where
    step : (b : Bool) → bytes_eq other name ≡ b → (b || is_among name names) ≡ true → (is_among name names ≡ true → IsIn names name) → IsIn (other ∷ names) name
    step true f e rest = inl (sym ((bytes_eq-Decides other name).0 f))
    step false f e rest = inr (rest e)

among_in : (names : List (List ℕ)) (name : List ℕ) → IsIn names name → is_among name names ≡ true
among_in [] name here = absurd here
among_in (other ∷ names) name (inl e) = let same : bytes_eq other name ≡ true = (bytes_eq-Decides other name).1 (sym e) in rw same refl
among_in (other ∷ names) name (inr here) = rw (among_in names name here) (or_true (bytes_eq other name))
  where
    or_true : (b : Bool) → (b || true) ≡ true
    or_true true = refl
    or_true false = refl

-- names of one sort are names
in_firsts : (is : Sort → Bool) (all : List Named) (name : List ℕ) → IsIn (names_in is all) name → IsIn (firsts all) name
in_firsts is [] name here = absurd here
in_firsts is (t ∷ all) name here = step (is t.1.sort) here (in_firsts is all name)
  where
    step : (b : Bool) → IsIn (map (λ (l : List ℕ × ℕ). l.0) (map (λ (t : Named). (t.0, range_width t.1.high)) (cond b (t ∷ filter (λ (t : Named). is t.1.sort) all) (filter (λ (t : Named). is t.1.sort) all)))) name
        → (IsIn (names_in is all) name → IsIn (firsts all) name) → IsIn (firsts (t ∷ all)) name
    step true (inl e) rest = inl e
    step true (inr here) rest = inr (rest here)
    step false here rest = inr (rest here)

-- a name of names that differ is not the one before them
apart : (t : Named) (all : List Named) (name : List ℕ) → all_differ (firsts (t ∷ all)) ≡ true → IsIn (firsts all) name → bytes_eq t.0 name ≡ false
apart t all name differ here = step (bytes_eq t.0 name) refl
  where
    step : (b : Bool) → bytes_eq t.0 name ≡ b → bytes_eq t.0 name ≡ false
    step false e = e
    step true e =
        let fresh : is_among t.0 (firsts all) ≡ false = not_true (is_among t.0 (firsts all)) (and_parts (not (is_among t.0 (firsts all))) (all_differ (firsts all)) differ).0 in
        let among : is_among t.0 (firsts all) ≡ true = ap (λ n. is_among n (firsts all)) ((bytes_eq-Decides t.0 name).0 e) ∙ among_in (firsts all) name here in
        absurd (false≢true (sym fresh ∙ among))

rest_differ : (t : Named) (all : List Named) → all_differ (firsts (t ∷ all)) ≡ true → all_differ (firsts all) ≡ true
rest_differ t all differ = (and_parts (not (is_among t.0 (firsts all))) (all_differ (firsts all)) differ).1

-- what is found under the name of a line
pub line_found : (is : Sort → Bool) (all : List Named) (l : List ℕ × ℕ) → all_differ (firsts all) ≡ true → IsLine (lines_in is all) l
    → (t : Thing) × (found all l.0 ≡ Some t) × (is t.sort ≡ true) × (range_width t.high ≡ l.1)
line_found is [] l differ here = absurd here
line_found is (t ∷ all) l differ here = step (is t.1.sort) refl here (line_found is all l (rest_differ t all differ)) (λ there. apart t all l.0 differ (in_firsts is all l.0 (line_name (lines_in is all) l there)))
  where
    Found : List Named → Type 0
    Found some = (t : Thing) × (found some l.0 ≡ Some t) × (is t.sort ≡ true) × (range_width t.high ≡ l.1)

    later : (IsLine (lines_in is all) l → Found all) → (IsLine (lines_in is all) l → bytes_eq t.0 l.0 ≡ false) → IsLine (lines_in is all) l → Found (t ∷ all)
    later rest away there = let r = rest there in (r.0, rw (away there) r.1, r.2, r.3)

    step : (b : Bool) → is t.1.sort ≡ b → IsLine (map (λ (t : Named). (t.0, range_width t.1.high)) (cond b (t ∷ filter (λ (t : Named). is t.1.sort) all) (filter (λ (t : Named). is t.1.sort) all))) l
        → (IsLine (lines_in is all) l → Found all) → (IsLine (lines_in is all) l → bytes_eq t.0 l.0 ≡ false) → Found (t ∷ all)
    step true e (inl f) rest away =
        let same : bytes_eq t.0 l.0 ≡ true = (bytes_eq-Decides t.0 l.0).1 (sym (ap (λ (l : List ℕ × ℕ). l.0) f)) in
        (t.1, rw same refl, e, sym (ap (λ (l : List ℕ × ℕ). l.1) f))
    step true e (inr there) rest away = later rest away there
    step false e there rest away = later rest away there

-- a name of a sort stands in a line
pub named_line : (is : Sort → Bool) (all : List Named) (name : List ℕ) → IsIn (names_in is all) name → (l : List ℕ × ℕ) × IsLine (lines_in is all) l × (l.0 ≡ name)
named_line is all name here = of_names (lines_in is all) here
  where
    of_names : (lines : List (List ℕ × ℕ)) → IsIn (map (λ (l : List ℕ × ℕ). l.0) lines) name → (l : List ℕ × ℕ) × IsLine lines l × (l.0 ≡ name)
    of_names [] here = absurd here
    of_names (l ∷ lines) (inl e) = (l, inl refl, sym e)
    of_names (l ∷ lines) (inr here) = let r = of_names lines here in (r.0, inr r.1, r.2)

-- what is found stands in its sort
pub found_in : (is : Sort → Bool) (all : List Named) (name : List ℕ) (thing : Thing) → found all name ≡ Some thing → is thing.sort ≡ true → IsIn (names_in is all) name
found_in is [] name thing e has = absurd (cc e)
found_in is (t ∷ all) name thing e has = step (bytes_eq t.0 name) (is t.1.sort) refl refl e (λ f. found_in is all name thing f has)
  where
    step : (here b : Bool) → bytes_eq t.0 name ≡ here → is t.1.sort ≡ b → cond here (Some t.1) (found all name) ≡ Some thing → (found all name ≡ Some thing → IsIn (names_in is all) name)
        → IsIn (map (λ (l : List ℕ × ℕ). l.0) (map (λ (t : Named). (t.0, range_width t.1.high)) (cond b (t ∷ filter (λ (t : Named). is t.1.sort) all) (filter (λ (t : Named). is t.1.sort) all)))) name
    step true true f g e rest = inl (sym ((bytes_eq-Decides t.0 name).0 f))
    step true false f g e rest = absurd (false≢true (sym g ∙ (ap (λ (o : Option Thing). unwrap_or (option_map (λ (t : Thing). is t.sort) o) false) e ∙ has)))
    step false true f g e rest = inr (rest e)
    step false false f g e rest = rest e

-- a test of all things holds of what is found
pub found_passes : (test : Named → Bool) (all : List Named) (name : List ℕ) (thing : Thing) → list_all test all ≡ true → found all name ≡ Some thing → test (name, thing) ≡ true
found_passes test [] name thing pass e = absurd (cc e)
found_passes test (t ∷ all) name thing pass e =
    let both = and_parts (test t) (list_all test all) pass in
    step (bytes_eq t.0 name) refl e both.0 (found_passes test all name thing both.1)
  where
    step : (here : Bool) → bytes_eq t.0 name ≡ here → cond here (Some t.1) (found all name) ≡ Some thing → test t ≡ true → (found all name ≡ Some thing → test (name, thing) ≡ true) → test (name, thing) ≡ true
    step false f e first rest = rest e
    step true f e first rest =
        let named = (bytes_eq-Decides t.0 name).0 f in
        let told : t.1 ≡ thing = same_Some t.1 thing e in
        ap test (sym (λ i. (named i, told i))) ∙ first

-- names of one sort differ
pub differ_in : (is : Sort → Bool) (all : List Named) → all_differ (firsts all) ≡ true → AllDiffer (names_in is all)
differ_in is [] differ = tt
differ_in is (t ∷ all) differ = step (is t.1.sort) (differ_in is all (rest_differ t all differ))
  where
    fresh : IsIn (names_in is all) t.0 → ⊥
    fresh here = false≢true (sym (apart t all t.0 differ (in_firsts is all t.0 here)) ∙ (bytes_eq-Decides t.0 t.0).1 refl)

    step : (b : Bool) → AllDiffer (names_in is all) → AllDiffer (map (λ (l : List ℕ × ℕ). l.0) (map (λ (t : Named). (t.0, range_width t.1.high)) (cond b (t ∷ filter (λ (t : Named). is t.1.sort) all) (filter (λ (t : Named). is t.1.sort) all))))
    step true rest = (fresh, rest)
    step false rest = rest

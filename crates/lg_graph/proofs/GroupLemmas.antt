-- The group of a place, and groups in order.
use Rattle.std.proofs.Common.{◌≡◌, ℕ, ◌<◌, ◌≤◌, List, [], ◌∷◌, ◌++◌, refl, sym, subst, ap, ◌∙◌, arith, if◌then◌else◌}
use Rattle.std.specs.Prelude.{nat_le, All}
use Rattle.std.proofs.lemmas.Bool.{le-leb, lt-leb, cond-true, cond-false, cond_both}
use Rattle.std.proofs.lemmas.List.Elements.{All-nil, All-cons, All-head, All-tail}
use Rattle.lg_graph.specs.declared.groups.Group.{Group}
use Rattle.lg_graph.specs.Search.{no_group, last_begun, group_at, IsBefore, AreRising}

pub All-left : (P : Group → Type 0) (xs ys : List Group) → All P (xs ++ ys) → All P xs
All-left P [] ys h = All-nil P
All-left P (x ∷ xs) ys h = All-cons P x xs (All-head P x (xs ++ ys) h) (All-left P xs ys (All-tail P x (xs ++ ys) h))

pub All-right : (P : Group → Type 0) (xs ys : List Group) → All P (xs ++ ys) → All P ys
All-right P [] ys h = h
All-right P (x ∷ xs) ys h = All-right P xs ys (All-tail P x (xs ++ ys) h)

last_begun-append : (place : ℕ) (found : Group) (xs ys : List Group) → last_begun place found (xs ++ ys) ≡ last_begun place (last_begun place found xs) ys
last_begun-append place found [] ys = refl
last_begun-append place found (g ∷ xs) ys = last_begun-append place (if nat_le g.first place then g else found) xs ys

-- groups that begin later do not count
last_begun-later : (place : ℕ) (found : Group) (xs : List Group) → All (λ (g : Group). place < g.first) xs → last_begun place found xs ≡ found
last_begun-later place found [] h = refl
last_begun-later place found (g ∷ xs) h =
    let here = All-head (λ (g : Group). place < g.first) g xs h in
    ap (λ (f : Group). last_begun place f xs) (cond-false (nat_le g.first place) g found (lt-leb g.first place here))
    ∙ last_begun-later place found xs (All-tail (λ (g : Group). place < g.first) g xs h)

last_begun-All : (P : Group → Type 0) (place : ℕ) (found : Group) (xs : List Group) → P found → All P xs → P (last_begun place found xs)
last_begun-All P place found [] p h = p
last_begun-All P place found (g ∷ xs) p h =
    last_begun-All P place (if nat_le g.first place then g else found) xs
    (cond_both (nat_le g.first place) g found P (λ _. All-head P g xs h) (λ _. p)) (All-tail P g xs h)

pub group_at-All : (P : Group → Type 0) (groups : List Group) (place : ℕ) → P no_group → All P groups → P (group_at groups place)
group_at-All P groups place p h = last_begun-All P place no_group groups p h

-- the group of a place before which a group begins, or later ones
pub group_at-from : (before : List Group) (g : Group) (after : List Group) (place : ℕ) → g.first ≤ place → AreRising (before ++ g ∷ after)
    → (g.first ≤ (group_at (before ++ g ∷ after) place).first) × (g.arrows ≤ (group_at (before ++ g ∷ after) place).arrows)
group_at-from before g after place le r =
    subst (λ (h : Group). (g.first ≤ h.first) × (g.arrows ≤ h.arrows))
    (sym (last_begun-append place no_group before (g ∷ after) ∙ ap (λ (f : Group). last_begun place f after) (cond-true (nat_le g.first place) g (group_at before place) (le-leb g.first place le))))
    (last_begun-All (λ (h : Group). (g.first ≤ h.first) × (g.arrows ≤ h.arrows)) place g after (omega arith, omega arith) (weaker after (rising_here before r)))
  where
    rising_here : (xs : List Group) → AreRising (xs ++ g ∷ after) → All (IsBefore g) after
    rising_here [] h = h.0
    rising_here (x ∷ xs) h = rising_here xs h.1

    weaker : (xs : List Group) → All (IsBefore g) xs → All (λ (h : Group). (g.first ≤ h.first) × (g.arrows ≤ h.arrows)) xs
    weaker xs h k d less = let b = h k d less in let first = b.0 in (omega arith, b.1)

-- before a group begins, it and later ones do not count
pub group_at-before : (before : List Group) (g : Group) (after : List Group) (place : ℕ) → place < g.first → All (λ (h : Group). place < h.first) after
    → group_at (before ++ g ∷ after) place ≡ group_at before place
group_at-before before g after place less later =
    last_begun-append place no_group before (g ∷ after) ∙ last_begun-later place (group_at before place) (g ∷ after) (All-cons (λ (h : Group). place < h.first) g after less later)

-- the last group's places
pub group_at-last : (before : List Group) (g : Group) (place : ℕ) → g.first ≤ place → group_at (before ++ g ∷ []) place ≡ g
group_at-last before g place le =
    last_begun-append place no_group before (g ∷ []) ∙ cond-true (nat_le g.first place) g (group_at before place) (le-leb g.first place le)

-- the group of a place that has no later group before it
pub group_at-here : (before : List Group) (g : Group) (after : List Group) (place : ℕ) → g.first ≤ place → All (λ (h : Group). place < h.first) after
    → group_at (before ++ g ∷ after) place ≡ g
group_at-here before g after place le later =
    last_begun-append place no_group before (g ∷ after)
    ∙ (ap (λ (f : Group). last_begun place f after) (cond-true (nat_le g.first place) g (group_at before place) (le-leb g.first place le)) ∙ last_begun-later place g after later)

pub rising-left : (xs ys : List Group) → AreRising (xs ++ ys) → AreRising xs
rising-left [] ys h = tt
rising-left (x ∷ xs) ys h = (All-left (IsBefore x) xs ys h.0, rising-left xs ys h.1)

pub rising-across : (xs : List Group) (g : Group) (ys : List Group) → AreRising (xs ++ g ∷ ys) → All (λ (h : Group). IsBefore h g) xs
rising-across [] g ys h = All-nil (λ (h : Group). IsBefore h g)
rising-across (x ∷ xs) g ys h =
    All-cons (λ (h : Group). IsBefore h g) x xs (All-head (IsBefore x) g ys (All-right (IsBefore x) xs (g ∷ ys) h.0)) (rising-across xs g ys h.1)

pub rising-push : (xs : List Group) (g : Group) → AreRising xs → All (λ (h : Group). IsBefore h g) xs → AreRising (xs ++ g ∷ [])
rising-push [] g r h = (All-nil (IsBefore g), tt)
rising-push (x ∷ xs) g r h =
    (push_all xs r.0 (All-head (λ (h : Group). IsBefore h g) x xs h), rising-push xs g r.1 (All-tail (λ (h : Group). IsBefore h g) x xs h))
  where
    push_all : (xs : List Group) → All (IsBefore x) xs → IsBefore x g → All (IsBefore x) (xs ++ g ∷ [])
    push_all [] h p = All-cons (IsBefore x) g [] p (All-nil (IsBefore x))
    push_all (y ∷ ys) h p = All-cons (IsBefore x) y (ys ++ g ∷ []) (All-head (IsBefore x) y ys h) (push_all ys (All-tail (IsBefore x) y ys h) p)

-- Bytes have one list of rows, and rows that are reached are the first of them.
use Rattle.std.proofs.Common.{◌≡◌, ◌∙◌, ap, sym, subst, ℕ, zero, suc, ◌+◌, ◌<◌, Bool, true, false, cond, ◌⊎◌, inl, inr, List, [], ◌∷◌, ◌++◌, length, Option, Some, None, refl, arith}
use Rattle.std.proofs.lemmas.Option.{same_Some}
use Rattle.csv.specs.Machine.{Read, next_record, step, is_end, ends_at_end, fields_after, field_after}
use Rattle.csv.specs.Reading.{AreRecords, Reached}
use Rattle.csv.specs.declared.parser.Config.{Config}
use Rattle.csv.specs.declared.parser.State.{State}
use Rattle.csv.specs.declared.parser.State.TheVariants as st

abbrev pub Row : Type 0
Row = List (List ℕ)

abbrev Next : Config → State → List ℕ → Option Read
Next cfg s xs = next_record cfg s [] [] xs

ends : (o : Option Read) (p : Read) → o ≡ None → o ≡ Some p → ⊥
ends o p e f = cc (e, f)

-- rows that are reached are the first of all
pub first_of_all : (cfg : Config) (s : State) (xs : List ℕ) (rows : List Row) (t : State) (ys : List ℕ) (all : List Row) (u : State) (zs : List ℕ) → Reached cfg s xs rows t ys → Reached cfg s xs all u zs → Next cfg u zs ≡ None → (rest : List Row) × (all ≡ rows ++ rest)
unfolding Reached
first_of_all cfg s xs [] t ys all u zs h g none = (all, refl)
first_of_all cfg s xs (row ∷ rows) t ys [] u zs h g none =
    let here : Next cfg s xs ≡ None = rw (g.0, g.1) none in
    absurd (ends (Next cfg s xs) h.0 here h.1)
first_of_all cfg s xs (row ∷ rows) t ys (one ∷ all) u zs h g none =
    let same : g.0 ≡ h.0 = same_Some g.0 h.0 (sym g.1 ∙ h.1) in
    let more = first_of_all cfg h.0.1 h.0.2 rows t ys all u zs h.3 (subst (λ (p : Read). Reached cfg p.1 p.2 all u zs) same g.3) none in
    let first : one ≡ row = g.2 ∙ (ap (λ (p : Read). p.0) same ∙ sym h.2) in
    let rest = more.1 in
    (more.0, cc (first, rest))

-- all rows are one list
pub all_same : (cfg : Config) (s : State) (xs : List ℕ) (a b : List Row) → AreRecords cfg s xs a → AreRecords cfg s xs b → a ≡ b
unfolding Reached
all_same cfg s xs [] [] h k = refl
all_same cfg s xs [] (y ∷ b) h k =
    let here : Next cfg s xs ≡ None = rw (h.2.0, h.2.1) h.3 in
    absurd (ends (Next cfg s xs) k.2.0 here k.2.1)
all_same cfg s xs (x ∷ a) [] h k =
    let here : Next cfg s xs ≡ None = rw (k.2.0, k.2.1) k.3 in
    absurd (ends (Next cfg s xs) h.2.0 here h.2.1)
all_same cfg s xs (x ∷ a) (y ∷ b) h k =
    let same : k.2.0 ≡ h.2.0 = same_Some k.2.0 h.2.0 (sym k.2.1 ∙ h.2.1) in
    let there : Reached cfg h.2.0.1 h.2.0.2 b k.0 k.1 = subst (λ (p : Read). Reached cfg p.1 p.2 b k.0 k.1) same k.2.3 in
    let more : a ≡ b = all_same cfg h.2.0.1 h.2.0.2 a b (h.0, h.1, h.2.3, h.3) (k.0, k.1, there, k.3) in
    let first : x ≡ y = h.2.2 ∙ (ap (λ (p : Read). p.0) (sym same) ∙ sym k.2.2) in
    cc (first, more)

-- the first of rows that are reached are reached, and the others from there
pub reached_front : (cfg : Config) (s : State) (xs : List ℕ) (rows more : List Row) (t : State) (ys : List ℕ) → Reached cfg s xs (rows ++ more) t ys → (u : State) × (zs : List ℕ) × Reached cfg s xs rows u zs
unfolding Reached
reached_front cfg s xs [] more t ys h = (s, xs, (refl, refl))
reached_front cfg s xs (row ∷ rows) more t ys h =
    let r = reached_front cfg h.0.1 h.0.2 rows more t ys h.3 in
    (r.0, r.1, (h.0, h.1, h.2, r.2))

-- a row takes bytes, or ends the text
abbrev Shorter : List ℕ → Read → Type 0
Shorter xs p = (length p.2 < length xs) ⊎ ((p.1 ≡ st.StartRecord) × (p.2 ≡ []))

shorter : (cfg : Config) (s : State) (fields : List (List ℕ)) (field xs : List ℕ) (p : Read) → next_record cfg s fields field xs ≡ Some p → Shorter xs p
unfolding next_record
shorter cfg s fields field [] p e = inr (at_end (ends_at_end s) e)
  where
    at_end : (b : Bool) → cond b (Some (fields ++ (field ∷ []), st.StartRecord, [])) None ≡ Some p → (p.1 ≡ st.StartRecord) × (p.2 ≡ [])
    at_end true f = let same = same_Some (fields ++ (field ∷ []), st.StartRecord, []) p f in (sym (ap (λ (q : Read). q.1) same), sym (ap (λ (q : Read). q.2) same))
    at_end false f = absurd (cc f)
shorter cfg s fields field (c ∷ rest) p e = by (is_end (step cfg s c).1) (λ f. shorter cfg (step cfg s c).0 (fields_after (step cfg s c).1 fields field) (field_after (step cfg s c).1 c field) rest p f) e
  where
    longer : Shorter rest p → Shorter (c ∷ rest) p
    longer (inl less) = inl (omega (arith, less))
    longer (inr ended) = inr ended

    by : (b : Bool) → (next_record cfg (step cfg s c).0 (fields_after (step cfg s c).1 fields field) (field_after (step cfg s c).1 c field) rest ≡ Some p → Shorter rest p)
        → cond b (Some (fields_after (step cfg s c).1 fields field, (step cfg s c).0, rest)) (next_record cfg (step cfg s c).0 (fields_after (step cfg s c).1 fields field) (field_after (step cfg s c).1 c field) rest) ≡ Some p
        → Shorter (c ∷ rest) p
    by true more f =
        let same = same_Some (fields_after (step cfg s c).1 fields field, (step cfg s c).0, rest) p f in
        let left : rest ≡ p.2 = ap (λ (q : Read). q.2) same in
        let long = ap length left in
        inl (omega (arith, long))
    by false more f = longer (more f)

none_left : (cfg : Config) (s : State) (xs : List ℕ) → Next cfg s xs ≡ None → AreRecords cfg s xs []
unfolding Reached
none_left cfg s xs e = (s, xs, (refl, refl), e)

one_more : (cfg : Config) (s : State) (xs : List ℕ) (p : Read) (rows : List Row) → Next cfg s xs ≡ Some p → AreRecords cfg p.1 p.2 rows → AreRecords cfg s xs (p.0 ∷ rows)
unfolding Reached
one_more cfg s xs p rows e h = (h.0, h.1, (p, e, refl, h.2), h.3)

nothing : (cfg : Config) (s : State) (xs : List ℕ) → (s ≡ st.StartRecord) × (xs ≡ []) → Next cfg s xs ≡ None
unfolding next_record
nothing cfg s xs h = rw (h.0, h.1) refl

abbrev SomeRows : Config → State → List ℕ → Type 0
SomeRows cfg s xs = (rows : List Row) × AreRecords cfg s xs rows

rows_by : (cfg : Config) (n : ℕ) → ((s : State) (xs : List ℕ) → length xs < n → SomeRows cfg s xs) → (s : State) (xs : List ℕ) → length xs < suc n → (o : Option Read) → Next cfg s xs ≡ o → SomeRows cfg s xs
rows_by cfg n more s xs less None e = ([], none_left cfg s xs e)
rows_by cfg n more s xs less (Some p) e = elim (shorter cfg s [] [] xs p e) as (λ _. SomeRows cfg s xs) [
  | inl fewer ↦ let r = more p.1 p.2 (omega (arith, less, fewer)) in (p.0 ∷ r.0, one_more cfg s xs p r.0 e r.1)
  | inr ended ↦ (p.0 ∷ [], one_more cfg s xs p [] e (none_left cfg p.1 p.2 (nothing cfg p.1 p.2 ended)))
]

rows_below : (cfg : Config) (n : ℕ) (s : State) (xs : List ℕ) → length xs < n → SomeRows cfg s xs
rows_below cfg zero s xs less = absurd (omega (arith, less))
rows_below cfg (suc n) s xs less = rows_by cfg n (rows_below cfg n) s xs less (Next cfg s xs) refl

-- bytes have rows
pub all_rows : (cfg : Config) (s : State) (xs : List ℕ) → (rows : List Row) × AreRecords cfg s xs rows
all_rows cfg s xs = rows_below cfg (length xs + 1) s xs (omega arith)

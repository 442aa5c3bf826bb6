-- Numbers and runs: what their characters are, and that a text is one run at most.
use Rattle.std.proofs.Common.{◌≡◌, ℕ, suc, ◌+◌, ◌-◌, ◌<◌, ◌≤◌, Bool, true, false, cond, eqb, ltb, ◌⊎◌, inl, inr, List, [], ◌∷◌, ◌++◌, length, refl, ap, sym, ◌∙◌, arith, length-append, length-drop, take, drop, None, Some}
use Rattle.std.specs.Prelude.{not}
use Rattle.std.specs.List.{All, prefix_len, position}
use Rattle.std.proofs.lemmas.Bool.{eqb-true}
use Rattle.std.proofs.lemmas.List.{take_all}
use Rattle.std.proofs.lemmas.Bool.Decides.{nat_tests, Decides-ltb}
use Rattle.std.proofs.lemmas.List.Elements.{All-nil, All-cons, All-head, All-tail, All-append}
use Rattle.lg_memory.specs.declared.run.Run.{Run}
use Rattle.lg_memory.specs.Image.{is_white, digit_value, Spells, IsTimes, IsRun, EndsOrStarts}

-- a test that would prove absurd is false
pub false_from : (b : Bool) → (b ≡ true → ⊥) → b ≡ false
false_from true h = absurd (h refl)
false_from false h = refl

pub All-parts : (P : ℕ → Type 0) (xs ys : List ℕ) → All P (xs ++ ys) → All P xs × All P ys
All-parts P [] ys h = (All-nil P, h)
All-parts P (x ∷ xs) ys h =
    let rest = All-parts P xs ys (All-tail P x (xs ++ ys) h) in
    (All-cons P x xs (All-head P x (xs ++ ys) h) rest.0, rest.1)

pub All-weaker : (P Q : ℕ → Type 0) → ((x : ℕ) → P x → Q x) → (xs : List ℕ) → All P xs → All Q xs
All-weaker P Q f xs h = λ k d inside. f _ (h k d inside)

-- two texts that are cut at the first character that passes a test are cut alike
pub cut_alike : (test : ℕ → Bool) (u v x y : List ℕ) → All (λ c. test c ≡ false) u → All (λ c. test c ≡ false) v → EndsOrStarts test x → EndsOrStarts test y → u ++ x ≡ v ++ y → (u ≡ v) × (x ≡ y)
cut_alike test [] [] x y hu hv sx sy e = (refl, e)
cut_alike test [] (d ∷ v) [] y hu hv sx sy e = absurd (cc e)
cut_alike test [] (d ∷ v) (c ∷ x) y hu hv sx sy e =
    let same : c ≡ d = cc e in
    let no : test d ≡ false = All-head (λ c. test c ≡ false) d v hv in
    absurd (cc (same, no, sx))
cut_alike test (c ∷ u) [] x [] hu hv sx sy e = absurd (cc e)
cut_alike test (c ∷ u) [] x (d ∷ y) hu hv sx sy e =
    let same : c ≡ d = cc e in
    let no : test c ≡ false = All-head (λ c. test c ≡ false) c u hu in
    absurd (cc (same, no, sy))
cut_alike test (c ∷ u) (d ∷ v) x y hu hv sx sy e =
    let same : c ≡ d = cc e in
    let others : u ++ x ≡ v ++ y = cc e in
    let rest = cut_alike test u v x y (All-tail (λ c. test c ≡ false) c u hu) (All-tail (λ c. test c ≡ false) d v hv) sx sy others in
    let first : u ≡ v = rest.0 in
    (cc (same, first), rest.1)

white_value : (c : ℕ) → is_white c ≡ true → digit_value c ≡ 16
white_value c h = grind (arith, nat_tests)

-- a digit is no white space
pub digit_not_white : (c : ℕ) → digit_value c < 16 → is_white c ≡ false
digit_not_white c small = false_from (is_white c) (λ h. omega (arith, white_value c h))

star_value : (c : ℕ) → eqb c 42 ≡ true → digit_value c ≡ 16
star_value c h = grind (arith, nat_tests)

-- a digit is no star
pub digit_not_star : (c : ℕ) → digit_value c < 16 → eqb c 42 ≡ false
digit_not_star c small = false_from (eqb c 42) (λ h. omega (arith, star_value c h))

-- a text has one number in a base
pub Spells-same : (base : ℕ) (text : List ℕ) (m n : ℕ) → Spells base text m → Spells base text n → m ≡ n
Spells-same base text m n a b = sym a.value ∙ b.value

pub digits_not_white : (base : ℕ) (text : List ℕ) (n : ℕ) → base ≤ 16 → Spells base text n → All (λ c. is_white c ≡ false) text
digits_not_white base text n small s =
    All-weaker (λ c. digit_value c < base) (λ c. is_white c ≡ false) (λ c h. digit_not_white c (omega (arith, h))) text s.digits

pub digits_not_star : (base : ℕ) (text : List ℕ) (n : ℕ) → base ≤ 16 → Spells base text n → All (λ c. eqb c 42 ≡ false) text
digits_not_star base text n small s =
    All-weaker (λ c. digit_value c < base) (λ c. eqb c 42 ≡ false) (λ c h. digit_not_star c (omega (arith, h))) text s.digits

-- a run has a character
pub run_some : (bound : ℕ) (text : List ℕ) (run : Run) → IsRun bound text run → 1 ≤ length text
run_some bound text run (inl v) = v.spelled.some
run_some bound text run (inr t) =
    rw t.2.parts (omega (arith, length-append t.0 (42 ∷ t.1), t.2.count.some))

-- and no white space
pub run_not_white : (bound : ℕ) (text : List ℕ) (run : Run) → IsRun bound text run → All (λ c. is_white c ≡ false) text
run_not_white bound text run (inl v) = digits_not_white 16 text run.value (omega arith) v.spelled
run_not_white bound text run (inr t) =
    rw t.2.parts
    (All-append (λ c. is_white c ≡ false) t.0 (42 ∷ t.1)
    (digits_not_white 10 t.0 run.count (omega arith) t.2.count)
    (All-cons (λ c. is_white c ≡ false) 42 t.1 refl (digits_not_white 16 t.1 run.value (omega arith) t.2.spelled)))

-- digits alone hold no star
pub no_star_in : (text times word : List ℕ) → All (λ c. eqb c 42 ≡ false) text → text ≡ times ++ 42 ∷ word → ⊥
no_star_in text times word none e =
    let whole : All (λ c. eqb c 42 ≡ false) (times ++ 42 ∷ word) = rw e at none in
    let behind = (All-parts (λ c. eqb c 42 ≡ false) times (42 ∷ word) whole).1 in
    let star : eqb 42 42 ≡ false = All-head (λ c. eqb c 42 ≡ false) 42 word behind in
    cc star

same_run : (a b : Run) → a.count ≡ b.count → a.value ≡ b.value → a ≡ b
same_run a b count value =
    let counted : a ≡ record a { count = b.count } = ap (λ (n : ℕ). record a { count = n }) count in
    counted ∙ ap (λ (v : ℕ). record b { value = v }) value

-- a text is one run at most
pub IsRun-same : (bound : ℕ) (text : List ℕ) (a b : Run) → IsRun bound text a → IsRun bound text b → a ≡ b
IsRun-same bound text a b (inl v) (inl w) =
    same_run a b (v.once ∙ sym w.once) (Spells-same 16 text a.value b.value v.spelled w.spelled)
IsRun-same bound text a b (inl v) (inr t) =
    absurd (no_star_in text t.0 t.1 (digits_not_star 16 text a.value (omega arith) v.spelled) t.2.parts)
IsRun-same bound text a b (inr t) (inl v) =
    absurd (no_star_in text t.0 t.1 (digits_not_star 16 text b.value (omega arith) v.spelled) t.2.parts)
IsRun-same bound text a b (inr s) (inr t) =
    let joined : s.0 ++ 42 ∷ s.1 ≡ t.0 ++ 42 ∷ t.1 = sym s.2.parts ∙ t.2.parts in
    let cut = cut_alike (λ c. eqb c 42) s.0 t.0 (42 ∷ s.1) (42 ∷ t.1)
    (digits_not_star 10 s.0 a.count (omega arith) s.2.count) (digits_not_star 10 t.0 b.count (omega arith) t.2.count) refl refl joined in
    let times : s.0 ≡ t.0 = cut.0 in
    let word : s.1 ≡ t.1 = cc cut.1 in
    same_run a b
    (Spells-same 10 s.0 a.count b.count s.2.count (rw times t.2.count))
    (Spells-same 16 s.1 a.value b.value s.2.spelled (rw word t.2.spelled))

abbrev pub NotStar : ℕ → Type 0
NotStar c = eqb c 42 ≡ false

-- the first star of a text, or the end
abbrev pub star_size : List ℕ → ℕ
star_size text = prefix_len (λ c. not (eqb c 42)) text

-- what stands before the first star, and behind it
record HasStar (size : ℕ) (text : List ℕ) : Type 0 where
  before : All NotStar (take size text)
  at : size < length text → text ≡ take size text ++ 42 ∷ drop (size + 1) text

star_step : (c : ℕ) (rest : List ℕ) (size : ℕ) (star : Bool) → eqb c 42 ≡ star → HasStar size rest → HasStar (cond (not star) (1 + size) 0) (c ∷ rest)
star_step c rest size true h more =
    let same : c ≡ 42 = eqb-true c 42 h in
    record { before = All-nil NotStar; at = λ inside. ap (λ x. x ∷ rest) same }
star_step c rest size false h more =
    let one : 1 + size ≡ suc size = omega arith in
    let two : suc size + 1 ≡ suc (size + 1) = omega arith in
    rw one record {
      before = All-cons NotStar c (take size rest) h more.before;
      at = λ inside. rw two (ap (λ t. c ∷ t) (more.at (omega (arith, inside))));
    }

has_star : (text : List ℕ) → HasStar (star_size text) text
has_star [] = record { before = All-nil NotStar; at = λ inside. absurd (omega (arith, inside)) }
has_star (c ∷ rest) = star_step c rest (star_size rest) (eqb c 42) refl (has_star rest)

lt_tells_from : (a b : ℕ) (t : Bool) → ltb a b ≡ t → ((ltb a b ≡ true) × (a < b)) ⊎ ((ltb a b ≡ false) × (b ≤ a))
lt_tells_from a b true h = inl (h, (Decides-ltb a b).0 h)
lt_tells_from a b false h = inr (h, grind (arith, nat_tests))

lt_tells : (a b : ℕ) → ((ltb a b ≡ true) × (a < b)) ⊎ ((ltb a b ≡ false) × (b ≤ a))
lt_tells a b = lt_tells_from a b (ltb a b) refl

-- a text without a star
pub star_none : (text : List ℕ) → position (λ c. eqb c 42) text ≡ None → All NotStar text
star_none text h =
    elim (lt_tells (star_size text) (length text)) [
      | inl e ↦ absurd (cc (rw e.0 at h))
      | inr e ↦ rw (take_all (star_size text) text e.1) at (has_star text).before
    ]

-- a text with a star
pub star_some : (text : List ℕ) (k : ℕ) → position (λ c. eqb c 42) text ≡ Some k → (text ≡ take k text ++ 42 ∷ drop (k + 1) text) × All NotStar (take k text)
star_some text k h =
    elim (lt_tells (star_size text) (length text)) [
      | inl e ↦
          let found : star_size text ≡ k = cc (rw e.0 at h) in
          (rw found at ((has_star text).at e.1), rw found at (has_star text).before)
      | inr e ↦ absurd (cc (rw e.0 at h))
    ]

-- a text without a star is no run where its number is too great or it is none
pub no_value : (most : ℕ) (text : List ℕ) → All NotStar text → ((n : ℕ) → Spells 16 text n → most < n) → (run : Run) → IsRun (most + 1) text run → ⊥
no_value most text plain none run (inl v) = omega (arith, none run.value v.spelled, v.fits)
no_value most text plain none run (inr t) = no_star_in text t.0 t.1 plain t.2.parts

-- the parts of a run with a star
pub star_parts : (bound : ℕ) (text times word : List ℕ) → All NotStar times → text ≡ times ++ 42 ∷ word → (run : Run) → IsRun bound text run → IsTimes bound text times word run
star_parts bound text times word plain parts run (inl v) =
    absurd (no_star_in text times word (digits_not_star 16 text run.value (omega arith) v.spelled) parts)
star_parts bound text times word plain parts run (inr t) =
    let joined : t.0 ++ 42 ∷ t.1 ≡ times ++ 42 ∷ word = sym t.2.parts ∙ parts in
    let cut = cut_alike (λ c. eqb c 42) t.0 times (42 ∷ t.1) (42 ∷ word)
    (digits_not_star 10 t.0 run.count (omega arith) t.2.count) plain refl refl joined in
    let same_times : t.0 ≡ times = cut.0 in
    let same_word : t.1 ≡ word = cc cut.1 in
    rw (← same_times, ← same_word) t.2

-- the rest of a slice, as the code takes it
pub tail_slice : (n : ℕ) (text : List ℕ) → take (length text - n) (drop n text) ≡ drop n text
tail_slice n text = take_all (length text - n) (drop n text) (omega (arith, length-drop n text))

-- a text with a star is no run where its number of times is none
pub no_times : (bound : ℕ) (text : List ℕ) (k : ℕ) → position (λ c. eqb c 42) text ≡ Some k → ((n : ℕ) → Spells 10 (take k text) n → 1 ≤ n → n ≤ 1048576 → ⊥) → (run : Run) → IsRun bound text run → ⊥
no_times bound text k found none run is =
    let star = star_some text k found in
    let parts = star_parts bound text (take k text) (drop (k + 1) text) star.1 star.0 run is in
    none run.count parts.count parts.some parts.most

-- nor where the number behind its star is none
pub no_word : (most : ℕ) (text : List ℕ) (k : ℕ) → position (λ c. eqb c 42) text ≡ Some k → ((n : ℕ) → Spells 16 (drop (k + 1) text) n → most < n) → (run : Run) → IsRun (most + 1) text run → ⊥
no_word most text k found none run is =
    let star = star_some text k found in
    let parts = star_parts (most + 1) text (take k text) (drop (k + 1) text) star.1 star.0 run is in
    omega (arith, none run.value parts.spelled, parts.fits)

-- and is one where both are numbers
pub is_times : (most : ℕ) (text : List ℕ) (k : ℕ) (run : Run) → position (λ c. eqb c 42) text ≡ Some k → Spells 10 (take k text) run.count → 1 ≤ run.count → run.count ≤ 1048576 → Spells 16 (drop (k + 1) text) run.value → run.value ≤ most → IsRun (most + 1) text run
is_times most text k run found count some times value fits =
    let star = star_some text k found in
    inr (
      take k text,
      drop (k + 1) text,
      record {
        parts = star.0;
        count = count;
        some = some;
        most = times;
        spelled = value;
        fits = omega (arith, fits);
      },
    )

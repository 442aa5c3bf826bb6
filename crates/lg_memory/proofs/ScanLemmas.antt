-- What is found from the front of an image on.
use Rattle.std.proofs.Common.{◌≡◌, ℕ, ◌≤◌, Bool, true, false, cond, eqb, List, [], ◌∷◌, ◌++◌, length, refl, ap, ◌∙◌, arith}
use Rattle.std.specs.Prelude.{◌||◌}
use Rattle.std.specs.List.{All}
use Rattle.std.proofs.lemmas.Bool.{eqb-true}
use Rattle.std.proofs.lemmas.List.Elements.{All-cons, All-head, All-tail}
use Rattle.lg_memory.specs.declared.run.Run.{Run}
use Rattle.lg_memory.specs.Image.{is_white, uncommented, EndsOrStarts, AreRuns}
use Rattle.lg_memory.specs.Scan.{after_gap, is_word_byte}
use Rattle.lg_memory.proofs.RunLemmas.{run_some, run_not_white}

abbrev pub IsWhite : ℕ → Type 0
IsWhite c = is_white c ≡ true

abbrev pub NotWhite : ℕ → Type 0
NotWhite c = is_white c ≡ false

-- white space in front changes nothing
white_on : (bound c : ℕ) (text : List ℕ) (runs : List Run) → IsWhite c → AreRuns bound text runs → AreRuns bound (c ∷ text) runs
white_on bound c text [] w h = All-cons IsWhite c text w h
white_on bound c text (run ∷ runs) w h =
    (c ∷ h.0, h.1, h.2, ap (λ t. c ∷ t) h.3, All-cons IsWhite c h.0 w h.4, h.5, h.6, h.7)

white_off_run : (c : ℕ) (text gap word rest : List ℕ) → IsWhite c → 1 ≤ length word → All NotWhite word → c ∷ text ≡ gap ++ (word ++ rest) → All IsWhite gap → (others : List ℕ) × (text ≡ others ++ (word ++ rest)) × All IsWhite others
white_off_run c text [] [] rest w some word e gap = absurd (omega (arith, some))
white_off_run c text [] (d ∷ word) rest w some black e gap =
    let same : c ≡ d = cc e in
    let no : is_white d ≡ false = All-head NotWhite d word black in
    absurd (cc (same, no, w))
white_off_run c text (g ∷ gap) word rest w some black e white =
    (gap, cc e, All-tail IsWhite g gap white)

white_off : (bound c : ℕ) (text : List ℕ) (runs : List Run) → IsWhite c → AreRuns bound (c ∷ text) runs → AreRuns bound text runs
white_off bound c text [] w h = All-tail IsWhite c text h
white_off bound c text (run ∷ runs) w h =
    let off = white_off_run c text h.0 h.1 h.2 w (run_some bound h.1 run h.5) (run_not_white bound h.1 run h.5) h.3 h.4 in
    (off.0, h.1, h.2, off.1, off.2, h.5, h.6, h.7)

pub or_false : (a b : Bool) → (a || b) ≡ false → (a ≡ false) × (b ≡ false)
or_false true b h = absurd (cc h)
or_false false b h = (refl, h)

-- both ways
abbrev pub Same : Type 0 → Type 0 → Type 0
Same P Q = (P → Q) × (Q → P)

pub line_feed : (c : ℕ) → eqb c 10 ≡ true → IsWhite c
line_feed c h = let same : c ≡ 10 = eqb-true c 10 h in rw same refl

-- a character that is no white space and no `#` stays where no comment is open
pub stays : (c : ℕ) (rest : List ℕ) → eqb c 10 ≡ false → eqb c 35 ≡ false → uncommented false (c ∷ rest) ≡ c ∷ uncommented false rest
stays c rest lf hash = rw (lf, hash) refl

gap_step : (bound c : ℕ) (rest : List ℕ) (runs : List Run) (lf inside sharp hash white : Bool) → eqb c 10 ≡ lf → eqb c 35 ≡ sharp → (inside || sharp) ≡ hash → is_white c ≡ white
    → Same (AreRuns bound (uncommented false rest) runs) (AreRuns bound (uncommented false (after_gap false rest)) runs)
    → Same (AreRuns bound (uncommented true rest) runs) (AreRuns bound (uncommented false (after_gap true rest)) runs)
    → Same (AreRuns bound (cond lf (c ∷ uncommented false rest) (cond hash (uncommented true rest) (c ∷ uncommented false rest))) runs)
    (AreRuns bound (uncommented false (cond lf (after_gap false rest) (cond hash (after_gap true rest) (cond white (after_gap false rest) (c ∷ rest))))) runs)
gap_step bound c rest runs true inside sharp hash white a b d e free closed = (
  λ h. free.0 (white_off bound c (uncommented false rest) runs (line_feed c a) h),
  λ h. white_on bound c (uncommented false rest) runs (line_feed c a) (free.1 h),
)
gap_step bound c rest runs false inside sharp true white a b d e free closed = closed
gap_step bound c rest runs false inside sharp false true a b d e free closed = (
  λ h. free.0 (white_off bound c (uncommented false rest) runs e h),
  λ h. white_on bound c (uncommented false rest) runs e (free.1 h),
)
gap_step bound c rest runs false inside sharp false false a b d e free closed =
    let plain = stays c rest a (b ∙ (or_false inside sharp d).1) in
    (λ h. rw plain h, λ h. rw plain at h)

-- the text from its first word on has the same words
pub gap_same : (bound : ℕ) (inside : Bool) (text : List ℕ) (runs : List Run) → Same (AreRuns bound (uncommented inside text) runs) (AreRuns bound (uncommented false (after_gap inside text)) runs)
gap_same bound inside [] runs = (λ h. h, λ h. h)
gap_same bound inside (c ∷ rest) runs =
    gap_step bound c rest runs (eqb c 10) inside (eqb c 35) (inside || eqb c 35) (is_white c) refl refl refl refl
    (gap_same bound false rest runs) (gap_same bound true rest runs)

word_byte : (c : ℕ) (white sharp : Bool) → is_white c ≡ white → eqb c 35 ≡ sharp → white ≡ false → sharp ≡ false → is_word_byte c ≡ true
word_byte c white sharp a b p q = let w : is_white c ≡ false = a ∙ p in let s : eqb c 35 ≡ false = b ∙ q in rw (w, s) refl

starts_step : (c : ℕ) (rest : List ℕ) (lf inside sharp hash white : Bool) → eqb c 35 ≡ sharp → (inside || sharp) ≡ hash → is_white c ≡ white
    → EndsOrStarts is_word_byte (after_gap false rest) → EndsOrStarts is_word_byte (after_gap true rest)
    → EndsOrStarts is_word_byte (cond lf (after_gap false rest) (cond hash (after_gap true rest) (cond white (after_gap false rest) (c ∷ rest))))
starts_step c rest true inside sharp hash white b d e free closed = free
starts_step c rest false inside sharp true white b d e free closed = closed
starts_step c rest false inside sharp false true b d e free closed = free
starts_step c rest false inside sharp false false b d e free closed =
    word_byte c false sharp e b refl (or_false inside sharp d).1

-- which is empty or begins with that word
pub after_gap-starts : (inside : Bool) (text : List ℕ) → EndsOrStarts is_word_byte (after_gap inside text)
after_gap-starts inside [] = tt
after_gap-starts inside (c ∷ rest) =
    starts_step c rest (eqb c 10) inside (eqb c 35) (inside || eqb c 35) (is_white c) refl refl refl
    (after_gap-starts false rest) (after_gap-starts true rest)

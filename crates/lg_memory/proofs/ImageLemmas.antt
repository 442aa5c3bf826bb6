-- The words of an image, run by run.
use Rattle.std.proofs.Common.{◌≡◌, ℕ, suc, ◌+◌, ◌<◌, ◌≤◌, Bool, true, false, cond, eqb, inl, inr, List, [], ◌∷◌, ◌++◌, length, take, drop, refl, ap, sym, ◌∙◌, arith, append_assoc, replicate, length-append, length-take, length-drop, get_or, ◌^◌}
use Rattle.std.specs.Prelude.{◌||◌, not, codes}
use Rattle.std.specs.List.{All, prefix_len}
use Rattle.std.proofs.lemmas.Bool.Decides.{eqb_tells}
use Rattle.std.proofs.lemmas.List.{append-nil, append_cancel_left}
use Rattle.std.proofs.lemmas.List.Concat.{flat_map-cons}
use Rattle.std.proofs.lemmas.List.Elements.{All-nil, All-cons, All-head}
use Rattle.lg_memory.specs.declared.run.Run.{Run}
use Rattle.lg_memory.specs.Image.{is_white, uncommented, IsRun, EndsOrStarts, AreRuns, words_of_runs, HasWords, HasHeader, IsImage}
use Rattle.lg_memory.specs.Scan.{after_gap, is_word_byte, Keeps, GoesOn}
use Rattle.lg_memory.proofs.RunLemmas.{run_some, run_not_white, cut_alike, IsRun-same}
use Rattle.lg_memory.proofs.ScanLemmas.{IsWhite, NotWhite, line_feed, stays, gap_same, after_gap-starts}

-- how long the word is with which a text begins
abbrev pub word_size : List ℕ → ℕ
word_size text = prefix_len is_word_byte text

-- what a character of a word is not
word_parts : (white sharp : Bool) → not (white || sharp) ≡ true → (white ≡ false) × (sharp ≡ false)
word_parts true sharp h = absurd (cc h)
word_parts false true h = absurd (cc h)
word_parts false false h = (refl, refl)

no_line_feed : (c : ℕ) → is_white c ≡ false → eqb c 10 ≡ false
no_line_feed c black = elim (eqb_tells c 10) [ inl e ↦ absurd (cc (black, line_feed c e.0)) | inr e ↦ e.0 ]

-- the comment that is open ends before a line feed
comment-ends : (text : List ℕ) → EndsOrStarts is_white (uncommented true text)
comment-ends [] = tt
comment-ends (c ∷ rest) =
    elim (eqb_tells c 10) as (λ _. EndsOrStarts is_white (uncommented true (c ∷ rest))) [
      | inl e ↦ rw e.0 (line_feed c e.0)
      | inr e ↦ rw e.0 (comment-ends rest)
    ]

-- behind a word a text ends, or white space or a comment follows
behind_word : (c : ℕ) (rest : List ℕ) (white sharp : Bool) → is_white c ≡ white → eqb c 35 ≡ sharp → not (white || sharp) ≡ false → EndsOrStarts is_white (uncommented false (c ∷ rest))
behind_word c rest true sharp a b h =
    elim (eqb_tells c 10) as (λ _. EndsOrStarts is_white (uncommented false (c ∷ rest))) [
      | inl e ↦ rw e.0 a
      | inr e ↦ elim (eqb_tells c 35) as (λ _. EndsOrStarts is_white (uncommented false (c ∷ rest))) [
        | inl s ↦ rw (e.0, s.0) (comment-ends rest)
        | inr s ↦ rw (e.0, s.0) a
      ]
    ]
behind_word c rest false true a b h =
    let lf : eqb c 10 ≡ false = no_line_feed c a in
    rw (lf, b) (comment-ends rest)
behind_word c rest false false a b h = absurd (cc h)

-- A text begins with a word of this size, and its plain text is that word and the plain text behind it.
record HasFront (size : ℕ) (text : List ℕ) : Type 0 where
  black : All NotWhite (take size text)
  same : uncommented false text ≡ take size text ++ uncommented false (drop size text)
  behind : EndsOrStarts is_white (uncommented false (drop size text))

front_step : (c : ℕ) (rest : List ℕ) (size : ℕ) (word : Bool) → is_word_byte c ≡ word → HasFront size rest → HasFront (cond word (1 + size) 0) (c ∷ rest)
front_step c rest size true h more =
    let parts = word_parts (is_white c) (eqb c 35) h in
    let one : 1 + size ≡ suc size = omega arith in
    rw one record {
      black = All-cons NotWhite c (take size rest) parts.0 more.black;
      same = stays c rest (no_line_feed c parts.0) parts.1 ∙ ap (λ t. c ∷ t) more.same;
      behind = more.behind;
    }
front_step c rest size false h more =
    record { black = All-nil NotWhite; same = refl; behind = behind_word c rest (is_white c) (eqb c 35) refl refl h }

front : (text : List ℕ) → HasFront (word_size text) text
front [] = record { black = All-nil NotWhite; same = refl; behind = tt }
front (c ∷ rest) = front_step c rest (word_size rest) (is_word_byte c) refl (front rest)

-- a text that begins with a character of a word begins with a word
front_some : (text : List ℕ) → 1 ≤ length text → EndsOrStarts is_word_byte text → 1 ≤ length (take (word_size text) text)
front_some [] some starts = some
front_some (c ∷ rest) some starts =
    let size : word_size (c ∷ rest) ≡ suc (word_size rest) = rw starts (omega arith) in
    rw size (omega arith)

-- a run in front of runs
run_on : (bound : ℕ) (word plain : List ℕ) (run : Run) (runs : List Run) → IsRun bound word run → EndsOrStarts is_white plain → AreRuns bound plain runs → AreRuns bound (word ++ plain) (run ∷ runs)
run_on bound word plain run runs is ends h = ([], word, plain, refl, All-nil IsWhite, is, ends, h)

-- what a word in front says of the runs
run_off_gap : (bound : ℕ) (word plain gap own rest : List ℕ) (run : Run) → 1 ≤ length word → All NotWhite word → EndsOrStarts is_white plain → word ++ plain ≡ gap ++ (own ++ rest) → All IsWhite gap → IsRun bound own run → EndsOrStarts is_white rest → (word ≡ own) × (plain ≡ rest)
run_off_gap bound word plain [] own rest run some black ends e white is after =
    cut_alike is_white word own plain rest black (run_not_white bound own run is) ends after e
run_off_gap bound [] plain (g ∷ gap) own rest run some black ends e white is after = absurd (omega (arith, some))
run_off_gap bound (c ∷ word) plain (g ∷ gap) own rest run some black ends e white is after =
    let same : c ≡ g = cc e in
    let no : is_white c ≡ false = All-head NotWhite c word black in
    let yes : is_white g ≡ true = All-head IsWhite g gap white in
    absurd (cc (same, no, yes))

no_white_word : (word plain : List ℕ) → 1 ≤ length word → All NotWhite word → All IsWhite (word ++ plain) → ⊥
no_white_word [] plain some black white = omega (arith, some)
no_white_word (c ∷ word) plain some black white =
    let no : is_white c ≡ false = All-head NotWhite c word black in
    let yes : is_white c ≡ true = All-head IsWhite c (word ++ plain) white in
    cc (no, yes)

run_off : (bound : ℕ) (word plain : List ℕ) (runs : List Run) → 1 ≤ length word → All NotWhite word → EndsOrStarts is_white plain → AreRuns bound (word ++ plain) runs → (run : Run) × (others : List Run) × (runs ≡ run ∷ others) × IsRun bound word run × AreRuns bound plain others
run_off bound word plain [] some black ends h = absurd (no_white_word word plain some black h)
run_off bound word plain (run ∷ others) some black ends h =
    let same = run_off_gap bound word plain h.0 h.1 h.2 run some black ends h.3 h.4 h.5 h.6 in
    let own : word ≡ h.1 = same.0 in
    let rest : plain ≡ h.2 = same.1 in
    (run, others, refl, rw own h.5, rw rest h.7)

-- A text that has some words and goes on, at a rest that is empty or begins with a word.
-- Nothing is read yet.
pub GoesOn-start : (bound : ℕ) (text : List ℕ) → GoesOn bound text [] (after_gap false text)
GoesOn-start bound text = record {
  with_more = λ more h. (h.0, (gap_same bound false text h.0).1 h.1, h.2);
  only = λ all h. (all, (h.0, (gap_same bound false text h.0).0 h.1, h.2), refl);
}

words_of_more : (run : Run) (runs : List Run) → words_of_runs (run ∷ runs) ≡ replicate run.count run.value ++ words_of_runs runs
words_of_more run runs = flat_map-cons (λ (r : Run). replicate r.count r.value) run runs

-- what the rest has, from its first word on
HasWords-run : (bound : ℕ) (rest : List ℕ) (run : Run) (more : List ℕ) → IsRun bound (take (word_size rest) rest) run → HasWords bound (after_gap false (drop (word_size rest) rest)) more → HasWords bound rest (replicate run.count run.value ++ more)
HasWords-run bound rest run more is h =
    let begun = front rest in
    let behind = drop (word_size rest) rest in
    let runs : AreRuns bound (uncommented false behind) h.0 = (gap_same bound false behind h.0).1 h.1 in
    let whole : AreRuns bound (uncommented false rest) (run ∷ h.0) =
    rw begun.same (run_on bound (take (word_size rest) rest) (uncommented false behind) run h.0 is begun.behind runs) in
    (run ∷ h.0, whole, rw h.2 (sym (words_of_more run h.0)))

run-HasWords : (bound : ℕ) (rest : List ℕ) (all : List ℕ) → 1 ≤ length rest → EndsOrStarts is_word_byte rest → HasWords bound rest all
    → (run : Run) × (more : List ℕ) × IsRun bound (take (word_size rest) rest) run × HasWords bound (after_gap false (drop (word_size rest) rest)) more × (all ≡ replicate run.count run.value ++ more)
run-HasWords bound rest all some starts h =
    let begun = front rest in
    let behind = drop (word_size rest) rest in
    let plain = rw begun.same at h.1 in
    let off = run_off bound (take (word_size rest) rest) (uncommented false behind) h.0 (front_some rest some starts) begun.black begun.behind plain in
    let split : words_of_runs h.0 ≡ replicate off.0.count off.0.value ++ words_of_runs off.1 = ap words_of_runs off.2 ∙ words_of_more off.0 off.1 in
    (off.0, words_of_runs off.1, off.3, (off.1, (gap_same bound false behind off.1).0 off.4, refl), h.2 ∙ split)

-- a run is read
pub GoesOn-run : (bound : ℕ) (text words rest : List ℕ) (run : Run) → GoesOn bound text words rest → 1 ≤ length rest → EndsOrStarts is_word_byte rest → IsRun bound (take (word_size rest) rest) run
    → GoesOn bound text (words ++ replicate run.count run.value) (after_gap false (drop (word_size rest) rest))
GoesOn-run bound text words rest run on some starts is = record {
  with_more = λ more h. rw append_assoc (on.with_more (replicate run.count run.value ++ more) (HasWords-run bound rest run more is h));
  only = λ all h.
      let whole = on.only all h in
      let first = run-HasWords bound rest whole.0 some starts whole.1 in
      let same : first.0 ≡ run = IsRun-same bound (take (word_size rest) rest) first.0 run first.2 is in
      let here : whole.0 ≡ replicate run.count run.value ++ first.1 = first.4 ∙ ap (λ (r : Run). replicate r.count r.value ++ first.1) same in
      (first.1, first.3, whole.2 ∙ ap (λ t. words ++ t) here ∙ sym (append_assoc words (replicate run.count run.value) first.1));
}

-- a word that is no run is in no image
pub GoesOn-bad : (bound : ℕ) (text words rest : List ℕ) → GoesOn bound text words rest → 1 ≤ length rest → EndsOrStarts is_word_byte rest → ((run : Run) → IsRun bound (take (word_size rest) rest) run → ⊥) → (all : List ℕ) → HasWords bound text all → ⊥
GoesOn-bad bound text words rest on some starts none all h =
    let whole = on.only all h in
    let first = run-HasWords bound rest whole.0 some starts whole.1 in
    none first.0 first.2

nothing : (bound : ℕ) (all : List ℕ) → HasWords bound [] all → all ≡ []
nothing bound all h = nothing_runs bound all h.0 h.1 h.2
  where
    nothing_runs : (bound : ℕ) (all : List ℕ) (runs : List Run) → AreRuns bound [] runs → all ≡ words_of_runs runs → all ≡ []
    nothing_runs bound all [] h e = e
    nothing_runs bound all (run ∷ runs) h e =
        let some = run_some bound h.1 run h.5 in
        absurd (omega (arith, some, ap length h.3, length-append h.0 (h.1 ++ h.2), length-append h.1 h.2))

-- all is read
pub GoesOn-end : (bound : ℕ) (text words : List ℕ) → GoesOn bound text words [] → HasWords bound text words × ((all : List ℕ) → HasWords bound text all → all ≡ words)
GoesOn-end bound text words on = (
  rw append-nil at (on.with_more [] ([], All-nil IsWhite, refl)),
  λ all h.
      let whole = on.only all h in
      let none : whole.0 ≡ [] = nothing bound whole.0 whole.1 in
      whole.2 ∙ ap (λ t. words ++ t) none ∙ append-nil words,
)

-- What a reader knows at a rest: the words before it, of which it keeps all or just that they are too many.
pub record IsReading (bound limit : ℕ) (text kept : List ℕ) (over : Bool) (rest : List ℕ) : Type 0 where
  pub words : List ℕ
  pub keeps : Keeps limit kept over words
  pub on : GoesOn bound text words rest
  pub starts : EndsOrStarts is_word_byte rest

pub reading_begins : (bound limit : ℕ) (text kept rest : List ℕ) → kept ≡ [] → rest ≡ after_gap false text → IsReading bound limit text kept false rest
reading_begins bound limit text kept rest none begun =
    rw begun record {
      words = [];
      keeps = (none, omega arith);
      on = GoesOn-start bound text;
      starts = after_gap-starts false text;
    }

pub reading_more : (bound limit : ℕ) (text kept kept' : List ℕ) (over over' : Bool) (rest word after rest' : List ℕ) (size : ℕ) (run : Run) → IsReading bound limit text kept over rest → 1 ≤ length rest → size ≡ word_size rest → word ≡ take size rest → after ≡ drop size rest → IsRun bound word run
    → ((words : List ℕ) → Keeps limit kept over words → Keeps limit kept' over' (words ++ replicate run.count run.value)) → rest' ≡ after_gap false after → IsReading bound limit text kept' over' rest'
reading_more bound limit text kept kept' over over' rest word after rest' size run so_far some sized taken left is keeps moved =
    let own : IsRun bound (take (word_size rest) rest) run = rw (taken, sized) at is in
    let next : rest' ≡ after_gap false (drop (word_size rest) rest) = moved ∙ ap (after_gap false) left ∙ ap (λ n. after_gap false (drop n rest)) sized in
    rw next record {
      words = so_far.words ++ replicate run.count run.value;
      keeps = keeps so_far.words so_far.keeps;
      on = GoesOn-run bound text so_far.words rest run so_far.on some so_far.starts own;
      starts = after_gap-starts false (drop (word_size rest) rest);
    }

gap_no_longer : (lf hash white : Bool) (x y z w : List ℕ) (k : ℕ) → length x ≤ k → length y ≤ k → length z ≤ k → length w ≤ k → length (cond lf x (cond hash y (cond white z w))) ≤ k
gap_no_longer true hash white x y z w k p q r s = p
gap_no_longer false true white x y z w k p q r s = q
gap_no_longer false false true x y z w k p q r s = r
gap_no_longer false false false x y z w k p q r s = s

length-after_gap : (inside : Bool) (text : List ℕ) → length (after_gap inside text) ≤ length text
length-after_gap inside [] = omega arith
length-after_gap inside (c ∷ rest) =
    let free : length (after_gap false rest) ≤ length (c ∷ rest) = omega (arith, length-after_gap false rest) in
    let closed : length (after_gap true rest) ≤ length (c ∷ rest) = omega (arith, length-after_gap true rest) in
    gap_no_longer (eqb c 10) (inside || eqb c 35) (is_white c) (after_gap false rest) (after_gap true rest) (after_gap false rest) (c ∷ rest) (length (c ∷ rest))
    free closed free (omega arith)

-- each run makes the rest shorter
pub reading_shorter : (bound limit : ℕ) (text kept : List ℕ) (over : Bool) (rest after rest' : List ℕ) (size : ℕ) → IsReading bound limit text kept over rest → 1 ≤ length rest → size ≡ word_size rest → after ≡ drop size rest → rest' ≡ after_gap false after → length rest' < length rest
reading_shorter bound limit text kept over rest after rest' size so_far some sized left moved =
    let word = front_some rest some so_far.starts in
    let next : rest' ≡ after_gap false (drop (word_size rest) rest) = moved ∙ ap (after_gap false) left ∙ ap (λ n. after_gap false (drop n rest)) sized in
    rw next (omega (arith, word, length-take (word_size rest) rest, length-drop (word_size rest) rest, length-after_gap false (drop (word_size rest) rest)))

-- a word that is no run
pub reading_bad : (bound limit : ℕ) (text kept : List ℕ) (over : Bool) (rest word : List ℕ) (size : ℕ) → IsReading bound limit text kept over rest → 1 ≤ length rest → size ≡ word_size rest → word ≡ take size rest → ((run : Run) → IsRun bound word run → ⊥) → (all : List ℕ) → HasWords bound text all → ⊥
reading_bad bound limit text kept over rest word size so_far some sized taken none =
    GoesOn-bad bound text so_far.words rest so_far.on some so_far.starts (λ run is. none run (rw (taken, sized) is))

-- the end, where all is kept
pub reading_kept : (bound limit : ℕ) (text kept : List ℕ) (over : Bool) (rest : List ℕ) → IsReading bound limit text kept over rest → over ≡ false → rest ≡ [] → HasWords bound text kept × (length kept ≤ limit) × ((all : List ℕ) → HasWords bound text all → kept ≡ all)
reading_kept bound limit text kept true rest so_far off none = absurd (cc off)
reading_kept bound limit text kept false rest so_far off none =
    let on : GoesOn bound text so_far.words [] = rw none at so_far.on in
    let end = GoesOn-end bound text so_far.words on in
    let same : kept ≡ so_far.words = so_far.keeps.0 in
    (rw same end.0, rw same so_far.keeps.1, λ all h. same ∙ sym (end.1 all h))

-- and where the words are too many
pub reading_over : (bound limit : ℕ) (text kept : List ℕ) (over : Bool) (rest : List ℕ) → IsReading bound limit text kept over rest → over ≡ true → rest ≡ [] → ((all : List ℕ) × HasWords bound text all × (limit < length all)) × ((all : List ℕ) → HasWords bound text all → limit < length all)
reading_over bound limit text kept false rest so_far on none = absurd (cc on)
reading_over bound limit text kept true rest so_far on none =
    let goes : GoesOn bound text so_far.words [] = rw none at so_far.on in
    let end = GoesOn-end bound text so_far.words goes in
    let past : limit < length so_far.words = so_far.keeps in
    ((so_far.words, end.0, past), λ all h. rw (end.1 all h) past)

-- the first line is one of the two
pub header_same : (bytes s t : List ℕ) → HasHeader bytes s → HasHeader bytes t → s ≡ t
header_same bytes s t (inl a) (inl b) = append_cancel_left (codes "v2.0 raw\n") s t (sym a ∙ b)
header_same bytes s t (inr a) (inr b) = append_cancel_left (codes "v2.0 raw\r\n") s t (sym a ∙ b)
header_same bytes s t (inl a) (inr b) =
    let ninth : 10 ≡ 13 = ap (λ l. get_or l 8 0) (sym a ∙ b) in
    absurd (omega (arith, ninth))
header_same bytes s t (inr a) (inl b) =
    let ninth : 13 ≡ 10 = ap (λ l. get_or l 8 0) (sym a ∙ b) in
    absurd (omega (arith, ninth))

-- what holds of the words behind the first line holds of the words of an image
pub image_only : (width bound : ℕ) (bytes text : List ℕ) (P : List ℕ → Type 0) → bound ≡ 2 ^ width → HasHeader bytes text → ((all : List ℕ) → HasWords bound text all → P all) → (all : List ℕ) → IsImage width bytes all → P all
image_only width bound bytes text P same header known all image =
    let behind : text ≡ image.0 = header_same bytes text image.0 header image.1 in
    known all (rw (same, behind) image.2)

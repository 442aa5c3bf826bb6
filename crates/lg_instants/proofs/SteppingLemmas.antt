-- The program makes the first configuration and the next one.
use Rattle.std.proofs.Common.{◌≡◌, ℕ, zero, suc, ◌+◌, ◌-◌, ◌<◌, ◌≤◌, List, [], ◌∷◌, ◌++◌, length, get_or, map, drop, take, inl, inr, sym, refl, ap, ◌∙◌, arith, take_all}
use Rattle.std.specs.Prelude.{replicate, slice_index_or}
use Rattle.std.specs.List.{enumerate_from, flat_map}
use Rattle.std.proofs.lemmas.Bool.{cases_lt}
use Rattle.std.proofs.lemmas.List.{at_drop_more, at_drop_all, map_more, length-map}
use Rattle.std.proofs.lemmas.List.FromFn.{get_or-enumerate_from, length-enumerate_from}
use mathlib.Core.Path.{fun_ext}
use Rattle.lg_value.specs.declared.bit.Bit.{Bit}
use Rattle.lg_value.specs.Drivers.{joined_in_turn, join_of_drivers}
use Rattle.lg_value.proofs.DriverLemmas.{joined_in_turn_lem}
use Rattle.lg_timing.specs.Circuit.{Word, Port, Part, Circuit, Stimulus}
use Rattle.lg_timing.specs.Instant.{Numbered, numbered_parts, unknown_words, input_words, words_on, bits_on, pulls_of, or_else}
use Rattle.lg_timing.specs.Configuration.{Configuration, drivers_shown, nets_shown, nets_of, first, due_of, next}
use Rattle.lg_instants.specs.Plain.{parts_on, bit_from, all_inputs}
use Rattle.lg_instants.specs.Stepping.{of_part, first_due, starts_from, steps_from, dues_from, unknown_dues}
use Rattle.lg_instants.proofs.DriverSteps.{words_on-no_word, parts_on-no_word}
use Rattle.lg_timing.proofs.Numbering.{map_at}
use Rattle.lg_timing.proofs.ConfigurationSteps.{at-number}

at_none : {X : Type 0} (xs : List X) (k : ℕ) (d : X) → length xs ≤ k → slice_index_or xs k d ≡ d
at_none [] zero d past = refl
at_none [] (suc k) d past = refl
at_none (x ∷ xs) zero d past = absurd (omega (arith, past))
at_none (x ∷ xs) (suc k) d past = at_none xs k d (omega (arith, past))

-- what parts that show listed words put on a net
parts_on-listed : (net : ℕ) (list : List (List Word)) (k : ℕ) (parts : List Part)
    → parts_on net parts (drop k list) ≡ flat_map (λ (p : Numbered). words_on net (map (λ (port : Port). port.nets) p.1.outputs) (slice_index_or list p.0 [])) (enumerate_from k parts)
parts_on-listed net list k [] = refl
parts_on-listed net list k (part ∷ parts) =
    let nets : List (List ℕ) = map (λ (port : Port). port.nets) part.outputs in
    let all : List Numbered → List Bit = λ l. flat_map (λ (p : Numbered). words_on net (map (λ (port : Port). port.nets) p.1.outputs) (slice_index_or list p.0 [])) l in
    let rest = parts_on-listed net list (k + 1) parts in
    elim (cases_lt k (length list)) [
      | inl inside ↦
          at_drop_more (λ (l : List (List Word)). parts_on net (part ∷ parts) l) list k [] inside
          ∙ ap (λ bits. words_on net nets (slice_index_or list k []) ++ bits) rest
      | inr past ↦
          let none : parts_on net parts (drop (k + 1) list) ≡ [] = at_drop_all (λ (l : List (List Word)). parts_on net parts l) list (k + 1) (omega (arith, past)) ∙ parts_on-no_word net parts in
          let words : words_on net nets (slice_index_or list k []) ≡ [] = ap (words_on net nets) (at_none list k [] past) ∙ words_on-no_word net nets in
          at_drop_all (λ (l : List (List Word)). parts_on net (part ∷ parts) l) list k past
          ∙ sym (ap (λ bits. words_on net nets (slice_index_or list k []) ++ bits) (sym rest ∙ none) ∙ ap (λ bits. bits ++ []) words)
    ]

-- the program's net bits are those of what is shown
pub bit_from-shown : (c : Circuit) (s : Stimulus) (shown : List (List Word)) → bit_from c s shown ≡ nets_shown c s shown
unfolding bit_from
bit_from-shown c s shown =
    fun_ext (λ net.
    let bits = words_on net c.pins s.words in
    let ticks = bits_on net c.clocks (replicate (length c.clocks) s.clock) in
    ap (λ (drivers : List Bit). or_else (joined_in_turn ((drivers ++ bits) ++ ticks)) (joined_in_turn (pulls_of c net))) (parts_on-listed net shown 0 c.parts)
    ∙ ap (λ (bit : Bit). or_else bit (joined_in_turn (pulls_of c net))) (joined_in_turn_lem (drivers_shown c s shown net))
    ∙ ap (λ (bit : Bit). or_else (join_of_drivers (drivers_shown c s shown net)) bit) (joined_in_turn_lem (pulls_of c net)))

-- the word on one pin more
pub words-more : (f : ℕ → Bit) (pins : List (List ℕ)) (i : ℕ) (nets : List ℕ) (words : List Word) → i < length pins → nets ≡ get_or pins i nets → words ≡ map (λ (n : List ℕ). map f n) (take i pins)
    → words ++ map f nets ∷ [] ≡ map (λ (n : List ℕ). map f n) (take (i + 1) pins)
words-more f pins i nets words inside is before =
    ap (λ l. l ++ map f nets ∷ []) before
    ∙ ap (λ (n : List ℕ). map (λ (m : List ℕ). map f m) (take i pins) ++ map f n ∷ []) is
    ∙ sym (map_more (λ (n : List ℕ). map f n) pins i nets inside)

-- one part more, of what a number alone decides
pub no_part : Part
no_part = record { delay = 0; inputs = []; outputs = []; start = []; step = λ state before now. state; out = λ state now. [] }

pub number_at : {P : Type 0} (meaning : P → Part) (xs : List P) (i : ℕ) → i < length xs → (get_or (enumerate_from 0 (map meaning xs)) i (i, no_part)).0 ≡ i
number_at meaning xs i inside =
    let parts = map meaning xs in
    let is = get_or-enumerate_from 0 parts i (i, no_part) (simp length-map inside) in
    ap (λ (p : Numbered). p.0) is ∙ omega arith

pub by_number_more : {P X : Type 0} (meaning : P → Part) (f : ℕ → X) (xs : List P) (i : ℕ) → i < length xs
    → map (λ (p : Numbered). f p.0) (take (i + 1) (enumerate_from 0 (map meaning xs))) ≡ map (λ (p : Numbered). f p.0) (take i (enumerate_from 0 (map meaning xs))) ++ f i ∷ []
by_number_more meaning f xs i inside =
    let parts = map meaning xs in
    let there : i < length parts = simp length-map inside in
    let number = number_at meaning xs i inside in
    map_more (λ (p : Numbered). f p.0) (enumerate_from 0 parts) i (i, no_part) (rw (length-enumerate_from 0 parts) there)
    ∙ ap (λ k. map (λ (p : Numbered). f p.0) (take i (enumerate_from 0 parts)) ++ f k ∷ []) number

pub by_number_all : {P X : Type 0} (meaning : P → Part) (f : ℕ → X) (xs : List P) (i : ℕ) → length xs ≤ i
    → map (λ (p : Numbered). f p.0) (take i (enumerate_from 0 (map meaning xs))) ≡ map (λ (p : Numbered). f p.0) (enumerate_from 0 (map meaning xs))
by_number_all meaning f xs i all =
    let long : length (enumerate_from 0 (map meaning xs)) ≤ i = simp (length-enumerate_from, length-map) all in
    ap (map (λ (p : Numbered). f p.0)) (take_all i (enumerate_from 0 (map meaning xs)) long)

-- lists for all parts that are listed part by part
dues_from-listed : (c : Circuit) (due : Numbered → List (List Word)) (states now : Numbered → List Word)
    → map (dues_from (map due (numbered_parts c)) (map states (numbered_parts c)) (map now (numbered_parts c))) (numbered_parts c)
    ≡ map (λ (p : Numbered). drop 1 (due p) ++ p.1.out (states p) (now p) ∷ []) (numbered_parts c)
dues_from-listed c due states now =
    let parts : List Numbered = numbered_parts c in
    map_at (dues_from (map due parts) (map states parts) (map now parts)) (λ (p : Numbered). drop 1 (due p) ++ p.1.out (states p) (now p) ∷ []) parts (λ i d inside.
    let p : Numbered = get_or parts i d in
    ap (λ (l : List (List Word)). drop 1 l ++ p.1.out (of_part (map states parts) p) (of_part (map now parts) p) ∷ []) (at-number due c [] i d inside)
    ∙ ap (λ (w : List Word). drop 1 (due p) ++ p.1.out w (of_part (map now parts) p) ∷ []) (at-number states c [] i d inside)
    ∙ ap (λ (w : List Word). drop 1 (due p) ++ p.1.out (states p) w ∷ []) (at-number now c [] i d inside))

-- what the program lists of a configuration
abbrev pub with_lists : Stimulus → List (List Word) → List (List Word) → List (List (List Word)) → Configuration
with_lists s shown states due = record { words = s.words; clock = s.clock; states = states; shown = shown; due = due }

replicate_less : {X : Type 0} (x : X) (n : ℕ) → drop 1 (replicate n x) ≡ replicate (n - 1) x
replicate_less x zero = refl
replicate_less x (suc n) = let same : n ≡ suc n - 1 = omega arith in ap (λ k. replicate k x) same

-- the first configuration
pub first-is : (c : Circuit) (s : Stimulus) (shown now states : List (List Word)) (unknown due : List (List (List Word)))
    → shown ≡ map (λ (p : Numbered). unknown_words p.1.outputs) (numbered_parts c) → now ≡ all_inputs c (bit_from c s shown) → states ≡ map (starts_from now) (numbered_parts c)
    → unknown ≡ map unknown_dues (numbered_parts c) → due ≡ map (dues_from unknown states now) (numbered_parts c)
    → with_lists s shown states due ≡ first c s
first-is c s shown now states unknown due shown_is now_is states_is unknown_is due_is =
    let parts : List Numbered = numbered_parts c in
    let nothing : List (List Word) = map (λ (p : Numbered). unknown_words p.1.outputs) parts in
    let nets : ℕ → Bit = nets_shown c s nothing in
    let read : Numbered → List Word = λ p. input_words nets p.1 in
    let state : Numbered → List Word = λ p. p.1.step p.1.start (unknown_words p.1.inputs) (read p) in
    let shows : shown ≡ nothing = shown_is in
    let reads : now ≡ map read parts = now_is ∙ ap (λ (l : List (List Word)). all_inputs c (bit_from c s l)) shows ∙ ap (all_inputs c) (bit_from-shown c s nothing) in
    let stands : states ≡ map state parts = states_is ∙ ap (λ l. map (starts_from l) parts) reads
    ∙ map_at (starts_from (map read parts)) state parts (λ i d inside.
    let p : Numbered = get_or parts i d in
    ap (λ (w : List Word). p.1.step p.1.start (unknown_words p.1.inputs) w) (at-number read c [] i d inside)) in
    let owes : due ≡ map (λ (p : Numbered). replicate (p.1.delay - 1) (unknown_words p.1.outputs) ++ p.1.out (state p) (read p) ∷ []) parts = due_is
    ∙ ap (λ l. map (dues_from l states now) parts) unknown_is
    ∙ ap (λ l. map (dues_from (map unknown_dues parts) l now) parts) stands
    ∙ ap (λ l. map (dues_from (map unknown_dues parts) (map state parts) l) parts) reads
    ∙ dues_from-listed c unknown_dues state read
    ∙ map_at (λ (p : Numbered). drop 1 (unknown_dues p) ++ p.1.out (state p) (read p) ∷ []) (λ (p : Numbered). replicate (p.1.delay - 1) (unknown_words p.1.outputs) ++ p.1.out (state p) (read p) ∷ []) parts (λ i d inside.
    let p : Numbered = get_or parts i d in
    ap (λ (l : List (List Word)). l ++ p.1.out (state p) (read p) ∷ []) (replicate_less (unknown_words p.1.outputs) p.1.delay)) in
    ap (λ l. with_lists s l states due) shows
    ∙ ap (λ l. with_lists s nothing l due) stands
    ∙ ap (λ l. with_lists s nothing (map state parts) l) owes

-- the next configuration
pub next-is : (c : Circuit) (s : Stimulus) (k : Configuration) (before shown now states : List (List Word)) (due : List (List (List Word)))
    → before ≡ all_inputs c (nets_of c k) → shown ≡ map (λ (p : Numbered). first_due k.due p.0) (numbered_parts c)
    → now ≡ all_inputs c (bit_from c s shown) → states ≡ map (steps_from k.states before now) (numbered_parts c)
    → due ≡ map (dues_from k.due states now) (numbered_parts c)
    → with_lists s shown states due ≡ next c s k
next-is c s k before shown now states due before_is shown_is now_is states_is due_is =
    let parts : List Numbered = numbered_parts c in
    let shows : List (List Word) = map (λ (p : Numbered). first_due k.due p.0) parts in
    let was : Numbered → List Word = λ p. input_words (nets_of c k) p.1 in
    let read : Numbered → List Word = λ p. input_words (nets_shown c s shows) p.1 in
    let state : Numbered → List Word = λ p. p.1.step (slice_index_or k.states p.0 []) (was p) (read p) in
    let read_before : before ≡ map was parts = before_is in
    let reads : now ≡ map read parts = now_is ∙ ap (λ (l : List (List Word)). all_inputs c (bit_from c s l)) shown_is ∙ ap (all_inputs c) (bit_from-shown c s shows) in
    let stands : states ≡ map state parts = states_is
    ∙ ap (λ l. map (steps_from k.states l now) parts) read_before
    ∙ ap (λ l. map (steps_from k.states (map was parts) l) parts) reads
    ∙ map_at (steps_from k.states (map was parts) (map read parts)) state parts (λ i d inside.
    let p : Numbered = get_or parts i d in
    ap (λ (w : List Word). p.1.step (slice_index_or k.states p.0 []) w (of_part (map read parts) p)) (at-number was c [] i d inside)
    ∙ ap (λ (w : List Word). p.1.step (slice_index_or k.states p.0 []) (was p) w) (at-number read c [] i d inside)) in
    let owes : due ≡ map (λ (p : Numbered). drop 1 (due_of k p) ++ p.1.out (state p) (read p) ∷ []) parts = due_is
    ∙ ap (λ l. map (dues_from k.due l now) parts) stands
    ∙ ap (λ l. map (dues_from k.due (map state parts) l) parts) reads
    ∙ map_at (dues_from k.due (map state parts) (map read parts)) (λ (p : Numbered). drop 1 (due_of k p) ++ p.1.out (state p) (read p) ∷ []) parts (λ i d inside.
    let p : Numbered = get_or parts i d in
    ap (λ (w : List Word). drop 1 (due_of k p) ++ p.1.out w (of_part (map read parts) p) ∷ []) (at-number state c [] i d inside)
    ∙ ap (λ (w : List Word). drop 1 (due_of k p) ++ p.1.out (state p) w ∷ []) (at-number read c [] i d inside)) in
    ap (λ l. with_lists s l states due) shown_is
    ∙ ap (λ l. with_lists s shows l due) stands
    ∙ ap (λ l. with_lists s shows (map state parts) l) owes

-- The configuration of the next instant comes of the one before, with the stimulus then.
use Rattle.std.proofs.Common.{◌≡◌, ℕ, zero, suc, ◌+◌, ◌-◌, ◌<◌, ◌≤◌, List, [], ◌∷◌, ◌++◌, length, get_or, map, drop, Some, None, sym, refl, ap, ◌∙◌, subst, arith}
use Rattle.std.specs.Prelude.{All, replicate, slice_get, slice_index_or}
use Rattle.std.proofs.lemmas.List.{get_or-map}
use Rattle.std.proofs.lemmas.List.FromFn.{get_or-enumerate_from, length-enumerate_from}
use mathlib.Core.Path.{fun_ext}
use Rattle.lg_value.specs.declared.bit.Bit.{Bit}
use Rattle.lg_value.specs.Drivers.{join_of_drivers}
use Rattle.lg_timing.specs.Circuit.{Word, Part, Circuit, Stimulus}
use Rattle.lg_timing.specs.Instant.{Instant, Numbered, numbered_parts, answered, unknown_words, input_words, words_on, bits_on, pulls_of, or_else, net_bit, next_state, output_words, in_force, timeline, instant_at}
use Rattle.lg_timing.specs.Configuration.{Configuration, due_words, configuration_at, nets_shown, stimulus_of, nets_of, stepped, first, due_of, next, going_on, HaveDelays}
use Rattle.lg_timing.proofs.Outputs.{driven_alike}
use Rattle.lg_timing.proofs.Numbering.{map_at, number-is}

-- what holds of each part holds of each numbered one
pub numbered-all : (P : Part → Type 0) (c : Circuit) → All P c.parts → All (λ (p : Numbered). P p.1) (numbered_parts c)
numbered-all P c holds k d inside =
    let within : k < length c.parts = omega (arith, inside, length-enumerate_from 0 c.parts) in
    let is = get_or-enumerate_from 0 c.parts k d within in
    subst (λ (p : Numbered). P p.1) (sym is) (holds k d.1 within)

-- what is listed for each part stands at its number
pub at-number : {X : Type 0} (f : Numbered → X) (c : Circuit) (e : X) (i : ℕ) (d : Numbered) → i < length (numbered_parts c)
    → slice_index_or (map f (numbered_parts c)) (get_or (numbered_parts c) i d).0 e ≡ f (get_or (numbered_parts c) i d)
at-number {X} f c e i d inside =
    ap (λ (k : ℕ). slice_index_or (map f (numbered_parts c)) k e) (number-is c i d inside) ∙ get_or-map f (numbered_parts c) i d e inside

-- the nets of what is shown are those of the instants
pub nets_shown-is : (c : Circuit) (s : Stimulus) (past : List Instant) → nets_shown c s (map (output_words past) (numbered_parts c)) ≡ net_bit c s past
nets_shown-is c s past =
    fun_ext (λ net.
    let driven = driven_alike net (λ p. slice_index_or (map (output_words past) (numbered_parts c)) p.0 []) (output_words past) (numbered_parts c) (at-number (output_words past) c []) in
    ap (λ (drivers : List Bit). or_else (join_of_drivers ((drivers ++ words_on net c.pins s.words) ++ bits_on net c.clocks (replicate (length c.clocks) s.clock))) (join_of_drivers (pulls_of c net))) driven)

-- what is due first is shown next
due-first : (past : List Instant) (p : Numbered) (n : ℕ) → 1 ≤ n → slice_index_or (due_words past p n) 0 [] ≡ answered p (slice_get past (n - 1))
due-first past p zero some = absurd (omega (arith, some))
due-first past p (suc n) some =
    let same : n ≡ suc n - 1 = omega arith in
    ap (λ k. answered p (slice_get past k)) same

-- one instant more, and its answer is due last
due-more : (past : List Instant) (instant : Instant) (p : Numbered) (n : ℕ) → due_words (instant ∷ past) p (suc n) ≡ due_words past p n ++ answered p (Some instant) ∷ []
due-more past instant p zero = refl
due-more past instant p (suc n) = ap (λ rest. answered p (slice_get past n) ∷ rest) (due-more past instant p n)

pub due-moves : (past : List Instant) (instant : Instant) (p : Numbered) (n : ℕ) → 1 ≤ n → drop 1 (due_words past p n) ++ answered p (Some instant) ∷ [] ≡ due_words (instant ∷ past) p n
due-moves past instant p zero some = absurd (omega (arith, some))
due-moves past instant p (suc n) some = sym (due-more past instant p n)

none_before : (n : ℕ) → slice_get {X = Instant} [] n ≡ None
none_before zero = refl
none_before (suc n) = refl

due-none : (p : Numbered) (n : ℕ) → due_words [] p n ≡ replicate n (unknown_words p.1.outputs)
due-none p zero = refl
due-none p (suc n) = ap (λ o. answered p o ∷ due_words [] p n) (none_before n) ∙ ap (λ rest. unknown_words p.1.outputs ∷ rest) (due-none p n)

due-begun : (instant : Instant) (p : Numbered) (n : ℕ) → 1 ≤ n → replicate (n - 1) (unknown_words p.1.outputs) ++ answered p (Some instant) ∷ [] ≡ due_words (instant ∷ []) p n
due-begun instant p zero some = absurd (omega (arith, some))
due-begun instant p (suc n) some =
    let same : suc n - 1 ≡ n = omega arith in
    ap (λ k. replicate k (unknown_words p.1.outputs) ++ answered p (Some instant) ∷ []) same
    ∙ ap (λ l. l ++ answered p (Some instant) ∷ []) (sym (due-none p n)) ∙ sym (due-more [] instant p n)

-- A step from what stood before to the instant that comes of it: the configuration then.
abbrev StepsTo : Circuit → Stimulus → List Instant → Instant → (Numbered → List Word → List Word) → (Numbered → List (List Word)) → Type 0
StepsTo c s past instant step already =
    (i : ℕ) (d : Numbered) → i < length (numbered_parts c)
    → (step (get_or (numbered_parts c) i d) (input_words (net_bit c s past) (get_or (numbered_parts c) i d).1) ≡ next_state past (net_bit c s past) (get_or (numbered_parts c) i d))
    × (already (get_or (numbered_parts c) i d) ++ answered (get_or (numbered_parts c) i d) (Some instant) ∷ [] ≡ due_words (instant ∷ past) (get_or (numbered_parts c) i d) (get_or (numbered_parts c) i d).1.delay)

-- the instant after some
abbrev pub instant_after : Circuit → Stimulus → List Instant → Instant
instant_after c s past = record { nets = net_bit c s past; states = map (next_state past (net_bit c s past)) (numbered_parts c) }

-- its configuration
abbrev pub configuration_after : Circuit → Stimulus → List Instant → Configuration
configuration_after c s past = record {
  words = s.words;
  clock = s.clock;
  states = map (next_state past (net_bit c s past)) (numbered_parts c);
  shown = map (output_words past) (numbered_parts c);
  due = map (λ (p : Numbered). due_words (instant_after c s past ∷ past) p p.1.delay) (numbered_parts c);
}

abbrev with_lists : Stimulus → List (List Word) → List (List Word) → List (List (List Word)) → Configuration
with_lists s shown states due = record { words = s.words; clock = s.clock; states = states; shown = shown; due = due }

stepped-is : (c : Circuit) (s : Stimulus) (past : List Instant) (shown : List (List Word)) (step : Numbered → List Word → List Word) (already : Numbered → List (List Word))
    → shown ≡ map (output_words past) (numbered_parts c) → StepsTo c s past (instant_after c s past) step already
    → stepped c s shown step already ≡ configuration_after c s past
stepped-is c s past shown step already shows to =
    let nets : ℕ → Bit = net_bit c s past in
    let last : Instant = instant_after c s past in
    let answer : Numbered → List Word = λ p. p.1.out (step p (input_words nets p.1)) (input_words nets p.1) in
    let states = map_at (λ (p : Numbered). step p (input_words nets p.1)) (next_state past nets) (numbered_parts c) (λ i d inside. (to i d inside).0) in
    let due = map_at (λ (p : Numbered). already p ++ answer p ∷ []) (λ (p : Numbered). due_words (last ∷ past) p p.1.delay) (numbered_parts c) (λ i d inside.
    let p : Numbered = get_or (numbered_parts c) i d in
    ap (λ (state : List Word). already p ++ p.1.out state (input_words nets p.1) ∷ []) ((to i d inside).0 ∙ sym (at-number (next_state past nets) c [] i d inside))
    ∙ (to i d inside).1) in
    ap (λ (l : List (List Word)). stepped c s l step already) shows
    ∙ ap (λ (bits : ℕ → Bit). with_lists s (map (output_words past) (numbered_parts c))
    (map (λ (p : Numbered). step p (input_words bits p.1)) (numbered_parts c))
    (map (λ (p : Numbered). already p ++ p.1.out (step p (input_words bits p.1)) (input_words bits p.1) ∷ []) (numbered_parts c))) (nets_shown-is c s past)
    ∙ ap (λ l. with_lists s (map (output_words past) (numbered_parts c)) l (map (λ (p : Numbered). already p ++ answer p ∷ []) (numbered_parts c))) states
    ∙ ap (λ l. with_lists s (map (output_words past) (numbered_parts c)) (map (next_state past nets) (numbered_parts c)) l) due

-- instant 0 has the first configuration
pub configuration-first : (c : Circuit) (stimuli : List Stimulus) → HaveDelays c → configuration_at c stimuli 0 ≡ first c (in_force stimuli 0)
unfolding timeline
configuration-first c stimuli delays =
    let s : Stimulus = in_force stimuli 0 in
    let least = numbered-all (λ (p : Part). 1 ≤ p.delay) c delays in
    sym (stepped-is c s [] (map (λ (p : Numbered). unknown_words p.1.outputs) (numbered_parts c))
    (λ p now. p.1.step p.1.start (unknown_words p.1.inputs) now)
    (λ p. replicate (p.1.delay - 1) (unknown_words p.1.outputs))
    (map_at (λ (p : Numbered). unknown_words p.1.outputs) (output_words []) (numbered_parts c) (λ i d inside.
    let p : Numbered = get_or (numbered_parts c) i d in ap (answered p) (sym (none_before (p.1.delay - 1)))))
    (λ i d inside.
    let p : Numbered = get_or (numbered_parts c) i d in
    (refl, due-begun (instant_after c s []) p p.1.delay (least i d inside))))

-- under any stimulus the next instant has the next configuration
pub configuration-under : (c : Circuit) (stimuli : List Stimulus) (s : Stimulus) (t : ℕ) → HaveDelays c → configuration_after c s (timeline c stimuli (suc t)) ≡ next c s (configuration_at c stimuli t)
unfolding timeline
configuration-under c stimuli s t delays =
    let k : Configuration = configuration_at c stimuli t in
    let past : List Instant = timeline c stimuli (suc t) in
    let least = numbered-all (λ (p : Part). 1 ≤ p.delay) c delays in
    let listed = at-number (λ (p : Numbered). due_words past p p.1.delay) c [] in
    sym (stepped-is c s past (map (λ (p : Numbered). slice_index_or (due_of k p) 0 []) (numbered_parts c))
    (λ p now. p.1.step (slice_index_or k.states p.0 []) (input_words (nets_of c k) p.1) now)
    (λ p. drop 1 (due_of k p))
    (map_at (λ (p : Numbered). slice_index_or (due_of k p) 0 []) (output_words past) (numbered_parts c) (λ i d inside.
    let p : Numbered = get_or (numbered_parts c) i d in
    ap (λ (l : List (List Word)). slice_index_or l 0 []) (listed i d inside) ∙ due-first past p p.1.delay (least i d inside)))
    (λ i d inside.
    let p : Numbered = get_or (numbered_parts c) i d in (
      ap (λ (bits : ℕ → Bit). p.1.step (slice_index_or k.states p.0 []) (input_words bits p.1) (input_words (net_bit c s past) p.1)) (nets_shown-is c (stimulus_of k) (timeline c stimuli t)),
      ap (λ (l : List (List Word)). drop 1 l ++ answered p (Some (instant_after c s past)) ∷ []) (listed i d inside)
          ∙ due-moves past (instant_after c s past) p p.1.delay (least i d inside),
    )))

pub configuration-next : (c : Circuit) (stimuli : List Stimulus) (t : ℕ) → HaveDelays c → configuration_at c stimuli (suc t) ≡ next c (in_force stimuli (suc t)) (configuration_at c stimuli t)
unfolding timeline
configuration-next c stimuli t delays = configuration-under c stimuli (in_force stimuli (suc t)) t delays

-- and so on, from any instant
pub configuration-going_on : (c : Circuit) (stimuli : List Stimulus) (t n : ℕ) → HaveDelays c → configuration_at c stimuli (t + n) ≡ going_on c stimuli t (configuration_at c stimuli t) n
unfolding going_on
configuration-going_on c stimuli t zero delays =
    let same : t + 0 ≡ t = omega arith in
    ap (configuration_at c stimuli) same
configuration-going_on c stimuli t (suc n) delays =
    let same : t + suc n ≡ suc (t + n) = omega arith in
    ap (configuration_at c stimuli) same
    ∙ configuration-next c stimuli (t + n) delays
    ∙ ap (λ u. next c (in_force stimuli u) (configuration_at c stimuli (t + n))) (sym same)
    ∙ ap (next c (in_force stimuli (t + suc n))) (configuration-going_on c stimuli t n delays)

pub going_on-none : (c : Circuit) (stimuli : List Stimulus) (t : ℕ) (k : Configuration) → going_on c stimuli t k 0 ≡ k
unfolding going_on
going_on-none c stimuli t k = refl

pub going_on-more : (c : Circuit) (stimuli : List Stimulus) (t n u : ℕ) (k : Configuration) → u ≡ t + n + 1 → going_on c stimuli t k (n + 1) ≡ next c (in_force stimuli u) (going_on c stimuli t k n)
unfolding going_on
going_on-more c stimuli t n u k there =
    let one : n + 1 ≡ suc n = omega arith in
    let same : t + suc n ≡ u = omega (arith, there) in
    ap (going_on c stimuli t k) one ∙ ap (λ v. next c (in_force stimuli v) (going_on c stimuli t k n)) same

-- the nets of a configuration are those of its instant
pub nets_of-is : (c : Circuit) (stimuli : List Stimulus) (t : ℕ) → nets_of c (configuration_at c stimuli t) ≡ (instant_at c stimuli t).nets
nets_of-is c stimuli t = nets_shown-is c (stimulus_of (configuration_at c stimuli t)) (timeline c stimuli t)

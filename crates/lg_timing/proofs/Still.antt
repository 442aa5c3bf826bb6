-- Where nothing else is due than what is shown, the next configuration is this one again while its stimulus stays.
use Rattle.std.proofs.Common.{◌≡◌, ℕ, zero, suc, ◌-◌, ◌<◌, ◌≤◌, List, ◌∷◌, map, length, get_or, inl, inr, sym, refl, ap, ◌∙◌, subst, arith}
use Rattle.std.specs.Prelude.{All, replicate, slice_get}
use Rattle.std.proofs.lemmas.Bool.{cases_lt}
use Rattle.std.proofs.lemmas.List.Elements.{All-head, All-tail}
use Rattle.lg_timing.specs.Circuit.{Word, Part, Circuit, Stimulus}
use Rattle.lg_timing.specs.Instant.{Instant, Numbered, numbered_parts, answered, in_force, timeline, instant_at, outputs_at, output_words}
use Rattle.lg_timing.specs.Settling.{IsSteady}
use Rattle.lg_timing.specs.Configuration.{Configuration, due_words, configuration_at, stimulus_of, due_of, next, staying, IsStill, IsAtRest, HaveDelays}
use Rattle.lg_timing.proofs.Outputs.{Agree}
use Rattle.lg_timing.proofs.Instants.{next_again}
use Rattle.lg_timing.proofs.Numbering.{map_at}
use Rattle.lg_timing.proofs.ConfigurationSteps.{numbered-all, instant_after, configuration-under}
use Rattle.lg_timing.proofs.Rest.{shown_of-is, due_of-is}

-- answers that are all one are due as that one, so many times
due-from_answers : (words : List Word) (past : List Instant) (p : Numbered) (n : ℕ) → ((m : ℕ) → m < n → answered p (slice_get past m) ≡ words) → due_words past p n ≡ replicate n words
due-from_answers words past p zero same = refl
due-from_answers words past p (suc n) same =
    ap (λ w. w ∷ due_words past p n) (same n (omega arith))
    ∙ ap (λ l. words ∷ l) (due-from_answers words past p n (λ m inside. same m (omega (arith, inside))))

answers-from_due : (words : List Word) (past : List Instant) (p : Numbered) (n : ℕ) → All (λ (w : List Word). w ≡ words) (due_words past p n) → (m : ℕ) → m < n → answered p (slice_get past m) ≡ words
answers-from_due words past p zero all m inside = absurd (omega (arith, inside))
answers-from_due words past p (suc n) all m inside =
    elim (cases_lt m n) [
      | inl h ↦ answers-from_due words past p n (All-tail (λ (w : List Word). w ≡ words) (answered p (slice_get past n)) (due_words past p n) all) m h
      | inr h ↦
          let last : m ≡ n = omega (arith, h, inside) in
          ap (λ k. answered p (slice_get past k)) last ∙ All-head (λ (w : List Word). w ≡ words) (answered p (slice_get past n)) (due_words past p n) all
    ]

pub delays-from_steady : (greatest : ℕ) (c : Circuit) → All (IsSteady greatest) c.parts → HaveDelays c
delays-from_steady greatest c steady k d inside = (steady k d inside).least_delay

-- all the answers that are due are what is shown
still-answers : (c : Circuit) (stimuli : List Stimulus) (t : ℕ) → IsStill c (configuration_at c stimuli t) → (i : ℕ) (d : Numbered) → i < length (numbered_parts c)
    → (m : ℕ) → m < (get_or (numbered_parts c) i d).1.delay → answered (get_or (numbered_parts c) i d) (slice_get (timeline c stimuli (suc t)) m) ≡ outputs_at c stimuli t (get_or (numbered_parts c) i d)
still-answers c stimuli t still i d inside =
    let p : Numbered = get_or (numbered_parts c) i d in
    let k : Configuration = configuration_at c stimuli t in
    let shown = subst (λ (words : List Word). All (λ (w : List Word). w ≡ words) (due_of k p)) (shown_of-is c stimuli t i d inside) (still i d inside) in
    let due = subst (λ (l : List (List Word)). All (λ (w : List Word). w ≡ outputs_at c stimuli t p) l) (due_of-is c stimuli t i d inside) shown in
    answers-from_due (outputs_at c stimuli t p) (timeline c stimuli (suc t)) p p.1.delay due

-- so they are with the same instant once more
due_again : (c : Circuit) (stimuli : List Stimulus) (t : ℕ) (p : Numbered) → ((m : ℕ) → m < p.1.delay → answered p (slice_get (timeline c stimuli (suc t)) m) ≡ outputs_at c stimuli t p)
    → (m : ℕ) → m < p.1.delay → answered p (slice_get (instant_at c stimuli t ∷ timeline c stimuli (suc t)) m) ≡ outputs_at c stimuli t p
unfolding timeline
due_again c stimuli t p same zero inside = same 0 inside
due_again c stimuli t p same (suc m) inside = same m (omega (arith, inside))

-- the next configuration is this one again
pub next-still : (greatest : ℕ) (c : Circuit) (stimuli : List Stimulus) (t : ℕ) → All (IsSteady greatest) c.parts → IsStill c (configuration_at c stimuli t)
    → next c (stimulus_of (configuration_at c stimuli t)) (configuration_at c stimuli t) ≡ configuration_at c stimuli t
unfolding timeline
next-still greatest c stimuli t steady still =
    let k : Configuration = configuration_at c stimuli t in
    let s : Stimulus = in_force stimuli t in
    let past : List Instant = timeline c stimuli (suc t) in
    let delays = delays-from_steady greatest c steady in
    let least = numbered-all (λ (p : Part). 1 ≤ p.delay) c delays in
    let answers = still-answers c stimuli t still in
    let shows : Agree (outputs_at c stimuli t) (output_words past) (numbered_parts c) = λ i d inside.
    let p : Numbered = get_or (numbered_parts c) i d in
    let delay : 1 ≤ p.1.delay = least i d inside in
    sym (answers i d inside (p.1.delay - 1) (omega (arith, delay))) in
    let again : instant_after c s past ≡ instant_at c stimuli t = next_again greatest c s (timeline c stimuli t) steady shows in
    let shown = map_at (output_words past) (outputs_at c stimuli t) (numbered_parts c) (λ i d inside. sym (shows i d inside)) in
    let due = map_at (λ (p : Numbered). due_words (instant_at c stimuli t ∷ past) p p.1.delay) (λ (p : Numbered). due_words past p p.1.delay) (numbered_parts c) (λ i d inside.
    let p : Numbered = get_or (numbered_parts c) i d in
    due-from_answers (outputs_at c stimuli t p) (instant_at c stimuli t ∷ past) p p.1.delay (due_again c stimuli t p (answers i d inside))
    ∙ sym (due-from_answers (outputs_at c stimuli t p) past p p.1.delay (answers i d inside))) in
    let made : Instant → List (List Word) → List (List (List Word)) → Configuration = λ instant l m. record { words = s.words; clock = s.clock; states = instant.states; shown = l; due = m } in
    sym (configuration-under c stimuli (stimulus_of k) t delays)
    ∙ ap (λ (instant : Instant). made instant (map (output_words past) (numbered_parts c)) (map (λ (p : Numbered). due_words (instant ∷ past) p p.1.delay) (numbered_parts c))) again
    ∙ ap (λ l. made (instant_at c stimuli t) l (map (λ (p : Numbered). due_words (instant_at c stimuli t ∷ past) p p.1.delay) (numbered_parts c))) shown
    ∙ ap (made (instant_at c stimuli t) (map (outputs_at c stimuli t) (numbered_parts c))) due

pub staying-still : (greatest : ℕ) (c : Circuit) (stimuli : List Stimulus) (t : ℕ) → All (IsSteady greatest) c.parts → IsStill c (configuration_at c stimuli t)
    → (n : ℕ) → staying c (configuration_at c stimuli t) n ≡ configuration_at c stimuli t
unfolding staying
staying-still greatest c stimuli t steady still zero = refl
staying-still greatest c stimuli t steady still (suc n) =
    ap (next c (stimulus_of (configuration_at c stimuli t))) (staying-still greatest c stimuli t steady still n) ∙ next-still greatest c stimuli t steady still

-- and it is at rest
pub rest_when_still : (greatest : ℕ) (c : Circuit) (stimuli : List Stimulus) (t : ℕ) → All (IsSteady greatest) c.parts → IsStill c (configuration_at c stimuli t) → IsAtRest c (configuration_at c stimuli t)
rest_when_still greatest c stimuli t steady still =
    record { still = still; quiet = λ n. ap (λ (k : Configuration). k.shown) (staying-still greatest c stimuli t steady still n) }

-- Where a part has no evaluation it answers as before, and after all has settled there is none.
use Rattle.std.proofs.Common.{◌≡◌, ℕ, zero, suc, ◌+◌, ◌-◌, ◌<◌, ◌≤◌, Bool, true, false, cond, List, [], ◌∷◌, length, map, get_or, Some, sym, refl, ap, ◌∙◌, arith}
use Rattle.std.specs.Prelude.{not, All}
use Rattle.std.specs.List.{count_by}
use Rattle.std.proofs.lemmas.Bool.{not-false}
use Rattle.std.proofs.lemmas.List.Elements.{All-head, All-tail}
use Rattle.std.proofs.lemmas.List.Sums.{sum_by-cons}
use Rattle.std.proofs.lemmas.List.FromFn.{length-enumerate_from}
use Rattle.lg_value.specs.declared.bit.Bit.{Bit}
use Rattle.lg_timing.specs.Circuit.{Word, Port, Circuit, Stimulus}
use Rattle.lg_timing.specs.Instant.{Instant, Numbered, numbered_parts, answered, word_at, input_words, state_of, next_state, net_bit, in_force, timeline, instant_at}
use Rattle.lg_timing.specs.Settling.{same_words, is_busy, SettlesAt, IsSteady, StayFrom}
use Rattle.lg_timing.specs.Configuration.{configuration_at, nets_of}
use Rattle.lg_timing.specs.Evaluation.{bits_read, is_evaluated, evaluations_at, evaluations, evaluations_between}
use Rattle.lg_timing.proofs.Timeline.{in_force-stays}
use Rattle.lg_timing.proofs.Outputs.{Decides-same_words, SameOutputs-from_quiet, net_bit_alike}
use Rattle.lg_timing.proofs.ConfigurationSteps.{nets_of-is}
use Rattle.lg_timing.proofs.Instants.{next_state_again, state_of_next, steady_numbered}

count_by-all : {X : Type 0} (xs : List X) → count_by (λ x. true) xs ≡ length xs
count_by-all [] = refl
count_by-all {X} (x ∷ xs) = omega (arith, sum_by-cons {X = X} (λ y. 1) x xs, count_by-all xs)

count_by-none : {X : Type 0} (test : X → Bool) (xs : List X) → ((i : ℕ) (d : X) → i < length xs → test (get_or xs i d) ≡ false) → count_by test xs ≡ 0
count_by-none test [] none = refl
count_by-none {X} test (x ∷ xs) none =
    let first : test x ≡ false = none 0 x (omega arith) in
    let rest : count_by test xs ≡ 0 = count_by-none test xs (λ i d inside. none (suc i) d (omega (arith, inside))) in
    sum_by-cons {X = X} (λ y. cond (test y) 1 0) x xs ∙ ap (λ b. cond b 1 0 + count_by test xs) first ∙ omega (arith, rest)

-- at instant 0 each part has one
pub evaluations-first : (c : Circuit) (stimuli : List Stimulus) → evaluations_at c stimuli 0 ≡ length c.parts
evaluations-first c stimuli = count_by-all (numbered_parts c) ∙ length-enumerate_from 0 c.parts

-- bits that are as before make words that are as before
word_alike : (f g : ℕ → Bit) (width : ℕ) (nets : List ℕ) → map f nets ≡ map g nets → word_at f width nets ≡ word_at g width nets
word_alike f g width [] same = refl
word_alike f g width (net ∷ nets) same = same

pub words_alike : (f g : ℕ → Bit) (ports : List Port) → map (λ (port : Port). map f port.nets) ports ≡ map (λ (port : Port). map g port.nets) ports
    → map (λ (port : Port). word_at f port.width port.nets) ports ≡ map (λ (port : Port). word_at g port.width port.nets) ports
words_alike f g [] same = refl
words_alike f g (port ∷ ports) same =
    let here : map f port.nets ≡ map g port.nets = cc in
    let rest : map (λ (q : Port). map f q.nets) ports ≡ map (λ (q : Port). map g q.nets) ports = cc in
    let word = word_alike f g port.width port.nets here in
    let words = words_alike f g ports rest in
    ap (λ w. w ∷ map (λ (q : Port). word_at f q.width q.nets) ports) word ∙ ap (λ l. word_at g port.width port.nets ∷ l) words

inputs_alike : (c : Circuit) (stimuli : List Stimulus) (t : ℕ) (p : Numbered) → is_evaluated c stimuli (suc t) p ≡ false
    → input_words (instant_at c stimuli t).nets p.1 ≡ input_words (instant_at c stimuli (suc t)).nets p.1
inputs_alike c stimuli t p none =
    let before : List Word = bits_read (instant_at c stimuli t).nets p.1 in
    let now : List Word = bits_read (instant_at c stimuli (suc t)).nets p.1 in
    words_alike (instant_at c stimuli t).nets (instant_at c stimuli (suc t)).nets p.1.inputs ((Decides-same_words before now).0 (not-false (same_words before now) none))

-- a steady part without an evaluation keeps its state, and answers as at the instant before
pub answer-unevaluated : (greatest : ℕ) (c : Circuit) (stimuli : List Stimulus) (t : ℕ) → All (IsSteady greatest) c.parts
    → All (λ (p : Numbered). is_evaluated c stimuli (suc t) p ≡ false → (state_of (instant_at c stimuli (suc t)) p.0 ≡ state_of (instant_at c stimuli t) p.0) × (answered p (Some (instant_at c stimuli (suc t))) ≡ answered p (Some (instant_at c stimuli t)))) (numbered_parts c)
unfolding timeline
answer-unevaluated greatest c stimuli t steady i d inside none =
    let p : Numbered = get_or (numbered_parts c) i d in
    let before : Instant = instant_at c stimuli t in
    let now : Instant = instant_at c stimuli (suc t) in
    let past : List Instant = timeline c stimuli t in
    let inputs : input_words before.nets p.1 ≡ input_words now.nets p.1 = inputs_alike c stimuli t p none in
    let was : state_of before p.0 ≡ next_state past before.nets p = state_of_next c (next_state past before.nets) before.nets i d inside in
    let is : state_of now p.0 ≡ next_state (before ∷ past) now.nets p = state_of_next c (next_state (before ∷ past) now.nets) now.nets i d inside in
    let state : state_of now p.0 ≡ state_of before p.0 =
    is ∙ ap (λ (words : List Word). p.1.step (state_of before p.0) (input_words before.nets p.1) words) (sym inputs)
    ∙ next_state_again greatest past before p (steady_numbered greatest c steady i d inside) was ∙ sym was in (
      state,
      ap (λ (s : List Word). p.1.out s (input_words now.nets p.1)) state
          ∙ ap (λ (words : List Word). p.1.out (state_of before p.0) words) (sym inputs),
    )

-- where nothing is attached, no bit differs
bits_unattached : (f g : ℕ → Bit) (ports : List Port) → All (λ (port : Port). port.nets ≡ []) ports → map (λ (port : Port). map f port.nets) ports ≡ map (λ (port : Port). map g port.nets) ports
bits_unattached f g [] none = refl
bits_unattached f g (port ∷ ports) none =
    let free : port.nets ≡ [] = All-head (λ (q : Port). q.nets ≡ []) port ports none in
    let rest = bits_unattached f g ports (All-tail (λ (q : Port). q.nets ≡ []) port ports none) in
    ap (λ (l : List ℕ). map f l ∷ map (λ (q : Port). map f q.nets) ports) free
    ∙ ap (λ (l : List Word). [] ∷ l) rest
    ∙ ap (λ (l : List ℕ). map g l ∷ map (λ (q : Port). map g q.nets) ports) (sym free)

not_evaluated : (c : Circuit) (stimuli : List Stimulus) (t : ℕ) (p : Numbered) → bits_read (instant_at c stimuli t).nets p.1 ≡ bits_read (instant_at c stimuli (suc t)).nets p.1 → is_evaluated c stimuli (suc t) p ≡ false
not_evaluated c stimuli t p same =
    let before : List Word = bits_read (instant_at c stimuli t).nets p.1 in
    let now : List Word = bits_read (instant_at c stimuli (suc t)).nets p.1 in
    ap not ((Decides-same_words before now).1 same)

pub unevaluated-unattached : (c : Circuit) (stimuli : List Stimulus) (t : ℕ) (p : Numbered) → All (λ (port : Port). port.nets ≡ []) p.1.inputs → is_evaluated c stimuli (suc t) p ≡ false
unevaluated-unattached c stimuli t p none =
    not_evaluated c stimuli t p (bits_unattached (instant_at c stimuli t).nets (instant_at c stimuli (suc t)).nets p.1.inputs none)

-- where an instant is not busy and the stimulus stays, there is none
none-when_quiet : (c : Circuit) (stimuli : List Stimulus) (t : ℕ) → in_force stimuli t ≡ in_force stimuli (suc t) → is_busy c stimuli (suc t) ≡ false → evaluations_at c stimuli (suc t) ≡ 0
none-when_quiet c stimuli t stays quiet =
    let nets : (instant_at c stimuli t).nets ≡ (instant_at c stimuli (suc t)).nets =
    (λ i net. net_bit_alike c (in_force stimuli t) (timeline c stimuli t) (timeline c stimuli (suc t)) net (SameOutputs-from_quiet c stimuli t quiet) i)
    ∙ ap (λ (s : Stimulus). net_bit c s (timeline c stimuli (suc t))) stays in
    count_by-none (is_evaluated c stimuli (suc t)) (numbered_parts c) (λ i d inside.
    let p : Numbered = get_or (numbered_parts c) i d in
    not_evaluated c stimuli t p (ap (λ (bits : ℕ → Bit). bits_read bits p.1) nets))

-- after all has settled there is none
pub none-settled : (c : Circuit) (stimuli : List Stimulus) (start settled u : ℕ) → StayFrom stimuli start → SettlesAt c stimuli start settled → settled < u → evaluations_at c stimuli u ≡ 0
none-settled c stimuli start settled zero stay settles after = absurd (omega (arith, after))
none-settled c stimuli start settled (suc t) stay settles after =
    let begun : start ≤ t = omega (arith, after, settles.not_before) in
    none-when_quiet c stimuli t
    (in_force-stays stimuli start t stay begun ∙ sym (in_force-stays stimuli start (suc t) stay (omega (arith, begun))))
    (settles.quiet (suc t) after)

-- so those up to any later instant are those up to where it has settled
pub evaluations-settled : (c : Circuit) (stimuli : List Stimulus) (start settled : ℕ) → StayFrom stimuli start → SettlesAt c stimuli start settled
    → (n : ℕ) → evaluations c stimuli start (settled - start + 1 + n) ≡ evaluations c stimuli start (settled - start + 1)
unfolding evaluations
evaluations-settled c stimuli start settled stay settles zero =
    let same : settled - start + 1 + 0 ≡ settled - start + 1 = omega arith in
    ap (evaluations c stimuli start) same
evaluations-settled c stimuli start settled stay settles (suc n) =
    let same : settled - start + 1 + suc n ≡ suc (settled - start + 1 + n) = omega arith in
    let none : evaluations_at c stimuli (start + (settled - start + 1 + n)) ≡ 0 = none-settled c stimuli start settled (start + (settled - start + 1 + n)) stay settles (omega (arith, settles.not_before)) in
    ap (evaluations c stimuli start) same
    ∙ ap (λ k. evaluations c stimuli start (settled - start + 1 + n) + k) none
    ∙ omega (arith, evaluations-settled c stimuli start settled stay settles n)

-- of the configurations of two instants in turn
pub evaluations_between-is : (c : Circuit) (stimuli : List Stimulus) (t : ℕ) → evaluations_between c (configuration_at c stimuli t) (configuration_at c stimuli (suc t)) ≡ evaluations_at c stimuli (suc t)
evaluations_between-is c stimuli t =
    ap (λ (f : ℕ → Bit). count_by (λ (p : Numbered). not (same_words (bits_read f p.1) (bits_read (nets_of c (configuration_at c stimuli (suc t))) p.1))) (numbered_parts c)) (nets_of-is c stimuli t)
    ∙ ap (λ (f : ℕ → Bit). count_by (λ (p : Numbered). not (same_words (bits_read (instant_at c stimuli t).nets p.1) (bits_read f p.1))) (numbered_parts c)) (nets_of-is c stimuli (suc t))

pub evaluations-none : (c : Circuit) (stimuli : List Stimulus) (start : ℕ) → evaluations c stimuli start 0 ≡ 0
unfolding evaluations
evaluations-none c stimuli start = refl

pub evaluations-more : (c : Circuit) (stimuli : List Stimulus) (start n : ℕ) → evaluations c stimuli start (suc n) ≡ evaluations c stimuli start n + evaluations_at c stimuli (start + n)
unfolding evaluations
evaluations-more c stimuli start n = refl

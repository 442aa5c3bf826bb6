-- What has settled is at rest, and where nothing else is due than what is shown the next configuration is this one again.
use Rattle.std.proofs.Common.{◌≡◌, ℕ, zero, suc, ◌+◌, ◌-◌, ◌<◌, ◌≤◌, false, List, [], ◌++◌, length, get_or, inl, inr, sym, refl, ap, ◌∙◌, subst, arith}
use Rattle.std.specs.Prelude.{All, slice_get, slice_index_or}
use Rattle.std.proofs.lemmas.Bool.{cases_lt}
use Rattle.std.proofs.lemmas.List.Elements.{All-nil, All-cons}
use Rattle.lg_timing.specs.Circuit.{Word, Circuit, Stimulus}
use Rattle.lg_timing.specs.Instant.{Numbered, numbered_parts, answered, in_force, timeline, outputs_at}
use Rattle.lg_timing.specs.Settling.{is_busy, SettlesAt, StayFrom, StandAfter}
use Rattle.lg_timing.specs.Configuration.{Configuration, due_words, configuration_at, due_of, next, staying, IsStill, IsAtRest, HaveDelays}
use Rattle.lg_timing.proofs.Timeline.{in_force-stays}
use Rattle.lg_timing.proofs.Outputs.{SameOutputs, SameOutputs-from_quiet}
use Rattle.lg_timing.proofs.Numbering.{map_at}
use Rattle.lg_timing.proofs.LaterStimuli.{configuration_at-later}
use Rattle.lg_timing.proofs.ConfigurationSteps.{at-number, configuration-next}

-- so many instants later, an instant stands so many places further back
further_back : (c : Circuit) (stimuli : List Stimulus) (later a b n k : ℕ) → a ≡ n + later → b ≡ k + later → slice_get (timeline c stimuli n) k ≡ slice_get (timeline c stimuli a) b
unfolding timeline
further_back c stimuli zero a b n k there back =
    let same : a ≡ n = omega (arith, there) in
    let place : b ≡ k = omega (arith, back) in
    rw (same, place) refl
further_back c stimuli (suc later) zero b n k there back = absurd (omega (arith, there))
further_back c stimuli (suc later) (suc a) zero n k there back = absurd (omega (arith, back))
further_back c stimuli (suc later) (suc a) (suc b) n k there back = further_back c stimuli later a b n k (omega (arith, there)) (omega (arith, back))

-- what is due is what will be shown
pub shown_when_due : (c : Circuit) (stimuli : List Stimulus) (t n : ℕ) (p : Numbered) → n < p.1.delay → answered p (slice_get (timeline c stimuli (suc t)) n) ≡ outputs_at c stimuli (t + (p.1.delay - n)) p
shown_when_due c stimuli t n p within =
    ap (answered p) (further_back c stimuli (p.1.delay - 1 - n) (t + (p.1.delay - n)) (p.1.delay - 1) (suc t) n (omega (arith, within)) (omega (arith, within)))

-- no instant after one is busy
abbrev QuietAfter : Circuit → List Stimulus → ℕ → Type 0
QuietAfter c stimuli t = (u : ℕ) → t < u → is_busy c stimuli u ≡ false

-- where none is, each part shows the same from then on
shown_from : (c : Circuit) (stimuli : List Stimulus) (t : ℕ) → QuietAfter c stimuli t → (u : ℕ) → t ≤ u → SameOutputs c stimuli t u
shown_from c stimuli t quiet zero begun k d inside =
    let same : t ≡ 0 = omega (arith, begun) in
    ap (λ v. outputs_at c stimuli v (get_or (numbered_parts c) k d)) same
shown_from c stimuli t quiet (suc u) begun k d inside =
    elim (cases_lt t (suc u)) [
      | inl h ↦ shown_from c stimuli t quiet u (omega (arith, h)) k d inside ∙ SameOutputs-from_quiet c stimuli u (quiet (suc u) h) k d inside
      | inr h ↦
          let same : t ≡ suc u = omega (arith, h, begun) in
          ap (λ v. outputs_at c stimuli v (get_or (numbered_parts c) k d)) same
    ]

-- all that is due of a part is this
abbrev DueIs : List Word → List (List Word) → Type 0
DueIs shown due = All (λ (words : List Word). words ≡ shown) due

due_same : (c : Circuit) (stimuli : List Stimulus) (t : ℕ) (p : Numbered) → ((u : ℕ) → t ≤ u → outputs_at c stimuli t p ≡ outputs_at c stimuli u p)
    → (n : ℕ) → n ≤ p.1.delay → DueIs (outputs_at c stimuli t p) (due_words (timeline c stimuli (suc t)) p n)
due_same c stimuli t p same zero within = All-nil (λ (words : List Word). words ≡ outputs_at c stimuli t p)
due_same c stimuli t p same (suc n) within =
    All-cons (λ (words : List Word). words ≡ outputs_at c stimuli t p) (answered p (slice_get (timeline c stimuli (suc t)) n)) (due_words (timeline c stimuli (suc t)) p n)
    (shown_when_due c stimuli t n p (omega (arith, within)) ∙ sym (same (t + (p.1.delay - n)) (omega arith)))
    (due_same c stimuli t p same n (omega (arith, within)))

-- what a configuration lists of a part
pub shown_of-is : (c : Circuit) (stimuli : List Stimulus) (t i : ℕ) (d : Numbered) → i < length (numbered_parts c)
    → slice_index_or (configuration_at c stimuli t).shown (get_or (numbered_parts c) i d).0 [] ≡ outputs_at c stimuli t (get_or (numbered_parts c) i d)
shown_of-is c stimuli t i d inside = at-number (outputs_at c stimuli t) c [] i d inside

pub due_of-is : (c : Circuit) (stimuli : List Stimulus) (t i : ℕ) (d : Numbered) → i < length (numbered_parts c)
    → due_of (configuration_at c stimuli t) (get_or (numbered_parts c) i d) ≡ due_words (timeline c stimuli (suc t)) (get_or (numbered_parts c) i d) (get_or (numbered_parts c) i d).1.delay
due_of-is c stimuli t i d inside = at-number (λ (p : Numbered). due_words (timeline c stimuli (suc t)) p p.1.delay) c [] i d inside

pub still_when_quiet : (c : Circuit) (stimuli : List Stimulus) (t : ℕ) → QuietAfter c stimuli t → IsStill c (configuration_at c stimuli t)
still_when_quiet c stimuli t quiet i d inside =
    let p : Numbered = get_or (numbered_parts c) i d in
    let same = due_same c stimuli t p (λ u begun. shown_from c stimuli t quiet u begun i d inside) p.1.delay (omega arith) in
    let one = subst (λ (due : List (List Word)). DueIs (outputs_at c stimuli t p) due) (sym (due_of-is c stimuli t i d inside)) same in
    subst (λ (shown : List Word). DueIs shown (due_of (configuration_at c stimuli t) p)) (sym (shown_of-is c stimuli t i d inside)) one

-- while a configuration's stimulus stays, it goes on as the instants do
pub staying-is : (c : Circuit) (stimuli : List Stimulus) (t n : ℕ) → HaveDelays c → StayFrom stimuli t → staying c (configuration_at c stimuli t) n ≡ configuration_at c stimuli (t + n)
unfolding staying
staying-is c stimuli t zero delays stay =
    let same : t ≡ t + 0 = omega arith in
    ap (configuration_at c stimuli) same
staying-is c stimuli t (suc n) delays stay =
    let there : suc (t + n) ≡ t + suc n = omega arith in
    let force : in_force stimuli t ≡ in_force stimuli (suc (t + n)) = sym (in_force-stays stimuli t (suc (t + n)) stay (omega arith)) in
    ap (next c (in_force stimuli t)) (staying-is c stimuli t n delays stay)
    ∙ ap (λ s. next c s (configuration_at c stimuli (t + n))) force
    ∙ sym (configuration-next c stimuli (t + n) delays)
    ∙ ap (configuration_at c stimuli) there

pub stay_later : (stimuli : List Stimulus) (start t : ℕ) → start ≤ t → StayFrom stimuli start → StayFrom stimuli t
stay_later stimuli start t later stay k d inside =
    let stands : (get_or stimuli k d).from ≤ start = stay k d inside in
    omega (arith, stands, later)

pub rest_when_quiet : (c : Circuit) (stimuli : List Stimulus) (t : ℕ) → HaveDelays c → StayFrom stimuli t → QuietAfter c stimuli t → IsAtRest c (configuration_at c stimuli t)
rest_when_quiet c stimuli t delays stay quiet =
    record {
      still = still_when_quiet c stimuli t quiet;
      quiet = λ n.
          ap (λ (k : Configuration). k.shown) (staying-is c stimuli t n delays stay)
          ∙ map_at (outputs_at c stimuli (t + n)) (outputs_at c stimuli t) (numbered_parts c) (λ i d inside. sym (shown_from c stimuli t quiet (t + n) (omega arith) i d inside));
    }

-- What has settled is at rest, also in the middle of a session.
pub rest_from_settled : (c : Circuit) (stimuli later : List Stimulus) (start settled : ℕ) → HaveDelays c → StayFrom stimuli start → SettlesAt c stimuli start settled
    → StandAfter settled later → IsAtRest c (configuration_at c (stimuli ++ later) settled)
rest_from_settled c stimuli later start settled delays stay settles stand =
    let alone = rest_when_quiet c stimuli settled delays (stay_later stimuli start settled settles.not_before stay) settles.quiet in
    subst (λ (k : Configuration). IsAtRest c k) (sym (configuration_at-later c stimuli later settled stand)) alone

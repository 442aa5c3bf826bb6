-- Later stimuli change nothing before them: what comes up to an instant asks for the stimuli in force up to it alone.
use Rattle.std.proofs.Common.{◌≡◌, ℕ, zero, suc, ◌<◌, ◌≤◌, false, cond, List, [], ◌∷◌, ◌++◌, map, refl, ap, ◌∙◌, get_or, arith}
use Rattle.std.specs.Prelude.{nat_le, fold, not}
use Rattle.std.specs.List.{AllByRecursion, list_any}
use Rattle.std.proofs.lemmas.Bool.{lt-leb}
use Rattle.std.proofs.lemmas.List.Elements.{recursion_from_All}
use Rattle.std.proofs.lemmas.List.Sums.{fold-append}
use Rattle.lg_timing.specs.Circuit.{Circuit, Stimulus}
use Rattle.lg_timing.specs.Instant.{Instant, Numbered, numbered_parts, next, timeline, in_force, silence, instant_at, output_words, outputs_at}
use Rattle.lg_timing.specs.Settling.{same_words, is_busy, StandAfter}
use Rattle.lg_timing.specs.Configuration.{Configuration, due_words, configuration_at}

in_force_from-later : (before : Stimulus) (later : List Stimulus) (t : ℕ) → AllByRecursion (λ (s : Stimulus). t < s.from) later → fold (λ (s after : Stimulus). cond (nat_le after.from t) after s) before later ≡ before
in_force_from-later before [] t stand = refl
in_force_from-later before (s ∷ later) t stand =
    let not_yet : nat_le s.from t ≡ false = lt-leb s.from t stand.0 in
    rw not_yet (in_force_from-later before later t stand.1)

-- a later stimulus is not in force
pub in_force-later : (stimuli later : List Stimulus) (t : ℕ) → StandAfter t later → in_force (stimuli ++ later) t ≡ in_force stimuli t
in_force-later stimuli later t stand =
    fold-append (λ (s after : Stimulus). cond (nat_le after.from t) after s) silence stimuli later
    ∙ in_force_from-later (in_force stimuli t) later t (recursion_from_All (λ (s : Stimulus). t < s.from) later stand)

stand_sooner : (later : List Stimulus) (t u : ℕ) → u ≤ t → StandAfter t later → StandAfter u later
stand_sooner later t u sooner stand k d inside =
    let after : t < (get_or later k d).from = stand k d inside in
    omega (arith, after, sooner)

-- the instants before an instant ask for the stimuli in force before it alone
pub timeline-alike : (c : Circuit) (a b : List Stimulus) (n : ℕ) → ((u : ℕ) → u < n → in_force a u ≡ in_force b u) → timeline c a n ≡ timeline c b n
unfolding timeline
timeline-alike c a b zero same = refl
timeline-alike c a b (suc n) same =
    let past = timeline-alike c a b n (λ u before. same u (omega (arith, before))) in
    ap (λ (l : List Instant). next c (in_force a n) l ∷ l) past
    ∙ ap (λ (s : Stimulus). next c s (timeline c b n) ∷ timeline c b n) (same n (omega arith))

pub timeline-later : (c : Circuit) (stimuli later : List Stimulus) (t n : ℕ) → StandAfter t later → n ≤ suc t → timeline c (stimuli ++ later) n ≡ timeline c stimuli n
timeline-later c stimuli later t n stand within =
    timeline-alike c (stimuli ++ later) stimuli n (λ u before. in_force-later stimuli later u (stand_sooner later t u (omega (arith, before, within)) stand))

pub instant_at-later : (c : Circuit) (stimuli later : List Stimulus) (t : ℕ) → StandAfter t later → instant_at c (stimuli ++ later) t ≡ instant_at c stimuli t
instant_at-later c stimuli later t stand =
    ap (λ (past : List Instant). next c (in_force (stimuli ++ later) t) past) (timeline-later c stimuli later t t stand (omega arith))
    ∙ ap (λ (s : Stimulus). next c s (timeline c stimuli t)) (in_force-later stimuli later t stand)

pub outputs_at-later : (c : Circuit) (stimuli later : List Stimulus) (t : ℕ) (p : Numbered) → StandAfter t later → outputs_at c (stimuli ++ later) t p ≡ outputs_at c stimuli t p
outputs_at-later c stimuli later t p stand =
    ap (λ (past : List Instant). output_words past p) (timeline-later c stimuli later t t stand (omega arith))

pub is_busy-later : (c : Circuit) (stimuli later : List Stimulus) (t : ℕ) → StandAfter t later → is_busy c (stimuli ++ later) t ≡ is_busy c stimuli t
is_busy-later c stimuli later zero stand = refl
is_busy-later c stimuli later (suc t) stand =
    ap (λ (past : List Instant). list_any (λ (p : Numbered). not (same_words (output_words past p) (outputs_at c (stimuli ++ later) (suc t) p))) (numbered_parts c)) (timeline-later c stimuli later (suc t) t stand (omega arith))
    ∙ ap (λ (past : List Instant). list_any (λ (p : Numbered). not (same_words (outputs_at c stimuli t p) (output_words past p))) (numbered_parts c)) (timeline-later c stimuli later (suc t) (suc t) stand (omega arith))

-- a configuration of what it is made from
abbrev made_from : Circuit → Stimulus → Instant → List Instant → List Instant → Configuration
made_from c s instant past now = record {
  words = s.words;
  clock = s.clock;
  states = instant.states;
  shown = map (output_words past) (numbered_parts c);
  due = map (λ (p : Numbered). due_words now p p.1.delay) (numbered_parts c);
}

pub configuration_at-later : (c : Circuit) (stimuli later : List Stimulus) (t : ℕ) → StandAfter t later → configuration_at c (stimuli ++ later) t ≡ configuration_at c stimuli t
configuration_at-later c stimuli later t stand =
    let was : List Stimulus = stimuli ++ later in
    ap (λ (s : Stimulus). made_from c s (instant_at c was t) (timeline c was t) (timeline c was (suc t))) (in_force-later stimuli later t stand)
    ∙ ap (λ (i : Instant). made_from c (in_force stimuli t) i (timeline c was t) (timeline c was (suc t))) (instant_at-later c stimuli later t stand)
    ∙ ap (λ (past : List Instant). made_from c (in_force stimuli t) (instant_at c stimuli t) past (timeline c was (suc t))) (timeline-later c stimuli later t t stand (omega arith))
    ∙ ap (λ (now : List Instant). made_from c (in_force stimuli t) (instant_at c stimuli t) (timeline c stimuli t) now) (timeline-later c stimuli later t (suc t) stand (omega arith))

-- where the same stimuli are in force up to an instant, its configuration is the same
pub configuration_at-alike : (c : Circuit) (a b : List Stimulus) (t : ℕ) → ((u : ℕ) → u ≤ t → in_force a u ≡ in_force b u) → configuration_at c a t ≡ configuration_at c b t
unfolding timeline
configuration_at-alike c a b t same =
    let past = timeline-alike c a b t (λ u before. same u (omega (arith, before))) in
    ap (λ (s : Stimulus). made_from c s (next c s (timeline c a t)) (timeline c a t) (next c s (timeline c a t) ∷ timeline c a t)) (same t (omega arith))
    ∙ ap (λ (l : List Instant). made_from c (in_force b t) (next c (in_force b t) l) l (next c (in_force b t) l ∷ l)) past

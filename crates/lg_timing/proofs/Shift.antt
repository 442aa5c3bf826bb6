-- Of a stimulus only what it puts on pins and clocks counts, and a shift of all instants changes nothing.
use Rattle.std.proofs.Common.{◌≡◌, ℕ, zero, suc, ◌+◌, ◌<◌, Bool, true, false, cond, List, [], ◌∷◌, inl, inr, refl, ap, ◌∙◌, sym, subst, arith}
use Rattle.std.specs.Prelude.{nat_le, fold}
use Rattle.std.proofs.lemmas.Bool.{cases_lt, le-leb, lt-leb}
use Rattle.lg_value.specs.declared.bit.Bit.{Bit}
use Rattle.lg_timing.specs.Circuit.{Word, Circuit, Stimulus}
use Rattle.lg_timing.specs.Instant.{in_force, silence}
use Rattle.lg_timing.specs.Configuration.{Configuration, configuration_at, next, going_on, shifted, SamePut, HaveDelays}
use Rattle.lg_timing.proofs.ConfigurationSteps.{configuration-next}

pub next-same : (c : Circuit) (a b : Stimulus) (k : Configuration) → SamePut a b → next c a k ≡ next c b k
next-same c a b k same =
    let by : List Word → Bit → Configuration = λ words clock. next c (record { from = 0; words = words; clock = clock }) k in
    ap (λ words. by words a.clock) same.words ∙ ap (by b.words) same.clock

-- what comes after an instant is a function of its configuration and of the stimuli after it
pub function_of_configuration : (c : Circuit) (a b : List Stimulus) (t u n : ℕ) → HaveDelays c → configuration_at c a t ≡ configuration_at c b u
    → ((i : ℕ) → i < n → SamePut (in_force a (t + (i + 1))) (in_force b (u + (i + 1)))) → configuration_at c a (t + n) ≡ configuration_at c b (u + n)
function_of_configuration c a b t u zero delays same put =
    let at_t : t + 0 ≡ t = omega arith in
    let at_u : u + 0 ≡ u = omega arith in
    ap (configuration_at c a) at_t ∙ same ∙ ap (configuration_at c b) (sym at_u)
function_of_configuration c a b t u (suc n) delays same put =
    let before = function_of_configuration c a b t u n delays same (λ i inside. put i (omega (arith, inside))) in
    let at_t : t + suc n ≡ suc (t + n) = omega arith in
    let at_u : u + suc n ≡ suc (u + n) = omega arith in
    let one_t : t + (n + 1) ≡ suc (t + n) = omega arith in
    let one_u : u + (n + 1) ≡ suc (u + n) = omega arith in
    let here : SamePut (in_force a (suc (t + n))) (in_force b (suc (u + n))) = rw (← one_t, ← one_u) (put n (omega arith)) in
    ap (configuration_at c a) at_t ∙ configuration-next c a (t + n) delays
    ∙ ap (next c (in_force a (suc (t + n)))) before
    ∙ next-same c (in_force a (suc (t + n))) (in_force b (suc (u + n))) (configuration_at c b (u + n)) here
    ∙ sym (configuration-next c b (u + n) delays) ∙ ap (configuration_at c b) (sym at_u)

-- the stimulus in force, from one that was in force before
abbrev in_force_from : Stimulus → List Stimulus → ℕ → Stimulus
in_force_from before stimuli t = fold (λ (s after : Stimulus). cond (nat_le after.from t) after s) before stimuli

in_force_from-shifted : (later : ℕ) (moved before : Stimulus) (stimuli : List Stimulus) (t : ℕ) → SamePut moved before
    → SamePut (in_force_from moved (shifted later stimuli) (t + later)) (in_force_from before stimuli t)
in_force_from-shifted later moved before [] t same = same
in_force_from-shifted later moved before (s ∷ stimuli) t same =
    let one : Stimulus = record { from = s.from + later; words = s.words; clock = s.clock } in
    let in_both : Bool → Bool → Type 0 = λ then_stands stands.
    SamePut (in_force_from (cond then_stands one moved) (shifted later stimuli) (t + later)) (in_force_from (cond stands s before) stimuli t) in
    elim (cases_lt t s.from) [
      | inl h ↦
          let not_yet : nat_le s.from t ≡ false = lt-leb s.from t h in
          let not_then : nat_le (s.from + later) (t + later) ≡ false = lt-leb (s.from + later) (t + later) (omega (arith, h)) in
          subst (λ b. in_both b (nat_le s.from t)) (sym not_then) (subst (λ b. in_both false b) (sym not_yet) (in_force_from-shifted later moved before stimuli t same))
      | inr h ↦
          let stands : nat_le s.from t ≡ true = le-leb s.from t h in
          let then_stands : nat_le (s.from + later) (t + later) ≡ true = le-leb (s.from + later) (t + later) (omega (arith, h)) in
          subst (λ b. in_both b (nat_le s.from t)) (sym then_stands) (subst (λ b. in_both true b) (sym stands) (in_force_from-shifted later one s stimuli t (record { words = refl; clock = refl })))
    ]

-- shifted stimuli put the same so many instants later
pub in_force-shifted : (later : ℕ) (stimuli : List Stimulus) (t : ℕ) → SamePut (in_force (shifted later stimuli) (t + later)) (in_force stimuli t)
in_force-shifted later stimuli t = in_force_from-shifted later silence silence stimuli t (record { words = refl; clock = refl })

-- a shift of all instants changes nothing
pub going_on-shifted : (later : ℕ) (c : Circuit) (stimuli : List Stimulus) (t : ℕ) (k : Configuration) (n : ℕ) → going_on c (shifted later stimuli) (t + later) k n ≡ going_on c stimuli t k n
unfolding going_on
going_on-shifted later c stimuli t k zero = refl
going_on-shifted later c stimuli t k (suc n) =
    let there : t + later + suc n ≡ t + suc n + later = omega arith in
    let before : Configuration = going_on c stimuli t k n in
    ap (next c (in_force (shifted later stimuli) (t + later + suc n))) (going_on-shifted later c stimuli t k n)
    ∙ ap (λ u. next c (in_force (shifted later stimuli) u) before) there
    ∙ next-same c (in_force (shifted later stimuli) (t + suc n + later)) (in_force stimuli (t + suc n)) before (in_force-shifted later stimuli (t + suc n))

-- What comes of a configuration may be counted on from a later one.
use Rattle.std.proofs.Common.{◌≡◌, ℕ, zero, suc, ◌+◌, ◌-◌, ◌≤◌, sym, refl, ap, ◌∙◌, arith}
use Rattle.lg_timing.specs.Circuit.{Circuit, Stimulus}
use Rattle.lg_timing.specs.Configuration.{Configuration, next, staying, stimulus_of, HaveDelays}
use Rattle.lg_timing.specs.Evaluation.{evaluations, evaluations_between}
use Rattle.lg_timing.specs.Staying.{is_busy_between, is_busy_on, IsNextBusy, SettlesIn, evaluations_on, IsLedTo}
use Rattle.lg_timing.proofs.Evaluated.{evaluations-settled}
use Rattle.lg_timing.proofs.OnConfigurations.{settles-led}
use Rattle.lg_timing.proofs.Put.{evaluations_on-led}
use Rattle.lg_timing.proofs.LedTo.{Leads, leads}

-- the stimulus is the same all along
stimulus-stays : (c : Circuit) (k : Configuration) (n : ℕ) → stimulus_of (staying c k n) ≡ stimulus_of k
unfolding staying
stimulus-stays c k zero = refl
stimulus-stays c k (suc n) = refl

pub staying-suc : (c : Circuit) (k : Configuration) (n : ℕ) → staying c k (suc n) ≡ next c (stimulus_of (staying c k n)) (staying c k n)
unfolding staying
staying-suc c k n = ap (λ (s : Stimulus). next c s (staying c k n)) (sym (stimulus-stays c k n))

pub staying-none : (c : Circuit) (k : Configuration) → staying c k 0 ≡ k
unfolding staying
staying-none c k = refl

pub staying-on : (c : Circuit) (k : Configuration) (m n : ℕ) → staying c (staying c k m) n ≡ staying c k (m + n)
staying-on c k m zero =
    let same : m ≡ m + 0 = omega arith in
    staying-none c (staying c k m) ∙ ap (staying c k) same
staying-on c k m (suc n) =
    let same : suc (m + n) ≡ m + suc n = omega arith in
    staying-suc c (staying c k m) n
    ∙ ap (λ (j : Configuration). next c (stimulus_of j) j) (staying-on c k m n)
    ∙ sym (staying-suc c k (m + n)) ∙ ap (staying c k) same

busy-on-suc : (c : Circuit) (k : Configuration) (m n : ℕ) → is_busy_on c (staying c k m) (suc n) ≡ is_busy_on c k (suc (m + n))
busy-on-suc c k m n =
    let same : m + suc n ≡ suc (m + n) = omega arith in
    ap (λ j. is_busy_between c j (staying c (staying c k m) (suc n))) (staying-on c k m n)
    ∙ ap (is_busy_between c (staying c k (m + n))) (staying-on c k m (suc n) ∙ ap (staying c k) same)

pub busy-on : (c : Circuit) (k : Configuration) (m n : ℕ) → 1 ≤ n → is_busy_on c (staying c k m) n ≡ is_busy_on c k (m + n)
busy-on c k m zero later = absurd (omega (arith, later))
busy-on c k m (suc n) later =
    let same : suc (m + n) ≡ m + suc n = omega arith in
    busy-on-suc c k m n ∙ ap (is_busy_on c k) same

-- so the next busy instant of the later one is the next after it
pub next-on : (c : Circuit) (k : Configuration) (m n : ℕ) → IsNextBusy c (staying c k m) 0 n → IsNextBusy c k m (m + n)
next-on c k m n is =
    record {
      later = omega (arith, is.later);
      busy = sym (busy-on c k m n is.later) ∙ is.busy;
      quiet = λ i above below.
          let there : m + (i - m) ≡ i = omega (arith, above) in
          ap (is_busy_on c k) (sym there) ∙ sym (busy-on c k m (i - m) (omega (arith, above))) ∙ is.quiet (i - m) (omega (arith, above)) (omega (arith, below, above));
    }

pub evaluations-suc : (c : Circuit) (k : Configuration) (n : ℕ) → evaluations_on c k (suc n) ≡ evaluations_on c k n + evaluations_between c (staying c k n) (staying c k (suc n))
unfolding evaluations_on
evaluations-suc c k n = refl

pub evaluations-zero : (c : Circuit) (k : Configuration) → evaluations_on c k 0 ≡ 0
unfolding evaluations_on
evaluations-zero c k = refl

pub evaluations-on : (c : Circuit) (k : Configuration) (m n : ℕ) → evaluations_on c k (m + n) ≡ evaluations_on c k m + evaluations_on c (staying c k m) n
evaluations-on c k m zero =
    let same : m + 0 ≡ m = omega arith in
    let long = ap (evaluations_on c k) same in
    omega (arith, long, evaluations-zero c (staying c k m))
evaluations-on c k m (suc n) =
    let same : m + suc n ≡ suc (m + n) = omega arith in
    let long = ap (evaluations_on c k) same in
    let between = ap (λ j. evaluations_between c j (staying c (staying c k m) (suc n))) (staying-on c k m n)
    ∙ ap (evaluations_between c (staying c k (m + n))) (staying-on c k m (suc n) ∙ ap (staying c k) same) in
    omega (arith, long, between, evaluations-suc c k (m + n), evaluations-suc c (staying c k m) n, evaluations-on c k m n)

-- after it has settled there is none
pub evaluations-when_settled : (c : Circuit) (k : Configuration) (limit took n : ℕ) → HaveDelays c → IsLedTo c k → SettlesIn c k limit took
    → evaluations_on c k (took + n) ≡ evaluations_on c k took
evaluations-when_settled c k limit took n delays has settles =
    let from : Leads c k = leads c k delays has in
    let at : ℕ = from.start + took in
    let within = (settles-led c k from.stimuli from.start limit took from.led).0 settles in
    let short : at - from.start + 1 ≡ took + 1 = omega arith in
    let long : at - from.start + 1 + n ≡ took + n + 1 = omega arith in
    let same = sym (ap (evaluations c from.stimuli from.start) long)
    ∙ evaluations-settled c from.stimuli from.start at from.led.stay within.settles n
    ∙ ap (evaluations c from.stimuli from.start) short in
    omega (arith, same, evaluations_on-led c k from.stimuli from.start took from.led, evaluations_on-led c k from.stimuli from.start (took + n) from.led)

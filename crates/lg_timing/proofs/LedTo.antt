-- A configuration to which stimuli lead: one where the last of them stands, that settles or oscillates.
use Rattle.std.proofs.Common.{◌≡◌, ℕ, ◌+◌, ◌-◌, ◌<◌, ◌≤◌, true, false, cond, List, [], ◌∷◌, ◌++◌, Option, Some, None, inl, inr, sym, refl, ap, ◌∙◌, subst, arith}
use Rattle.std.specs.Prelude.{◌⊎◌, All, nat_le, filter}
use Rattle.std.proofs.lemmas.Bool.{cases_lt, le-leb, lt-leb, leb-true}
use Rattle.std.proofs.lemmas.List.Elements.{filter_passes}
use Rattle.lg_timing.specs.Circuit.{Circuit, Stimulus}
use Rattle.lg_timing.specs.Instant.{silence}
use Rattle.lg_timing.specs.Settling.{is_busy, IsNextBusyAfter, SettlesWithin, IsSteady}
use Rattle.lg_timing.specs.Configuration.{Configuration, configuration_at, next, staying, IsAtRest, HaveDelays}
use Rattle.lg_timing.specs.Staying.{is_busy_on, IsNextBusy, SettlesIn, OscillatesIn, configuration_put, IsLedTo, HasStood}
use Rattle.lg_timing.proofs.Timeline.{in_force_from}
use Rattle.lg_timing.proofs.Stretch.{quiet_after_stretch}
use Rattle.lg_timing.proofs.Counting.{find_busy}
use Rattle.lg_timing.proofs.Outcome.{settles_or_oscillates}
use Rattle.lg_timing.proofs.LaterStimuli.{configuration_at-alike}
use Rattle.lg_timing.proofs.ConfigurationSteps.{configuration-first}
use Rattle.lg_timing.proofs.Rest.{staying-is, stay_later, still_when_quiet, rest_when_quiet}
use Rattle.lg_timing.proofs.Still.{delays-from_steady, staying-still}
use Rattle.lg_timing.proofs.OnConfigurations.{Led, staying-led, busy-led, next-led, settles-led, oscillates-led}
use Rattle.lg_timing.proofs.Put.{configuration-behind}

-- those of some stimuli that stand at an instant or before
abbrev until : ℕ → List Stimulus → List Stimulus
until t stimuli = filter (λ (s : Stimulus). nat_le s.from t) stimuli

in_force_from-until : (before : Stimulus) (stimuli : List Stimulus) (t u : ℕ) → u ≤ t → in_force_from before (until t stimuli) u ≡ in_force_from before stimuli u
in_force_from-until before [] t u sooner = refl
in_force_from-until before (s ∷ stimuli) t u sooner =
    elim (cases_lt t s.from) [
      | inl h ↦
          let not_kept : nat_le s.from t ≡ false = lt-leb s.from t h in
          let not_yet : nat_le s.from u ≡ false = lt-leb s.from u (omega (arith, h, sooner)) in
          ap (λ b. in_force_from before (cond b (s ∷ until t stimuli) (until t stimuli)) u) not_kept
          ∙ in_force_from-until before stimuli t u sooner
          ∙ ap (λ b. in_force_from (cond b s before) stimuli u) (sym not_yet)
      | inr h ↦
          let kept : nat_le s.from t ≡ true = le-leb s.from t h in
          ap (λ b. in_force_from before (cond b (s ∷ until t stimuli) (until t stimuli)) u) kept
          ∙ in_force_from-until (cond (nat_le s.from u) s before) stimuli t u sooner
    ]

-- stimuli that lead to a configuration and stay from then on
pub record Leads (c : Circuit) (k : Configuration) : Type 0 where
  pub stimuli : List Stimulus
  pub start : ℕ
  pub led : Led c k stimuli start

-- those that stand later may be left out
pub leads : (c : Circuit) (k : Configuration) → HaveDelays c → IsLedTo c k → Leads c k
leads c k delays led =
    let t : ℕ = led.at in
    record {
      stimuli = until t led.stimuli;
      start = t;
      led = record {
        delays = delays;
        stay = λ i d inside. leb-true _ _ (filter_passes (λ (s : Stimulus). nat_le s.from t) led.stimuli i d inside);
        is = led.is ∙ configuration_at-alike c led.stimuli (until t led.stimuli) t (λ u before. sym (in_force_from-until silence led.stimuli t u before));
      };
    }

-- stimuli lead on, with a stimulus that is put and while it stays
pub led-put : (c : Circuit) (stood : Option Configuration) (s : Stimulus) → HaveDelays c → HasStood c stood → IsLedTo c (configuration_put c stood s)
led-put c None s delays has =
    let only : Stimulus = record { from = 0; words = s.words; clock = s.clock } in
    record { stimuli = only ∷ []; at = 0; is = sym (configuration-first c (only ∷ []) delays) }
led-put c (Some k) s delays has =
    let from : Leads c k = leads c k delays has in
    let one : Stimulus = record { from = from.start + 1; words = s.words; clock = s.clock } in
    record {
      stimuli = from.stimuli ++ one ∷ [];
      at = from.start + 1;
      is = ap (next c one) from.led.is ∙ sym (configuration-behind c from.stimuli one from.start delays from.led.stay refl);
    }

pub led-staying : (c : Circuit) (k : Configuration) (n : ℕ) → HaveDelays c → IsLedTo c k → IsLedTo c (staying c k n)
led-staying c k n delays has =
    let from : Leads c k = leads c k delays has in
    record { stimuli = from.stimuli; at = from.start + n; is = staying-led c k from.stimuli from.start n from.led }

-- a stretch as long as the greatest delay without a busy instant is followed by none
pub quiet-led : (greatest : ℕ) (c : Circuit) (k : Configuration) (after : ℕ) → All (IsSteady greatest) c.parts → IsLedTo c k
    → ((n : ℕ) → after < n → n ≤ after + greatest → is_busy_on c k n ≡ false) → (n : ℕ) → after < n → is_busy_on c k n ≡ false
quiet-led greatest c k after steady has quiet n later =
    let from : Leads c k = leads c k (delays-from_steady greatest c steady) has in
    busy-led c k from.stimuli from.start n from.led (omega (arith, later))
    ∙ quiet_after_stretch greatest c from.stimuli from.start (from.start + after) steady from.led.stay (omega arith)
    (λ u above within.
    let there : from.start + (u - from.start) ≡ u = omega (arith, above) in
    ap (is_busy c from.stimuli) (sym there)
    ∙ sym (busy-led c k from.stimuli from.start (u - from.start) from.led (omega (arith, above)))
    ∙ quiet (u - from.start) (omega (arith, above)) (omega (arith, within, above)))
    (from.start + n) (omega (arith, later))

pub settles_or_oscillates-led : (greatest : ℕ) (c : Circuit) (k : Configuration) (limit : ℕ) → All (IsSteady greatest) c.parts → IsLedTo c k
    → ((took : ℕ) × SettlesIn c k limit took) ⊎ ((after : ℕ) × OscillatesIn c k limit after)
settles_or_oscillates-led greatest c k limit steady has =
    let from : Leads c k = leads c k (delays-from_steady greatest c steady) has in
    elim (settles_or_oscillates greatest c from.stimuli from.start limit steady from.led.stay) [
      | inl found ↦
          let there : found.0 ≡ from.start + (found.0 - from.start) = omega (arith, found.1.settles.not_before) in
          inl (found.0 - from.start, (settles-led c k from.stimuli from.start limit (found.0 - from.start) from.led).1 (subst (λ t. SettlesWithin c from.stimuli from.start limit t) there found.1))
      | inr found ↦ inr (found.0, (oscillates-led c k from.stimuli from.start limit found.0 from.led).1 found.1)
    ]

-- what has settled stays as it is
pub staying-settled : (greatest : ℕ) (c : Circuit) (k : Configuration) (limit took n : ℕ) → All (IsSteady greatest) c.parts → IsLedTo c k
    → SettlesIn c k limit took → staying c k (took + n) ≡ staying c k took
staying-settled greatest c k limit took n steady has settles =
    let delays = delays-from_steady greatest c steady in
    let from : Leads c k = leads c k delays has in
    let at : ℕ = from.start + took in
    let within = (settles-led c k from.stimuli from.start limit took from.led).0 settles in
    let still = still_when_quiet c from.stimuli at within.settles.quiet in
    let there : from.start + (took + n) ≡ at + n = omega arith in
    staying-led c k from.stimuli from.start (took + n) from.led
    ∙ ap (configuration_at c from.stimuli) there
    ∙ sym (staying-is c from.stimuli at n delays (stay_later from.stimuli from.start at (omega arith) from.led.stay))
    ∙ staying-still greatest c from.stimuli at steady still n
    ∙ sym (staying-led c k from.stimuli from.start took from.led)

-- what has settled is at rest
pub rests-led : (c : Circuit) (k : Configuration) (limit took : ℕ) → HaveDelays c → IsLedTo c k → SettlesIn c k limit took → IsAtRest c (staying c k took)
rests-led c k limit took delays has settles =
    let from : Leads c k = leads c k delays has in
    let at : ℕ = from.start + took in
    let within = (settles-led c k from.stimuli from.start limit took from.led).0 settles in
    let rests = rest_when_quiet c from.stimuli at delays (stay_later from.stimuli from.start at (omega arith) from.led.stay) within.settles.quiet in
    subst (λ (j : Configuration). IsAtRest c j) (sym (staying-led c k from.stimuli from.start took from.led)) rests

pub next_or_none : (greatest : ℕ) (c : Circuit) (k : Configuration) (after : ℕ) → All (IsSteady greatest) c.parts → IsLedTo c k
    → ((busy : ℕ) × IsNextBusy c k after busy) ⊎ ((n : ℕ) → after < n → is_busy_on c k n ≡ false)
next_or_none greatest c k after steady has =
    let from : Leads c k = leads c k (delays-from_steady greatest c steady) has in
    elim (find_busy c from.stimuli (from.start + after) greatest) [
      | inl quiet ↦ inr (quiet-led greatest c k after steady has (λ n above within.
          busy-led c k from.stimuli from.start n from.led (omega (arith, above)) ∙ quiet (from.start + n) (omega (arith, above)) (omega (arith, within))))
      | inr found ↦
          let there : found.0 ≡ from.start + (found.0 - from.start) = omega (arith, found.1.later) in
          inl (
            found.0 - from.start,
            (next-led c k from.stimuli from.start after (found.0 - from.start) from.led).1
                (subst (λ t. IsNextBusyAfter c from.stimuli (from.start + after) t) there found.1),
          )
    ]

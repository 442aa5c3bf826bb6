-- What is said of a configuration while its stimulus stays is what the instants have.
use Rattle.std.proofs.Common.{◌≡◌, ℕ, zero, suc, ◌+◌, ◌-◌, ◌<◌, ◌≤◌, Bool, true, cond, List, [], ◌∷◌, length, get_or, inl, inr, sym, refl, ap, ◌∙◌, subst, arith}
use Rattle.std.specs.Prelude.{◌↔◌, ◌⊎◌, ◌||◌, not}
use Rattle.std.specs.List.{list_any}
use Rattle.std.proofs.lemmas.Bool.{both_ways}
use Rattle.lg_timing.specs.Circuit.{Circuit, Stimulus}
use Rattle.lg_timing.specs.Instant.{Numbered, numbered_parts, outputs_at}
use Rattle.lg_timing.specs.Settling.{same_words, is_busy, IsNextBusyAfter, busy_count, SettlesWithin, OscillatesPast, StayFrom}
use Rattle.lg_timing.specs.Configuration.{Configuration, configuration_at, staying, HaveDelays}
use Rattle.lg_timing.specs.Staying.{shown_of, is_busy_between, is_busy_on, IsNextBusy, busy_count_on, SettlesIn, OscillatesIn}
use Rattle.lg_timing.proofs.Rest.{shown_of-is, staying-is}

-- two tests that agree at each element tell the same of the list
list_any_at : {X : Type 0} (f g : X → Bool) (xs : List X) → ((i : ℕ) (d : X) → i < length xs → f (get_or xs i d) ≡ g (get_or xs i d)) → list_any f xs ≡ list_any g xs
list_any_at f g [] same = refl
list_any_at f g (x ∷ xs) same =
    ap (λ b. b || list_any f xs) (same 0 x (omega arith)) ∙ ap (λ b. g x || b) (list_any_at f g xs (λ i d inside. same (suc i) d (omega (arith, inside))))

-- between the configurations of two instants in turn
pub is_busy_between-is : (c : Circuit) (stimuli : List Stimulus) (t : ℕ) → is_busy_between c (configuration_at c stimuli t) (configuration_at c stimuli (suc t)) ≡ is_busy c stimuli (suc t)
is_busy_between-is c stimuli t =
    list_any_at (λ (p : Numbered). not (same_words (shown_of (configuration_at c stimuli t) p) (shown_of (configuration_at c stimuli (suc t)) p)))
    (λ (p : Numbered). not (same_words (outputs_at c stimuli t p) (outputs_at c stimuli (suc t) p))) (numbered_parts c)
    (λ i d inside.
    let p : Numbered = get_or (numbered_parts c) i d in
    ap (λ words. not (same_words words (shown_of (configuration_at c stimuli (suc t)) p))) (shown_of-is c stimuli t i d inside)
    ∙ ap (λ words. not (same_words (outputs_at c stimuli t p) words)) (shown_of-is c stimuli (suc t) i d inside))

-- stimuli that lead to a configuration, and stay
pub record Led (c : Circuit) (k : Configuration) (stimuli : List Stimulus) (start : ℕ) : Type 0 where
  pub delays : HaveDelays c
  pub stay : StayFrom stimuli start
  pub is : k ≡ configuration_at c stimuli start

pub staying-led : (c : Circuit) (k : Configuration) (stimuli : List Stimulus) (start n : ℕ) → Led c k stimuli start → staying c k n ≡ configuration_at c stimuli (start + n)
staying-led c k stimuli start n led = ap (λ j. staying c j n) led.is ∙ staying-is c stimuli start n led.delays led.stay

busy-suc : (c : Circuit) (k : Configuration) (stimuli : List Stimulus) (start n : ℕ) → Led c k stimuli start → is_busy_on c k (suc n) ≡ is_busy c stimuli (start + suc n)
busy-suc c k stimuli start n led =
    let there : start + suc n ≡ suc (start + n) = omega arith in
    ap (λ j. is_busy_between c j (staying c k (suc n))) (staying-led c k stimuli start n led)
    ∙ ap (λ j. is_busy_between c (configuration_at c stimuli (start + n)) j) (staying-led c k stimuli start (suc n) led)
    ∙ ap (λ t. is_busy_between c (configuration_at c stimuli (start + n)) (configuration_at c stimuli t)) there
    ∙ is_busy_between-is c stimuli (start + n)
    ∙ ap (is_busy c stimuli) (sym there)

pub busy-led : (c : Circuit) (k : Configuration) (stimuli : List Stimulus) (start n : ℕ) → Led c k stimuli start → 1 ≤ n → is_busy_on c k n ≡ is_busy c stimuli (start + n)
busy-led c k stimuli start zero led later = absurd (omega (arith, later))
busy-led c k stimuli start (suc n) led later = busy-suc c k stimuli start n led

-- the next busy instant, of the configuration and of the instants
next-to : (c : Circuit) (k : Configuration) (stimuli : List Stimulus) (start after at : ℕ) → Led c k stimuli start → IsNextBusy c k after at → IsNextBusyAfter c stimuli (start + after) (start + at)
next-to c k stimuli start after at led is =
    record {
      later = omega (arith, is.later);
      busy = sym (busy-led c k stimuli start at led (omega (arith, is.later))) ∙ is.busy;
      quiet = λ t above below.
          let there : start + (t - start) ≡ t = omega (arith, above) in
          ap (is_busy c stimuli) (sym there) ∙ sym (busy-led c k stimuli start (t - start) led (omega (arith, above))) ∙ is.quiet (t - start) (omega (arith, above)) (omega (arith, above, below));
    }

next-back : (c : Circuit) (k : Configuration) (stimuli : List Stimulus) (start after at : ℕ) → Led c k stimuli start → IsNextBusyAfter c stimuli (start + after) (start + at) → IsNextBusy c k after at
next-back c k stimuli start after at led is =
    record {
      later = omega (arith, is.later);
      busy = busy-led c k stimuli start at led (omega (arith, is.later)) ∙ is.busy;
      quiet = λ n above below. busy-led c k stimuli start n led (omega (arith, above)) ∙ is.quiet (start + n) (omega (arith, above)) (omega (arith, below));
    }

pub next-led : (c : Circuit) (k : Configuration) (stimuli : List Stimulus) (start after at : ℕ) → Led c k stimuli start → IsNextBusy c k after at ↔ IsNextBusyAfter c stimuli (start + after) (start + at)
next-led c k stimuli start after at led = (next-to c k stimuli start after at led, next-back c k stimuli start after at led)

pub count-led : (c : Circuit) (k : Configuration) (stimuli : List Stimulus) (start n : ℕ) → Led c k stimuli start → busy_count_on c k n ≡ busy_count c stimuli start n
unfolding busy_count_on busy_count
count-led c k stimuli start zero led = refl
count-led c k stimuli start (suc n) led =
    ap (λ m. m + cond (is_busy_on c k (suc n)) 1 0) (count-led c k stimuli start n led)
    ∙ ap (λ b. busy_count c stimuli start n + cond b 1 0) (busy-suc c k stimuli start n led)

settles-to : (c : Circuit) (k : Configuration) (stimuli : List Stimulus) (start limit took : ℕ) → Led c k stimuli start → SettlesIn c k limit took → SettlesWithin c stimuli start limit (start + took)
settles-to c k stimuli start limit zero led settles =
    let here : start + 0 - start ≡ 0 = omega arith in
    record {
      settles = record {
        not_before = omega arith;
        last_busy = inl (omega arith);
        quiet = λ t after.
            let there : start + (t - start) ≡ t = omega (arith, after) in
            ap (is_busy c stimuli) (sym there) ∙ sym (busy-led c k stimuli start (t - start) led (omega (arith, after))) ∙ settles.quiet (t - start) (omega (arith, after));
      };
      few_busy = subst (λ n. busy_count c stimuli start n ≤ limit) (sym here) (subst (λ n. n ≤ limit) (count-led c k stimuli start 0 led) settles.few_busy);
    }
settles-to c k stimuli start limit (suc n) led settles =
    let here : start + suc n - start ≡ suc n = omega arith in
    record {
      settles = record {
        not_before = omega arith;
        last_busy = elim settles.last_busy [
          | inl none ↦ absurd (omega (arith, none))
          | inr busy ↦ inr (sym (busy-suc c k stimuli start n led) ∙ busy)
        ];
        quiet = λ t after.
            let there : start + (t - start) ≡ t = omega (arith, after) in
            ap (is_busy c stimuli) (sym there) ∙ sym (busy-led c k stimuli start (t - start) led (omega (arith, after))) ∙ settles.quiet (t - start) (omega (arith, after));
      };
      few_busy = subst (λ m. busy_count c stimuli start m ≤ limit) (sym here) (subst (λ m. m ≤ limit) (count-led c k stimuli start (suc n) led) settles.few_busy);
    }

settles-back : (c : Circuit) (k : Configuration) (stimuli : List Stimulus) (start limit took : ℕ) → Led c k stimuli start → SettlesWithin c stimuli start limit (start + took) → SettlesIn c k limit took
settles-back c k stimuli start limit took led settles =
    let here : start + took - start ≡ took = omega arith in
    record {
      last_busy = elim settles.settles.last_busy [
        | inl none ↦ inl (omega (arith, none))
        | inr busy ↦ at_busy c k stimuli start took led busy
      ];
      quiet = λ n after. busy-led c k stimuli start n led (omega (arith, after)) ∙ settles.settles.quiet (start + n) (omega (arith, after));
      few_busy = subst (λ n. n ≤ limit) (sym (count-led c k stimuli start took led)) (subst (λ n. busy_count c stimuli start n ≤ limit) here settles.few_busy);
    }
  where
    at_busy : (c : Circuit) (k : Configuration) (stimuli : List Stimulus) (start took : ℕ) → Led c k stimuli start → is_busy c stimuli (start + took) ≡ true → (took ≡ 0) ⊎ (is_busy_on c k took ≡ true)
    at_busy c k stimuli start zero led busy = inl refl
    at_busy c k stimuli start (suc n) led busy = inr (busy-suc c k stimuli start n led ∙ busy)

pub settles-led : (c : Circuit) (k : Configuration) (stimuli : List Stimulus) (start limit took : ℕ) → Led c k stimuli start → SettlesIn c k limit took ↔ SettlesWithin c stimuli start limit (start + took)
settles-led c k stimuli start limit took led = (settles-to c k stimuli start limit took led, settles-back c k stimuli start limit took led)

oscillates-to : (c : Circuit) (k : Configuration) (stimuli : List Stimulus) (start limit after : ℕ) → Led c k stimuli start → OscillatesIn c k limit after → OscillatesPast c stimuli start limit after
oscillates-to c k stimuli start limit zero led oscillates = absurd (both_ways (is_busy_on c k 0) refl oscillates.busy)
oscillates-to c k stimuli start limit (suc n) led oscillates =
    record {
      busy = sym (busy-suc c k stimuli start n led) ∙ oscillates.busy;
      number = sym (count-led c k stimuli start (suc n) led) ∙ oscillates.number;
    }

oscillates-back : (c : Circuit) (k : Configuration) (stimuli : List Stimulus) (start limit after : ℕ) → Led c k stimuli start → OscillatesPast c stimuli start limit after → OscillatesIn c k limit after
unfolding busy_count
oscillates-back c k stimuli start limit zero led oscillates = absurd (omega (arith, oscillates.number))
oscillates-back c k stimuli start limit (suc n) led oscillates =
    record {
      busy = busy-suc c k stimuli start n led ∙ oscillates.busy;
      number = count-led c k stimuli start (suc n) led ∙ oscillates.number;
    }

pub oscillates-led : (c : Circuit) (k : Configuration) (stimuli : List Stimulus) (start limit after : ℕ) → Led c k stimuli start → OscillatesIn c k limit after ↔ OscillatesPast c stimuli start limit after
oscillates-led c k stimuli start limit after led = (oscillates-to c k stimuli start limit after led, oscillates-back c k stimuli start limit after led)

-- it is not at its own instant that it goes past a limit
pub oscillates-later : (c : Circuit) (k : Configuration) (limit after : ℕ) → OscillatesIn c k limit after → 1 ≤ after
oscillates-later c k limit zero oscillates = absurd (both_ways (is_busy_on c k 0) refl oscillates.busy)
oscillates-later c k limit (suc n) oscillates = omega arith

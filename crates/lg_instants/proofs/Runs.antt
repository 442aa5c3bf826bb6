-- What a run finds out of the busy instants, and what it counts.
use Rattle.std.proofs.Common.{◌≡◌, ℕ, zero, suc, ◌+◌, ◌-◌, ◌^◌, ◌<◌, ◌≤◌, Bool, true, false, List, [], ◌∷◌, length, max, fold, Option, Some, None, inl, inr, sym, ◌∙◌, ap, refl, subst, arith}
use Rattle.std.specs.Prelude.{◌⊎◌, All}
use Rattle.std.specs.List.{AllByRecursion}
use Rattle.std.proofs.lemmas.List.Elements.{recursion_from_All, All-from_recursion}
use Rattle.lg_instants.specs.declared.run.Run.{Run}
use Rattle.lg_timing.specs.Circuit.{Part, Circuit, Stimulus}
use Rattle.lg_timing.specs.Settling.{IsSteady}
use Rattle.lg_timing.specs.Configuration.{Configuration, first, next, staying, stimulus_of}
use Rattle.lg_timing.specs.Evaluation.{evaluations_between, counted}
use Rattle.lg_timing.specs.Staying.{is_busy_between, is_busy_on, IsNextBusy, busy_count_on, SettlesIn, OscillatesIn, configuration_put, evaluations_put, evaluations_on, evaluations_since, HasStood, IsLedTo}
use Rattle.lg_timing.proofs.Still.{delays-from_steady}
use Rattle.lg_timing.proofs.LedTo.{quiet-led, led-put, led-staying, staying-settled}
use Rattle.lg_timing.proofs.OneWay.{count-none, count-next}
use Rattle.lg_timing.proofs.StayingOn.{staying-suc, staying-none, staying-on, busy-on, next-on, evaluations-suc, evaluations-zero, evaluations-on, evaluations-when_settled}
use Rattle.lg_instants.specs.Plain.{greatest_delay}
use Rattle.lg_instants.specs.Stepping.{IsRun, RunSteps, RunGoesOn}

-- the greatest delay is one
within_from : (start : ℕ) (parts : List Part) → (start ≤ fold (λ (greatest : ℕ) (p : Part). max greatest p.delay) start parts) × AllByRecursion (λ (p : Part). p.delay ≤ fold (λ (greatest : ℕ) (p : Part). max greatest p.delay) start parts) parts
within_from start [] = (omega arith, tt)
within_from start (p ∷ parts) =
    let rest = within_from (max start p.delay) parts in
    (omega (arith, rest.0), (omega (arith, rest.0), rest.1))

steady_within : (greatest most : ℕ) (parts : List Part) → AllByRecursion (IsSteady greatest) parts → AllByRecursion (λ (p : Part). p.delay ≤ most) parts → AllByRecursion (IsSteady most) parts
steady_within greatest most [] steady within = tt
steady_within greatest most (p ∷ parts) steady within =
    (record { least_delay = steady.0.least_delay; greatest_delay = within.0; second_step = steady.0.second_step }, steady_within greatest most parts steady.1 within.1)

-- steady parts are so up to their greatest delay
pub steady-greatest : (greatest : ℕ) (parts : List Part) → All (IsSteady greatest) parts → All (IsSteady (greatest_delay parts)) parts
steady-greatest greatest parts steady =
    All-from_recursion (IsSteady (greatest_delay parts)) parts
    (steady_within greatest (greatest_delay parts) parts (recursion_from_All (IsSteady greatest) parts steady) (within_from 0 parts).1)

counted-more : (a b : ℕ) → counted (counted a + b) ≡ counted (a + b)
counted-more a b = omega arith

-- a run that has not gone on
pub run-none : (c : Circuit) (run : Run) → run.evaluations < 2 ^ 64 → RunGoesOn c run run 0
run-none c run few =
    let none = evaluations-zero c run.configuration in
    record {
      configuration = sym (staying-none c run.configuration);
      took = omega arith;
      before = λ some. absurd (omega (arith, some));
      evaluations = omega (arith, none, few);
    }

-- one instant more
pub run-step : (c : Circuit) (old run new : Run) (n : ℕ) (busy : Bool) → RunGoesOn c old run n → RunSteps c run new busy → RunGoesOn c old new (n + 1)
run-step c old run new n busy on steps =
    let k : Configuration = old.configuration in
    let one : n + 1 ≡ suc n = omega arith in
    let less : n + 1 - 1 ≡ n = omega arith in
    let there : new.configuration ≡ staying c k (suc n) =
    steps.configuration ∙ ap (λ (j : Configuration). next c (stimulus_of j) j) on.configuration ∙ sym (staying-suc c k n) in
    let between = ap (λ j. evaluations_between c j new.configuration) on.configuration ∙ ap (evaluations_between c (staying c k n)) there in
    let more = evaluations-suc c k n in
    record {
      configuration = there ∙ ap (staying c k) (sym one);
      took = omega (arith, steps.took, on.took);
      before = λ some. steps.before ∙ on.evaluations ∙ ap (λ m. counted (old.evaluations + evaluations_on c k m)) (sym less);
      evaluations =
          steps.evaluations ∙ ap (λ m. counted (m + evaluations_between c run.configuration new.configuration)) on.evaluations
          ∙ counted-more (old.evaluations + evaluations_on c k n) (evaluations_between c run.configuration new.configuration)
          ∙ ap counted (omega (arith, between, more))
          ∙ ap (λ m. counted (old.evaluations + evaluations_on c k m)) (sym one);
    }

-- it tells whether that is busy
pub run-tells : (c : Circuit) (old run new : Run) (n : ℕ) (busy : Bool) → RunGoesOn c old run n → RunSteps c run new busy → busy ≡ is_busy_on c old.configuration (n + 1)
run-tells c old run new n busy on steps =
    let k : Configuration = old.configuration in
    let one : n + 1 ≡ suc n = omega arith in
    let there : new.configuration ≡ staying c k (suc n) =
    steps.configuration ∙ ap (λ (j : Configuration). next c (stimulus_of j) j) on.configuration ∙ sym (staying-suc c k n) in
    steps.is_busy ∙ ap (λ j. is_busy_between c j new.configuration) on.configuration ∙ ap (is_busy_between c (staying c k n)) there
    ∙ ap (is_busy_on c k) (sym one)

-- those from a stimulus on, up to a later instant
since-on : (c : Circuit) (stood : Option Configuration) (s : Stimulus) (m n : ℕ) → counted (counted (evaluations_since c stood s m) + evaluations_on c (staying c (configuration_put c stood s) m) n) ≡ counted (evaluations_since c stood s (m + n))
since-on c stood s m n =
    let k : Configuration = configuration_put c stood s in
    let all : evaluations_since c stood s m + evaluations_on c (staying c k m) n ≡ evaluations_since c stood s (m + n) = omega (arith, evaluations-on c k m n) in
    counted-more (evaluations_since c stood s m) (evaluations_on c (staying c k m) n) ∙ ap counted all

-- where a run from a stimulus on stands once it has gone on
pub on-configuration : (c : Circuit) (stood : Option Configuration) (s : Stimulus) (old new : Run) (n : ℕ) → IsRun c stood s old → RunGoesOn c old new n
    → new.configuration ≡ staying c (configuration_put c stood s) (old.took + n)
on-configuration c stood s old new n is on =
    on.configuration ∙ ap (λ j. staying c j n) is.configuration ∙ staying-on c (configuration_put c stood s) old.took n

-- and how many evaluations it has counted
pub on-evaluations : (c : Circuit) (stood : Option Configuration) (s : Stimulus) (old new : Run) (n : ℕ) → IsRun c stood s old → RunGoesOn c old new n
    → new.evaluations ≡ counted (evaluations_since c stood s (old.took + n))
on-evaluations c stood s old new n is on =
    on.evaluations ∙ ap (λ m. counted (m + evaluations_on c old.configuration n)) is.evaluations
    ∙ ap (λ j. counted (counted (evaluations_since c stood s old.took) + evaluations_on c j n)) is.configuration
    ∙ since-on c stood s old.took n

-- it still is one
pub run-on : (c : Circuit) (stood : Option Configuration) (s : Stimulus) (old new : Run) (n : ℕ) → 0 < n → IsRun c stood s old → RunGoesOn c old new n → IsRun c stood s new
run-on c stood s old new n some is on =
    let k : Configuration = configuration_put c stood s in
    let there : old.took + n ≡ new.took = omega (arith, on.took) in
    let before_there : old.took + (n - 1) ≡ new.took - 1 = omega (arith, on.took, some) in
    record {
      configuration = on-configuration c stood s old new n is on ∙ ap (staying c k) there;
      evaluations = on-evaluations c stood s old new n is on ∙ ap (λ m. counted (evaluations_since c stood s m)) there;
      before = λ later.
          on.before some
          ∙ ap (λ m. counted (m + evaluations_on c old.configuration (n - 1))) is.evaluations
          ∙ ap (λ j. counted (counted (evaluations_since c stood s old.took) + evaluations_on c j (n - 1))) is.configuration
          ∙ since-on c stood s old.took (n - 1) ∙ ap (λ m. counted (evaluations_since c stood s m)) before_there;
    }

-- a run begins with the first stimulus
begins-first : (c : Circuit) (s : Stimulus) (k : Configuration) (count : ℕ) → k ≡ first c s → count ≡ length c.parts → count < 2 ^ 64
    → IsRun c None s (record { configuration = k; took = 0; before = 0; evaluations = count })
begins-first c s k count is all few =
    let none = evaluations-zero c (first c s) in
    record {
      configuration = is ∙ sym (staying-none c (first c s));
      evaluations = omega (arith, none, all, few);
      before = λ some. absurd (omega (arith, some));
    }

pub run-first : (c : Circuit) (stood : Option Configuration) (s : Stimulus) (k : Configuration) (count : ℕ) → stood ≡ None → k ≡ first c s → count ≡ length c.parts → count < 2 ^ 64
    → IsRun c stood s (record { configuration = k; took = 0; before = 0; evaluations = count })
run-first c stood s k count none is all few =
    subst (λ (o : Option Configuration). IsRun c o s (record { configuration = k; took = 0; before = 0; evaluations = count })) (sym none) (begins-first c s k count is all few)

-- or with one that is put on what stood
begins-next : (c : Circuit) (j : Configuration) (s : Stimulus) (k : Configuration) (count : ℕ) → k ≡ next c s j → count ≡ evaluations_between c j k → count < 2 ^ 64
    → IsRun c (Some j) s (record { configuration = k; took = 0; before = 0; evaluations = count })
begins-next c j s k count is all few =
    let none = evaluations-zero c (next c s j) in
    let between = all ∙ ap (evaluations_between c j) is in
    record {
      configuration = is ∙ sym (staying-none c (next c s j));
      evaluations = omega (arith, none, between, few);
      before = λ some. absurd (omega (arith, some));
    }

pub run-next : (c : Circuit) (stood : Option Configuration) (j : Configuration) (s : Stimulus) (k : Configuration) (count : ℕ) → stood ≡ Some j → k ≡ next c s j → count ≡ evaluations_between c j k → count < 2 ^ 64
    → IsRun c stood s (record { configuration = k; took = 0; before = 0; evaluations = count })
run-next c stood j s k count some is all few =
    subst (λ (o : Option Configuration). IsRun c o s (record { configuration = k; took = 0; before = 0; evaluations = count })) (sym some) (begins-next c j s k count is all few)

-- the last busy instant so far, and the number of busy ones up to it
pub record IsReached (c : Circuit) (k : Configuration) (last count : ℕ) : Type 0 where
  pub last_busy : (last ≡ 0) ⊎ (is_busy_on c k last ≡ true)
  pub number : busy_count_on c k last ≡ count

pub reached-start : (c : Circuit) (k : Configuration) → IsReached c k 0 0
reached-start c k = record { last_busy = inl refl; number = count-none c k }

-- a busy instant more
pub reached-next : (c : Circuit) (k now : Configuration) (last count n : ℕ) → now ≡ staying c k last → IsReached c k last count → IsNextBusy c now 0 n → IsReached c k (last + n) (count + 1)
reached-next c k now last count n is reached found =
    let first : IsNextBusy c k last (last + n) = next-on c k last n (subst (λ j. IsNextBusy c j 0 n) is found) in
    record { last_busy = inr first.busy; number = count-next c k last (last + n) first ∙ ap (λ m. m + 1) reached.number }

-- none in reach of the greatest delay: it has settled
pub reached-settles : (greatest limit reach : ℕ) (c : Circuit) (k now : Configuration) (last count : ℕ) → All (IsSteady greatest) c.parts → IsLedTo c k → reach ≡ greatest_delay c.parts
    → now ≡ staying c k last → IsReached c k last count → count ≤ limit → ((n : ℕ) → 0 < n → n ≤ reach → is_busy_on c now n ≡ false) → SettlesIn c k limit last
reached-settles greatest limit reach c k now last count steady led most is reached few quiet =
    record {
      last_busy = reached.last_busy;
      quiet = quiet-led (greatest_delay c.parts) c k last (steady-greatest greatest c.parts steady) led (λ n above within.
          let there : last + (n - last) ≡ n = omega (arith, above) in
          ap (is_busy_on c k) (sym there) ∙ sym (busy-on c k last (n - last) (omega (arith, above)))
          ∙ ap (λ j. is_busy_on c j (n - last)) (sym is) ∙ quiet (n - last) (omega (arith, above)) (omega (arith, within, above, most)));
      few_busy = omega (arith, reached.number, few);
    }

-- one more than the limit
pub reached-oscillates : (c : Circuit) (k : Configuration) (limit last count : ℕ) → IsReached c k last count → count ≡ limit + 1 → OscillatesIn c k limit last
reached-oscillates c k limit last count reached more =
    elim reached.last_busy [
      | inl none ↦
          let few = ap (busy_count_on c k) none ∙ count-none c k in
          absurd (omega (arith, few, reached.number, more))
      | inr busy ↦ record { busy = busy; number = reached.number ∙ more }
    ]

pub oscillates-some : (c : Circuit) (k : Configuration) (limit last : ℕ) → OscillatesIn c k limit last → 0 < last
oscillates-some c k limit zero oscillates = absurd (omega (arith, oscillates.number, count-none c k))
oscillates-some c k limit (suc n) oscillates = omega arith

-- a run that went on past where all has settled stands there still, and has counted just those up to there
pub run-settled : (greatest limit : ℕ) (c : Circuit) (stood : Option Configuration) (s : Stimulus) (old new : Run) (took n : ℕ) → All (IsSteady greatest) c.parts → HasStood c stood
    → IsRun c stood s old → old.took ≡ took → RunGoesOn c old new n → SettlesIn c (configuration_put c stood s) limit took
    → (new.configuration ≡ staying c (configuration_put c stood s) took) × (new.evaluations ≡ counted (evaluations_since c stood s took))
run-settled greatest limit c stood s old new took n steady has is there on settles =
    let k : Configuration = configuration_put c stood s in
    let delays = delays-from_steady greatest c steady in
    let led = led-put c stood s delays has in
    let far : old.took + n ≡ took + n = ap (λ m. m + n) there in (
      on-configuration c stood s old new n is on ∙ ap (staying c k) far ∙ staying-settled greatest c k limit took n steady led settles,
      on-evaluations c stood s old new n is on ∙ ap (λ m. counted (evaluations_since c stood s m)) far
          ∙ ap (λ m. counted (evaluations_put c stood s + m)) (evaluations-when_settled c k limit took n delays led settles),
    )

-- where it stands the next one may be put
pub led-there : (greatest : ℕ) (c : Circuit) (stood : Option Configuration) (s : Stimulus) (at : Configuration) (n : ℕ) → All (IsSteady greatest) c.parts → HasStood c stood
    → at ≡ staying c (configuration_put c stood s) n → IsLedTo c at
led-there greatest c stood s at n steady has is =
    let delays = delays-from_steady greatest c steady in
    subst (IsLedTo c) (sym is) (led-staying c (configuration_put c stood s) n delays (led-put c stood s delays has))

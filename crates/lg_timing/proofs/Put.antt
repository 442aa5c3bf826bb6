-- A stimulus that is put on what stood: the configuration and the evaluations of its instant, and what becomes of it.
use Rattle.std.proofs.Common.{◌≡◌, ℕ, zero, suc, ◌+◌, ◌-◌, ◌≤◌, ◌<◌, true, cond, List, [], ◌∷◌, ◌++◌, Option, Some, None, sym, refl, ap, ◌∙◌, subst, arith}
use Rattle.std.specs.Prelude.{◌↔◌, nat_le}
use Rattle.std.proofs.lemmas.Bool.{le-leb}
use Rattle.std.proofs.lemmas.List.Elements.{All-nil, All-cons}
use Rattle.std.proofs.lemmas.List.Sums.{fold-append}
use Rattle.lg_value.specs.declared.bit.Bit.{Bit}
use Rattle.lg_timing.specs.declared.settling.Settling.{Settling}
use Rattle.lg_timing.specs.declared.settling.Settling.TheVariants.{Settled, Oscillates}
use Rattle.lg_timing.specs.Circuit.{Word, Circuit, Stimulus}
use Rattle.lg_timing.specs.Instant.{in_force, silence}
use Rattle.lg_timing.specs.Settling.{StayFrom, StandAfter}
use Rattle.lg_timing.specs.Configuration.{Configuration, configuration_at, first, next, staying, SamePut, HaveDelays}
use Rattle.lg_timing.specs.Evaluation.{evaluations_at, evaluations, evaluations_between, evaluations_settled, evaluations_oscillating, counted, IsSettling}
use Rattle.lg_timing.specs.Staying.{SettlesIn, OscillatesIn, configuration_put, evaluations_put, evaluations_on, evaluations_since, IsSettlingOn, stood_before}
use Rattle.lg_timing.proofs.LaterStimuli.{configuration_at-later}
use Rattle.lg_timing.proofs.ConfigurationSteps.{configuration-first, configuration-next}
use Rattle.lg_timing.proofs.Shift.{next-same}
use Rattle.lg_timing.proofs.Evaluated.{evaluations-first, evaluations_between-is, evaluations-none, evaluations-more}
use Rattle.lg_timing.proofs.OnConfigurations.{Led, staying-led, settles-led, oscillates-led, oscillates-later}

-- a last stimulus is in force from where it stands
pub in_force-last : (before : List Stimulus) (s : Stimulus) (t : ℕ) → s.from ≤ t → in_force (before ++ s ∷ []) t ≡ s
in_force-last before s t stands =
    let there : nat_le s.from t ≡ true = le-leb s.from t stands in
    fold-append (λ (old later : Stimulus). cond (nat_le later.from t) later old) silence before (s ∷ [])
    ∙ ap (λ b. cond b s (in_force before t)) there

pub configuration-put : (c : Circuit) (stimuli : List Stimulus) (start : ℕ) → HaveDelays c → configuration_put c (stood_before c stimuli start) (in_force stimuli start) ≡ configuration_at c stimuli start
configuration-put c stimuli zero delays = sym (configuration-first c stimuli delays)
configuration-put c stimuli (suc t) delays = sym (configuration-next c stimuli t delays)

-- one instant behind others it is put on where those had come to
pub configuration-behind : (c : Circuit) (stimuli : List Stimulus) (s : Stimulus) (t : ℕ) → HaveDelays c → StayFrom stimuli t → s.from ≡ t + 1
    → configuration_at c (stimuli ++ s ∷ []) (t + 1) ≡ next c s (configuration_at c stimuli t)
configuration-behind c stimuli s t delays stay stands =
    let one : t + 1 ≡ suc t = omega arith in
    let all : List Stimulus = stimuli ++ s ∷ [] in
    let after : StandAfter t (s ∷ []) = All-cons (λ (other : Stimulus). t < other.from) s [] (omega (arith, stands)) (All-nil (λ (other : Stimulus). t < other.from)) in
    ap (configuration_at c all) one
    ∙ configuration-next c all t delays
    ∙ ap (λ (put : Stimulus). next c put (configuration_at c all t)) (in_force-last stimuli s (suc t) (omega (arith, stands)))
    ∙ ap (next c s) (configuration_at-later c stimuli (s ∷ []) t after)

evaluations-put : (c : Circuit) (stimuli : List Stimulus) (start : ℕ) → HaveDelays c → evaluations_put c (stood_before c stimuli start) (in_force stimuli start) ≡ evaluations_at c stimuli start
evaluations-put c stimuli zero delays = sym (evaluations-first c stimuli)
evaluations-put c stimuli (suc t) delays =
    ap (evaluations_between c (configuration_at c stimuli t)) (sym (configuration-next c stimuli t delays)) ∙ evaluations_between-is c stimuli t

between-led : (c : Circuit) (k : Configuration) (stimuli : List Stimulus) (start n : ℕ) → Led c k stimuli start → evaluations_between c (staying c k n) (staying c k (suc n)) ≡ evaluations_at c stimuli (start + suc n)
between-led c k stimuli start n led =
    let there : start + suc n ≡ suc (start + n) = omega arith in
    ap (λ j. evaluations_between c j (staying c k (suc n))) (staying-led c k stimuli start n led)
    ∙ ap (evaluations_between c (configuration_at c stimuli (start + n))) (staying-led c k stimuli start (suc n) led ∙ ap (configuration_at c stimuli) there)
    ∙ evaluations_between-is c stimuli (start + n)
    ∙ ap (evaluations_at c stimuli) (sym there)

pub evaluations_on-led : (c : Circuit) (k : Configuration) (stimuli : List Stimulus) (start n : ℕ) → Led c k stimuli start → evaluations_at c stimuli start + evaluations_on c k n ≡ evaluations c stimuli start (n + 1)
unfolding evaluations_on
evaluations_on-led c k stimuli start zero led =
    let here : start + 0 ≡ start = omega arith in
    let own = ap (evaluations_at c stimuli) here in
    omega (arith, own, evaluations-none c stimuli start, evaluations-more c stimuli start 0)
evaluations_on-led c k stimuli start (suc n) led =
    let one : suc n + 1 ≡ suc (n + 1) = omega arith in
    let there : start + (n + 1) ≡ start + suc n = omega arith in
    let at = ap (evaluations_at c stimuli) there in
    let long = ap (evaluations c stimuli start) one in
    omega (arith, at, long, evaluations_on-led c k stimuli start n led, between-led c k stimuli start n led, evaluations-more c stimuli start (n + 1))

put-led : (c : Circuit) (stimuli : List Stimulus) (start : ℕ) → HaveDelays c → StayFrom stimuli start → Led c (configuration_put c (stood_before c stimuli start) (in_force stimuli start)) stimuli start
put-led c stimuli start delays stay = record { delays = delays; stay = stay; is = configuration-put c stimuli start delays }

pub evaluations_since-is : (c : Circuit) (stimuli : List Stimulus) (start n : ℕ) → HaveDelays c → StayFrom stimuli start
    → evaluations_since c (stood_before c stimuli start) (in_force stimuli start) n ≡ evaluations c stimuli start (n + 1)
evaluations_since-is c stimuli start n delays stay =
    let k : Configuration = configuration_put c (stood_before c stimuli start) (in_force stimuli start) in
    ap (λ own. own + evaluations_on c k n) (evaluations-put c stimuli start delays)
    ∙ evaluations_on-led c k stimuli start n (put-led c stimuli start delays stay)

-- the evaluations of each of the two answers are those of the instants
count_settled : (c : Circuit) (stimuli : List Stimulus) (start took : ℕ) → HaveDelays c → StayFrom stimuli start
    → evaluations_since c (stood_before c stimuli start) (in_force stimuli start) took ≡ evaluations_settled c stimuli start (start + took)
count_settled c stimuli start took delays stay =
    let long : took + 1 ≡ start + took - start + 1 = omega arith in
    evaluations_since-is c stimuli start took delays stay ∙ ap (evaluations c stimuli start) long

count_oscillating : (c : Circuit) (stimuli : List Stimulus) (start after : ℕ) → HaveDelays c → StayFrom stimuli start → 1 ≤ after
    → evaluations_since c (stood_before c stimuli start) (in_force stimuli start) (after - 1) ≡ evaluations_oscillating c stimuli start after
count_oscillating c stimuli start after delays stay later =
    let long : after - 1 + 1 ≡ after = omega (arith, later) in
    evaluations_since-is c stimuli start (after - 1) delays stay ∙ ap (evaluations c stimuli start) long

pub settling-is : (c : Circuit) (stimuli : List Stimulus) (start limit : ℕ) (settling : Settling) → HaveDelays c → StayFrom stimuli start
    → IsSettlingOn c (stood_before c stimuli start) (in_force stimuli start) limit settling ↔ IsSettling c stimuli start limit settling
settling-is c stimuli start limit (Settled took count) delays stay =
    let k : Configuration = configuration_put c (stood_before c stimuli start) (in_force stimuli start) in
    let both = settles-led c k stimuli start limit took (put-led c stimuli start delays stay) in
    let same = ap counted (count_settled c stimuli start took delays stay) in
    (λ on. (both.0 on.0, on.1 ∙ same), λ is. (both.1 is.0, is.1 ∙ sym same))
settling-is c stimuli start limit (Oscillates after count) delays stay =
    let k : Configuration = configuration_put c (stood_before c stimuli start) (in_force stimuli start) in
    let both = oscillates-led c k stimuli start limit after (put-led c stimuli start delays stay) in
    let same = λ (oscillates : OscillatesIn c k limit after). ap counted (count_oscillating c stimuli start after delays stay (oscillates-later c k limit after oscillates)) in
    (λ on. (both.0 on.0, on.1 ∙ same on.0), λ is. (both.1 is.0, is.1 ∙ sym (same (both.1 is.0))))

-- of a stimulus only what it puts on pins and clocks counts
pub configuration_put-same : (c : Circuit) (stood : Option Configuration) (s r : Stimulus) → SamePut s r → configuration_put c stood s ≡ configuration_put c stood r
configuration_put-same c None s r same =
    let by : List Word → Bit → Configuration = λ words clock. first c (record { from = 0; words = words; clock = clock }) in
    ap (λ words. by words s.clock) same.words ∙ ap (by r.words) same.clock
configuration_put-same c (Some stood) s r same = next-same c s r stood same

evaluations_put-same : (c : Circuit) (stood : Option Configuration) (s r : Stimulus) → SamePut s r → evaluations_put c stood s ≡ evaluations_put c stood r
evaluations_put-same c None s r same = refl
evaluations_put-same c (Some stood) s r same = ap (evaluations_between c stood) (next-same c s r stood same)

evaluations_since-same : (c : Circuit) (stood : Option Configuration) (s r : Stimulus) (n : ℕ) → SamePut s r → evaluations_since c stood s n ≡ evaluations_since c stood r n
evaluations_since-same c stood s r n same =
    ap (λ own. own + evaluations_on c (configuration_put c stood s) n) (evaluations_put-same c stood s r same)
    ∙ ap (λ k. evaluations_put c stood r + evaluations_on c k n) (configuration_put-same c stood s r same)

settling-same : (c : Circuit) (stood : Option Configuration) (s r : Stimulus) (limit : ℕ) (settling : Settling) → SamePut s r → IsSettlingOn c stood s limit settling → IsSettlingOn c stood r limit settling
settling-same c stood s r limit (Settled took count) same on = (
  subst (λ k. SettlesIn c k limit took) (configuration_put-same c stood s r same) on.0,
  on.1 ∙ ap counted (evaluations_since-same c stood s r took same),
)
settling-same c stood s r limit (Oscillates after count) same on = (
  subst (λ k. OscillatesIn c k limit after) (configuration_put-same c stood s r same) on.0,
  on.1 ∙ ap counted (evaluations_since-same c stood s r (after - 1) same),
)

-- nothing of what came before matters
pub settling-alone : (c : Circuit) (a b : List Stimulus) (t u limit : ℕ) (settling : Settling) → HaveDelays c → StayFrom a t → StayFrom b u
    → stood_before c a t ≡ stood_before c b u → SamePut (in_force a t) (in_force b u) → IsSettling c a t limit settling → IsSettling c b u limit settling
settling-alone c a b t u limit settling delays at_a at_b stood put is =
    let on_a = (settling-is c a t limit settling delays at_a).1 is in
    let on_b = subst (λ o. IsSettlingOn c o (in_force a t) limit settling) stood on_a in
    (settling-is c b u limit settling delays at_b).0 (settling-same c (stood_before c b u) (in_force a t) (in_force b u) limit settling put on_b)

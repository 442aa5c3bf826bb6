use Rattle.std.proofs.Common.{◌≡◌, ◌+◌, suc, false, Some, get_or, subst, arith}
use Rattle.lg_timing.specs.Instant.{Numbered, numbered_parts, answered, state_of, instant_at}
use Rattle.lg_timing.specs.Evaluation.{is_evaluated, evaluations_at, evaluations_between}
use Rattle.lg_timing.proofs.Evaluated.{evaluations-first, evaluations_between-is, answer-unevaluated, unevaluated-unattached, none-settled}
use Rattle.lg_timing.specs.Configuration.{configuration_at}
use Rattle.lg_timing.proofs.law.evaluations_are_counted.Goals as goal

pub returns : goal.returns
returns c = record {
  first = evaluations-first;
  between = λ circuit stimuli t.
      let same : suc t ≡ t + 1 = omega arith in
      subst (λ u. evaluations_between circuit (configuration_at circuit stimuli t) (configuration_at circuit stimuli u) ≡ evaluations_at circuit stimuli u) same (evaluations_between-is circuit stimuli t);
  others = λ greatest circuit stimuli t steady i d inside none.
      let same : suc t ≡ t + 1 = omega arith in
      let p : Numbered = get_or (numbered_parts circuit) i d in
      let stays = subst (λ u. is_evaluated circuit stimuli u p ≡ false → (state_of (instant_at circuit stimuli u) p.0 ≡ state_of (instant_at circuit stimuli t) p.0) × (answered p (Some (instant_at circuit stimuli u)) ≡ answered p (Some (instant_at circuit stimuli t)))) same (answer-unevaluated greatest circuit stimuli t steady i d inside) none in
      record { state = stays.0; answer = stays.1 };
  unattached = λ circuit stimuli t p none.
      let same : suc t ≡ t + 1 = omega arith in
      subst (λ u. is_evaluated circuit stimuli u p ≡ false) same (unevaluated-unattached circuit stimuli t p none);
  settled = none-settled;
}

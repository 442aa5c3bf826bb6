use Rattle.std.proofs.Common.{◌≡◌, ◌-◌, ◌+◌, List, length, length-set, set, refl, sym, ap, ◌∙◌, subst, arith}
use Rattle.std.specs.List.{All}
use Rattle.std.proofs.lemmas.List.{get_or_default}
use Rattle.lg_queue.specs.NumberSet.{NumberSet}
use Rattle.lg_queue.specs.Pending.{Pending, IsTaken}
use Rattle.lg_queue.specs.Buckets.{IsBucket, IsFirstBusy, AreInRange, bucket_at, no_bucket}
use Rattle.lg_queue.proofs.BucketLemmas.{items_idle}
use Rattle.lg_queue.proofs.QueueLemmas.{turned, length_turned, front_of_turned, first_and_rest, each_taken, in_range_taken}
use Rattle.lg_queue.proofs.queue.Queue.take_first.Goals as goal

pub returns-in_err-ahead-clause-item : goal.returns-in_err-ahead-clause-item
returns-in_err-ahead-clause-item c =
    let s = c.self.inside in
    subst (λ r. IsTaken c.args.self.now r c.args.self.now) (sym c.from_residual.ensures)
    (ap (λ (p : Pending). p.items) (sym c.self.view_is) ∙ items_idle s.outputs s.instant s.buckets.items c.in_err-ahead.ensures.none, refl)

pub invariant_of-self : goal.invariant_of-self
invariant_of-self c =
    let s = c.self.inside in
    let ahead = c.in_ok-ahead.ahead in
    let rest = c.take_least-number.new.self in
    let first : IsFirstBusy s.buckets.items c.in_ok-ahead.ahead = c.in_ok-ahead.ensures.some in
    let turn : c.rotate_left.new.self.items ≡ turned c.in_ok-ahead.ahead s.buckets.items = c.rotate_left.ensures.items in
    let long : length c.rotate_left.new.self.items ≡ length s.buckets.items =
    ap (λ (bs : List NumberSet). length bs) turn ∙ length_turned c.in_ok-ahead.ahead s.buckets.items (omega (arith, first.within)) in
    let found : c.index_mut.result.now ≡ bucket_at s.buckets.items c.in_ok-ahead.ahead =
    c.index_mut.ensures.value ∙ get_or_default c.rotate_left.new.self.items 0 c.index_mut.result.now no_bucket (omega (arith, long, first.within))
    ∙ ap (λ bs. bucket_at bs 0) turn ∙ front_of_turned s.buckets.items c.in_ok-ahead.ahead first.within in
    let numbers = ap (λ (b : NumberSet). b.numbers) (sym found) ∙ c.take_least-number.ensures.numbers in
    let room = c.take_least-number.ensures.room ∙ ap (λ (b : NumberSet). b.room) found in
    let whole = length-set c.rotate_left.new.self.items 0 rest in
    record {
      buckets = omega (arith, c.self.invariant.buckets, long, whole);
      few = omega (arith, c.self.invariant.few, long, whole);
      each = subst (λ bs. All (IsBucket s.outputs) (set bs 0 c.take_least-number.new.self)) (sym turn)
          (each_taken s.outputs s.buckets.items ahead c.take_least-number.result rest c.self.invariant.each first.within numbers room);
      in_range = subst (λ bs. AreInRange (s.instant + c.in_ok-ahead.ahead) (set bs 0 c.take_least-number.new.self)) (sym turn)
          (in_range_taken s.instant s.buckets.items ahead rest first c.self.invariant.in_range);
    }

pub returns-clause-item : goal.returns-clause-item
returns-clause-item c =
    let s = c.self.inside in
    let ahead = c.in_ok-ahead.ahead in
    let rest = c.take_least-number.new.self in
    let first : IsFirstBusy s.buckets.items c.in_ok-ahead.ahead = c.in_ok-ahead.ensures.some in
    let turn : c.rotate_left.new.self.items ≡ turned c.in_ok-ahead.ahead s.buckets.items = c.rotate_left.ensures.items in
    let long : length c.rotate_left.new.self.items ≡ length s.buckets.items =
    ap (λ (bs : List NumberSet). length bs) turn ∙ length_turned c.in_ok-ahead.ahead s.buckets.items (omega (arith, first.within)) in
    let found : c.index_mut.result.now ≡ bucket_at s.buckets.items c.in_ok-ahead.ahead =
    c.index_mut.ensures.value ∙ get_or_default c.rotate_left.new.self.items 0 c.index_mut.result.now no_bucket (omega (arith, long, first.within))
    ∙ ap (λ bs. bucket_at bs 0) turn ∙ front_of_turned s.buckets.items c.in_ok-ahead.ahead first.within in
    let numbers = ap (λ (b : NumberSet). b.numbers) (sym found) ∙ c.take_least-number.ensures.numbers in (
      ap (λ (p : Pending). p.items) (sym c.self.view_is)
          ∙ first_and_rest s.outputs s.instant s.buckets.items c.rotate_left.new.self.items ahead c.take_least-number.result rest c.place-part.result first numbers turn c.place-part.ensures,
      refl,
    )

pub returns-clause-outputs : goal.returns-clause-outputs
returns-clause-outputs c = ap (λ (p : Pending). p.outputs) c.self.view_is

pub returns-clause-span : goal.returns-clause-span
returns-clause-span c =
    let first : IsFirstBusy c.self.inside.buckets.items c.in_ok-ahead.ahead = c.in_ok-ahead.ensures.some in
    ap (λ n. n - 1)
    (length-set c.rotate_left.new.self.items 0 c.take_least-number.new.self
    ∙ ap (λ (bs : List NumberSet). length bs) c.rotate_left.ensures.items
    ∙ length_turned c.in_ok-ahead.ahead c.self.inside.buckets.items (omega (arith, first.within)))
    ∙ ap (λ (p : Pending). p.span) c.self.view_is

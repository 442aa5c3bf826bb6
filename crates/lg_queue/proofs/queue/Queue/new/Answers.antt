use Rattle.std.proofs.Common.{ℕ, ◌+◌, List, length, sum, sym, ap, ◌∙◌, subst, arith}
use Rattle.std.specs.List.{All}
use Rattle.std.proofs.lemmas.List.{length_push}
use Rattle.std.proofs.lemmas.List.Elements.{All-push}
use Rattle.lg_queue.specs.NumberSet.{NumberSet}
use Rattle.lg_queue.specs.Buckets.{IsEmptyBucket}
use Rattle.lg_queue.proofs.QueueLemmas.{empty_idle, nothing_pending}
use Rattle.lg_queue.proofs.queue.Queue.new.Goals as goal

pub loop-preserved : goal.loop-preserved
loop-preserved c =
    let total = ap (λ (os : List ℕ). sum os) c.in_ok-outputs.ensures in
    let items = c.in_ok-push_back.ensures.items in
    record {
      count = ap (λ (bs : List NumberSet). length bs) items ∙ length_push c.loop.buckets.items c.in_ok-new.field-0 ∙ ap (λ n. n + 1) c.loop.invariant.count;
      each = subst (λ bs. All (IsEmptyBucket c.args.outputs.now) bs) (sym items)
          (All-push (IsEmptyBucket c.args.outputs.now) c.loop.buckets.items c.in_ok-new.field-0 c.loop.invariant.each
          record { none = c.in_ok-new.ensures.none; room = omega (arith, c.total.ensures.total, total, c.in_ok-new.ensures.room) });
    }

pub returns : goal.returns
returns c =
    nothing_pending c.in_ok-outputs.outputs c.args.outputs.now 0 c.args.span c.loop.buckets.items
    (empty_idle c.args.outputs.now c.loop.buckets.items c.loop.invariant.each)
    (omega (arith, c.loop.invariant.count, c.loop.auto.counter-end, c.loop-test.false)) c.in_ok-outputs.ensures

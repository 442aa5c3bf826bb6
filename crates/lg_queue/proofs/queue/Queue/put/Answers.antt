use Rattle.std.proofs.Common.{◌≡◌, ◌-◌, ◌<◌, length, length-set, sym, ap, ◌∙◌, subst, arith}
use Rattle.std.proofs.lemmas.List.{get_or_default}
use Rattle.std.proofs.lemmas.List.Elements.{All-set}
use Rattle.lg_queue.specs.NumberSet.{NumberSet, with_number}
use Rattle.lg_queue.specs.Numbering.{IsOutput, number_of}
use Rattle.lg_queue.specs.Pending.{Pending, with_item}
use Rattle.lg_queue.specs.Buckets.{IsBucket, bucket_at, no_bucket}
use Rattle.lg_queue.proofs.NumberingLemmas.{number_of-below}
use Rattle.lg_queue.proofs.QueueLemmas.{in_range_with, bucket_put, pending_put}
use Rattle.lg_queue.proofs.queue.Queue.put.Goals as goal

pub insert-requires : goal.insert-requires
insert-requires c =
    let s = c.self.inside in
    let current = ap (λ (p : Pending). p.current) c.self.view_is in
    let span = ap (λ (p : Pending). p.span) c.self.view_is in
    let inside : c.args.instant - s.instant < length s.buckets.items = omega (arith, c.requires.instant, current, span, c.self.invariant.buckets) in
    let there : IsOutput s.outputs c.args.part c.args.output =
    subst (λ (p : Pending). IsOutput p.outputs c.args.part c.args.output) (sym c.self.view_is) c.requires.output in
    let found : c.index_mut.result.now ≡ bucket_at s.buckets.items (c.args.instant - s.instant) =
    c.index_mut.ensures.value ∙ get_or_default s.buckets.items (c.args.instant - s.instant) c.index_mut.result.now no_bucket inside in
    omega (
      arith,
      c.number-number.ensures,
      number_of-below s.outputs c.args.part c.args.output there,
      (c.self.invariant.each (c.args.instant - s.instant) no_bucket inside).room,
      ap (λ (b : NumberSet). b.room) found,
    )

pub invariant_of-self : goal.invariant_of-self
invariant_of-self c =
    let s = c.self.inside in
    let ahead = c.args.instant - s.instant in
    let current = ap (λ (p : Pending). p.current) c.self.view_is in
    let span = ap (λ (p : Pending). p.span) c.self.view_is in
    let inside : c.args.instant - s.instant < length s.buckets.items = omega (arith, c.requires.instant, current, span, c.self.invariant.buckets) in
    let there : IsOutput s.outputs c.args.part c.args.output =
    subst (λ (p : Pending). IsOutput p.outputs c.args.part c.args.output) (sym c.self.view_is) c.requires.output in
    let found : c.index_mut.result.now ≡ bucket_at s.buckets.items (c.args.instant - s.instant) =
    c.index_mut.ensures.value ∙ get_or_default s.buckets.items (c.args.instant - s.instant) c.index_mut.result.now no_bucket inside in
    let same : c.insert.new.self ≡ with_number (number_of s.outputs c.args.part c.args.output) (bucket_at s.buckets.items (c.args.instant - s.instant)) =
    c.insert.ensures ∙ ap (with_number c.number-number.result) found
    ∙ ap (λ n. with_number n (bucket_at s.buckets.items (c.args.instant - s.instant))) c.number-number.ensures in
    let long = length-set s.buckets.items ahead c.insert.new.self in
    record {
      buckets = omega (arith, c.self.invariant.buckets, long);
      few = omega (arith, c.self.invariant.few, long);
      each = All-set (IsBucket s.outputs) s.buckets.items ahead c.insert.new.self
          (bucket_put s.outputs c.args.part c.args.output (bucket_at s.buckets.items ahead) c.insert.new.self
          (c.self.invariant.each ahead no_bucket inside) there c.ranges.part.fits same)
          c.self.invariant.each;
      in_range = in_range_with s.instant s.buckets.items ahead c.insert.new.self c.self.invariant.in_range
          (omega (arith, c.requires.instant, current, c.ranges.instant.fits));
    }

pub returns : goal.returns
returns c =
    let s = c.self.inside in
    let current = ap (λ (p : Pending). p.current) c.self.view_is in
    let span = ap (λ (p : Pending). p.span) c.self.view_is in
    let inside : c.args.instant - s.instant < length s.buckets.items = omega (arith, c.requires.instant, current, span, c.self.invariant.buckets) in
    let there : IsOutput s.outputs c.args.part c.args.output =
    subst (λ (p : Pending). IsOutput p.outputs c.args.part c.args.output) (sym c.self.view_is) c.requires.output in
    let found : c.index_mut.result.now ≡ bucket_at s.buckets.items (c.args.instant - s.instant) =
    c.index_mut.ensures.value ∙ get_or_default s.buckets.items (c.args.instant - s.instant) c.index_mut.result.now no_bucket inside in
    let same : c.insert.new.self ≡ with_number (number_of s.outputs c.args.part c.args.output) (bucket_at s.buckets.items (c.args.instant - s.instant)) =
    c.insert.ensures ∙ ap (with_number c.number-number.result) found
    ∙ ap (λ n. with_number n (bucket_at s.buckets.items (c.args.instant - s.instant))) c.number-number.ensures in
    pending_put s.outputs s.instant c.args.instant s.buckets.items c.args.part c.args.output c.insert.new.self c.self.invariant.each
    (omega (arith, c.requires.instant, current)) inside there c.ranges.part.fits same
    ∙ ap (with_item (c.args.instant, c.args.part, c.args.output)) c.self.view_is

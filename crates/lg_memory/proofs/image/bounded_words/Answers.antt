use Rattle.std.proofs.Common.{◌≡◌, ◌+◌, ◌≤◌, [], length, inr, refl, rules}
use Rattle.lg_memory.proofs.ImageLemmas.{reading_begins, reading_more, reading_shorter, reading_bad, reading_kept, reading_over}
use Rattle.lg_memory.proofs.image.bounded_words.Goals as goal

pub loop-rest-init : goal.loop-rest-init
loop-rest-init c =
    reading_begins (c.args.most + 1) c.args.limit c.args.text.now c.new-kept.result.items c.skip_gap-rest.result.now c.new-kept.ensures.items c.skip_gap-rest.ensures

pub loop-rest-preserved : goal.loop-rest-preserved
loop-rest-preserved c =
    let rest = c.loop-rest.rest.now in
    let some : 1 ≤ length rest = search rules in
    reading_more (c.args.most + 1) c.args.limit c.args.text.now c.loop-rest.kept.items c.keep.new.kept.items c.loop-rest.over c.in_ok-over.over rest c.split_at.result.0.now c.split_at.result.1.now c.skip_gap-rest-in-loop-rest.result.now c.word_len.result c.in-Some.run'
    c.loop-rest.invariant some c.word_len.ensures.word c.split_at.ensures.front c.split_at.ensures.back c.in-Some.ensures c.in_ok-over.ensures c.skip_gap-rest-in-loop-rest.ensures

pub loop-rest-smaller : goal.loop-rest-smaller
loop-rest-smaller c =
    let rest = c.loop-rest.rest.now in
    let some : 1 ≤ length rest = search rules in
    reading_shorter (c.args.most + 1) c.args.limit c.args.text.now c.loop-rest.kept.items c.loop-rest.over rest c.split_at.result.1.now c.skip_gap-rest-in-loop-rest.result.now c.word_len.result
    c.loop-rest.invariant some c.word_len.ensures.word c.split_at.ensures.back c.skip_gap-rest-in-loop-rest.ensures

pub returns-in_default-clause-not_image : goal.returns-in_default-clause-not_image
returns-in_default-clause-not_image c =
    let rest = c.loop-rest.rest.now in
    let some : 1 ≤ length rest = search rules in
    λ _. reading_bad (c.args.most + 1) c.args.limit c.args.text.now c.loop-rest.kept.items c.loop-rest.over rest c.split_at.result.0.now c.word_len.result
    c.loop-rest.invariant some c.word_len.ensures.word c.split_at.ensures.front c.in_default.ensures

pub returns-in_default-clause-only : goal.returns-in_default-clause-only
returns-in_default-clause-only c =
    let rest = c.loop-rest.rest.now in
    let some : 1 ≤ length rest = search rules in
    λ all h. absurd
    (reading_bad (c.args.most + 1) c.args.limit c.args.text.now c.loop-rest.kept.items c.loop-rest.over rest c.split_at.result.0.now c.word_len.result
    c.loop-rest.invariant some c.word_len.ensures.word c.split_at.ensures.front c.in_default.ensures all h)

pub returns-then-over-clause-only : goal.returns-then-over-clause-only
returns-then-over-clause-only c =
    let none : c.loop-rest.rest.now ≡ [] = search rules in
    let end = reading_over (c.args.most + 1) c.args.limit c.args.text.now c.loop-rest.kept.items c.loop-rest.over c.loop-rest.rest.now c.loop-rest.invariant c.if-over.true none in
    λ all h. inr (refl, end.1 all h)

pub returns-then-over-clause-too_long : goal.returns-then-over-clause-too_long
returns-then-over-clause-too_long c =
    let none : c.loop-rest.rest.now ≡ [] = search rules in
    let end = reading_over (c.args.most + 1) c.args.limit c.args.text.now c.loop-rest.kept.items c.loop-rest.over c.loop-rest.rest.now c.loop-rest.invariant c.if-over.true none in
    λ _. end.0

pub returns-else-over-clause-found : goal.returns-else-over-clause-found
returns-else-over-clause-found c =
    let none : c.loop-rest.rest.now ≡ [] = search rules in
    let end = reading_kept (c.args.most + 1) c.args.limit c.args.text.now c.loop-rest.kept.items c.loop-rest.over c.loop-rest.rest.now c.loop-rest.invariant c.if-over.false none in
    (end.0, end.1)

pub returns-else-over-clause-only : goal.returns-else-over-clause-only
returns-else-over-clause-only c =
    let none : c.loop-rest.rest.now ≡ [] = search rules in
    let end = reading_kept (c.args.most + 1) c.args.limit c.args.text.now c.loop-rest.kept.items c.loop-rest.over c.loop-rest.rest.now c.loop-rest.invariant c.if-over.false none in
    end.2

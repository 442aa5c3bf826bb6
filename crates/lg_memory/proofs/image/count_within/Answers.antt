use Rattle.std.proofs.Common.{◌≡◌, ◌+◌, ◌≤◌, false, [], length, rules, arith}
use Rattle.lg_memory.proofs.ImageLemmas.{reading_shorter}
use Rattle.lg_memory.proofs.CountLemmas.{counting_begins, counting_more, counting_over, counting_bad, counting_ends}
use Rattle.lg_memory.proofs.image.count_within.Goals as goal

pub loop-rest-init : goal.loop-rest-init
loop-rest-init c =
    (counting_begins (c.args.most + 1) c.args.limit c.args.text.now c.skip_gap-rest.result.now c.skip_gap-rest.ensures, omega arith)

pub loop-rest-preserved : goal.loop-rest-preserved
loop-rest-preserved c =
    let some : 1 ≤ length c.loop-rest.rest.now = search rules in
    let few : c.loop-rest.count + c.from-count.result ≤ c.args.limit = omega (arith, c.from.ensures) in
    (counting_more (c.args.most + 1) c.args.limit c.args.text.now c.loop-rest.rest.now c.split_at.result.0.now c.split_at.result.1.now c.skip_gap-rest-in-loop-rest.result.now c.loop-rest.count (c.loop-rest.count + c.from-count.result) c.word_len.result c.in-Some.run' c.loop-rest.invariant.0 some c.word_len.ensures.word c.split_at.ensures.front c.split_at.ensures.back c.in-Some.ensures (omega (arith, c.from-count.ensures)) few c.skip_gap-rest-in-loop-rest.ensures, few)

pub loop-rest-smaller : goal.loop-rest-smaller
loop-rest-smaller c =
    let some : 1 ≤ length c.loop-rest.rest.now = search rules in
    let known = c.loop-rest.invariant.0 in
    reading_shorter (c.args.most + 1) c.args.limit c.args.text.now known.kept false c.loop-rest.rest.now c.split_at.result.1.now c.skip_gap-rest-in-loop-rest.result.now c.word_len.result known.reading some c.word_len.ensures.word c.split_at.ensures.back c.skip_gap-rest-in-loop-rest.ensures

pub returns-in_default : goal.returns-in_default
returns-in_default c =
    let some : 1 ≤ length c.loop-rest.rest.now = search rules in
    let bad = counting_bad (c.args.most + 1) c.args.limit c.args.text.now c.loop-rest.rest.now c.split_at.result.0.now c.loop-rest.count c.word_len.result c.loop-rest.invariant.0 some c.word_len.ensures.word c.split_at.ensures.front c.in_default.ensures in
    (λ t. absurd (search rules), λ h. absurd (bad h.0 h.1))

pub returns-then-count-from : goal.returns-then-count-from
returns-then-count-from c =
    let some : 1 ≤ length c.loop-rest.rest.now = search rules in
    let over = counting_over (c.args.most + 1) c.args.limit c.args.text.now c.loop-rest.rest.now c.split_at.result.0.now c.split_at.result.1.now c.loop-rest.count c.word_len.result c.in-Some.run' c.loop-rest.invariant.0 some c.word_len.ensures.word c.split_at.ensures.front c.split_at.ensures.back c.in-Some.ensures (omega (arith, c.from-count.ensures, c.from.ensures)) in
    (λ t. absurd (search rules), λ h. absurd (over h.0 h.1 h.2))

pub returns : goal.returns
returns c =
    let none : c.loop-rest.rest.now ≡ [] = search rules in
    let words = counting_ends (c.args.most + 1) c.args.limit c.args.text.now c.loop-rest.rest.now c.loop-rest.count c.loop-rest.invariant.0 none in
    (λ t. words, λ h. search rules)

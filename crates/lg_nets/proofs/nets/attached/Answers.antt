-- The flag of a port is the mark of its label.
use Rattle.std.proofs.Common.{◌≡◌, false, List, Bool, get_or, length, take, drop, ◌++◌, ap, ◌∙◌, arith}
use Rattle.std.proofs.lemmas.List.{take_at}
use Rattle.lg_nets.proofs.ShareLemmas.{AreShared-from}
use Rattle.lg_nets.proofs.nets.attached.Goals as goal

pub returns : goal.returns
returns c =
    let once = c.share_ports.new.shared in
    let twice = c.share_wires.new.shared in
    let size = c.in_ok-shared.shared.len in
    let first = take size (once ++ drop (length once) c.in_ok-shared.shared.items) in
    let is_once : first ≡ once = take_at once (drop (length once) c.in_ok-shared.shared.items) size (omega arith) in
    let is_twice : take size (twice ++ drop (length twice) first) ≡ twice = take_at twice (drop (length twice) first) size (omega (arith, ap length is_once)) in
    let done : c.loop-label.label-index ≡ c.args.ports = omega arith in
    AreShared-from c.args.wires.now c.args.ports c.args.labels.now c.split_at.result.0.now c.split_at.result.1.now c.deref_mut.result.now once c.deref_mut-2.result.now twice c.loop-label.flags.items
    c.split_at.ensures.front c.split_at.ensures.front_len c.split_at.ensures.back
    (c.deref_mut.ensures.value ∙ c.in_ok-shared.ensures.items_if_clones_equal (λ y h. h)) (c.deref_mut-2.ensures.value ∙ is_once)
    c.share_ports.ensures c.share_wires.ensures (omega arith) c.requires.least
    (λ i less. c.loop-label.invariant.flag i (omega arith) ∙ ap (λ (xs : List Bool). get_or xs (get_or c.args.labels.now i 0) false) is_twice)

-- The greater root points at the lesser.
use Rattle.std.proofs.Common.{arith}
use Rattle.lg_nets.proofs.ForestLemmas.{Represents-merged}
use Rattle.lg_nets.proofs.components.join.Goals as goal

pub returns-then-from-to-clause-merges : goal.returns-then-from-to-clause-merges
returns-then-from-to-clause-merges c = λ rep r.
    let from = c.find-from.result in
    let to = c.find-to.result in
    let once = c.find-from.ensures.keeps rep r in
    let twice = c.find-to.ensures.keeps rep once in
    let from_is = c.find-from.ensures.value rep r in
    let to_is = c.find-to.ensures.value rep once in
    let from_root = once.roots from (omega arith) c.find-from.ensures.root in
    let to_root = twice.roots to (omega arith) c.find-to.ensures.root in
    Represents-merged rep c.find-to.new.parents c.args.link.from c.args.link.to from to (omega arith) (omega (arith, from_is, to_is)) (omega (arith, from_is, to_is)) from_root to_root twice

pub returns-else-from-to-clause-merges : goal.returns-else-from-to-clause-merges
returns-else-from-to-clause-merges c = λ rep r.
    let from = c.find-from.result in
    let to = c.find-to.result in
    let once = c.find-from.ensures.keeps rep r in
    let twice = c.find-to.ensures.keeps rep once in
    let from_is = c.find-from.ensures.value rep r in
    let to_is = c.find-to.ensures.value rep once in
    let from_root = once.roots from (omega arith) c.find-from.ensures.root in
    let to_root = twice.roots to (omega arith) c.find-to.ensures.root in
    Represents-merged rep c.find-to.new.parents c.args.link.from c.args.link.to to from (omega arith) (omega (arith, from_is, to_is)) (omega (arith, from_is, to_is)) to_root from_root twice

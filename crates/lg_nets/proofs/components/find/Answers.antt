-- A turn puts the grandparent in the parent's place.
use Rattle.std.proofs.Common.{◌<◌, length, get_or, ◌∙◌, arith}
use Rattle.lg_nets.proofs.ForestLemmas.{PointDown-set, Represents-set, up_same, up_low}
use Rattle.lg_nets.proofs.components.find.Goals as goal

pub loop-parents-preserved : goal.loop-parents-preserved
loop-parents-preserved c =
    let xs = c.loop-parents.parents in
    let at = c.loop-parents.at in
    let up = get_or xs (get_or xs at 0) 0 in
    let so_far = c.loop-parents.invariant in
    let inside : at < length xs = omega (arith, so_far.low, c.requires.within, c.loop-parents.auto.parents) in
    let below : up < at = up_low xs at inside so_far.down c.loop-parents-test.true in
    record {
      down = PointDown-set xs at up so_far.down inside (omega arith);
      low = omega (arith, below, so_far.low);
      keeps = λ rep r. let s = so_far.keeps rep r in Represents-set rep xs at up inside below (up_same rep xs at inside so_far.down s) s;
      same = λ rep r. up_same rep xs at inside so_far.down (so_far.keeps rep r) ∙ so_far.same rep r;
    }

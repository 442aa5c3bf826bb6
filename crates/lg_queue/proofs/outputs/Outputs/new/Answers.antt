use Rattle.std.proofs.Common.{arith, subst, sym, length, ◌<◌, ◌+◌}
use Rattle.lg_queue.specs.Numbering.{ArePlaces}
use Rattle.lg_queue.proofs.NumberingLemmas.{places_more}
use Rattle.lg_queue.proofs.outputs.Outputs.new.Goals as goal

pub loop-output-preserved : goal.loop-output-preserved
loop-output-preserved c = record {
  firsts = c.loop-output.invariant.firsts;
  places =
      let within : c.loop-part.part < length c.args.counts.now = omega arith in
      subst (ArePlaces c.args.counts.now c.loop-part.part (c.loop-output.output + 1)) (sym c.in_ok-push-2.ensures.items)
      (places_more c.args.counts.now c.loop-part.part c.loop-output.output c.loop-output.places.items c.loop-output.invariant.places (within, c.loop-output-test.true));
}

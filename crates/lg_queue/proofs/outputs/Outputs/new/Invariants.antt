use Rattle.std.proofs.Common.{◌+◌}
use Rattle.lg_queue.specs.Numbering.{AreFirsts, ArePlaces}
use Rattle.lg_queue.proofs.outputs.Outputs.new.Given as goal

abbrev pub invariant-loop-part : goal.invariant-loop-part
invariant-loop-part l = record {
  firsts : AreFirsts l.counts l.part l.firsts.items;
  places : ArePlaces l.counts l.part 0 l.places.items;
}

abbrev pub invariant-loop-output : goal.invariant-loop-output
invariant-loop-output l = record {
  firsts : AreFirsts l.counts (l.part + 1) l.firsts.items;
  places : ArePlaces l.counts l.part l.output l.places.items;
}

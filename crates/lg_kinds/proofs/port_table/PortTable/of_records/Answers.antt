use Rattle.lg_kinds.proofs.LatestLemmas.{knows_more, knows_all}
use Rattle.lg_kinds.proofs.port_table.PortTable.of_records.Goals as goal

pub loop-place-preserved : goal.loop-place-preserved
loop-place-preserved c =
    knows_more c.as_slice-record-items.result.now c.loop-place.place c.record-item.result c.loop-place.latest c.add.new.self c.loop-place-test.true c.record-item.is c.loop-place.invariant c.in_ok-add.ensures

pub invariant_of-result : goal.invariant_of-result
invariant_of-result c =
    record {
      known = rw c.as_slice-record-items.ensures at (knows_all c.as_slice-record-items.result.now c.loop-place.place c.loop-place.latest c.loop-place-test.false c.loop-place.invariant);
      near = c.requires;
    }

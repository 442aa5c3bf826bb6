use Rattle.lg_ports.specs.Given.{seen_given}
use Rattle.lg_ports.specs.Ports.{row_ports}
use Rattle.lg_kinds.specs.Rows.{seen_port}
use Rattle.lg_ports.proofs.GrowingLemmas.{grown_rows}
use Rattle.lg_ports.proofs.listing.list_ports.Goals as goal

pub loop-row-preserved : goal.loop-row-preserved
loop-row-preserved c =
    grown_rows (row_ports (seen_given c.args.given.now)) seen_port c.entry.result.now.ports.now c.loop-row.row-index _ c.loop-row.list c.push_row.new.list c.loop-row-test.true c.loop-row.invariant c.in_ok-push_row.ensures

use Rattle.lg_ports.specs.Given.{seen_given}
use Rattle.lg_ports.specs.Ports.{port_at}
use Rattle.lg_kinds.specs.Rows.{seen_port}
use Rattle.lg_ports.proofs.GrowingLemmas.{grown_map}
use Rattle.lg_ports.proofs.listing.push_row.Goals as goal

pub loop-k-preserved : goal.loop-k-preserved
loop-k-preserved c =
    grown_map (port_at (seen_given c.args.given.now) (seen_port c.args.row.now)) c.args.list.now c.loop-k.list c.push.new.self c.loop-k.k c.in_ok-port.port c.loop-k.invariant c.in_ok-port.ensures c.in_ok-push.ensures.ok

use Rattle.lg_ports.specs.Given.{seen_given}
use Rattle.lg_ports.specs.SplitterEnds.{ports_of_end}
use Rattle.lg_ports.proofs.GrowingLemmas.{grown_flat}
use Rattle.lg_ports.proofs.splitter.push_ends.Goals as goal

pub loop-i-preserved : goal.loop-i-preserved
loop-i-preserved c =
    grown_flat (ports_of_end (seen_given c.args.given.now)) c.args.list.now c.loop-i.list c.push_end.new.list c.loop-i.i c.loop-i.invariant c.in_ok-push_end.ensures

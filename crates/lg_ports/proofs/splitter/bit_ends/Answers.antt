use Rattle.std.proofs.Common.{[], arith}
use Rattle.lg_ports.specs.Given.{seen_given}
use Rattle.lg_ports.specs.SplitterEnds.{end_of}
use Rattle.lg_ports.proofs.GrowingLemmas.{grown_map, few_mapped}
use Rattle.lg_ports.proofs.splitter.bit_ends.Goals as goal

pub loop-k-preserved : goal.loop-k-preserved
loop-k-preserved c =
    grown_map (end_of (seen_given c.args.given.now)) [] c.loop-k.ends c.push.new.self c.loop-k.k c.in_ok-end.end c.loop-k.invariant c.in_ok-end.ensures c.in_ok-push.ensures.ok

pub returns-clause-few : goal.returns-clause-few
returns-clause-few c = few_mapped (end_of (seen_given c.args.given.now)) c.loop-k.ends c.loop-k.k 99 c.loop-k.invariant (omega (arith, c.number-k-end.ensures.small))

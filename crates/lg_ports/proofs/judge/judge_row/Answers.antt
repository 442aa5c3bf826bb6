use Rattle.std.proofs.Common.{arith}
use borrow.Author.Count.{below_more}
use Rattle.lg_ports.specs.Given.{seen_given}
use Rattle.lg_ports.specs.Judged.{EntryFits}
use Rattle.lg_kinds.specs.Rows.{seen_attribute}
use Rattle.lg_ports.proofs.judge.judge_row.Goals as goal

pub loop-k-preserved : goal.loop-k-preserved
loop-k-preserved c =
    below_more (EntryFits (seen_given c.args.given.now) (seen_attribute c.args.row.now)) c.loop-k.k c.loop-k.invariant c.in_ok-judge_one.ensures.fit

pub returns-clause-fit : goal.returns-clause-fit
returns-clause-fit c = λ k inside. c.loop-k.invariant k (omega (arith, c.count-k-end.ensures.count))

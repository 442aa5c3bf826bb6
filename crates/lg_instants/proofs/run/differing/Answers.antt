use Rattle.std.proofs.Common.{drop, arith}
use Rattle.lg_instants.proofs.Evaluations.{differing-past}
use Rattle.lg_instants.proofs.run.differing.Goals as goal

pub returns-then-i-now : goal.returns-then-i-now
returns-then-i-now c = omega (arith, differing-past (drop c.loop-i.i c.args.before.now) c.args.now.now c.loop-i.i (omega arith), c.loop-i.invariant.sum)

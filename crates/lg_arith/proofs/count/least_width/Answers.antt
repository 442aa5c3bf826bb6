use Rattle.std.proofs.Common.{arith}
use Rattle.lg_arith.proofs.CountLemmas.{least_width-leading}
use Rattle.lg_arith.proofs.count.least_width.Goals as goal

pub returns : goal.returns
returns c = least_width-leading c.args.n (omega arith)

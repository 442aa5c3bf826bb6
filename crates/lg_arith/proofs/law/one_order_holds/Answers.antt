use Rattle.lg_arith.proofs.TotalOrder.{one_order}
use Rattle.lg_arith.proofs.law.one_order_holds.Goals as goal

pub returns : goal.returns
returns c = one_order

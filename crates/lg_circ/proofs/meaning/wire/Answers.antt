use Rattle.lg_circ.proofs.Evidence.{wire_says}
use Rattle.lg_circ.proofs.meaning.wire.Goals as goal

pub returns-then-is_on_sheet-2 : goal.returns-then-is_on_sheet-2
returns-then-is_on_sheet-2 c = wire_says c.args.element.now c.in_ok-from.from c.in_ok-to.to _ c.in_ok-from.ensures c.in_ok-to.ensures

use Rattle.std.proofs.Common.{sym}
use Rattle.lg_vmachine.proofs.ShiftLemmas.{all_lost}
use Rattle.lg_vmachine.proofs.arithmetic.shift_left.Goals as goal

pub returns-else-by-lt128 : goal.returns-else-by-lt128
returns-else-by-lt128 c = sym (all_lost c.args.number 128 c.args.by c.if-by-lt128.false)

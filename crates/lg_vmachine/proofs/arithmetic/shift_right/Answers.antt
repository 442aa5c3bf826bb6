use Rattle.std.proofs.Common.{rules, sym}
use Rattle.lg_vmachine.proofs.ShiftLemmas.{none_left}
use Rattle.lg_vmachine.proofs.arithmetic.shift_right.Goals as goal

pub returns-else-by-lt128 : goal.returns-else-by-lt128
returns-else-by-lt128 c = sym (none_left c.args.number 128 c.args.by (search rules) c.if-by-lt128.false)

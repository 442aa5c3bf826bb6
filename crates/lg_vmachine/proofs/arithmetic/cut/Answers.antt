use Rattle.std.proofs.Common.{rules, bit_and, ap, ◌∙◌}
use Rattle.lg_vmachine.proofs.ShiftLemmas.{mask_cuts}
use Rattle.lg_vmachine.proofs.arithmetic.cut.Goals as goal

pub returns : goal.returns
returns c = ap (bit_and c.args.number) c.mask.ensures ∙ mask_cuts c.args.number 128 c.args.width (search rules)

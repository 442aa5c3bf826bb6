use Rattle.std.proofs.Common.{◌∙◌}
use Rattle.lg_circ.proofs.Marks.{strip_tests}
use Rattle.lg_circ.proofs.mark.starts.Goals as goal

pub returns : goal.returns
returns c = c.is_some.ensures ∙ strip_tests c.args.mark.now c.args.text.now c.strip_prefix.result c.strip_prefix.ensures.cases

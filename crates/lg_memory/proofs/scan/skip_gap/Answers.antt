use Rattle.std.proofs.Common.{◌∙◌}
use Rattle.lg_memory.proofs.RunLemmas.{tail_slice}
use Rattle.lg_memory.proofs.scan.skip_gap.Goals as goal

pub returns : goal.returns
returns c = tail_slice c.gap_len.result c.args.text.now ∙ c.gap_len.ensures.rest

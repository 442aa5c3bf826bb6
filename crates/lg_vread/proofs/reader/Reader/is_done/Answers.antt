use Rattle.std.proofs.Common.{sym, ◌∙◌}
use Rattle.lg_vread.proofs.Signs.{none_left}
use Rattle.lg_vread.proofs.reader.Reader.is_done.Goals as goal

pub returns : goal.returns
returns c = c.is_empty.ensures ∙ sym (none_left c.args.self.now)

use Rattle.std.proofs.Common.{arith}
use Rattle.lg_queue.proofs.LevelLemmas.{empty_at_top}
use Rattle.lg_queue.proofs.levels.is_empty.Goals as goal

pub returns : goal.returns
returns c = empty_at_top c.args.levels.now c.requires (omega arith) c.is_none_in.result c.is_none_in.ensures

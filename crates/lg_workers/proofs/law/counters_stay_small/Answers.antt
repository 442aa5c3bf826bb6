use Rattle.lg_workers.proofs.Window.{counter_by_rule}
use Rattle.lg_workers.proofs.law.counters_stay_small.Goals as goal

pub returns : goal.returns
returns c = counter_by_rule

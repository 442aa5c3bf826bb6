use Rattle.lg_workers.proofs.Whole.{whole_by_rule}
use Rattle.lg_workers.proofs.law.whole_lists_hold_each_job_once.Goals as goal

pub returns : goal.returns
returns c = whole_by_rule

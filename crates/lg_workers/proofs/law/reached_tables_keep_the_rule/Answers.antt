use Rattle.lg_workers.proofs.Steps.{step_keeps, reached_keeps}
use Rattle.lg_workers.proofs.law.reached_tables_keep_the_rule.Goals as goal

pub returns-clause-step : goal.returns-clause-step
returns-clause-step c = step_keeps

pub returns-clause-reached : goal.returns-clause-reached
returns-clause-reached c = reached_keeps

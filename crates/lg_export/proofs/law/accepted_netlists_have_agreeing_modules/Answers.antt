use Rattle.lg_export.proofs.Agreeing.{agrees}
use Rattle.lg_export.proofs.InTime.{agrees_in_time}
use Rattle.lg_export.proofs.law.accepted_netlists_have_agreeing_modules.Goals as goal

pub returns-clause-agrees : goal.returns-clause-agrees
returns-clause-agrees c = agrees

pub returns-clause-in_time : goal.returns-clause-in_time
returns-clause-in_time c = agrees_in_time

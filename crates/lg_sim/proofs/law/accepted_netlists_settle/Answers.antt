use Rattle.lg_sim.proofs.SettlesOnRows.{settles_on_rows}
use Rattle.lg_sim.proofs.law.accepted_netlists_settle.Goals as goal

pub returns : goal.returns
returns c = settles_on_rows

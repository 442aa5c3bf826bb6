use Rattle.lg_timing.proofs.NotTimeline.{shows_0, shows_1, shows_2, shows_3, shows_later, settles_0, settles_2, not_gate_table}
use Rattle.lg_timing.proofs.law.not_gate_answers_after_one_instant.Goals as goal

pub returns : goal.returns
returns c = record {
  instant_0 = shows_0;
  instant_1 = shows_1;
  instant_2 = shows_2;
  instant_3 = shows_3;
  later = shows_later;
  row_0 = settles_0;
  row_1 = settles_2;
  table = not_gate_table;
}

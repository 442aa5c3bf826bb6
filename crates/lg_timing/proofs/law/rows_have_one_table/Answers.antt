use Rattle.lg_timing.proofs.OneTable.{one_table}
use Rattle.lg_timing.proofs.TableExists.{table_exists}
use Rattle.lg_timing.proofs.law.rows_have_one_table.Goals as goal

pub returns : goal.returns
returns c = record {
  at_most = one_table;
  one = λ greatest circuit limit rows steady.
      let made = table_exists greatest circuit limit rows steady in
      (made.0, made.1, λ other is. one_table circuit limit rows other made.0 is made.1);
}

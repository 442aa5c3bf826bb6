use Rattle.std.proofs.Common.{◌+◌, [], None, Some, refl}
use Rattle.lg_timing.specs.Configuration.{configuration_at}
use Rattle.lg_timing.proofs.RowsOn.{rest_on}
use Rattle.lg_timing.proofs.staying_law.rows_go_from_one_configuration_to_the_next.Goals as goal

pub returns : goal.returns
returns g = record {
  table = λ c limit rows table delays. rest_on c limit [] 1 0 rows table.lines table.stop None delays (refl, refl);
  rest = λ c limit stimuli t row rows lines stop delays stay.
      rest_on c limit stimuli row (t + 1) rows lines stop (Some (configuration_at c stimuli t)) delays (t, refl, refl, stay);
}

use Rattle.lg_names.proofs.SomeNumbers.{numbers_exist}
use Rattle.lg_names.proofs.law.labels_have_numbers.Goals as goal

pub returns : goal.returns
returns c = numbers_exist

use Rattle.lg_names.proofs.SomeNames.{names_exist}
use Rattle.lg_names.proofs.law.labels_have_names.Goals as goal

pub returns : goal.returns
returns c = names_exist

use Rattle.lg_nets.proofs.SomeNets.{labels_exist, attached_exist}
use Rattle.lg_nets.proofs.law.sheets_have_labels.Goals as goal

pub returns : goal.returns
returns c = record { labels = labels_exist; attached = attached_exist }

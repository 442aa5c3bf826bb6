use Rattle.lg_memory.proofs.WidthLemmas.{AreHeld-stepped, widths-outputs}
use Rattle.lg_memory.proofs.law.widths_stay.Goals as goal

pub returns : goal.returns
returns c = record { words = AreHeld-stepped; outs = widths-outputs }

use Rattle.std.proofs.Common.{subst, sym, Result, Bor, List, ℕ}
use Rattle.lg_circ.specs.declared.fault.CircFault.{CircFault}
use Rattle.lg_circ.specs.Reading.{Gives, after_mark}
use Rattle.lg_circ.proofs.Marks.{strip_gives}
use Rattle.lg_circ.proofs.mark.strip.Goals as goal

pub returns : goal.returns
returns c = subst (λ (r : Result (Bor (List ℕ)) CircFault). Gives (λ x. x.now) r (after_mark c.args.mark.now c.args.text.now)) (sym c.ok_or.ensures.value) (strip_gives c.args.mark.now c.args.text.now c.strip_prefix.result c.strip_prefix.ensures.cases)

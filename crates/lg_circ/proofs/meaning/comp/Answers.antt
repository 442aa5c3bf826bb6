use Rattle.std.proofs.Common.{◌∙◌, sym, ap, Option, Some, List, ℕ}
use Rattle.lg_circ.proofs.Evidence.{comp_says}
use Rattle.lg_circ.proofs.meaning.comp.Goals as goal

pub returns : goal.returns
returns c =
    comp_says c.args.element.now c.in_ok-lib.lib c.in_ok-name.name c.in_ok-loc.loc c.in_ok-list.list _ (ap (λ (l : Option (List ℕ)). Some l) (sym c.value_of.ensures) ∙ c.in_ok-lib.ensures) c.in_ok-name.ensures c.in_ok-loc.ensures c.in_ok-list.ensures

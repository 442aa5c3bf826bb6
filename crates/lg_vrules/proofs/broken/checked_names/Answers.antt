use Rattle.std.proofs.Common.{sym, subst, ◌∙◌}
use Rattle.lg_vrules.specs.Known.{KnowsThings, IsIndex}
use Rattle.lg_vrules.specs.Things.{things}
use Rattle.lg_vrules.proofs.NameIndexLemmas.{narrow_names}
use Rattle.lg_vrules.proofs.RuleLemmas.{rules_kept}
use Rattle.lg_vrules.proofs.broken.checked_names.Goals as goal

pub returns-in-None-clause-narrow : goal.returns-in-None-clause-narrow
returns-in-None-clause-narrow c =
    let m = c.args.«module».now in
    let index = c.in-Some.names in
    let knows : KnowsThings (things m) index = subst (IsIndex m) c.in-Some.is c.in_ok-names.ensures in
    narrow_names m index knows (rules_kept m (sym c.in_ok-rule.ensures ∙ c.in-None.is)).narrow

use Rattle.std.proofs.Common.{map, sym, ◌∙◌}
use Rattle.std.proofs.lemmas.List.{length-map}
use Rattle.lg_vrules.specs.Rules.{same}
use Rattle.lg_vrules.proofs.DivisorLemmas.{apart}
use Rattle.lg_vrules.proofs.divisors.+same.Goals as goal

pub same_each-returns-then-exprs-others : goal.same_each-returns-then-exprs-others
same_each-returns-then-exprs-others t c =
    sym (apart (map same c.args.exprs.now) c.args.others.now (λ e. c.if-exprs-others.true (sym (length-map c.args.exprs.now same) ∙ e)))

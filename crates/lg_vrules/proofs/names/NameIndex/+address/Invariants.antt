use Rattle.std.proofs.Common.{◌≡◌, drop, map}
use Rattle.std.specs.List.{list_all}
use Rattle.lg_vrules.specs.Known.{sort_under, width_under}
use Rattle.lg_vrules.specs.Rules.{all_address}
use Rattle.lg_vrules.proofs.names.NameIndex.+address.Given as goal

-- those that are left decide
abbrev pub invariant-each_address-loop-expr : goal.invariant-each_address-loop-expr
invariant-each_address-loop-expr l =
    list_all (λ fits. fits) (map (all_address (sort_under l.self) (width_under l.self)) (drop l.expr-index l.exprs)) ≡ list_all (λ fits. fits) (map (all_address (sort_under l.self) (width_under l.self)) l.exprs)

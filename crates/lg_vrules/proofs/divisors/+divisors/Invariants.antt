use Rattle.std.proofs.Common.{◌≡◌, drop, map}
use Rattle.std.specs.List.{list_all}
use Rattle.lg_vrules.specs.Inside.{holds_inside}
use Rattle.lg_vrules.specs.Rules.{divides_safely}
use Rattle.lg_vrules.proofs.divisors.+divisors.Given as goal

-- those that are left decide
abbrev pub invariant-all_divide_safely-loop-expr : goal.invariant-all_divide_safely-loop-expr
invariant-all_divide_safely-loop-expr l =
    list_all (λ safe. safe) (map (holds_inside divides_safely) (drop l.expr-index l.exprs)) ≡ list_all (λ safe. safe) (map (holds_inside divides_safely) l.exprs)

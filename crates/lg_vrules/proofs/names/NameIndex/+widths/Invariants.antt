use Rattle.std.proofs.Common.{◌≡◌, ◌≤◌, ◌+◌, ◌*◌, drop, map}
use Rattle.std.specs.Prelude.{option_map}
use Rattle.lg_vrules.specs.Known.{width_under}
use Rattle.lg_vrules.specs.Rules.{sum_of, expr_width}
use Rattle.lg_vrules.proofs.names.NameIndex.+widths.Given as goal

-- the sum so far and the widths that are left make the sum of all
abbrev pub invariant-sum_of_widths-loop-expr : goal.invariant-sum_of_widths-loop-expr
invariant-sum_of_widths-loop-expr l = record {
  value : option_map (λ rest. l.sum + rest) (sum_of (map (expr_width (width_under l.self)) (drop l.expr-index l.exprs))) ≡ sum_of (map (expr_width (width_under l.self)) l.exprs);
  few : l.sum ≤ 128 * l.expr-index;
}

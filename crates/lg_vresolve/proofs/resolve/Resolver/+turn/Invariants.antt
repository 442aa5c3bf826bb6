use Rattle.std.proofs.Common.{◌≡◌, map, fold, take}
use Rattle.lg_vrules.specs.Known.{width_under}
use Rattle.lg_vrules.specs.Indexes.{index_under}
use Rattle.lg_vresolve.specs.Resolved.{resolved, resolved_join}
use Rattle.lg_vresolve.proofs.resolve.Resolver.+turn.Given as goal

abbrev pub invariant-join_all-loop-expr : goal.invariant-join_all-loop-expr
invariant-join_all-loop-expr l =
    l.joined ≡ fold resolved_join l.fn.high (map (resolved (width_under l.fn.self.names.now) (index_under l.fn.self.numbers.now) (index_under l.fn.self.memories.now)) (take l.expr-index l.exprs))

use Rattle.std.proofs.Common.{◌≡◌, drop, map}
use Rattle.std.specs.List.{list_all}
use Rattle.lg_vrules.specs.Known.{sort_under}
use Rattle.lg_vrules.specs.Rules.{reads_declared}
use Rattle.lg_vrules.proofs.names.NameIndex.+reads.Given as goal

-- all of them pass where those that are left do
abbrev pub invariant-all_read_declared-loop-expr : goal.invariant-all_read_declared-loop-expr
invariant-all_read_declared-loop-expr l =
    list_all (λ reads. reads) (map (reads_declared (sort_under l.self)) (drop l.expr-index l.exprs)) ≡ list_all (λ reads. reads) (map (reads_declared (sort_under l.self)) l.exprs)

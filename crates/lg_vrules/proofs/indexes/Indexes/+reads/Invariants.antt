use Rattle.std.proofs.Common.{◌≡◌, ◌++◌, drop, map}
use Rattle.std.specs.List.{flat_map}
use Rattle.lg_vrules.specs.Indexes.{index_under, indexes_of}
use Rattle.lg_vrules.specs.Depends.{names_read}
use Rattle.lg_vrules.proofs.indexes.Indexes.+reads.Given as goal

-- the indexes so far and those of the expressions that are left are all
abbrev pub invariant-put_all-loop-expr : goal.invariant-put_all-loop-expr
invariant-put_all-loop-expr l =
    l.reads ++ indexes_of (index_under l.self) (flat_map (λ names. names) (map names_read (drop l.expr-index l.exprs))) ≡ l.fn.reads ++ indexes_of (index_under l.self) (flat_map (λ names. names) (map names_read l.exprs))

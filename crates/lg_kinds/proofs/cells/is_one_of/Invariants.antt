use Rattle.std.proofs.Common.{◌≡◌, ◌-◌}
use Rattle.std.specs.List.{list_any, range_with_len}
use Rattle.std.specs.Str.{bytes_eq}
use Rattle.lg_kinds.specs.Rows.{name_at}
use Rattle.lg_kinds.specs.TableFile.{is_one_of, most_of}
use Rattle.lg_kinds.proofs.cells.is_one_of.Given as goal

-- the names so far are others
abbrev pub invariant-loop-k : goal.invariant-loop-k
invariant-loop-k l =
    list_any (λ k. bytes_eq l.text (name_at l.name l.count k)) (range_with_len l.k (most_of l.count - l.k)) ≡ is_one_of l.name l.count l.text

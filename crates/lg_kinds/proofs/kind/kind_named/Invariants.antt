use Rattle.std.proofs.Common.{◌≡◌, drop}
use Rattle.std.specs.Prelude.{find}
use Rattle.std.specs.Str.{bytes_eq}
use Rattle.lg_kinds.specs.Table.{name_of}
use Rattle.lg_kinds.proofs.kind.kind_named.Given as goal

-- the kinds so far have other names
abbrev pub invariant-loop-kind : goal.invariant-loop-kind
invariant-loop-kind l =
    find (λ kind. bytes_eq (name_of kind) l.name) (drop l.kind-index l.kinds) ≡ find (λ kind. bytes_eq (name_of kind) l.name) l.kinds

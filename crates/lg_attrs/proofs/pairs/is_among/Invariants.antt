use Rattle.std.proofs.Common.{◌≡◌, drop}
use Rattle.std.specs.List.{list_any}
use Rattle.std.specs.Str.{bytes_eq}
use Rattle.lg_attrs.specs.Pairs.{texts}
use Rattle.lg_attrs.proofs.pairs.is_among.Given as goal

-- the names so far are others
abbrev pub invariant-loop-other : goal.invariant-loop-other
invariant-loop-other l = list_any (bytes_eq l.name) (texts (drop l.other-index l.names)) ≡ list_any (bytes_eq l.name) (texts l.names)

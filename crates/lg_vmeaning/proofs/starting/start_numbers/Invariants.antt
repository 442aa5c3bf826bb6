use Rattle.std.proofs.Common.{◌≡◌, take}
use Rattle.std.specs.Prelude.{filter_map}
use Rattle.lg_vmeaning.specs.Rows.{start_number}
use Rattle.lg_vmeaning.proofs.starting.start_numbers.Given as goal

-- the numbers so far
abbrev pub invariant-loop-decl : goal.invariant-loop-decl
invariant-loop-decl l = l.numbers.items ≡ filter_map start_number (take l.decl-index l.decls)

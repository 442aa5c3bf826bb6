use Rattle.std.proofs.Common.{◌≡◌, ◌++◌, length, take}
use Rattle.std.specs.Prelude.{zip}
use Rattle.std.specs.Fmt.{decimal}
use Rattle.lg_vrows.specs.Steps.{lines}
use Rattle.lg_vrows.proofs.TextLemmas.{number_fields}
use Rattle.lg_vrows.proofs.text.put_row.Given as goal

-- the row's number and the fields so far
abbrev pub invariant-loop-port : goal.invariant-loop-port
invariant-loop-port l = l.text.items ≡ (l.fn.text.items ++ decimal l.number) ++ number_fields (take (length l.yielded) (zip (lines l.ports) l.out))

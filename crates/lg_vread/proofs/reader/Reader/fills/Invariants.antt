use Rattle.std.proofs.Common.{length}
use Rattle.std.specs.Prelude.{codes}
use Rattle.lg_vread.specs.Lexing.{left}
use Rattle.lg_vread.specs.Reading.{is_at, all_at, fill_at}
use Rattle.lg_vread.proofs.Many.{IsPartway}
use Rattle.lg_vread.proofs.reader.Reader.fills.Given as goal

abbrev pub invariant-loop-alloc : goal.invariant-loop-alloc
invariant-loop-alloc l = IsPartway (is_at (codes "for")) fill_at (all_at (is_at (codes "for")) fill_at (left l.fn.self)) l.fills (left l.self)

abbrev pub decreases-loop-alloc : goal.decreases-loop-alloc
decreases-loop-alloc l = length (left l.self)

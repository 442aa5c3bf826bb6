use Rattle.std.proofs.Common.{length}
use Rattle.lg_vread.specs.Lexing.{left}
use Rattle.lg_vread.specs.Reading.{all_at, declares, decl_at}
use Rattle.lg_vread.proofs.Many.{IsPartway}
use Rattle.lg_vread.proofs.reader.Reader.decls.Given as goal

abbrev pub invariant-loop-alloc : goal.invariant-loop-alloc
invariant-loop-alloc l = IsPartway declares decl_at (all_at declares decl_at (left l.fn.self)) l.decls (left l.self)

abbrev pub decreases-loop-alloc : goal.decreases-loop-alloc
decreases-loop-alloc l = length (left l.self)

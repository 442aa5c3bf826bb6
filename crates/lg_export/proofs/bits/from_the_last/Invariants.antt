use Rattle.std.proofs.Common.{◌≡◌, map}
use Rattle.lg_export.specs.Layout.{run_expr}
use Rattle.lg_export.specs.Stack.{as_run}
use Rattle.lg_export.proofs.bits.from_the_last.Given as goal

-- the runs so far are written
abbrev pub invariant-loop-run : goal.invariant-loop-run
invariant-loop-run l = l.found ≡ map run_expr (map as_run l.yielded)

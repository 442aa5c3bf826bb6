use Rattle.std.proofs.Common.{ℕ, List, ◌++◌, drop}
use Rattle.lg_vmeaning.specs.Solution.{IsOf}
use Rattle.lg_vmeaning.specs.Rows.{start, AreRows}
use Rattle.lg_vmeaning.proofs.valid_module.Valid.run_rows.Given as goal

-- outputs of the rows that are left, from what is kept now, complete the outputs
abbrev pub invariant-loop-row : goal.invariant-loop-row
invariant-loop-row l =
    IsOf l.self l.regs × ((more : List (List ℕ)) → AreRows l.self l.regs (drop l.row-index l.rows) more → AreRows l.self (start l.self) l.rows (l.outs.items ++ more))

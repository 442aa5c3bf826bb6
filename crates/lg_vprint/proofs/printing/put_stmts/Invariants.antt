use Rattle.std.proofs.Common.{◌≡◌, ◌++◌, drop}
use Rattle.std.specs.Prelude.{IsTrue}
use Rattle.std.specs.List.{flat_map, list_all}
use Rattle.lg_vtree.specs.Printed.{stmt_text}
use Rattle.lg_vtree.specs.Grammar.{is_token, stmt_tokens}
use Rattle.lg_vprint.proofs.printing.put_stmts.Given as goal

-- what is printed and what is left are all, and all are of the subset where what is left is
abbrev pub invariant-loop-stmt : goal.invariant-loop-stmt
invariant-loop-stmt l =
    (l.out.items ++ flat_map stmt_text (drop l.stmt-index l.stmts) ≡ l.fn.out.items ++ flat_map stmt_text l.stmts)
    × (IsTrue (list_all is_token (flat_map stmt_tokens (drop l.stmt-index l.stmts))) → IsTrue (list_all is_token (flat_map stmt_tokens l.stmts)))

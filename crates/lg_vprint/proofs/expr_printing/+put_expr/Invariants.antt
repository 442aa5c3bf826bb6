use Rattle.std.proofs.Common.{◌≡◌, ◌++◌, drop, map}
use Rattle.std.specs.Prelude.{codes, IsTrue}
use Rattle.std.specs.List.{flat_map, list_all}
use Rattle.lg_vtree.specs.Printed.{after_commas, expr_text}
use Rattle.lg_vtree.specs.Grammar.{is_token, expr_tokens}
use Rattle.lg_vprint.proofs.expr_printing.+put_expr.Given as goal

-- what is printed, what is left and the brace are all, and all are of the subset where what is left is
abbrev pub invariant-loop-other : goal.invariant-loop-other
invariant-loop-other l =
    ((l.out.items ++ after_commas (map expr_text (drop l.other-index l.other-items))) ++ codes "}" ≡ l.fn.out.items ++ expr_text l.expr)
    × (IsTrue (list_all is_token (flat_map expr_tokens (drop l.other-index l.other-items))) → IsTrue (list_all is_token (expr_tokens l.expr)))

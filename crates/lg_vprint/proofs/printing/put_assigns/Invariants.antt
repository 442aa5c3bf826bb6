use Rattle.std.proofs.Common.{◌≡◌, ◌++◌, drop}
use Rattle.std.specs.Prelude.{IsTrue}
use Rattle.std.specs.List.{flat_map, list_all}
use Rattle.lg_vtree.specs.Printed.{assign_text}
use Rattle.lg_vtree.specs.Grammar.{is_token, assign_tokens}
use Rattle.lg_vprint.proofs.printing.put_assigns.Given as goal

-- what is printed and what is left are all, and all are of the subset where what is left is
abbrev pub invariant-loop-assign : goal.invariant-loop-assign
invariant-loop-assign l =
    (l.out.items ++ flat_map assign_text (drop l.assign-index l.assigns) ≡ l.fn.out.items ++ flat_map assign_text l.assigns)
    × (IsTrue (list_all is_token (flat_map assign_tokens (drop l.assign-index l.assigns))) → IsTrue (list_all is_token (flat_map assign_tokens l.assigns)))

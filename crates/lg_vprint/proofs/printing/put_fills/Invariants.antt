use Rattle.std.proofs.Common.{◌≡◌, ◌++◌, drop}
use Rattle.std.specs.Prelude.{IsTrue}
use Rattle.std.specs.List.{flat_map, list_all}
use Rattle.lg_vtree.specs.Printed.{fill_text}
use Rattle.lg_vtree.specs.Grammar.{is_token, fill_tokens}
use Rattle.lg_vprint.proofs.printing.put_fills.Given as goal

-- what is printed and what is left are all, and all are of the subset where what is left is
abbrev pub invariant-loop-fill : goal.invariant-loop-fill
invariant-loop-fill l =
    (l.out.items ++ flat_map fill_text (drop l.fill-index l.fills) ≡ l.fn.out.items ++ flat_map fill_text l.fills)
    × (IsTrue (list_all is_token (flat_map fill_tokens (drop l.fill-index l.fills))) → IsTrue (list_all is_token (flat_map fill_tokens l.fills)))

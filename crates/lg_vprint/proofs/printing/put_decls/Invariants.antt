use Rattle.std.proofs.Common.{◌≡◌, ◌++◌, drop}
use Rattle.std.specs.Prelude.{IsTrue}
use Rattle.std.specs.List.{flat_map, list_all, AllByRecursion}
use Rattle.lg_vtree.specs.Printed.{decl_text}
use Rattle.lg_vtree.specs.Grammar.{is_token, decl_tokens, is_high, decl_range}
use Rattle.lg_vprint.proofs.printing.put_decls.Given as goal

-- what is printed and what is left are all, and all are of the subset where what is left is
abbrev pub invariant-loop-decl : goal.invariant-loop-decl
invariant-loop-decl l =
    (l.out.items ++ flat_map decl_text (drop l.decl-index l.decls) ≡ l.fn.out.items ++ flat_map decl_text l.decls)
    × (IsTrue (list_all is_token (flat_map decl_tokens (drop l.decl-index l.decls))) → IsTrue (list_all is_token (flat_map decl_tokens l.decls)))
    × (AllByRecursion (λ d. IsTrue (is_high (decl_range d))) (drop l.decl-index l.decls) → AllByRecursion (λ d. IsTrue (is_high (decl_range d))) l.decls)

use Rattle.std.proofs.Common.{◌≡◌, ◌++◌, drop}
use Rattle.std.specs.Prelude.{IsTrue}
use Rattle.std.specs.List.{flat_map, list_all, AllByRecursion}
use Rattle.lg_vtree.specs.Printed.{ports_text}
use Rattle.lg_vtree.specs.Grammar.{is_token, port_tokens, is_high}
use Rattle.lg_vprint.proofs.printing.put_ports.Given as goal

-- what is printed and what is left are all, and all are of the subset where what is left is
abbrev pub invariant-loop-i : goal.invariant-loop-i
invariant-loop-i l =
    (l.out.items ++ ports_text (drop l.i l.ports) ≡ l.fn.out.items ++ ports_text l.ports)
    × (IsTrue (list_all is_token (flat_map port_tokens (drop l.i l.ports))) → IsTrue (list_all is_token (flat_map port_tokens l.ports)))
    × (AllByRecursion (λ p. IsTrue (is_high p.range)) (drop l.i l.ports) → AllByRecursion (λ p. IsTrue (is_high p.range)) l.ports)

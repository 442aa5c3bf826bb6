-- Something drives each net but the first too.
use Rattle.std.proofs.Common.{◌≡◌, ℕ, ◌-◌, false, length, drop, take}
use Rattle.std.proofs.lemmas.List.Elements.{All-get_or, All-drop, All-take}
use Rattle.lg_netlist.specs.Acceptance.{is_undriven}
use Rattle.lg_export.proofs.bits.Wires.bits_value.Goals as goal

pub run_on-requires-in-loop-net-clause-driven : goal.run_on-requires-in-loop-net-clause-driven
run_on-requires-in-loop-net-clause-driven c =
    let bits = c.args.bits.now in
    let driven = λ (net : ℕ). is_undriven c.args.self.now.netlist.now net ≡ false in
    All-get_or driven (take (length bits - 1) (drop 1 bits)) c.loop-net.net-index 0 c.loop-net-test.true
    (All-take driven (length bits - 1) (drop 1 bits) (All-drop driven 1 bits c.requires.readable.driven))

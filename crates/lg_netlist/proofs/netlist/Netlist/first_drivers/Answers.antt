-- At the end the first of each net's two stands there.
use Rattle.std.proofs.Common.{ap, map, subst, sym, ◌∙◌}
use Rattle.std.proofs.lemmas.List.{take_all}
use Rattle.lg_netlist.specs.declared.first_two.FirstTwo.{FirstTwo}
use Rattle.lg_netlist.specs.FirstTwo.{AreFirstTwo}
use Rattle.lg_netlist.proofs.FirstTwoLemmas.{first_drivers_are}
use Rattle.lg_netlist.proofs.netlist.Netlist.first_drivers.Goals as goal

pub returns : goal.returns
returns c =
    let twos = c.deref-two-items.result.now in
    c.loop-two.invariant
    ∙ (ap (map (λ (two : FirstTwo). two.first)) (take_all c.loop-two.two-index twos c.loop-two-test.false)
    ∙ first_drivers_are c.args.self.now twos (subst (AreFirstTwo c.args.self.now) (sym c.deref-two-items.ensures.value) c.in_ok-twos.ensures))

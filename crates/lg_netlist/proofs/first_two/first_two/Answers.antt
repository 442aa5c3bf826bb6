-- Each driver is on a net of the netlist.
use Rattle.std.proofs.Common.{◌≡◌, ◌+◌, ◌<◌, ◌∷◌, [], ◌++◌, ℕ, List, length, get_or, take, set, sym, subst, ap, ◌∙◌, arith, vec_len}
use Rattle.std.specs.Prelude.{All}
use Rattle.std.proofs.lemmas.List.{take_more}
use Rattle.lg_netlist.specs.declared.drivers.Driver.{Driver}
use Rattle.lg_netlist.specs.declared.drivers.Driver.TheVariants.{Part}
use Rattle.lg_netlist.specs.declared.first_two.FirstTwo.{FirstTwo}
use Rattle.lg_netlist.specs.Drivers.{all_drivers}
use Rattle.lg_netlist.specs.FirstTwo.{AreTwoOf, AreFirstTwo}
use Rattle.lg_netlist.proofs.DriverLemmas.{IsOnNet, drivers_on_nets}
use Rattle.lg_netlist.proofs.FirstTwoLemmas.{AreTwoOf-more}
use Rattle.lg_netlist.proofs.first_two.first_two.Goals as goal

-- the driver of this turn is on a net
on_net : (c : goal.After-note-arg-1) → IsOnNet c.args.netlist.now (get_or c.deref-net-items.result.now c.loop-net.net-index (0, Part 0 0 0))
on_net c =
    subst (λ (all : List (ℕ × Driver)). All (IsOnNet c.args.netlist.now) all) (sym (c.deref-net-items.ensures.value ∙ c.in_ok-all_drivers.ensures)) (drivers_on_nets c.args.netlist.now)
    c.loop-net.net-index (0, Part 0 0 0) c.loop-net-test.true

pub note-requires : goal.note-requires
note-requires c =
    let on = on_net c in
    let net = on.0 in
    let each = c.loop-net.invariant.one_each in
    let len : vec_len c.loop-net.twos ≡ length c.loop-net.twos.items = c.loop-net.twos.ok.0 in
    omega arith

pub loop-net-preserved : goal.loop-net-preserved
loop-net-preserved c =
    let all = c.deref-net-items.result.now in
    let d = get_or all c.loop-net.net-index (0, Part 0 0 0) in
    let on = subst (λ (all : List (ℕ × Driver)). All (IsOnNet c.args.netlist.now) all) (sym (c.deref-net-items.ensures.value ∙ c.in_ok-all_drivers.ensures)) (drivers_on_nets c.args.netlist.now)
    c.loop-net.net-index (0, Part 0 0 0) c.loop-net-test.true in
    rw (take_more all c.loop-net.net-index (0, Part 0 0 0) c.loop-net-test.true, c.note.ensures)
    (AreTwoOf-more c.args.netlist.now.nets (take c.loop-net.net-index all) c.loop-net.twos.items d.0 d.1 on.0 c.loop-net.invariant)

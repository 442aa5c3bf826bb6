-- Parts, pins and clocks are counted in 32 bits, and at the end none are left.
use Rattle.std.proofs.Common.{◌≡◌, ◌<◌, ◌++◌, ◌^◌, [], ℕ, List, length, sym, subst, ap, ◌∙◌, arith}
use Rattle.std.specs.Prelude.{map}
use Rattle.std.specs.List.{enumerate_from}
use Rattle.std.proofs.lemmas.List.{append-nil, at_drop_all}
use Rattle.lg_netlist.specs.declared.drivers.Driver.{Driver}
use Rattle.lg_netlist.specs.declared.netlist.PinUse.{PinUse}
use Rattle.lg_netlist.specs.Drivers.{clock_driver}
use Rattle.lg_netlist.proofs.netlist.Netlist.all_drivers.Goals as goal

pub overflow_cast-pin : goal.overflow_cast-pin
overflow_cast-pin c =
    let few : length c.as_slice-used-items-2.result.now < 2 ^ 32 = subst (λ (xs : List PinUse). length xs < 2 ^ 32) (sym c.as_slice-used-items-2.ensures) c.args.self.now.valid.few_pins in
    omega arith

pub overflow_cast-clock : goal.overflow_cast-clock
overflow_cast-clock c =
    let few : length c.as_slice-net-items.result.now < 2 ^ 32 = subst (λ (xs : List (ℕ × List ℕ)). length xs < 2 ^ 32) (sym c.as_slice-net-items.ensures) c.args.self.now.valid.few_clocks in
    omega arith

pub returns : goal.returns
returns c =
    let all = c.loop-clock.found.items in
    let clocks = c.args.self.now.clocks in
    let i = c.loop-clock.clock in
    let same = ap length c.as_slice-net-items.ensures in
    let none = at_drop_all (λ (xs : List (ℕ × List ℕ)). map clock_driver (enumerate_from i xs)) clocks i (omega arith) in
    sym (append-nil all) ∙ (ap (λ (xs : List (ℕ × Driver)). all ++ xs) (sym none) ∙ c.loop-clock.invariant)

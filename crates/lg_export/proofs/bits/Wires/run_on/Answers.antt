-- A net that something drives has a first driver, which says what it carries.
use Rattle.std.proofs.Common.{◌≡◌, Some, sym, ◌∙◌, arith}
use Rattle.std.proofs.lemmas.Result.{IfOk-weaker}
use Rattle.lg_netlist.specs.Drivers.{first_driver}
use Rattle.lg_export.proofs.FirstDrivers.{known_length, known_at, driven_has_first, first_is_driver, bit_on-first}
use Rattle.lg_export.proofs.bits.Wires.run_on.Goals as goal
use Rattle.lg_export.proofs.bits.Wires.run_on.Goals.{In-Some}

first_is : (c : In-Some) → first_driver c.args.self.now.netlist.now c.args.net ≡ Some c.in-Some.driver
first_is c = sym (known_at c.args.self.now c.args.net c.index.result.now c.requires.known c.requires.within) ∙ (sym c.index.ensures ∙ c.in-Some.is)

pub index-requires : goal.index-requires
index-requires c = omega (arith, known_length c.args.self.now c.requires.known, c.args.self.now.first.ok.0, c.requires.within)

pub run_of-requires : goal.run_of-requires
run_of-requires c = first_is_driver c.args.self.now.netlist.now c.args.net c.in-Some.driver (first_is (goal.at.run_of-requires c).In-Some)

pub unreachable-requires : goal.unreachable-requires
unreachable-requires c =
    driven_has_first c.args.self.now.netlist.now c.args.net c.requires.driven
    (sym (known_at c.args.self.now c.args.net c.index.result.now c.requires.known c.requires.within) ∙ (sym c.index.ensures ∙ c.in-None.is))

pub returns : goal.returns
returns c =
    IfOk-weaker c.run_of.result _ _ (λ run h. (h.0 ∙ bit_on-first c.args.self.now.netlist.now c.args.net c.in-Some.driver (first_is (goal.at.returns c).In-Some), h.1)) c.run_of.ensures

use Rattle.std.proofs.Common.{◌≡◌, drop}
use Rattle.std.specs.Option.{option_or}
use Rattle.lg_netlist.specs.Acceptance.{first_said, undriven_part, undriven_pin, undriven}
use Rattle.lg_netlist.proofs.netlist.Netlist.undriven.Given as goal

-- what is said of the parts that are left, else of the pins
abbrev pub invariant-loop-part : goal.invariant-loop-part
invariant-loop-part l = option_or (first_said (undriven_part l.self) (drop l.part-index l.self.parts)) (first_said (undriven_pin l.self) l.self.pins) ≡ undriven l.self

-- what is said of the pins that are left
abbrev pub invariant-loop-pin : goal.invariant-loop-pin
invariant-loop-pin l = first_said (undriven_pin l.self) (drop l.pin-index l.self.pins) ≡ undriven l.self

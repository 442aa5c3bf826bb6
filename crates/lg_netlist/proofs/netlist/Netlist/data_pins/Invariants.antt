use Rattle.std.proofs.Common.{◌≡◌, ◌++◌, drop}
use Rattle.lg_netlist.specs.Static.{data_pins}
use Rattle.lg_netlist.proofs.PinLemmas.{pointed, data_pins_from}
use Rattle.lg_netlist.proofs.netlist.Netlist.data_pins.Given as goal

-- the pins so far and those that are left are all
abbrev pub invariant-loop-index : goal.invariant-loop-index
invariant-loop-index l = pointed l.pins.items ++ data_pins_from l.self.clock_pin l.index (drop l.index l.pin-items) ≡ data_pins l.self

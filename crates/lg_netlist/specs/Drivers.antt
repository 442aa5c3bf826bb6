-- What drives the nets of a netlist. Source: the Logisim-evolution user guide, Wire values.
use Rattle.std.specs.Prelude.{ℕ, ◌<◌, ◌==◌, List, [], ◌++◌, length, map, filter, Option, slice_get, if◌then◌else◌}
use Rattle.std.specs.List.{flat_map, enumerate_from}
use Rattle.lg_netlist.specs.declared.drivers.Driver.{Driver}
use Rattle.lg_netlist.specs.declared.drivers.Driver.TheVariants.{Part, Pin, Clock}
use Rattle.lg_netlist.specs.declared.netlist.PartUse.{PartUse}
use Rattle.lg_netlist.specs.declared.netlist.PinUse.{PinUse}
use Rattle.lg_netlist.specs.declared.netlist.Netlist.{Netlist}

-- items with their places
abbrev pub numbered : {A : Type 0} → List A → List (ℕ × A)
numbered items = enumerate_from 0 items

-- the drivers that the bits of an output of a part are, each with its net
abbrev pub output_drivers : ℕ → ℕ × List ℕ → List (ℕ × Driver)
output_drivers part o = map (λ (b : ℕ × ℕ). (b.1, Part part o.0 b.0)) (numbered o.1)

-- those of all outputs of a part
abbrev pub part_drivers : ℕ × PartUse → List (ℕ × Driver)
part_drivers p = flat_map (output_drivers p.0) (numbered p.1.outputs)

-- those that the bits of an input pin are
abbrev pub pin_drivers : ℕ × PinUse → List (ℕ × Driver)
pin_drivers p = if p.1.input then map (λ (b : ℕ × ℕ). (b.1, Pin p.0 b.0)) (numbered p.1.bits) else []

-- the one that a clock is
abbrev pub clock_driver : ℕ × (ℕ × List ℕ) → ℕ × Driver
clock_driver c = (c.1.0, Clock c.0)

-- all drivers, each with its net: the outputs of parts, then the input pins, then the clocks
abbrev pub all_drivers : Netlist → List (ℕ × Driver)
all_drivers n = flat_map part_drivers (numbered n.parts) ++ flat_map pin_drivers (numbered n.pins) ++ map clock_driver (numbered n.clocks)

-- the drivers among some that drive a net
abbrev pub on_net : ℕ → List (ℕ × Driver) → List Driver
on_net net all = map (λ (d : ℕ × Driver). d.1) (filter (λ (d : ℕ × Driver). d.0 == net) all)

-- what drives a net
abbrev pub drivers : Netlist → ℕ → List Driver
drivers n net = on_net net (all_drivers n)

-- the first driver of a net, where it has one
abbrev pub first_driver : Netlist → ℕ → Option Driver
first_driver n net = slice_get (drivers n net) 0

-- the netlist has such a driver
abbrev pub IsDriver : Netlist → Driver → Type 0
IsDriver n (Part part output bit) = part < length n.parts
IsDriver n (Pin pin bit) = pin < length n.pins
IsDriver n (Clock clock) = clock < length n.clocks

-- Which netlists can be exported: those that none of these conditions refuses. Source: what synthesis asks of a
-- combinational circuit, in this project's order.
use Rattle.std.specs.Prelude.{◌≡◌, ℕ, ◌==◌, Bool, true, false, not, ◌&&◌, List, [], ◌∷◌, length, Option, Some, None, ◌⊎◌, slice_get, slice_index_or, if◌then◌else◌, codes}
use Rattle.std.specs.List.{list_all, list_any, range_with_len}
use Rattle.std.specs.Option.{option_or}
use Rattle.lg_netlist.specs.declared.acceptance.NotAccepted.{NotAccepted}
use Rattle.lg_netlist.specs.declared.acceptance.NotAccepted.TheVariants as refusal
use Rattle.lg_netlist.specs.declared.cell.Loose.{Loose}
use Rattle.lg_netlist.specs.declared.cell.Loose.TheVariants as loose
use Rattle.lg_netlist.specs.declared.drivers.Driver.{Driver}
use Rattle.lg_netlist.specs.declared.drivers.Driver.TheVariants.{Part, Pin, Clock}
use Rattle.lg_netlist.specs.declared.netlist.PartUse.{PartUse}
use Rattle.lg_netlist.specs.declared.netlist.PinUse.{PinUse}
use Rattle.lg_netlist.specs.declared.netlist.Netlist.{Netlist}
use Rattle.lg_netlist.specs.Cell.{loose_of, input_name}
use Rattle.lg_netlist.specs.Chain.{IsFirstOnCycle}
use Rattle.lg_netlist.specs.Drivers.{numbered, drivers}

-- what is said of the first item of which anything is said
abbrev pub first_said : {A B : Type 0} → (A → Option B) → List A → Option B
first_said says [] = None
first_said says (x ∷ more) = option_or (says x) (first_said says more)

-- the name of a driver: of the part, the pin or the clock
abbrev pub driver_name : Netlist → Driver → List ℕ
driver_name n (Part part output bit) = name_of (slice_get n.parts part)
  where
    name_of : Option PartUse → List ℕ
    name_of None = []
    name_of (Some p) = p.name
driver_name n (Pin pin bit) = place_of (slice_get n.pins pin)
  where
    place_of : Option PinUse → List ℕ
    place_of None = []
    place_of (Some p) = p.place
driver_name n (Clock clock) = (slice_index_or n.clocks clock (0, [])).1

-- two drivers on a net, the first two
abbrev pub contested_by : Netlist → ℕ → List Driver → Option NotAccepted
contested_by n net (first ∷ second ∷ more) = Some (refusal.ManyDrivers net (driver_name n first) (driver_name n second))
contested_by n net _ = None

-- the least net with two drivers
abbrev pub many_drivers : Netlist → Option NotAccepted
many_drivers n = first_said (λ net. contested_by n net (drivers n net)) (range_with_len 0 n.nets)

-- nothing drives the net
abbrev pub is_undriven : Netlist → ℕ → Bool
is_undriven n net = length (drivers n net) == 0

-- a port to which nothing is attached
abbrev pub is_loose : List ℕ → Bool
is_loose bits = length bits == 0

-- whether an unattached input of a part is a fault: it then reads nothing, or its gate has no attached input at all
abbrev pub lacks_input : Loose → PartUse → Bool
lacks_input loose.Ignored p = list_all is_loose p.inputs
lacks_input loose.Unknown p = true
lacks_input loose.Zero p = false
lacks_input loose.One p = false

-- whether an input of a part reads what nothing drives
abbrev pub reads_undriven : Netlist → PartUse → ℕ → List ℕ → Bool
reads_undriven n p input [] = lacks_input (loose_of p.cell input) p
reads_undriven n p input (bit ∷ bits) = list_any (is_undriven n) (bit ∷ bits)

abbrev pub undriven_input : Netlist → PartUse → ℕ × List ℕ → Option NotAccepted
undriven_input n p i = if reads_undriven n p i.0 i.1 then Some (refusal.Undriven p.name (input_name p.cell i.0)) else None

-- the first such input of a part
abbrev pub undriven_part : Netlist → PartUse → Option NotAccepted
undriven_part n p = first_said (undriven_input n p) (numbered p.inputs)

-- an output pin with a bit that nothing drives
abbrev pub undriven_pin : Netlist → PinUse → Option NotAccepted
undriven_pin n p = if not p.input && list_any (is_undriven n) p.bits then Some (refusal.Undriven p.place (codes "p")) else None

-- the first part with such an input, else the first such pin
abbrev pub undriven : Netlist → Option NotAccepted
undriven n = option_or (first_said (undriven_part n) n.parts) (first_said (undriven_pin n) n.pins)

-- the first part with an output on a cycle
abbrev pub IsCycle : Netlist → NotAccepted → Type 0
IsCycle n fault = (part : ℕ) × (p : PartUse) × IsFirstOnCycle n part × (slice_get n.parts part ≡ Some p) × (fault ≡ refusal.Cycle p.name)

-- why a netlist can be refused
pub data Condition : Type 0 where
  ManyDrivers : Condition
  Undriven : Condition
  Cycle : Condition

-- the conditions that there are, in the order in which they are told
abbrev pub conditions : List Condition
conditions = ManyDrivers ∷ Undriven ∷ Cycle ∷ []

-- the condition holds of the netlist, with these names
abbrev pub Refuses : Condition → Netlist → NotAccepted → Type 0
Refuses ManyDrivers n fault = many_drivers n ≡ Some fault
Refuses Undriven n fault = undriven n ≡ Some fault
Refuses Cycle n fault = IsCycle n fault

-- the first of these conditions that holds, with its names
abbrev pub IsRefusedBy : List Condition → Netlist → NotAccepted → Type 0
IsRefusedBy [] n fault = ⊥
IsRefusedBy (first ∷ more) n fault =
    Refuses first n fault ⊎ (((other : NotAccepted) → Refuses first n other → ⊥) × IsRefusedBy more n fault)

-- why the netlist is not accepted
abbrev pub IsRefused : Netlist → NotAccepted → Type 0
IsRefused n fault = IsRefusedBy conditions n fault

-- the netlist is accepted: no condition holds of it
abbrev pub IsAccepted : Netlist → Type 0
IsAccepted n = (condition : Condition) (fault : NotAccepted) → Refuses condition n fault → ⊥

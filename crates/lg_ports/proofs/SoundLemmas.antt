-- What each entry of the table of kinds is asked for, so that ports have their bounds.
use Rattle.std.proofs.Common.{◌≡◌, ℕ, Bool, true, false, cond, List, [], ◌∷◌, Option, Some, None, refl}
use Rattle.std.specs.Prelude.{◌&&◌, not, nat_le, is_some, codes}
use Rattle.std.specs.List.{list_all}
use Rattle.lg_kinds.specs.declared.kind.Kind.{Kind}
use Rattle.lg_kinds.specs.declared.kind.Kind.TheVariants.{Pin, Tunnel, Splitter, Clock, Constant, Power, Ground, PullResistor, BitExtender, NotGate, Buffer, AndGate, OrGate, NandGate, NorGate, XorGate, XnorGate, OddParity, EvenParity, ControlledBuffer, ControlledInverter, Multiplexer, Demultiplexer, Decoder, PriorityEncoder, BitSelector, Adder, Subtractor, Multiplier, Divider, Negator, Comparator, Shifter, BitAdder, DFlipFlop, TFlipFlop, JkFlipFlop, SrFlipFlop, Register, Counter, ShiftRegister, Rom, Ram, Probe, Led, Text, HexDisplay, SegmentDisplay}
use Rattle.lg_kinds.specs.declared.port.Side.{Side}
use Rattle.lg_kinds.specs.declared.port.Side.TheVariants.{In, Out}
use Rattle.lg_kinds.specs.declared.rows.Count.{Count}
use Rattle.lg_kinds.specs.declared.rows.Count.TheVariants.{Once}
use Rattle.lg_kinds.specs.declared.rows.Size.{Size}
use Rattle.lg_kinds.specs.declared.rows.Size.TheVariants as size
use Rattle.lg_kinds.specs.declared.rows.Place.{Place}
use Rattle.lg_kinds.specs.declared.rows.Place.TheVariants as place
use Rattle.lg_kinds.specs.PortTable.{is_within}
use Rattle.lg_kinds.specs.Rows.{Attribute, PortForm, Range, Number, Group}
use Rattle.lg_kinds.specs.Table.{entry}
use Rattle.lg_ports.specs.Given.{row_of}

abbrev pub is_once : Count → Bool
is_once Once = true
is_once _ = false

abbrev pub is_out : Side → Bool
is_out Out = true
is_out _ = false

abbrev pub is_in : Side → Bool
is_in In = true
is_in _ = false

abbrev pub is_pull : Kind → Bool
is_pull PullResistor = true
is_pull _ = false

-- numbers from 1 to 64, or some of them
abbrev pub is_wide_range : Range → Bool
is_wide_range (Number low high) = nat_le 1 low && nat_le high 64
is_wide_range _ = false

-- numbers from 1 to the width
abbrev pub is_group_range : Range → Bool
is_group_range Group = true
is_group_range _ = false

-- an attribute stands once, has a value where it is left out, and a range that passes a test
abbrev pub is_ranged : (Range → Bool) → Option Attribute → Bool
is_ranged test None = false
is_ranged test (Some row) = is_once row.count && (is_some row.usual && test row.range)

-- the kind's attribute of a name has 1 to 64 as its range, or some of these
abbrev pub is_wide : Kind → List ℕ → Bool
is_wide kind name = is_ranged is_wide_range (row_of kind name)

-- there is no such attribute, or it has that range
abbrev pub is_wide_or_none : Option Attribute → Bool
is_wide_or_none None = true
is_wide_or_none (Some row) = is_ranged is_wide_range (Some row)

-- a size has the attributes that bound it
abbrev pub is_sized : Kind → Size → Bool
is_sized kind size.Any = is_pull kind
is_sized kind size.One = true
is_sized kind size.Width = is_wide kind (codes "width")
is_sized kind size.InWidth = is_wide kind (codes "in_width")
is_sized kind size.OutWidth = is_wide kind (codes "out_width")
is_sized kind size.Incoming = is_wide kind (codes "incoming")
is_sized kind size.Group = is_ranged is_group_range (row_of kind (codes "group")) && is_wide kind (codes "width")
is_sized kind size.Select = is_wide kind (codes "select")
is_sized kind size.AddrWidth = is_wide kind (codes "addrWidth")
is_sized kind size.DataWidth = is_wide kind (codes "dataWidth")
is_sized kind size.GroupSelect = true
is_sized kind size.Distance = true
is_sized kind size.Total = is_wide kind (codes "inputs") && is_wide kind (codes "width")

-- a place names small numbers
abbrev pub is_placed : Place → Bool
is_placed (place.At x y) = is_within 10000 x && is_within 10000 y
is_placed (place.Row x y step) = is_within 10000 x && (is_within 10000 y && nat_le step 1000)
is_placed place.Behind = true
is_placed (place.GateInput extra) = nat_le extra 1000
is_placed place.Control = true
is_placed place.FanIn = true
is_placed place.FanOut = true
is_placed (place.Column x) = is_within 10000 x
is_placed (place.Aside x) = is_within 10000 x
is_placed (place.Beneath x) = is_within 10000 x
is_placed (place.Above x) = is_within 10000 x

-- a row for a port has both
abbrev pub is_row : Kind → PortForm → Bool
is_row kind row = is_sized kind row.size && is_placed row.place

-- no row for an input stands behind one for an output
abbrev pub in_order : List PortForm → Bool
in_order [] = true
in_order (row ∷ rows) = cond (is_out row.side) (list_all (λ (r : PortForm). not (is_in r.side)) rows) (in_order rows)

abbrev pub is_sound : Kind → Bool
is_sound kind = list_all (is_row kind) (entry kind).ports && (in_order (entry kind).ports && is_wide_or_none (row_of kind (codes "incoming")))

pub each_sound : (kind : Kind) → is_sound kind ≡ true
each_sound Pin = refl
each_sound Tunnel = refl
each_sound Splitter = refl
each_sound Clock = refl
each_sound Constant = refl
each_sound Power = refl
each_sound Ground = refl
each_sound PullResistor = refl
each_sound BitExtender = refl
each_sound NotGate = refl
each_sound Buffer = refl
each_sound AndGate = refl
each_sound OrGate = refl
each_sound NandGate = refl
each_sound NorGate = refl
each_sound XorGate = refl
each_sound XnorGate = refl
each_sound OddParity = refl
each_sound EvenParity = refl
each_sound ControlledBuffer = refl
each_sound ControlledInverter = refl
each_sound Multiplexer = refl
each_sound Demultiplexer = refl
each_sound Decoder = refl
each_sound PriorityEncoder = refl
each_sound BitSelector = refl
each_sound Adder = refl
each_sound Subtractor = refl
each_sound Multiplier = refl
each_sound Divider = refl
each_sound Negator = refl
each_sound Comparator = refl
each_sound Shifter = refl
each_sound BitAdder = refl
each_sound DFlipFlop = refl
each_sound TFlipFlop = refl
each_sound JkFlipFlop = refl
each_sound SrFlipFlop = refl
each_sound Register = refl
each_sound Counter = refl
each_sound ShiftRegister = refl
each_sound Rom = refl
each_sound Ram = refl
each_sound Probe = refl
each_sound Led = refl
each_sound Text = refl
each_sound HexDisplay = refl
each_sound SegmentDisplay = refl

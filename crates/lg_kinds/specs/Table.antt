-- The table of kinds: the name, the attributes with their ranges and defaults, the ports with their widths, places and
-- loose values, and the form of the delay of each. Source of the kinds: the library reference of Logisim-evolution. The
-- names and values of attributes, their ranges and defaults, the places and the delays are this project's.
use Rattle.std.specs.Prelude.{ℕ, ℤ, pos, neg_ℤ, List, [], ◌∷◌, Some, None, codes}
use Rattle.lg_kinds.specs.declared.kind.Kind.{Kind}
use Rattle.lg_kinds.specs.declared.kind.Kind.TheVariants.{Pin, Tunnel, Splitter, Clock, Constant, Power, Ground, PullResistor, BitExtender, NotGate, Buffer, AndGate, OrGate, NandGate, NorGate, XorGate, XnorGate, OddParity, EvenParity, ControlledBuffer, ControlledInverter, Multiplexer, Demultiplexer, Decoder, PriorityEncoder, BitSelector, Adder, Subtractor, Multiplier, Divider, Negator, Comparator, Shifter, BitAdder, DFlipFlop, TFlipFlop, JkFlipFlop, SrFlipFlop, Register, Counter, ShiftRegister, Rom, Ram, Probe, Led, Text, HexDisplay, SegmentDisplay}
use Rattle.lg_kinds.specs.declared.port.Side.TheVariants.{In, Out, Both}
use Rattle.lg_kinds.specs.declared.port.Loose.TheVariants as loose
use Rattle.lg_kinds.specs.declared.rows.Count.TheVariants.{Once, Inputs, Incoming, Selections, Enabled, Extended, Parallel, Serial, Stages}
use Rattle.lg_kinds.specs.declared.rows.Size.TheVariants as size
use Rattle.lg_kinds.specs.declared.rows.Size.TheVariants.{Width, InWidth, OutWidth, Select, AddrWidth, DataWidth, GroupSelect, Distance, Total}
use Rattle.lg_kinds.specs.declared.rows.Place.{Place}
use Rattle.lg_kinds.specs.declared.rows.Place.TheVariants.{At, Row, Behind, GateInput, Control, FanIn, FanOut, Column, Aside, Beneath, Above}
use Rattle.lg_kinds.specs.declared.rows.Delay.TheVariants as delay
use Rattle.lg_kinds.specs.Rows.{Attribute, attribute, port, KindEntry, Range, Any, OneOf, Number, Group, End, Literal, Contents}

-- so far to the left of the component; x grows to the right
abbrev pub left : ℕ → ℤ
left n = neg_ℤ (pos n)

-- so far to the right of it
abbrev pub right : ℕ → ℤ
right n = pos n

-- so far above it; y grows downwards
abbrev pub up : ℕ → ℤ
up n = neg_ℤ (pos n)

-- so far below it
abbrev pub down : ℕ → ℤ
down n = pos n

-- where the component stands
abbrev pub here : Place
here = At (pos 0) (pos 0)

-- true or false
abbrev pub flag : Range
flag = OneOf (codes "true" ∷ codes "false" ∷ [])

-- `facing`: `east`, `west`, `north` or `south`; `east` where it is left out
abbrev pub facing_attribute : Attribute
facing_attribute = attribute (codes "facing") Once (OneOf (codes "east" ∷ codes "west" ∷ codes "north" ∷ codes "south" ∷ [])) (Some (codes "east"))

-- `width`: 1 to 64; `1` where it is left out
abbrev pub width_attribute : Attribute
width_attribute = attribute (codes "width") Once (Number 1 64) (Some (codes "1"))

-- `width`: 1 to 64; `8` where it is left out
abbrev pub width_8_attribute : Attribute
width_8_attribute = attribute (codes "width") Once (Number 1 64) (Some (codes "8"))

-- `label`: any text; empty where it is left out
abbrev pub label_attribute : Attribute
label_attribute = attribute (codes "label") Once Any (Some [])

-- `size`: `20` or `30`; `30` where it is left out
abbrev pub not_size_attribute : Attribute
not_size_attribute = attribute (codes "size") Once (OneOf (codes "20" ∷ codes "30" ∷ [])) (Some (codes "30"))

-- `size`: `30`, `50` or `70`; `50` where it is left out
abbrev pub size_attribute : Attribute
size_attribute = attribute (codes "size") Once (OneOf (codes "30" ∷ codes "50" ∷ codes "70" ∷ [])) (Some (codes "50"))

-- `inputs`: 2 to 64; `2` where it is left out
abbrev pub inputs_attribute : Attribute
inputs_attribute = attribute (codes "inputs") Once (Number 2 64) (Some (codes "2"))

-- `negateK` for each input: true or false; `false` where it is left out
abbrev pub negate_attribute : Attribute
negate_attribute = attribute (codes "negate") Inputs flag (Some (codes "false"))

-- `out`: `01`, `0Z` or `Z1`; `01` where it is left out
abbrev pub out_attribute : Attribute
out_attribute = attribute (codes "out") Once (OneOf (codes "01" ∷ codes "0Z" ∷ codes "Z1" ∷ [])) (Some (codes "01"))

-- `xor`: `1` or `odd`; `1` where it is left out
abbrev pub xor_attribute : Attribute
xor_attribute = attribute (codes "xor") Once (OneOf (codes "1" ∷ codes "odd" ∷ [])) (Some (codes "1"))

-- `control`: `right` or `left`; `right` where it is left out
abbrev pub control_attribute : Attribute
control_attribute = attribute (codes "control") Once (OneOf (codes "right" ∷ codes "left" ∷ [])) (Some (codes "right"))

-- `select`: 1 to 5; `1` where it is left out
abbrev pub select_attribute : Attribute
select_attribute = attribute (codes "select") Once (Number 1 5) (Some (codes "1"))

-- `select`: 1 to 5; `3` where it is left out
abbrev pub select_3_attribute : Attribute
select_3_attribute = attribute (codes "select") Once (Number 1 5) (Some (codes "3"))

-- `enable`: true or false; `false` where it is left out
abbrev pub enable_attribute : Attribute
enable_attribute = attribute (codes "enable") Once flag (Some (codes "false"))

-- `disabled`: `Z` or `0`; `Z` where it is left out
abbrev pub disabled_attribute : Attribute
disabled_attribute = attribute (codes "disabled") Once (OneOf (codes "Z" ∷ codes "0" ∷ [])) (Some (codes "Z"))

-- `selloc`: `bl` or `tr`; `bl` where it is left out
abbrev pub selloc_attribute : Attribute
selloc_attribute = attribute (codes "selloc") Once (OneOf (codes "bl" ∷ codes "tr" ∷ [])) (Some (codes "bl"))

-- `tristate`: true or false; `false` where it is left out
abbrev pub tristate_attribute : Attribute
tristate_attribute = attribute (codes "tristate") Once flag (Some (codes "false"))

-- `group`: 1 to the width; `1` where it is left out
abbrev pub group_attribute : Attribute
group_attribute = attribute (codes "group") Once Group (Some (codes "1"))

-- `mode`: `unsigned` alone; `unsigned` where it is left out
abbrev pub unsigned_attribute : Attribute
unsigned_attribute = attribute (codes "mode") Once (OneOf (codes "unsigned" ∷ [])) (Some (codes "unsigned"))

-- `mode`: `unsigned` or `twosComplement`; `twosComplement` where it is left out
abbrev pub mode_attribute : Attribute
mode_attribute = attribute (codes "mode") Once (OneOf (codes "unsigned" ∷ codes "twosComplement" ∷ [])) (Some (codes "twosComplement"))

-- `shift`: `ll`, `lr`, `ar`, `rl` or `rr`; `ll` where it is left out
abbrev pub shift_attribute : Attribute
shift_attribute = attribute (codes "shift") Once (OneOf (codes "ll" ∷ codes "lr" ∷ codes "ar" ∷ codes "rl" ∷ codes "rr" ∷ [])) (Some (codes "ll"))

-- `inputs`: 1 to 64; `1` where it is left out
abbrev pub counted_attribute : Attribute
counted_attribute = attribute (codes "inputs") Once (Number 1 64) (Some (codes "1"))

-- `trigger`: `rising` or `falling`; `rising` where it is left out
abbrev pub edge_attribute : Attribute
edge_attribute = attribute (codes "trigger") Once (OneOf (codes "rising" ∷ codes "falling" ∷ [])) (Some (codes "rising"))

-- `trigger`: `rising`, `falling`, `high` or `low`; `rising` where it is left out
abbrev pub trigger_attribute : Attribute
trigger_attribute = attribute (codes "trigger") Once (OneOf (codes "rising" ∷ codes "falling" ∷ codes "high" ∷ codes "low" ∷ [])) (Some (codes "rising"))

-- `max`: a number of 64 bits; nothing where it is left out
abbrev pub max_attribute : Attribute
max_attribute = attribute (codes "max") Once Literal None

-- `ongoal`: `wrap`, `stay`, `continue` or `load`; `wrap` where it is left out
abbrev pub ongoal_attribute : Attribute
ongoal_attribute = attribute (codes "ongoal") Once (OneOf (codes "wrap" ∷ codes "stay" ∷ codes "continue" ∷ codes "load" ∷ [])) (Some (codes "wrap"))

-- `length`: 1 to 64; `8` where it is left out
abbrev pub length_attribute : Attribute
length_attribute = attribute (codes "length") Once (Number 1 64) (Some (codes "8"))

-- `parallel`: true or false; `true` where it is left out
abbrev pub parallel_attribute : Attribute
parallel_attribute = attribute (codes "parallel") Once flag (Some (codes "true"))

-- `addrWidth`: 1 to 24; `8` where it is left out
abbrev pub addr_width_attribute : Attribute
addr_width_attribute = attribute (codes "addrWidth") Once (Number 1 24) (Some (codes "8"))

-- `dataWidth`: 1 to 64; `8` where it is left out
abbrev pub data_width_attribute : Attribute
data_width_attribute = attribute (codes "dataWidth") Once (Number 1 64) (Some (codes "8"))

-- `contents`: the contents of a ROM; empty where it is left out
abbrev pub contents_attribute : Attribute
contents_attribute = attribute (codes "contents") Once Contents (Some [])

-- `output`: true or false; `false` where it is left out
abbrev pub output_attribute : Attribute
output_attribute = attribute (codes "output") Once flag (Some (codes "false"))

-- `type`: any text; empty where it is left out
abbrev pub pin_type_attribute : Attribute
pin_type_attribute = attribute (codes "type") Once Any (Some [])

-- `incoming`: 1 to 64; `2` where it is left out
abbrev pub incoming_attribute : Attribute
incoming_attribute = attribute (codes "incoming") Once (Number 1 64) (Some (codes "2"))

-- `fanout`: 1 to 64; `2` where it is left out
abbrev pub fanout_attribute : Attribute
fanout_attribute = attribute (codes "fanout") Once (Number 1 64) (Some (codes "2"))

-- `appear`: `left`, `right`, `center` or `legacy`; `left` where it is left out
abbrev pub appear_attribute : Attribute
appear_attribute = attribute (codes "appear") Once (OneOf (codes "left" ∷ codes "right" ∷ codes "center" ∷ codes "legacy" ∷ [])) (Some (codes "left"))

-- `spacing`: 1 to 9; `1` where it is left out
abbrev pub spacing_attribute : Attribute
spacing_attribute = attribute (codes "spacing") Once (Number 1 9) (Some (codes "1"))

-- `bitK` for each bit: the number of an end, or `none`; nothing where it is left out
abbrev pub bit_attribute : Attribute
bit_attribute = attribute (codes "bit") Incoming End None

-- `value`: a number of 64 bits; `0x1` where it is left out
abbrev pub value_attribute : Attribute
value_attribute = attribute (codes "value") Once Literal (Some (codes "0x1"))

-- `pull`: `0`, `1` or `X`; `0` where it is left out
abbrev pub pull_attribute : Attribute
pull_attribute = attribute (codes "pull") Once (OneOf (codes "0" ∷ codes "1" ∷ codes "X" ∷ [])) (Some (codes "0"))

-- `in_width`: 1 to 64; `8` where it is left out
abbrev pub in_width_attribute : Attribute
in_width_attribute = attribute (codes "in_width") Once (Number 1 64) (Some (codes "8"))

-- `out_width`: 1 to 64; `16` where it is left out
abbrev pub out_width_attribute : Attribute
out_width_attribute = attribute (codes "out_width") Once (Number 1 64) (Some (codes "16"))

-- `type`: `zero`, `one`, `sign` or `input`; `zero` where it is left out
abbrev pub type_attribute : Attribute
type_attribute = attribute (codes "type") Once (OneOf (codes "zero" ∷ codes "one" ∷ codes "sign" ∷ codes "input" ∷ [])) (Some (codes "zero"))

-- what the table says of a kind
abbrev pub entry : Kind → KindEntry
entry Pin = record {
  name = codes "Pin";
  attributes = facing_attribute ∷ output_attribute ∷ pin_type_attribute ∷ width_attribute ∷ label_attribute ∷ [];
  ports =
      port Both (codes "p") Once Width here loose.Unknown
      ∷ [];
  delay = delay.None;
}
entry Tunnel = record {
  name = codes "Tunnel";
  attributes = facing_attribute ∷ width_attribute ∷ label_attribute ∷ [];
  ports =
      port Both (codes "p") Once Width here loose.Unknown
      ∷ [];
  delay = delay.None;
}
entry Splitter = record {
  name = codes "Splitter";
  attributes = facing_attribute ∷ incoming_attribute ∷ fanout_attribute ∷ appear_attribute ∷ spacing_attribute ∷ bit_attribute ∷ [];
  ports =
      port Both (codes "c") Once size.Incoming here loose.Unknown
      ∷ [];
  delay = delay.None;
}
entry Clock = record {
  name = codes "Clock";
  attributes = facing_attribute ∷ [];
  ports =
      port Both (codes "p") Once size.One here loose.Unknown
      ∷ [];
  delay = delay.None;
}
entry Constant = record {
  name = codes "Constant";
  attributes = facing_attribute ∷ width_attribute ∷ value_attribute ∷ [];
  ports =
      port Out (codes "out") Once Width here loose.Unknown
      ∷ [];
  delay = delay.Instants 1;
}
entry Power = record {
  name = codes "Power";
  attributes = facing_attribute ∷ width_attribute ∷ [];
  ports =
      port Out (codes "out") Once Width here loose.Unknown
      ∷ [];
  delay = delay.Instants 1;
}
entry Ground = record {
  name = codes "Ground";
  attributes = facing_attribute ∷ width_attribute ∷ [];
  ports =
      port Out (codes "out") Once Width here loose.Unknown
      ∷ [];
  delay = delay.Instants 1;
}
entry PullResistor = record {
  name = codes "Pull Resistor";
  attributes = facing_attribute ∷ pull_attribute ∷ [];
  ports =
      port Both (codes "p") Once size.Any here loose.Unknown
      ∷ [];
  delay = delay.None;
}
entry BitExtender = record {
  name = codes "Bit Extender";
  attributes = facing_attribute ∷ in_width_attribute ∷ out_width_attribute ∷ type_attribute ∷ [];
  ports =
      port In (codes "in") Once InWidth (At (left 40) (pos 0)) loose.Unknown
      ∷ port In (codes "ext") Extended size.One (At (left 20) (up 20)) loose.Unknown
      ∷ port Out (codes "out") Once OutWidth here loose.Unknown
      ∷ [];
  delay = delay.Instants 1;
}
entry NotGate = record {
  name = codes "NOT Gate";
  attributes = facing_attribute ∷ width_attribute ∷ not_size_attribute ∷ out_attribute ∷ [];
  ports =
      port In (codes "in") Once Width Behind loose.Unknown
      ∷ port Out (codes "out") Once Width here loose.Unknown
      ∷ [];
  delay = delay.Instants 1;
}
entry Buffer = record {
  name = codes "Buffer";
  attributes = facing_attribute ∷ width_attribute ∷ out_attribute ∷ [];
  ports =
      port In (codes "in") Once Width (At (left 20) (pos 0)) loose.Unknown
      ∷ port Out (codes "out") Once Width here loose.Unknown
      ∷ [];
  delay = delay.Instants 1;
}
entry AndGate = record {
  name = codes "AND Gate";
  attributes = facing_attribute ∷ width_attribute ∷ size_attribute ∷ inputs_attribute ∷ negate_attribute ∷ out_attribute ∷ [];
  ports =
      port In (codes "in") Inputs Width (GateInput 0) loose.Ignored
      ∷ port Out (codes "out") Once Width here loose.Unknown
      ∷ [];
  delay = delay.Instants 1;
}
entry OrGate = record {
  name = codes "OR Gate";
  attributes = facing_attribute ∷ width_attribute ∷ size_attribute ∷ inputs_attribute ∷ negate_attribute ∷ out_attribute ∷ [];
  ports =
      port In (codes "in") Inputs Width (GateInput 0) loose.Ignored
      ∷ port Out (codes "out") Once Width here loose.Unknown
      ∷ [];
  delay = delay.Instants 1;
}
entry NandGate = record {
  name = codes "NAND Gate";
  attributes = facing_attribute ∷ width_attribute ∷ size_attribute ∷ inputs_attribute ∷ negate_attribute ∷ out_attribute ∷ [];
  ports =
      port In (codes "in") Inputs Width (GateInput 10) loose.Ignored
      ∷ port Out (codes "out") Once Width here loose.Unknown
      ∷ [];
  delay = delay.Instants 1;
}
entry NorGate = record {
  name = codes "NOR Gate";
  attributes = facing_attribute ∷ width_attribute ∷ size_attribute ∷ inputs_attribute ∷ negate_attribute ∷ out_attribute ∷ [];
  ports =
      port In (codes "in") Inputs Width (GateInput 10) loose.Ignored
      ∷ port Out (codes "out") Once Width here loose.Unknown
      ∷ [];
  delay = delay.Instants 1;
}
entry XorGate = record {
  name = codes "XOR Gate";
  attributes = facing_attribute ∷ width_attribute ∷ size_attribute ∷ inputs_attribute ∷ negate_attribute ∷ out_attribute ∷ xor_attribute ∷ [];
  ports =
      port In (codes "in") Inputs Width (GateInput 10) loose.Ignored
      ∷ port Out (codes "out") Once Width here loose.Unknown
      ∷ [];
  delay = delay.Instants 1;
}
entry XnorGate = record {
  name = codes "XNOR Gate";
  attributes = facing_attribute ∷ width_attribute ∷ size_attribute ∷ inputs_attribute ∷ negate_attribute ∷ out_attribute ∷ xor_attribute ∷ [];
  ports =
      port In (codes "in") Inputs Width (GateInput 20) loose.Ignored
      ∷ port Out (codes "out") Once Width here loose.Unknown
      ∷ [];
  delay = delay.Instants 1;
}
entry OddParity = record {
  name = codes "Odd Parity";
  attributes = facing_attribute ∷ width_attribute ∷ size_attribute ∷ inputs_attribute ∷ negate_attribute ∷ out_attribute ∷ [];
  ports =
      port In (codes "in") Inputs Width (GateInput 0) loose.Ignored
      ∷ port Out (codes "out") Once Width here loose.Unknown
      ∷ [];
  delay = delay.Instants 1;
}
entry EvenParity = record {
  name = codes "Even Parity";
  attributes = facing_attribute ∷ width_attribute ∷ size_attribute ∷ inputs_attribute ∷ negate_attribute ∷ out_attribute ∷ [];
  ports =
      port In (codes "in") Inputs Width (GateInput 10) loose.Ignored
      ∷ port Out (codes "out") Once Width here loose.Unknown
      ∷ [];
  delay = delay.Instants 1;
}
entry ControlledBuffer = record {
  name = codes "Controlled Buffer";
  attributes = facing_attribute ∷ width_attribute ∷ control_attribute ∷ [];
  ports =
      port In (codes "in") Once Width (At (left 20) (pos 0)) loose.Unknown
      ∷ port In (codes "ctl") Once size.One Control loose.Unknown
      ∷ port Out (codes "out") Once Width here loose.Unknown
      ∷ [];
  delay = delay.Instants 1;
}
entry ControlledInverter = record {
  name = codes "Controlled Inverter";
  attributes = facing_attribute ∷ width_attribute ∷ control_attribute ∷ [];
  ports =
      port In (codes "in") Once Width (At (left 30) (pos 0)) loose.Unknown
      ∷ port In (codes "ctl") Once size.One Control loose.Unknown
      ∷ port Out (codes "out") Once Width here loose.Unknown
      ∷ [];
  delay = delay.Instants 1;
}
entry Multiplexer = record {
  name = codes "Multiplexer";
  attributes = facing_attribute ∷ width_attribute ∷ select_attribute ∷ enable_attribute ∷ disabled_attribute ∷ selloc_attribute ∷ [];
  ports =
      port In (codes "in") Selections Width FanIn loose.Unknown
      ∷ port In (codes "sel") Once Select (Aside (left 20)) loose.Unknown
      ∷ port In (codes "en") Enabled size.One (Aside (left 10)) loose.One
      ∷ port Out (codes "out") Once Width here loose.Unknown
      ∷ [];
  delay = delay.Instants 3;
}
entry Demultiplexer = record {
  name = codes "Demultiplexer";
  attributes = facing_attribute ∷ width_attribute ∷ select_attribute ∷ enable_attribute ∷ disabled_attribute ∷ selloc_attribute ∷ tristate_attribute ∷ [];
  ports =
      port In (codes "in") Once Width here loose.Unknown
      ∷ port In (codes "sel") Once Select (Aside (right 20)) loose.Unknown
      ∷ port In (codes "en") Enabled size.One (Aside (right 10)) loose.One
      ∷ port Out (codes "out") Selections Width FanOut loose.Unknown
      ∷ [];
  delay = delay.Instants 3;
}
entry Decoder = record {
  name = codes "Decoder";
  attributes = facing_attribute ∷ select_attribute ∷ enable_attribute ∷ disabled_attribute ∷ tristate_attribute ∷ [];
  ports =
      port In (codes "sel") Once Select here loose.Unknown
      ∷ port In (codes "en") Enabled size.One (At (left 10) (pos 0)) loose.One
      ∷ port Out (codes "out") Selections size.One (Column (right 20)) loose.Unknown
      ∷ [];
  delay = delay.Instants 3;
}
entry PriorityEncoder = record {
  name = codes "Priority Encoder";
  attributes = facing_attribute ∷ select_3_attribute ∷ disabled_attribute ∷ [];
  ports =
      port In (codes "in") Selections size.One (Column (left 40)) loose.Zero
      ∷ port In (codes "en") Once size.One (Beneath (left 20)) loose.One
      ∷ port Out (codes "addr") Once Select here loose.Unknown
      ∷ port Out (codes "group") Once size.One (At (pos 0) (down 10)) loose.Unknown
      ∷ port Out (codes "eout") Once size.One (Above (left 20)) loose.Unknown
      ∷ [];
  delay = delay.Instants 3;
}
entry BitSelector = record {
  name = codes "BitSelector";
  attributes = facing_attribute ∷ width_8_attribute ∷ group_attribute ∷ [];
  ports =
      port In (codes "in") Once Width (At (left 30) (pos 0)) loose.Unknown
      ∷ port In (codes "sel") Once GroupSelect (At (left 10) (down 10)) loose.Unknown
      ∷ port Out (codes "out") Once size.Group here loose.Unknown
      ∷ [];
  delay = delay.Instants 3;
}
entry Adder = record {
  name = codes "Adder";
  attributes = facing_attribute ∷ width_8_attribute ∷ [];
  ports =
      port In (codes "a") Once Width (At (left 40) (up 10)) loose.Unknown
      ∷ port In (codes "b") Once Width (At (left 40) (down 10)) loose.Unknown
      ∷ port In (codes "cin") Once size.One (At (left 20) (up 20)) loose.Zero
      ∷ port Out (codes "out") Once Width here loose.Unknown
      ∷ port Out (codes "cout") Once size.One (At (left 20) (down 20)) loose.Unknown
      ∷ [];
  delay = delay.Sum;
}
entry Subtractor = record {
  name = codes "Subtractor";
  attributes = facing_attribute ∷ width_8_attribute ∷ [];
  ports =
      port In (codes "a") Once Width (At (left 40) (up 10)) loose.Unknown
      ∷ port In (codes "b") Once Width (At (left 40) (down 10)) loose.Unknown
      ∷ port In (codes "cin") Once size.One (At (left 20) (up 20)) loose.Zero
      ∷ port Out (codes "out") Once Width here loose.Unknown
      ∷ port Out (codes "cout") Once size.One (At (left 20) (down 20)) loose.Unknown
      ∷ [];
  delay = delay.Sum;
}
entry Multiplier = record {
  name = codes "Multiplier";
  attributes = facing_attribute ∷ width_8_attribute ∷ unsigned_attribute ∷ [];
  ports =
      port In (codes "a") Once Width (At (left 40) (up 10)) loose.Unknown
      ∷ port In (codes "b") Once Width (At (left 40) (down 10)) loose.Unknown
      ∷ port In (codes "cin") Once Width (At (left 20) (up 20)) loose.Zero
      ∷ port Out (codes "out") Once Width here loose.Unknown
      ∷ port Out (codes "high") Once Width (At (left 20) (down 20)) loose.Unknown
      ∷ [];
  delay = delay.Product;
}
entry Divider = record {
  name = codes "Divider";
  attributes = facing_attribute ∷ width_8_attribute ∷ unsigned_attribute ∷ [];
  ports =
      port In (codes "a") Once Width (At (left 40) (up 10)) loose.Unknown
      ∷ port In (codes "b") Once Width (At (left 40) (down 10)) loose.Unknown
      ∷ port In (codes "upper") Once Width (At (left 20) (up 20)) loose.Zero
      ∷ port Out (codes "out") Once Width here loose.Unknown
      ∷ port Out (codes "rem") Once Width (At (left 20) (down 20)) loose.Unknown
      ∷ [];
  delay = delay.Product;
}
entry Negator = record {
  name = codes "Negator";
  attributes = facing_attribute ∷ width_8_attribute ∷ [];
  ports =
      port In (codes "in") Once Width (At (left 40) (pos 0)) loose.Unknown
      ∷ port Out (codes "out") Once Width here loose.Unknown
      ∷ [];
  delay = delay.Sum;
}
entry Comparator = record {
  name = codes "Comparator";
  attributes = facing_attribute ∷ width_8_attribute ∷ mode_attribute ∷ [];
  ports =
      port In (codes "a") Once Width (At (left 40) (up 10)) loose.Unknown
      ∷ port In (codes "b") Once Width (At (left 40) (down 10)) loose.Unknown
      ∷ port Out (codes "gt") Once size.One (At (pos 0) (up 10)) loose.Unknown
      ∷ port Out (codes "eq") Once size.One here loose.Unknown
      ∷ port Out (codes "lt") Once size.One (At (pos 0) (down 10)) loose.Unknown
      ∷ [];
  delay = delay.Sum;
}
entry Shifter = record {
  name = codes "Shifter";
  attributes = facing_attribute ∷ width_8_attribute ∷ shift_attribute ∷ [];
  ports =
      port In (codes "in") Once Width (At (left 40) (up 10)) loose.Unknown
      ∷ port In (codes "dist") Once Distance (At (left 40) (down 10)) loose.Unknown
      ∷ port Out (codes "out") Once Width here loose.Unknown
      ∷ [];
  delay = delay.Sum;
}
entry BitAdder = record {
  name = codes "BitAdder";
  attributes = facing_attribute ∷ width_8_attribute ∷ counted_attribute ∷ [];
  ports =
      port In (codes "in") Inputs Width (Row (left 40) (pos 0) 10) loose.Unknown
      ∷ port Out (codes "out") Once Total here loose.Unknown
      ∷ [];
  delay = delay.Sum;
}
entry DFlipFlop = record {
  name = codes "D Flip-Flop";
  attributes = trigger_attribute ∷ [];
  ports =
      port In (codes "in") Once size.One (At (left 10) (down 10)) loose.Unknown
      ∷ port In (codes "clk") Once size.One (At (left 10) (down 50)) loose.Unknown
      ∷ port In (codes "pre") Once size.One (At (right 20) (pos 0)) loose.Zero
      ∷ port In (codes "clr") Once size.One (At (right 20) (down 60)) loose.Zero
      ∷ port Out (codes "q") Once size.One (At (right 50) (down 10)) loose.Unknown
      ∷ port Out (codes "nq") Once size.One (At (right 50) (down 50)) loose.Unknown
      ∷ [];
  delay = delay.Instants 5;
}
entry TFlipFlop = record {
  name = codes "T Flip-Flop";
  attributes = edge_attribute ∷ [];
  ports =
      port In (codes "in") Once size.One (At (left 10) (down 10)) loose.Unknown
      ∷ port In (codes "clk") Once size.One (At (left 10) (down 50)) loose.Unknown
      ∷ port In (codes "pre") Once size.One (At (right 20) (pos 0)) loose.Zero
      ∷ port In (codes "clr") Once size.One (At (right 20) (down 60)) loose.Zero
      ∷ port Out (codes "q") Once size.One (At (right 50) (down 10)) loose.Unknown
      ∷ port Out (codes "nq") Once size.One (At (right 50) (down 50)) loose.Unknown
      ∷ [];
  delay = delay.Instants 5;
}
entry JkFlipFlop = record {
  name = codes "J-K Flip-Flop";
  attributes = edge_attribute ∷ [];
  ports =
      port In (codes "in0") Once size.One (At (left 10) (down 10)) loose.Unknown
      ∷ port In (codes "in1") Once size.One (At (left 10) (down 30)) loose.Unknown
      ∷ port In (codes "clk") Once size.One (At (left 10) (down 50)) loose.Unknown
      ∷ port In (codes "pre") Once size.One (At (right 20) (pos 0)) loose.Zero
      ∷ port In (codes "clr") Once size.One (At (right 20) (down 60)) loose.Zero
      ∷ port Out (codes "q") Once size.One (At (right 50) (down 10)) loose.Unknown
      ∷ port Out (codes "nq") Once size.One (At (right 50) (down 50)) loose.Unknown
      ∷ [];
  delay = delay.Instants 5;
}
entry SrFlipFlop = record {
  name = codes "S-R Flip-Flop";
  attributes = trigger_attribute ∷ [];
  ports =
      port In (codes "in0") Once size.One (At (left 10) (down 10)) loose.Unknown
      ∷ port In (codes "in1") Once size.One (At (left 10) (down 30)) loose.Unknown
      ∷ port In (codes "clk") Once size.One (At (left 10) (down 50)) loose.Unknown
      ∷ port In (codes "pre") Once size.One (At (right 20) (pos 0)) loose.Zero
      ∷ port In (codes "clr") Once size.One (At (right 20) (down 60)) loose.Zero
      ∷ port Out (codes "q") Once size.One (At (right 50) (down 10)) loose.Unknown
      ∷ port Out (codes "nq") Once size.One (At (right 50) (down 50)) loose.Unknown
      ∷ [];
  delay = delay.Instants 5;
}
entry Register = record {
  name = codes "Register";
  attributes = width_8_attribute ∷ trigger_attribute ∷ [];
  ports =
      port In (codes "d") Once Width (At (pos 0) (down 30)) loose.Unknown
      ∷ port In (codes "en") Once size.One (At (pos 0) (down 50)) loose.One
      ∷ port In (codes "clk") Once size.One (At (pos 0) (down 70)) loose.Unknown
      ∷ port In (codes "clr") Once size.One (At (right 30) (down 90)) loose.Zero
      ∷ port Out (codes "q") Once Width (At (right 60) (down 30)) loose.Unknown
      ∷ [];
  delay = delay.Instants 8;
}
entry Counter = record {
  name = codes "Counter";
  attributes = width_8_attribute ∷ max_attribute ∷ ongoal_attribute ∷ edge_attribute ∷ [];
  ports =
      port In (codes "d") Once Width (At (pos 0) (down 110)) loose.Zero
      ∷ port In (codes "ld") Once size.One (At (pos 0) (down 30)) loose.Zero
      ∷ port In (codes "ud") Once size.One (At (pos 0) (down 50)) loose.One
      ∷ port In (codes "en") Once size.One (At (pos 0) (down 70)) loose.One
      ∷ port In (codes "clk") Once size.One (At (pos 0) (down 80)) loose.Unknown
      ∷ port In (codes "clr") Once size.One (At (pos 0) (down 20)) loose.Zero
      ∷ port Out (codes "q") Once Width (At (right 140) (down 110)) loose.Unknown
      ∷ port Out (codes "carry") Once size.One (At (right 140) (down 50)) loose.Unknown
      ∷ [];
  delay = delay.Instants 8;
}
entry ShiftRegister = record {
  name = codes "Shift Register";
  attributes = width_attribute ∷ length_attribute ∷ parallel_attribute ∷ edge_attribute ∷ [];
  ports =
      port In (codes "si") Once Width (At (pos 0) (down 30)) loose.Unknown
      ∷ port In (codes "sh") Once size.One (At (pos 0) (down 40)) loose.One
      ∷ port In (codes "clk") Once size.One (At (pos 0) (down 50)) loose.Unknown
      ∷ port In (codes "clr") Once size.One (At (pos 0) (down 20)) loose.Zero
      ∷ port In (codes "ld") Parallel size.One (At (pos 0) (down 60)) loose.Zero
      ∷ port In (codes "d") Stages Width (Row (pos 0) (down 80) 20) loose.Zero
      ∷ port Out (codes "q") Stages Width (Row (right 100) (down 80) 20) loose.Unknown
      ∷ port Out (codes "q") Serial Width (At (right 100) (down 80)) loose.Unknown
      ∷ [];
  delay = delay.Instants 8;
}
entry Rom = record {
  name = codes "ROM";
  attributes = addr_width_attribute ∷ data_width_attribute ∷ contents_attribute ∷ [];
  ports =
      port In (codes "a") Once AddrWidth (At (pos 0) (down 10)) loose.Unknown
      ∷ port Out (codes "out") Once DataWidth (At (right 240) (down 60)) loose.Unknown
      ∷ [];
  delay = delay.Instants 10;
}
entry Ram = record {
  name = codes "RAM";
  attributes = addr_width_attribute ∷ data_width_attribute ∷ edge_attribute ∷ [];
  ports =
      port In (codes "a") Once AddrWidth (At (pos 0) (down 10)) loose.Unknown
      ∷ port In (codes "d") Once DataWidth (At (pos 0) (down 90)) loose.Unknown
      ∷ port In (codes "we") Once size.One (At (pos 0) (down 50)) loose.Zero
      ∷ port In (codes "clk") Once size.One (At (pos 0) (down 70)) loose.Unknown
      ∷ port Out (codes "out") Once DataWidth (At (right 240) (down 90)) loose.Unknown
      ∷ [];
  delay = delay.Instants 10;
}
entry Probe = record {
  name = codes "Probe";
  attributes = [];
  ports =
      [];
  delay = delay.None;
}
entry Led = record {
  name = codes "LED";
  attributes = [];
  ports =
      [];
  delay = delay.None;
}
entry Text = record {
  name = codes "Text";
  attributes = [];
  ports =
      [];
  delay = delay.None;
}
entry HexDisplay = record {
  name = codes "Hex Digit Display";
  attributes = [];
  ports =
      [];
  delay = delay.None;
}
entry SegmentDisplay = record {
  name = codes "7-Segment Display";
  attributes = [];
  ports =
      [];
  delay = delay.None;
}

-- the name of a kind in the drawing tool
abbrev pub name_of : Kind → List ℕ
name_of kind = (entry kind).name

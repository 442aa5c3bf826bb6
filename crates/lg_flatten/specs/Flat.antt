-- The netlist of a sheet without subcircuits: its parts and pins in file order, on the nets of joined places.
use Rattle.std.specs.Prelude.{◌≡◌, ℕ, Bool, true, false, List, [], ◌∷◌, ◌++◌, length, take, drop, map, None, unwrap_or, codes}
use Rattle.std.specs.List.{flat_map}
use Rattle.std.specs.Fmt.{signed_decimal}
use Rattle.lg_circ.specs.declared.project.Comp.{Comp}
use Rattle.lg_circ.specs.declared.project.Wire.{Wire}
use Rattle.lg_circ.specs.declared.project.Sheet.{Sheet}
use Rattle.lg_attrs.specs.Pairs.{value_under}
use Rattle.lg_nets.specs.Joined.{place_at, Joined, AreAttached}
use Rattle.lg_netlist.specs.declared.netlist.PartUse.{PartUse}
use Rattle.lg_netlist.specs.declared.netlist.PinUse.{PinUse}
use Rattle.lg_netlist.specs.declared.netlist.Netlist.{Netlist}
use Rattle.lg_names.specs.Names.{AreNames}
use Rattle.lg_names.specs.Numbering.{IsNumbering}
use Rattle.lg_flatten.specs.declared.role.Role.{Role}
use Rattle.lg_flatten.specs.declared.role.Role.TheVariants.{Pin, Gate}
use Rattle.lg_flatten.specs.Uses.{Use, input_points, port_points}

-- how a component is named: `main(130,60) NOT Gate`
abbrev pub use_name : List ℕ → Comp → List ℕ
use_name circuit c = circuit ++ codes "(" ++ signed_decimal c.loc.x ++ codes "," ++ signed_decimal c.loc.y ++ codes ") " ++ c.name

-- the label of a pin, or the empty text
abbrev pub label_of : Use → List ℕ
label_of u = unwrap_or (value_under (codes "label") u.0.attrs.list) []

-- the labels of the pins, in file order
abbrev pub role_labels : List ℕ → Role → List (List ℕ)
role_labels label (Pin input) = label ∷ []
role_labels label (Gate cell size) = []

abbrev pub pin_labels : List Use → List (List ℕ)
pin_labels uses = flat_map (λ u. role_labels (label_of u) u.1) uses

-- how many ports a use has
abbrev pub port_count : Use → ℕ
port_count u = length (port_points u)

-- whether a port takes a net: a pin's always, a gate's where something is attached to it
abbrev pub takes_net : Role → Bool → Bool
takes_net (Pin input) attached = true
takes_net (Gate cell size) attached = attached

-- which of the ports of some uses take a net, where this is attached
abbrev pub take_nets : List Use → List Bool → List Bool
take_nets [] attached = []
take_nets (u ∷ more) attached = map (takes_net u.1) (take (port_count u) attached) ++ take_nets more (drop (port_count u) attached)

-- the items at whose place the flag is true
abbrev pub flagged : {A : Type 0} → List Bool → List A → List A
flagged (true ∷ flags) (x ∷ xs) = x ∷ flagged flags xs
flagged (false ∷ flags) (x ∷ xs) = flagged flags xs
flagged _ _ = []

-- the net bits of each port: the next of these nets where the port takes one, and else none
abbrev pub by_port : List Bool → List ℕ → List (List ℕ)
by_port [] nets = []
by_port (false ∷ flags) nets = [] ∷ by_port flags nets
by_port (true ∷ flags) [] = [] ∷ by_port flags []
by_port (true ∷ flags) (net ∷ nets) = (net ∷ []) ∷ by_port flags nets

-- the net bits of the ports of uses that these wires join, and how many nets there are
pub record ArePortBits (wires : List Wire) (uses : List Use) (ports : List (List ℕ)) (count : ℕ) : Type 0 where
  pub attached : List Bool
  pub nets : List ℕ
  pub are_attached : AreAttached wires (flat_map port_points uses) attached
  pub numbering : IsNumbering (Joined wires (flat_map port_points uses)) (map place_at (flagged (take_nets uses attached) (flat_map port_points uses))) nets count
  pub bits : ports ≡ by_port (take_nets uses attached) nets

-- the part that a gate is, on the net bits of its ports: its inputs, and its output last
abbrev pub role_part : List ℕ → Comp → ℕ → List (List ℕ) → Role → List PartUse
role_part circuit c inputs ports (Pin input) = []
role_part circuit c inputs ports (Gate cell size) = record {
  name = use_name circuit c;
  cell = cell;
  inputs = take inputs ports;
  outputs = drop inputs ports;
} ∷ []

-- the parts of uses whose ports have these net bits, in order
abbrev pub parts_of : List ℕ → List Use → List (List ℕ) → List PartUse
parts_of circuit [] ports = []
parts_of circuit (u ∷ more) ports = role_part circuit u.0 (length (input_points u)) (take (port_count u) ports) u.1 ++ parts_of circuit more (drop (port_count u) ports)

-- a pin of this name on these net bits
abbrev pub pin_on : List ℕ → List ℕ → Comp → Bool → List ℕ → PinUse
pin_on circuit name c input bits = record { name = name; place = use_name circuit c; input = input; bits = bits }

-- the pin that a use is, with the first of these names, on the net bits of its port
abbrev pub role_pin : List ℕ → Comp → List (List ℕ) → List (List ℕ) → Role → List PinUse
role_pin circuit c (name ∷ names) (bits ∷ ports) (Pin input) = pin_on circuit name c input bits ∷ []
role_pin circuit c _ _ _ = []

-- the names that are left for the pins after a use
abbrev pub names_after : Role → List (List ℕ) → List (List ℕ)
names_after (Pin input) names = drop 1 names
names_after (Gate cell size) names = names

-- the pins of uses whose ports have these net bits, with these names, in order
abbrev pub pins_of : List ℕ → List (List ℕ) → List Use → List (List ℕ) → List PinUse
pins_of circuit names [] ports = []
pins_of circuit names (u ∷ more) ports =
    role_pin circuit u.0 names (take (port_count u) ports) u.1 ++ pins_of circuit (names_after u.1 names) more (drop (port_count u) ports)

-- the netlist of a sheet with these uses
pub record IsNetlistOf (sheet : Sheet) (uses : List Use) (n : Netlist) : Type 0 where
  pub attached : List Bool
  pub nets : List ℕ
  pub names : List (List ℕ)
  pub are_attached : AreAttached sheet.wires (flat_map port_points uses) attached
  pub numbering : IsNumbering (Joined sheet.wires (flat_map port_points uses)) (map place_at (flagged (take_nets uses attached) (flat_map port_points uses))) nets n.nets
  pub naming : AreNames [] (pin_labels uses) names
  pub circuit : n.circuit ≡ sheet.name
  pub parts : n.parts ≡ parts_of sheet.name uses (by_port (take_nets uses attached) nets)
  pub pins : n.pins ≡ pins_of sheet.name names uses (by_port (take_nets uses attached) nets)
  pub no_clock : n.clocks ≡ []
  pub no_clock_pin : n.clock_pin ≡ None

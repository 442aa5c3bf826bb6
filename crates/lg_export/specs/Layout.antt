-- The module of a netlist: each part has its own wires and its own equations, by its number.
-- Source: the layout of this project, in the subset of IEEE 1364-2005.
use Rattle.std.specs.Prelude.{ℕ, ◌+◌, ◌-◌, Bool, not, ◌&&◌, ◌==◌, List, [], ◌∷◌, ◌++◌, length, map, filter, fold, slice_get, option_map, unwrap_or, codes, Option, None, Some, if◌then◌else◌}
use Rattle.std.specs.List.{flat_map, enumerate_from}
use Rattle.std.specs.Fmt.{decimal}
use Rattle.std.specs.Str.{bytes_eq}
use Rattle.lg_netlist.specs.declared.drivers.Driver.{Driver}
use Rattle.lg_netlist.specs.declared.drivers.Driver.TheVariants.{Part, Pin, Clock}
use Rattle.lg_netlist.specs.declared.netlist.Cell.{Cell}
use Rattle.lg_netlist.specs.declared.netlist.Cell.TheVariants as cell
use Rattle.lg_netlist.specs.declared.netlist.PartUse.{PartUse}
use Rattle.lg_netlist.specs.declared.netlist.PinUse.{PinUse}
use Rattle.lg_netlist.specs.declared.netlist.Netlist.{Netlist}
use Rattle.lg_netlist.specs.Cell.{input_width, output_width}
use Rattle.lg_netlist.specs.Drivers.{first_driver}
use Rattle.lg_names.specs.Names.{name_of_label}
use Rattle.lg_netlist.specs.Static.{input_pins, output_pins}
use Rattle.lg_vtree.specs.declared.module.Direction.TheVariants.{Input, Output}
use Rattle.lg_vtree.specs.declared.module.Port.{Port}
use Rattle.lg_vtree.specs.declared.module.Decl.{Decl}
use Rattle.lg_vtree.specs.declared.module.Decl.TheVariants as decl
use Rattle.lg_vtree.specs.declared.expr.Operator.{Operator}
use Rattle.lg_vtree.specs.declared.expr.Operator.TheVariants as operator
use Rattle.lg_vtree.specs.declared.expr.Expr.{Expr}
use Rattle.lg_vtree.specs.declared.expr.Expr.TheVariants as expr
use Rattle.lg_vtree.specs.declared.module.Assign.{Assign}
use Rattle.lg_vtree.specs.declared.module.Module.{Module}

-- a port of a part, or an item of a list, with its index
abbrev pub numbered : {A : Type 0} → List A → List (ℕ × A)
numbered items = enumerate_from 0 items

-- `i_NAME`, `o_NAME`: the ports of pins
abbrev pub input_name : PinUse → List ℕ
input_name p = codes "i_" ++ p.name

abbrev pub output_name : PinUse → List ℕ
output_name p = codes "o_" ++ p.name

-- `xP_I`, `wP_O`: the wires at input I and output O of part P
abbrev pub input_wire : ℕ → ℕ → List ℕ
input_wire part input = codes "x" ++ decimal part ++ codes "_" ++ decimal input

abbrev pub output_wire : ℕ → ℕ → List ℕ
output_wire part output = codes "w" ++ decimal part ++ codes "_" ++ decimal output

-- a bit of what the module names: of which name, how many bits that has, and which bit it is
pub record NamedBit : Type 0 where
  pub name : List ℕ
  pub width : ℕ
  pub index : ℕ

-- the bit that a driver is: of an output's wire, of an input port, or the clock
abbrev pub bit_of : Netlist → Driver → NamedBit
bit_of n (Part part output bit) = record { name = output_wire part output; width = width_in (slice_get n.parts part) output; index = bit }
  where
    width_in : Option PartUse → ℕ → ℕ
    width_in None output = 0
    width_in (Some p) output = output_width p.cell output
bit_of n (Pin pin bit) = in_pin (slice_get n.pins pin) bit
  where
    in_pin : Option PinUse → ℕ → NamedBit
    in_pin None bit = record { name = []; width = 0; index = bit }
    in_pin (Some p) bit = record { name = input_name p; width = length p.bits; index = bit }
bit_of n (Clock clock) = record { name = codes "clk"; width = 1; index = 0 }

-- the bit that a net carries: that of its first driver
abbrev pub bit_on : Netlist → ℕ → NamedBit
bit_on n net = unwrap_or (option_map (bit_of n) (first_driver n net)) (record { name = []; width = 0; index = 0 })

-- bits of one name in a row, from a high one down to a low one
pub record Run : Type 0 where
  pub name : List ℕ
  pub width : ℕ
  pub high : ℕ
  pub low : ℕ

abbrev pub run_of : NamedBit → Run
run_of b = record { name = b.name; width = b.width; high = b.index; low = b.index }

-- the bit is the next one above the run
abbrev pub goes_on : Run → NamedBit → Bool
goes_on r b = bytes_eq r.name b.name && r.high + 1 == b.index

-- a bit on top of some runs, of which the highest stands first
abbrev pub on_top : List Run → NamedBit → List Run
on_top [] b = run_of b ∷ []
on_top (r ∷ lower) b =
    if goes_on r b then record { name = r.name; width = r.width; high = b.index; low = r.low } ∷ lower else run_of b ∷ r ∷ lower

-- the runs of some bits, which are given from bit 0 up: the highest run first, each as long as it can be
abbrev pub runs : List NamedBit → List Run
runs bits = fold on_top [] bits

-- a whole name, one bit of it, or some
abbrev pub run_expr : Run → Expr
run_expr r =
    if r.high + 1 == r.low + r.width then expr.Whole r.name else (if r.high == r.low then expr.Bit r.name r.low else expr.Part r.name r.high r.low)

-- two or more stand in braces
abbrev pub in_braces : List Expr → Expr
in_braces [] = expr.Whole []
in_braces (e ∷ []) = e
in_braces (e ∷ other ∷ more) = expr.Join e other more

-- what some net bits say: the runs of what drives them, from the highest down
abbrev pub bits_value : Netlist → List ℕ → Expr
bits_value n bits = in_braces (map run_expr (runs (map (bit_on n) bits)))

-- the range of a name of so many bits
abbrev pub range_of : ℕ → Option ℕ
range_of width = if width == 1 then None else Some (width - 1)

-- the attached inputs of a part, with their indexes
abbrev pub attached : PartUse → List (ℕ × List ℕ)
attached p = filter (λ (i : ℕ × List ℕ). not (length i.1 == 0)) (numbered p.inputs)

-- the first of some expressions; each gate that is exported has one
abbrev pub first_of : List Expr → Expr
first_of [] = expr.Whole []
first_of (e ∷ more) = e

abbrev pub without_first : List Expr → List Expr
without_first [] = []
without_first (e ∷ more) = more

-- the expressions joined by an operator, from the left
abbrev pub joined : Operator → List Expr → Expr
joined op inputs = fold (λ a b. expr.Binary a op b) (first_of inputs) (without_first inputs)

-- the equation of a gate over its attached inputs
abbrev pub equation : Cell → List Expr → Expr
equation cell.Not inputs = expr.Not (first_of inputs)
equation cell.And inputs = joined operator.And inputs
equation cell.Or inputs = joined operator.Or inputs

abbrev pub part_decls : ℕ × PartUse → List Decl
part_decls p =
    map (λ (i : ℕ × List ℕ). decl.Wire (range_of (input_width p.1.cell i.0)) (input_wire p.0 i.0)) (attached p.1)
    ++ map (λ (o : ℕ × List ℕ). decl.Wire (range_of (output_width p.1.cell o.0)) (output_wire p.0 o.0)) (numbered p.1.outputs)

-- a part's inputs take what drives them, and its output what the gate says of them
abbrev pub part_assigns : Netlist → ℕ × PartUse → List Assign
part_assigns n p =
    map (λ (i : ℕ × List ℕ). record { name = input_wire p.0 i.0; value = bits_value n i.1 }) (attached p.1)
    ++ record { name = output_wire p.0 0; value = equation p.1.cell (map (λ (i : ℕ × List ℕ). expr.Whole (input_wire p.0 i.0)) (attached p.1)) } ∷ []

abbrev pub module_ports : Netlist → List Port
module_ports n =
    map (λ p. record { direction = Input; range = range_of (length p.bits); name = input_name p }) (input_pins n)
    ++ map (λ p. record { direction = Output; range = range_of (length p.bits); name = output_name p }) (output_pins n)

abbrev pub module_assigns : Netlist → List Assign
module_assigns n =
    flat_map (part_assigns n) (numbered n.parts) ++ map (λ p. record { name = output_name p; value = bits_value n p.bits }) (output_pins n)

-- the module of a netlist without clocks
abbrev pub module_of : Netlist → Module
module_of n = record {
  name = codes "c_" ++ name_of_label n.circuit;
  ports = module_ports n;
  decls = flat_map part_decls (numbered n.parts);
  init = None;
  assigns = module_assigns n;
  edge = None;
}

-- What the module of a netlist declares: a thing for each pin and each wire, of its width.
use Rattle.std.proofs.Common.{◌≡◌, ℕ, ◌-◌, ◌≤◌, Bool, true, false, List, [], ◌∷◌, ◌++◌, length, map, filter, option_map, unwrap_or, Option, None, Some, refl, sym, ap, subst, ◌∙◌, arith, inl, inr, append_assoc}
use Rattle.std.specs.Prelude.{◌==◌, slice_get, if◌then◌else◌}
use Rattle.std.specs.List.{flat_map}
use Rattle.std.proofs.lemmas.Bool.{eqb-true}
use Rattle.std.proofs.lemmas.List.{map-append, append-nil}
use Rattle.std.proofs.lemmas.List.Elements.{filter-append}
use Rattle.lg_netlist.specs.declared.netlist.Cell.{Cell}
use Rattle.lg_netlist.specs.declared.netlist.Cell.TheVariants.{Not, And, Or}
use Rattle.lg_netlist.specs.declared.netlist.PartUse.{PartUse}
use Rattle.lg_netlist.specs.declared.netlist.PinUse.{PinUse}
use Rattle.lg_netlist.specs.declared.netlist.Netlist.{Netlist}
use Rattle.lg_netlist.specs.Cell.{input_width, output_width}
use Rattle.lg_netlist.specs.Static.{input_pins, output_pins, has_no_clock}
use Rattle.lg_vtree.specs.declared.module.Direction.TheVariants.{Input, Output}
use Rattle.lg_vtree.specs.declared.module.Port.{Port}
use Rattle.lg_vtree.specs.declared.module.Decl.TheVariants as decl
use Rattle.lg_vtree.specs.declared.module.Module.{Module}
use Rattle.lg_vrules.specs.declared.names.Sort.{Sort}
use Rattle.lg_vrules.specs.declared.names.Sort.TheVariants as sort
use Rattle.lg_vrules.specs.declared.names.Thing.{Thing}
use Rattle.lg_vrules.specs.Things.{range_width, port_thing, decl_thing, things, names, thing_of, sort_of, width_of, lines_of, names_of, is_input, is_output, is_reg, is_memory, is_readable}
use Rattle.lg_vrules.specs.Rules.{is_of, all_differ}
use Rattle.lg_vmeaning.specs.InOrder.{AllDiffer}
use Rattle.lg_export.specs.Layout.{numbered, range_of, input_name, output_name, input_wire, output_wire, attached, part_decls, module_of}
use Rattle.lg_export.proofs.Items.{IsItem, item_either, item_of_flat}
use Rattle.lg_export.proofs.Named.{part_said, all_said, said_names, said_once, input_said, output_said, x_said, w_said, found_item, all_differ-from, all_names}
use Rattle.lg_export.proofs.Pins.{input_pin, output_pin}

-- a thing of a sort and a width
abbrev pub thing : Sort → ℕ → Thing
thing s width = record { sort = s; high = range_of width }

abbrev pub pin_thing : Sort → PinUse → Thing
pin_thing s p = thing s (length p.bits)

abbrev pub x_thing : ℕ → PartUse → ℕ × List ℕ → Thing
x_thing k p i = thing sort.Wire (input_width p.cell i.0)

abbrev pub w_thing : ℕ → PartUse → ℕ × List ℕ → Thing
w_thing k p o = thing sort.Wire (output_width p.cell o.0)

abbrev pub all_things : Netlist → List (List ℕ × Thing)
all_things n = all_said (pin_thing sort.Input) (pin_thing sort.Output) x_thing w_thing n

two_lists : (a a' b b' : List (List ℕ × Thing)) → a ≡ a' → b ≡ b' → a ++ b ≡ a' ++ b'
two_lists a a' b b' e f = cc

in_things : (pins : List PinUse) → map port_thing (map (λ p. record { direction = Input; range = range_of (length p.bits); name = input_name p }) pins) ≡ map (λ (p : PinUse). (input_name p, pin_thing sort.Input p)) pins
in_things [] = refl
in_things (p ∷ pins) = ap (λ (rest : List (List ℕ × Thing)). (input_name p, pin_thing sort.Input p) ∷ rest) (in_things pins)

out_things : (pins : List PinUse) → map port_thing (map (λ p. record { direction = Output; range = range_of (length p.bits); name = output_name p }) pins) ≡ map (λ (p : PinUse). (output_name p, pin_thing sort.Output p)) pins
out_things [] = refl
out_things (p ∷ pins) = ap (λ (rest : List (List ℕ × Thing)). (output_name p, pin_thing sort.Output p) ∷ rest) (out_things pins)

x_things : (k : ℕ) (p : PartUse) (is : List (ℕ × List ℕ)) → map decl_thing (map (λ (i : ℕ × List ℕ). decl.Wire (range_of (input_width p.cell i.0)) (input_wire k i.0)) is) ≡ map (λ (i : ℕ × List ℕ). (input_wire k i.0, x_thing k p i)) is
x_things k p [] = refl
x_things k p (i ∷ is) = ap (λ (rest : List (List ℕ × Thing)). (input_wire k i.0, x_thing k p i) ∷ rest) (x_things k p is)

w_things : (k : ℕ) (p : PartUse) (os : List (ℕ × List ℕ)) → map decl_thing (map (λ (o : ℕ × List ℕ). decl.Wire (range_of (output_width p.cell o.0)) (output_wire k o.0)) os) ≡ map (λ (o : ℕ × List ℕ). (output_wire k o.0, w_thing k p o)) os
w_things k p [] = refl
w_things k p (o ∷ os) = ap (λ (rest : List (List ℕ × Thing)). (output_wire k o.0, w_thing k p o) ∷ rest) (w_things k p os)

part_things : (p : ℕ × PartUse) → map decl_thing (part_decls p) ≡ part_said x_thing w_thing p
part_things (k, p) =
    let xs = map (λ (i : ℕ × List ℕ). decl.Wire (range_of (input_width p.cell i.0)) (input_wire k i.0)) (attached p) in
    let ws = map (λ (o : ℕ × List ℕ). decl.Wire (range_of (output_width p.cell o.0)) (output_wire k o.0)) (numbered p.outputs) in
    map-append decl_thing xs ws
    ∙ two_lists (map decl_thing xs) (map (λ (i : ℕ × List ℕ). (input_wire k i.0, x_thing k p i)) (attached p)) (map decl_thing ws) (map (λ (o : ℕ × List ℕ). (output_wire k o.0, w_thing k p o)) (numbered p.outputs))
    (x_things k p (attached p)) (w_things k p (numbered p.outputs))

wire_things : (ps : List (ℕ × PartUse)) → map decl_thing (flat_map part_decls ps) ≡ flat_map (part_said x_thing w_thing) ps
wire_things [] = refl
wire_things (p ∷ ps) =
    map-append decl_thing (part_decls p) (flat_map part_decls ps)
    ∙ two_lists (map decl_thing (part_decls p)) (part_said x_thing w_thing p) (map decl_thing (flat_map part_decls ps)) (flat_map (part_said x_thing w_thing) ps) (part_things p) (wire_things ps)

-- all that the module declares
pub things-are : (n : Netlist) → things (module_of n) ≡ all_things n
things-are n =
    let ins : List Port = map (λ p. record { direction = Input; range = range_of (length p.bits); name = input_name p }) (input_pins n) in
    let outs : List Port = map (λ p. record { direction = Output; range = range_of (length p.bits); name = output_name p }) (output_pins n) in
    let inputs = map (λ (p : PinUse). (input_name p, pin_thing sort.Input p)) (input_pins n) in
    let outputs = map (λ (p : PinUse). (output_name p, pin_thing sort.Output p)) (output_pins n) in
    let wires = flat_map (part_said x_thing w_thing) (numbered n.parts) in
    two_lists (map port_thing (ins ++ outs)) (inputs ++ outputs) (map decl_thing (flat_map part_decls (numbered n.parts))) wires
    (map-append port_thing ins outs ∙ two_lists (map port_thing ins) inputs (map port_thing outs) outputs (in_things (input_pins n)) (out_things (output_pins n))) (wire_things (numbered n.parts))
    ∙ append_assoc inputs outputs wires

-- its names differ
pub names_apart : (n : Netlist) → has_no_clock n ≡ true → AllDiffer (names (module_of n))
names_apart n clockless =
    subst AllDiffer (ap (λ (all : List (List ℕ × Thing)). map (λ (t : List ℕ × Thing). t.0) all) (sym (things-are n))) (said_once (pin_thing sort.Input) (pin_thing sort.Output) x_thing w_thing n clockless)

pub names_all_differ : (n : Netlist) → has_no_clock n ≡ true → all_differ (names (module_of n)) ≡ true
names_all_differ n clockless = all_differ-from (names (module_of n)) (names_apart n clockless)

pub names-are : (n : Netlist) → names (module_of n) ≡ all_names n
names-are n = ap (λ (all : List (List ℕ × Thing)). map (λ (t : List ℕ × Thing). t.0) all) (things-are n) ∙ said_names (pin_thing sort.Input) (pin_thing sort.Output) x_thing w_thing n

-- what stands under a name
declared : (n : Netlist) → has_no_clock n ≡ true → (t : List ℕ × Thing) → IsItem (all_things n) t → thing_of (module_of n) t.0 ≡ Some t.1
declared n clockless t here =
    found_item (things (module_of n)) t (names_apart n clockless) (subst (λ (all : List (List ℕ × Thing)). IsItem all t) (sym (things-are n)) here)

pub input_declared : (n : Netlist) → has_no_clock n ≡ true → (p : PinUse) → IsItem (input_pins n) p → thing_of (module_of n) (input_name p) ≡ Some (pin_thing sort.Input p)
input_declared n clockless p here = declared n clockless (input_name p, pin_thing sort.Input p) (input_said (pin_thing sort.Input) (pin_thing sort.Output) x_thing w_thing n p here)

pub output_declared : (n : Netlist) → has_no_clock n ≡ true → (p : PinUse) → IsItem (output_pins n) p → thing_of (module_of n) (output_name p) ≡ Some (pin_thing sort.Output p)
output_declared n clockless p here = declared n clockless (output_name p, pin_thing sort.Output p) (output_said (pin_thing sort.Input) (pin_thing sort.Output) x_thing w_thing n p here)

pub x_declared : (n : Netlist) → has_no_clock n ≡ true → (k : ℕ) (p : PartUse) (i : ℕ × List ℕ) → slice_get n.parts k ≡ Some p → IsItem (attached p) i
    → thing_of (module_of n) (input_wire k i.0) ≡ Some (x_thing k p i)
x_declared n clockless k p i at here = declared n clockless (input_wire k i.0, x_thing k p i) (x_said (pin_thing sort.Input) (pin_thing sort.Output) x_thing w_thing n k p i at here)

pub w_declared : (n : Netlist) → has_no_clock n ≡ true → (k : ℕ) (p : PartUse) (o : ℕ × List ℕ) → slice_get n.parts k ≡ Some p → IsItem (numbered p.outputs) o
    → thing_of (module_of n) (output_wire k o.0) ≡ Some (w_thing k p o)
w_declared n clockless k p o at here = declared n clockless (output_wire k o.0, w_thing k p o) (w_said (pin_thing sort.Input) (pin_thing sort.Output) x_thing w_thing n k p o at here)

-- ---- widths and sorts

pub range_width-of : (width : ℕ) → 1 ≤ width → range_width (range_of width) ≡ width
range_width-of width some = by (width == 1) refl
  where
    by : (b : Bool) → (width == 1) ≡ b → range_width (if b then None else Some (width - 1)) ≡ width
    by true e = sym (eqb-true width 1 e)
    by false e = omega (arith, some)

pub one_bit_input : (c : Cell) (i : ℕ) → input_width c i ≡ 1
one_bit_input Not i = refl
one_bit_input And i = refl
one_bit_input Or i = refl

pub one_bit_output : (c : Cell) (o : ℕ) → output_width c o ≡ 1
one_bit_output Not o = refl
one_bit_output And o = refl
one_bit_output Or o = refl

pub width_by : (m : Module) (name : List ℕ) (s : Sort) (width : ℕ) → 1 ≤ width → thing_of m name ≡ Some (thing s width) → width_of m name ≡ width
width_by m name s width some e = ap (λ (o : Option Thing). unwrap_or (option_map (λ (t : Thing). range_width t.high) o) 0) e ∙ range_width-of width some

pub is_of_by : (m : Module) (is : Sort → Bool) (name : List ℕ) (t : Thing) → thing_of m name ≡ Some t → is_of is (sort_of m) name ≡ is t.sort
is_of_by m is name t e = ap (λ (o : Option Thing). unwrap_or (option_map is (option_map (λ (t : Thing). t.sort) o)) false) e

-- ---- the lines of a sort

abbrev pub line_of : List ℕ × Thing → List ℕ × ℕ
line_of t = (t.0, range_width t.1.high)

abbrev sorted : (Sort → Bool) → List (List ℕ × Thing) → List (List ℕ × ℕ)
sorted is all = map line_of (filter (λ (t : List ℕ × Thing). is t.1.sort) all)

sorted-append : (is : Sort → Bool) (xs ys : List (List ℕ × Thing)) → sorted is (xs ++ ys) ≡ sorted is xs ++ sorted is ys
sorted-append is xs ys =
    let test : List ℕ × Thing → Bool = λ (t : List ℕ × Thing). is t.1.sort in
    ap (map line_of) (filter-append test xs ys) ∙ map-append line_of (filter test xs) (filter test ys)

sorted_all : (is : Sort → Bool) (all : List (List ℕ × Thing)) → ((t : List ℕ × Thing) → IsItem all t → is t.1.sort ≡ true) → sorted is all ≡ map line_of all
sorted_all is [] each = refl
sorted_all is (t ∷ all) each = rw (each t (inl refl)) (ap (λ (rest : List (List ℕ × ℕ)). line_of t ∷ rest) (sorted_all is all (λ u h. each u (inr h))))

sorted_none : (is : Sort → Bool) (all : List (List ℕ × Thing)) → ((t : List ℕ × Thing) → IsItem all t → is t.1.sort ≡ false) → sorted is all ≡ []
sorted_none is [] each = refl
sorted_none is (t ∷ all) each = rw (each t (inl refl)) (sorted_none is all (λ u h. each u (inr h)))

pin_sorts : (s : Sort) (name : PinUse → List ℕ) (pins : List PinUse) (t : List ℕ × Thing) → IsItem (map (λ (p : PinUse). (name p, pin_thing s p)) pins) t → t.1.sort ≡ s
pin_sorts s name [] t here = absurd here
pin_sorts s name (p ∷ pins) t (inl e) = ap (λ (u : List ℕ × Thing). u.1.sort) e
pin_sorts s name (p ∷ pins) t (inr here) = pin_sorts s name pins t here

x_sorts : (k : ℕ) (p : PartUse) (is : List (ℕ × List ℕ)) (t : List ℕ × Thing) → IsItem (map (λ (i : ℕ × List ℕ). (input_wire k i.0, x_thing k p i)) is) t → t.1.sort ≡ sort.Wire
x_sorts k p [] t here = absurd here
x_sorts k p (i ∷ is) t (inl e) = ap (λ (u : List ℕ × Thing). u.1.sort) e
x_sorts k p (i ∷ is) t (inr here) = x_sorts k p is t here

w_sorts : (k : ℕ) (p : PartUse) (os : List (ℕ × List ℕ)) (t : List ℕ × Thing) → IsItem (map (λ (o : ℕ × List ℕ). (output_wire k o.0, w_thing k p o)) os) t → t.1.sort ≡ sort.Wire
w_sorts k p [] t here = absurd here
w_sorts k p (o ∷ os) t (inl e) = ap (λ (u : List ℕ × Thing). u.1.sort) e
w_sorts k p (o ∷ os) t (inr here) = w_sorts k p os t here

wire_sorts : (ps : List (ℕ × PartUse)) (t : List ℕ × Thing) → IsItem (flat_map (part_said x_thing w_thing) ps) t → t.1.sort ≡ sort.Wire
wire_sorts ps t here = of (item_of_flat (part_said x_thing w_thing) ps t here)
  where
    of : (e : ℕ × PartUse) × IsItem ps e × IsItem (part_said x_thing w_thing e) t → t.1.sort ≡ sort.Wire
    of (e, listed, here) =
        elim (item_either (map (λ (i : ℕ × List ℕ). (input_wire e.0 i.0, x_thing e.0 e.1 i)) (attached e.1)) (map (λ (o : ℕ × List ℕ). (output_wire e.0 o.0, w_thing e.0 e.1 o)) (numbered e.1.outputs)) t here) [
          | inl x ↦ x_sorts e.0 e.1 (attached e.1) t x
          | inr w ↦ w_sorts e.0 e.1 (numbered e.1.outputs) t w
        ]

-- which of the three groups are of a sort
abbrev group : Bool → List (List ℕ × Thing) → List (List ℕ × ℕ)
group true all = map line_of all
group false all = []

grouped : (is : Sort → Bool) (s : Sort) (all : List (List ℕ × Thing)) → ((t : List ℕ × Thing) → IsItem all t → t.1.sort ≡ s) → (b : Bool) → is s ≡ b → sorted is all ≡ group b all
grouped is s all each true e = sorted_all is all (λ t h. ap is (each t h) ∙ e)
grouped is s all each false e = sorted_none is all (λ t h. ap is (each t h) ∙ e)

two_lines : (a a' b b' : List (List ℕ × ℕ)) → a ≡ a' → b ≡ b' → a ++ b ≡ a' ++ b'
two_lines a a' b b' e f = cc

lines-are : (n : Netlist) (is : Sort → Bool) → lines_of is (module_of n)
    ≡ group (is sort.Input) (map (λ (p : PinUse). (input_name p, pin_thing sort.Input p)) (input_pins n))
    ++ (group (is sort.Output) (map (λ (p : PinUse). (output_name p, pin_thing sort.Output p)) (output_pins n)) ++ group (is sort.Wire) (flat_map (part_said x_thing w_thing) (numbered n.parts)))
lines-are n is =
    let ins = map (λ (p : PinUse). (input_name p, pin_thing sort.Input p)) (input_pins n) in
    let outs = map (λ (p : PinUse). (output_name p, pin_thing sort.Output p)) (output_pins n) in
    let wires = flat_map (part_said x_thing w_thing) (numbered n.parts) in
    ap (sorted is) (things-are n)
    ∙ (sorted-append is ins (outs ++ wires)
    ∙ two_lines (sorted is ins) (group (is sort.Input) ins) (sorted is (outs ++ wires)) (group (is sort.Output) outs ++ group (is sort.Wire) wires)
    (grouped is sort.Input ins (pin_sorts sort.Input input_name (input_pins n)) (is sort.Input) refl)
    (sorted-append is outs wires
    ∙ two_lines (sorted is outs) (group (is sort.Output) outs) (sorted is wires) (group (is sort.Wire) wires)
    (grouped is sort.Output outs (pin_sorts sort.Output output_name (output_pins n)) (is sort.Output) refl)
    (grouped is sort.Wire wires (wire_sorts (numbered n.parts)) (is sort.Wire) refl)))

pin_lines : (s : Sort) (name : PinUse → List ℕ) (pins : List PinUse) → ((p : PinUse) → IsItem pins p → 1 ≤ length p.bits) → map line_of (map (λ (p : PinUse). (name p, pin_thing s p)) pins) ≡ map (λ (p : PinUse). (name p, length p.bits)) pins
pin_lines s name [] some = refl
pin_lines s name (p ∷ pins) some =
    cons_lines (line_of (name p, pin_thing s p)) (name p, length p.bits) (map line_of (map (λ (p : PinUse). (name p, pin_thing s p)) pins)) (map (λ (p : PinUse). (name p, length p.bits)) pins)
    (ap (λ (w : ℕ). (name p, w)) (range_width-of (length p.bits) (some p (inl refl)))) (pin_lines s name pins (λ q h. some q (inr h)))
  where
    cons_lines : (a b : List ℕ × ℕ) (xs ys : List (List ℕ × ℕ)) → a ≡ b → xs ≡ ys → a ∷ xs ≡ b ∷ ys
    cons_lines a b xs ys e f = cc

-- the module's inputs and outputs are those of the pins; it has no register and no memory
pub inputs-are : (n : Netlist) → has_no_clock n ≡ true → lines_of is_input (module_of n) ≡ map (λ (p : PinUse). (input_name p, length p.bits)) (input_pins n)
inputs-are n clockless =
    lines-are n is_input
    ∙ (append-nil (map line_of (map (λ (p : PinUse). (input_name p, pin_thing sort.Input p)) (input_pins n)))
    ∙ pin_lines sort.Input input_name (input_pins n) (λ p h. (input_pin n clockless p h).fits.some_bits))

pub outputs-are : (n : Netlist) → has_no_clock n ≡ true → lines_of is_output (module_of n) ≡ map (λ (p : PinUse). (output_name p, length p.bits)) (output_pins n)
outputs-are n clockless =
    lines-are n is_output
    ∙ (append-nil (map line_of (map (λ (p : PinUse). (output_name p, pin_thing sort.Output p)) (output_pins n)))
    ∙ pin_lines sort.Output output_name (output_pins n) (λ p h. (output_pin n clockless p h).fits.some_bits))

pub no_registers : (n : Netlist) → lines_of is_reg (module_of n) ≡ []
no_registers n = lines-are n is_reg

pub no_memories : (n : Netlist) → lines_of is_memory (module_of n) ≡ []
no_memories n = lines-are n is_memory

-- what can be read is all that is declared
pub readable-are : (n : Netlist) → lines_of is_readable (module_of n) ≡ map line_of (all_things n)
readable-are n =
    let ins = map (λ (p : PinUse). (input_name p, pin_thing sort.Input p)) (input_pins n) in
    let outs = map (λ (p : PinUse). (output_name p, pin_thing sort.Output p)) (output_pins n) in
    let wires = flat_map (part_said x_thing w_thing) (numbered n.parts) in
    lines-are n is_readable
    ∙ (ap (λ (rest : List (List ℕ × ℕ)). map line_of ins ++ rest) (sym (map-append line_of outs wires)) ∙ sym (map-append line_of ins (outs ++ wires)))

names_map : (name : PinUse → List ℕ) (pins : List PinUse) → map (λ (l : List ℕ × ℕ). l.0) (map (λ (p : PinUse). (name p, length p.bits)) pins) ≡ map name pins
names_map name [] = refl
names_map name (p ∷ pins) = ap (λ (rest : List (List ℕ)). name p ∷ rest) (names_map name pins)

pub input_names-are : (n : Netlist) → has_no_clock n ≡ true → names_of is_input (module_of n) ≡ map input_name (input_pins n)
input_names-are n clockless = ap (map (λ (l : List ℕ × ℕ). l.0)) (inputs-are n clockless) ∙ names_map input_name (input_pins n)

pub output_names-are : (n : Netlist) → has_no_clock n ≡ true → names_of is_output (module_of n) ≡ map output_name (output_pins n)
output_names-are n clockless = ap (map (λ (l : List ℕ × ℕ). l.0)) (outputs-are n clockless) ∙ names_map output_name (output_pins n)

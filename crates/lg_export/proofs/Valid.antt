-- The module of an accepted netlist keeps the seven rules.
use Rattle.std.proofs.Common.{◌≡◌, ℕ, ◌<◌, ◌≤◌, Bool, true, false, not, ◌&&◌, ◌||◌, List, [], ◌∷◌, ◌++◌, length, map, Option, None, Some, refl, sym, ap, subst, ◌∙◌, arith, inl, inr, ◌⊎◌}
use Rattle.std.specs.Prelude.{◌==◌, nat_le, sum_by, slice_get, IsTrue, Contains}
use Rattle.std.specs.List.{list_all}
use Rattle.std.specs.Str.{bytes_eq}
use Rattle.std.proofs.lemmas.Bool.{and_from, or_right, le-leb, eq-eqb, eqb-true}
use Rattle.std.proofs.lemmas.List.Sums.{sum_by-cons}
use Rattle.std.proofs.lemmas.Option.{get_or_from_slice_get, slice_get_within}
use Rattle.std.proofs.lemmas.Slice.Eq.{bytes_eq-Decides}
use Rattle.lg_netlist.specs.declared.netlist.PartUse.{PartUse}
use Rattle.lg_netlist.specs.declared.netlist.PinUse.{PinUse}
use Rattle.lg_netlist.specs.declared.netlist.Netlist.{Netlist}
use Rattle.lg_netlist.specs.Acceptance.{IsAccepted}
use Rattle.lg_netlist.specs.Cell.{input_width, output_width}
use Rattle.lg_netlist.specs.Static.{input_pins, output_pins, has_no_clock}
use Rattle.lg_netlist.specs.Valid.{HaveWidths, has_width}
use Rattle.lg_vtree.specs.declared.expr.Expr.{Expr}
use Rattle.lg_vtree.specs.declared.expr.Expr.TheVariants as expr
use Rattle.lg_vtree.specs.declared.module.Assign.{Assign}
use Rattle.lg_vtree.specs.declared.module.Direction.TheVariants.{Input, Output}
use Rattle.lg_vtree.specs.declared.module.Decl.{Decl}
use Rattle.lg_vtree.specs.declared.module.Decl.TheVariants as decl
use Rattle.lg_vtree.specs.declared.module.Port.{Port}
use Rattle.lg_vtree.specs.declared.module.Module.{Module}
use Rattle.lg_vrules.specs.declared.names.Sort.{Sort}
use Rattle.lg_vrules.specs.declared.names.Sort.TheVariants as sort
use Rattle.lg_vrules.specs.declared.names.Thing.{Thing}
use Rattle.lg_vrules.specs.Inside.{holds_inside}
use Rattle.lg_vrules.specs.Rules.{is_among, all_differ, is_named, are_named, is_of, reads_declared, is_target, assign_uses, is_no_clock, all_use, are_used, expr_width, assign_fits, decl_fits, is_narrow, are_narrow, are_fitting, has_each, are_assigned_once, are_stored_once, are_filled_once, are_kept_once, divides_safely, are_divided_safely, all_address, decl_words, decl_is_whole, are_addressed, assigned, first_false, first_broken}
use Rattle.lg_vrules.specs.Things.{range_width, port_thing, decl_thing, things, names, sort_of, width_of, is_reg, is_memory, is_assignable, is_readable}
use Rattle.lg_vmeaning.specs.InOrder.{IsIn, AllDiffer}
use Rattle.lg_vmeaning.proofs.ValidLemmas.{differ_both}
use Rattle.lg_export.specs.Layout.{NamedBit, numbered, range_of, input_name, output_name, input_wire, output_wire, bit_on, attached, equation, part_decls, module_ports, module_assigns, module_of}
use Rattle.lg_export.proofs.Declared.{pin_thing, x_thing, w_thing, all_things, things-are, names_all_differ, input_declared, output_declared, x_declared, w_declared, range_width-of, one_bit_input, one_bit_output, width_by, is_of_by}
use Rattle.lg_export.proofs.Given.{Given, OfInput, OfPart, OfPin, given, assigned-are}
use Rattle.lg_export.proofs.Items.{IsItem, item_either, item_of_map, item_of_flat, numbered_at, flat_item, all_items, map_item, item_left, item_right}
use Rattle.lg_export.proofs.Equations.{wholes, equation_declared, equation_width, equation_divides, equation_address}
use Rattle.lg_export.proofs.Named.{x_names, w_names, part_names, wire_names, in_item, item_in, all_differ-from, wires_apart, output_is_no_wire, attached_is, only_output, FromInput, FromOutput, FromX, FromW, Origin, origin}
use Rattle.lg_export.proofs.Pins.{input_pin, output_pin, part_fits, output_names_differ}
use Rattle.lg_export.proofs.Runs.{FitWidths, bits_declared, bits_width, bits_divide, bits_address}
use Rattle.lg_export.proofs.Sources.{Source, FromPin, FromPart, input_source, pin_source, fed}
use Rattle.lg_export.proofs.WireNames.{output_name_same}

-- an attached port has its width
pub port_width : (width : ℕ → ℕ) (ports : List (List ℕ)) (port : ℕ) (bits : List ℕ) → HaveWidths width ports → slice_get ports port ≡ Some bits → 0 < length bits → length bits ≡ width port
port_width width ports port bits have at some =
    let here = subst (λ (bits : List ℕ). IsTrue (has_width (width port) bits)) (get_or_from_slice_get ports port bits [] at) (have port (slice_get_within ports port bits at)) in
    by (length bits == 0) refl here
  where
    by : (b : Bool) → (length bits == 0) ≡ b → (b || (length bits == width port)) ≡ true → length bits ≡ width port
    by true e h = absurd (omega (arith, eqb-true (length bits) 0 e, some))
    by false e h = eqb-true (length bits) (width port) h

-- the ports of pins
abbrev in_port : PinUse → Port
in_port p = record { direction = Input; range = range_of (length p.bits); name = input_name p }

abbrev out_port : PinUse → Port
out_port p = record { direction = Output; range = range_of (length p.bits); name = output_name p }

-- ---- names with their sorts and widths

-- the bit is one of a name that can be read
pub record FitsModule (m : Module) (b : NamedBit) : Type 0 where
  pub width : width_of m b.name ≡ b.width
  pub index : b.index < b.width
  pub readable : is_of is_readable (sort_of m) b.name ≡ true

-- an assign fits the module
pub record AssignFits (m : Module) (a : Assign) : Type 0 where
  pub assignable : is_of is_assignable (sort_of m) a.name ≡ true
  pub target : is_of is_target (sort_of m) a.name ≡ true
  pub no_memory : is_of is_memory (sort_of m) a.name ≡ false
  pub declared : reads_declared (sort_of m) a.value ≡ true
  pub width : expr_width (width_of m) a.value ≡ Some (width_of m a.name)
  pub divides : holds_inside divides_safely a.value ≡ true
  pub address : all_address (sort_of m) (width_of m) a.value ≡ true

module _ (n : Netlist) (clockless : has_no_clock n ≡ true) (accepted : IsAccepted n) where
  abbrev m : Module
  m = module_of n

  pub bit_fits : (net : ℕ) → Source n net → FitsModule m (bit_on n net)
  bit_fits net (FromPin p bit here at e) =
      let pin = input_pin n clockless p here in
      let declared = input_declared n clockless p here in
      let fits : FitsModule m (record { name = input_name p; width = length p.bits; index = bit }) = record {
        width = width_by m (input_name p) sort.Input (length p.bits) pin.fits.some_bits declared;
        index = slice_get_within p.bits bit net at;
        readable = is_of_by m is_readable (input_name p) (pin_thing sort.Input p) declared;
      } in
      subst (FitsModule m) (sym e) fits
  bit_fits net (FromPart k p bits bit part output at e) =
      let o : ℕ × List ℕ = (0, bits) in
      let declared = w_declared n clockless k p o part (numbered_at p.outputs 0 bits output) in
      let less = slice_get_within bits bit net at in
      let wide = port_width (output_width p.cell) p.outputs 0 bits (part_fits n k p part).output_widths output (omega (arith, less)) in
      let fits : FitsModule m (record { name = output_wire k 0; width = output_width p.cell 0; index = bit }) = record {
        width = width_by m (output_wire k 0) sort.Wire (output_width p.cell 0) (omega (arith, one_bit_output p.cell 0)) declared;
        index = omega (arith, less, wide);
        readable = is_of_by m is_readable (output_wire k 0) (w_thing k p o) declared;
      } in
      subst (FitsModule m) (sym e) fits

  -- what some bits say fits, where each has a source
  pub bits_fit : (bits : List ℕ) → ((net : ℕ) → Contains bits net → Source n net) → FitWidths (width_of m) n bits
  bits_fit bits sources net here = let f = bit_fits net (sources net here) in (f.width, f.index)

  readable_bits : (bits : List ℕ) → ((net : ℕ) → Contains bits net → Source n net) → (net : ℕ) → Contains bits net → is_of is_readable (sort_of m) (bit_on n net).name ≡ true
  readable_bits bits sources net here = (bit_fits net (sources net here)).readable

  input_sources : (k : ℕ) (p : PartUse) (i : ℕ × List ℕ) → slice_get n.parts k ≡ Some p → IsItem (attached p) i → (net : ℕ) → Contains i.1 net → Source n net
  input_sources k p i at here = let is = attached_is p i here in input_source n clockless accepted k p i.0 i.1 at is.0

  -- the names that a part's equation reads: an attached input, and others
  pub first_of_part : (k : ℕ) (p : PartUse) → slice_get n.parts k ≡ Some p → (name : List ℕ) × (names : List (List ℕ)) × (x_names k (attached p) ≡ name ∷ names)
  first_of_part k p at = go (attached p) (fed n clockless accepted k p at)
    where
      go : (is : List (ℕ × List ℕ)) → 0 < length is → (name : List ℕ) × (names : List (List ℕ)) × (x_names k is ≡ name ∷ names)
      go [] some = absurd (omega (arith, some))
      go (i ∷ is) some = (input_wire k i.0, x_names k is, refl)

  pub wholes-are : (k : ℕ) (is : List (ℕ × List ℕ)) → map (λ (i : ℕ × List ℕ). expr.Whole (input_wire k i.0)) is ≡ wholes (x_names k is)
  wholes-are k [] = refl
  wholes-are k (i ∷ is) = ap (λ (rest : List Expr). expr.Whole (input_wire k i.0) ∷ rest) (wholes-are k is)

  x_fits : (k : ℕ) (p : PartUse) → slice_get n.parts k ≡ Some p → (name : List ℕ) → IsIn (x_names k (attached p)) name → (width_of m name ≡ 1) × (is_of is_readable (sort_of m) name ≡ true)
  x_fits k p at name here =
      let r = item_of_map (λ (i : ℕ × List ℕ). input_wire k i.0) (attached p) name (in_item (x_names k (attached p)) name here) in
      let declared = x_declared n clockless k p r.0 at r.1 in
      let one = one_bit_input p.cell r.0.0 in
      let width = width_by m (input_wire k r.0.0) sort.Wire (input_width p.cell r.0.0) (omega (arith, one)) declared in
      (ap (width_of m) r.2 ∙ (width ∙ one), ap (is_of is_readable (sort_of m)) r.2 ∙ is_of_by m is_readable (input_wire k r.0.0) (x_thing k p r.0) declared)

  pub first_narrow : (k : ℕ) (p : PartUse) → slice_get n.parts k ≡ Some p → (name : List ℕ) (names : List (List ℕ)) → x_names k (attached p) ≡ name ∷ names → width_of m name ≡ 1
  first_narrow k p at name names first = (x_fits k p at name (subst (λ (all : List (List ℕ)). IsIn all name) (sym first) (inl refl))).0

  pub assign_fits_module : (a : Assign) → Given n a → AssignFits m a
  assign_fits_module a (OfInput k p i at here) =
      let is = attached_is p i here in
      let declared = x_declared n clockless k p i at here in
      let name = input_wire k i.0 in
      let sources = input_sources k p i at here in
      let wide = port_width (input_width p.cell) p.inputs i.0 i.1 (part_fits n k p at).input_widths is.0 is.1 in
      let one = one_bit_input p.cell i.0 in
      record {
        assignable = is_of_by m is_assignable name (x_thing k p i) declared;
        target = is_of_by m is_target name (x_thing k p i) declared;
        no_memory = is_of_by m is_memory name (x_thing k p i) declared;
        declared = bits_declared (sort_of m) n i.1 is.1 (readable_bits i.1 sources);
        width = bits_width (width_of m) n i.1 is.1 (omega (arith, wide, one)) (bits_fit i.1 sources) ∙ ap Some (wide ∙ sym (width_by m name sort.Wire (input_width p.cell i.0) (omega (arith, one)) declared));
        divides = bits_divide n i.1 is.1;
        address = bits_address (sort_of m) (width_of m) n i.1 is.1;
      }
  assign_fits_module a (OfPart k p at) =
      let fits = part_fits n k p at in
      let out = only_output p.outputs fits.gives in
      let declared = w_declared n clockless k p (0, out.0) at (numbered_at p.outputs 0 out.0 out.1) in
      let name = output_wire k 0 in
      let one = one_bit_output p.cell 0 in
      let first = first_of_part k p at in
      let written : map (λ (i : ℕ × List ℕ). expr.Whole (input_wire k i.0)) (attached p) ≡ wholes (first.0 ∷ first.1) = wholes-are k (attached p) ∙ ap wholes first.2 in
      let each : (other : List ℕ) → IsIn (first.0 ∷ first.1) other → (width_of m other ≡ 1) × (is_of is_readable (sort_of m) other ≡ true) = λ other here. x_fits k p at other (subst (λ (names : List (List ℕ)). IsIn names other) (sym first.2) here) in
      record {
        assignable = is_of_by m is_assignable name (w_thing k p (0, out.0)) declared;
        target = is_of_by m is_target name (w_thing k p (0, out.0)) declared;
        no_memory = is_of_by m is_memory name (w_thing k p (0, out.0)) declared;
        declared = ap (λ (es : List Expr). reads_declared (sort_of m) (equation p.cell es)) written ∙ equation_declared (sort_of m) p.cell first.0 first.1 (λ other here. (each other here).1);
        width = ap (λ (es : List Expr). expr_width (width_of m) (equation p.cell es)) written ∙ (equation_width (width_of m) p.cell first.0 first.1 (λ other here. (each other here).0)
            ∙ ap Some (sym (width_by m name sort.Wire (output_width p.cell 0) (omega (arith, one)) declared ∙ one)));
        divides = ap (λ (es : List Expr). holds_inside divides_safely (equation p.cell es)) written ∙ equation_divides p.cell first.0 first.1;
        address = ap (λ (es : List Expr). all_address (sort_of m) (width_of m) (equation p.cell es)) written ∙ equation_address (sort_of m) (width_of m) p.cell first.0 first.1;
      }
  assign_fits_module a (OfPin p here) =
      let pin = output_pin n clockless p here in
      let declared = output_declared n clockless p here in
      let name = output_name p in
      let sources = pin_source n clockless accepted p here in
      let some = pin.fits.some_bits in
      record {
        assignable = is_of_by m is_assignable name (pin_thing sort.Output p) declared;
        target = is_of_by m is_target name (pin_thing sort.Output p) declared;
        no_memory = is_of_by m is_memory name (pin_thing sort.Output p) declared;
        declared = bits_declared (sort_of m) n p.bits (omega (arith, some)) (readable_bits p.bits sources);
        width = bits_width (width_of m) n p.bits (omega (arith, some)) (omega (arith, pin.fits.few_bits)) (bits_fit p.bits sources) ∙ ap Some (sym (width_by m name sort.Output (length p.bits) some declared));
        divides = bits_divide n p.bits (omega (arith, some));
        address = bits_address (sort_of m) (width_of m) n p.bits (omega (arith, some));
      }

  each_fits : (a : Assign) → IsItem (module_assigns n) a → AssignFits m a
  each_fits a here = assign_fits_module a (given n a here)

  -- ---- the things

  -- what is declared is an input, or something with an equation
  pub data Kind (t : List ℕ × Thing) : Type 0 where
    IsInput : t.1.sort ≡ sort.Input → Kind t
    IsOutput : t.1.sort ≡ sort.Output → IsIn (map output_name (output_pins n)) t.0 → Kind t
    IsWire : t.1.sort ≡ sort.Wire → IsIn (wire_names 0 n.parts) t.0 → Kind t

  wire_item : (k : ℕ) (p : PartUse) (name : List ℕ) → slice_get n.parts k ≡ Some p → IsItem (part_names (k, p)) name → IsItem (wire_names 0 n.parts) name
  wire_item k p name at here = flat_item part_names (numbered n.parts) (k, p) name (numbered_at n.parts k p at) here

  kind_of : (t : List ℕ × Thing) → IsItem (all_things n) t → Kind t
  kind_of t here = by t (origin (pin_thing sort.Input) (pin_thing sort.Output) x_thing w_thing n t here)
    where
      by : (t : List ℕ × Thing) → Origin (pin_thing sort.Input) (pin_thing sort.Output) x_thing w_thing n t → Kind t
      by t (FromInput p here) = IsInput refl
      by t (FromOutput p here) = IsOutput refl (item_in (map output_name (output_pins n)) (output_name p) (map_item output_name (output_pins n) p here))
      by t (FromX k p i at here) =
          IsWire refl (item_in (wire_names 0 n.parts) (input_wire k i.0) (wire_item k p (input_wire k i.0) at
          (item_left (x_names k (attached p)) (w_names k (numbered p.outputs)) (input_wire k i.0) (map_item (λ (i : ℕ × List ℕ). input_wire k i.0) (attached p) i here))))
      by t (FromW k p o at here) =
          IsWire refl (item_in (wire_names 0 n.parts) (output_wire k o.0) (wire_item k p (output_wire k o.0) at
          (item_right (x_names k (attached p)) (w_names k (numbered p.outputs)) (output_wire k o.0) (map_item (λ (o : ℕ × List ℕ). output_wire k o.0) (numbered p.outputs) o here))))

  kinds : (t : List ℕ × Thing) → IsItem (things m) t → Kind t
  kinds t here = kind_of t (subst (λ (all : List (List ℕ × Thing)). IsItem all t) (things-are n) here)

  -- ---- the rules, one after another

  ports_named : list_all (λ (p : Port). is_named (port_thing p)) m.ports ≡ true
  ports_named = all_items (λ (p : Port). is_named (port_thing p)) (module_ports n) (λ p here. named p (item_either ins outs p here))
    where
      ins : List Port
      ins = map in_port (input_pins n)

      outs : List Port
      outs = map out_port (output_pins n)

      named : (p : Port) → IsItem ins p ⊎ IsItem outs p → is_named (port_thing p) ≡ true
      named p (inl here) = let r = item_of_map in_port (input_pins n) p here in ap (λ (p : Port). is_named (port_thing p)) r.2
      named p (inr here) = let r = item_of_map out_port (output_pins n) p here in ap (λ (p : Port). is_named (port_thing p)) r.2

  rule_1 : are_named m ≡ true
  rule_1 = and_from (all_differ (names m)) (list_all (λ (p : Port). is_named (port_thing p)) m.ports) (names_all_differ n clockless) ports_named

  -- each declaration is a wire of one bit, whose name is not `clk`
  pub decl_is : (d : Decl) → IsItem m.decls d → (name : List ℕ) × (d ≡ decl.Wire None name) × (is_no_clock (decl.Wire None name) ≡ true)
  decl_is d here = of (item_of_flat part_decls (numbered n.parts) d here)
    where
      narrow : (width : ℕ) → width ≡ 1 → range_of width ≡ None
      narrow width e = rw e refl

      of : (e : ℕ × PartUse) × IsItem (numbered n.parts) e × IsItem (part_decls e) d → (name : List ℕ) × (d ≡ decl.Wire None name) × (is_no_clock (decl.Wire None name) ≡ true)
      of (e, listed, here) =
          elim (item_either (map (λ (i : ℕ × List ℕ). decl.Wire (range_of (input_width e.1.cell i.0)) (input_wire e.0 i.0)) (attached e.1)) (map (λ (o : ℕ × List ℕ). decl.Wire (range_of (output_width e.1.cell o.0)) (output_wire e.0 o.0)) (numbered e.1.outputs)) d here) [
            | inl x ↦ let r = item_of_map (λ (i : ℕ × List ℕ). decl.Wire (range_of (input_width e.1.cell i.0)) (input_wire e.0 i.0)) (attached e.1) d x in
                (input_wire e.0 r.0.0, r.2 ∙ ap (λ (range : Option ℕ). decl.Wire range (input_wire e.0 r.0.0)) (narrow (input_width e.1.cell r.0.0) (one_bit_input e.1.cell r.0.0)), refl)
            | inr w ↦ let r = item_of_map (λ (o : ℕ × List ℕ). decl.Wire (range_of (output_width e.1.cell o.0)) (output_wire e.0 o.0)) (numbered e.1.outputs) d w in
                (output_wire e.0 r.0.0, r.2 ∙ ap (λ (range : Option ℕ). decl.Wire range (output_wire e.0 r.0.0)) (narrow (output_width e.1.cell r.0.0) (one_bit_output e.1.cell r.0.0)), refl)
          ]

  each_decl : (test : Decl → Bool) → ((name : List ℕ) → is_no_clock (decl.Wire None name) ≡ true → test (decl.Wire None name) ≡ true) → list_all test m.decls ≡ true
  each_decl test passes = all_items test m.decls (λ d here. let r = decl_is d here in ap test r.1 ∙ passes r.0 r.2)

  rule_2 : are_used (sort_of m) m ≡ true
  rule_2 =
      and_from (list_all is_no_clock m.decls) (all_use (sort_of m) m) (each_decl is_no_clock (λ name e. e))
      (and_from (list_all (assign_uses (sort_of m)) m.assigns) true
      (all_items (assign_uses (sort_of m)) (module_assigns n) (λ a here. let f = each_fits a here in and_from (is_of is_target (sort_of m) a.name) (reads_declared (sort_of m) a.value) f.target f.declared)) refl)

  ports_narrow : list_all (λ (p : Port). is_narrow (port_thing p)) m.ports ≡ true
  ports_narrow = all_items (λ (p : Port). is_narrow (port_thing p)) (module_ports n) (λ p here. narrow p (item_either (map in_port (input_pins n)) (map out_port (output_pins n)) p here))
    where
      at_most : (width : ℕ) → 1 ≤ width → width ≤ 64 → nat_le (range_width (range_of width)) 64 ≡ true
      at_most width some few = le-leb (range_width (range_of width)) 64 (omega (arith, range_width-of width some, few))

      narrow : (p : Port) → IsItem (map in_port (input_pins n)) p ⊎ IsItem (map out_port (output_pins n)) p → is_narrow (port_thing p) ≡ true
      narrow p (inl here) =
          let r = item_of_map in_port (input_pins n) p here in
          let pin = (input_pin n clockless r.0 r.1).fits in
          ap (λ (p : Port). is_narrow (port_thing p)) r.2 ∙ at_most (length r.0.bits) pin.some_bits pin.few_bits
      narrow p (inr here) =
          let r = item_of_map out_port (output_pins n) p here in
          let pin = (output_pin n clockless r.0 r.1).fits in
          ap (λ (p : Port). is_narrow (port_thing p)) r.2 ∙ at_most (length r.0.bits) pin.some_bits pin.few_bits

  fit_width : (a : Assign) → AssignFits m a → assign_fits (sort_of m) (width_of m) a ≡ true
  fit_width a f = rw (f.no_memory, f.width) (eq-eqb (width_of m a.name) (width_of m a.name) refl)

  rule_3 : (are_narrow m && are_fitting (sort_of m) (width_of m) m) ≡ true
  rule_3 =
      and_from (are_narrow m) (are_fitting (sort_of m) (width_of m) m)
      (and_from (list_all (λ (p : Port). is_narrow (port_thing p)) m.ports) (list_all (λ (d : Decl). is_narrow (decl_thing d)) m.decls) ports_narrow (each_decl (λ (d : Decl). is_narrow (decl_thing d)) (λ name e. refl)))
      (and_from (list_all (decl_fits (width_of m)) m.decls) _ (each_decl (decl_fits (width_of m)) (λ name e. refl))
      (and_from (list_all (assign_fits (sort_of m) (width_of m)) m.assigns) true (all_items (assign_fits (sort_of m) (width_of m)) (module_assigns n) (λ a here. fit_width a (each_fits a here))) refl))

  among : (names : List (List ℕ)) (name : List ℕ) → IsIn names name → is_among name names ≡ true
  among [] name here = absurd here
  among (other ∷ names) name (inl e) = let same : bytes_eq other name ≡ true = (bytes_eq-Decides other name).1 (sym e) in rw same refl
  among (other ∷ names) name (inr here) = or_right (bytes_eq other name) (is_among name names) (among names name here)

  assigned_in : (name : List ℕ) → IsIn (wire_names 0 n.parts) name ⊎ IsIn (map output_name (output_pins n)) name → IsIn (assigned m) name
  assigned_in name here =
      let all : IsItem (wire_names 0 n.parts ++ map output_name (output_pins n)) name = elim here [
        | inl w ↦ item_left (wire_names 0 n.parts) (map output_name (output_pins n)) name (in_item (wire_names 0 n.parts) name w)
        | inr o ↦ item_right (wire_names 0 n.parts) (map output_name (output_pins n)) name (in_item (map output_name (output_pins n)) name o)
      ] in
      item_in (assigned m) name (subst (λ (names : List (List ℕ)). IsItem names name) (sym (assigned-are n)) all)

  rule_4 : are_assigned_once (sort_of m) m ≡ true
  rule_4 =
      and_from (all_differ (assigned m)) _ (all_differ-from (assigned m) apart)
      (and_from (list_all (λ (a : Assign). is_of is_assignable (sort_of m) a.name) m.assigns) (has_each is_assignable (λ name. is_among name (assigned m)) m)
      (all_items (λ (a : Assign). is_of is_assignable (sort_of m) a.name) (module_assigns n) (λ a here. (each_fits a here).assignable))
      (all_items (λ (t : List ℕ × Thing). not (is_assignable t.1.sort) || is_among t.0 (assigned m)) (things m) (λ t here. each t (kinds t here))))
    where
      apart : AllDiffer (assigned m)
      apart =
          subst AllDiffer (sym (assigned-are n))
          (differ_both (wire_names 0 n.parts) (map output_name (output_pins n)) (wires_apart n) (output_names_differ n clockless output_name output_name_same) (λ name wire out. output_is_no_wire n name out wire))

      each : (t : List ℕ × Thing) → Kind t → (not (is_assignable t.1.sort) || is_among t.0 (assigned m)) ≡ true
      each t (IsInput e) = ap (λ (s : Sort). not (is_assignable s) || is_among t.0 (assigned m)) e
      each t (IsOutput e here) = or_right (not (is_assignable t.1.sort)) (is_among t.0 (assigned m)) (among (assigned m) t.0 (assigned_in t.0 (inr here)))
      each t (IsWire e here) = or_right (not (is_assignable t.1.sort)) (is_among t.0 (assigned m)) (among (assigned m) t.0 (assigned_in t.0 (inl here)))

  none_of : (is : Sort → Bool) (holds : List ℕ → Bool) → is sort.Input ≡ false → is sort.Output ≡ false → is sort.Wire ≡ false → has_each is holds m ≡ true
  none_of is holds i o w = all_items (λ (t : List ℕ × Thing). not (is t.1.sort) || holds t.0) (things m) (λ t here. each t (kinds t here))
    where
      by_sort : (t : List ℕ × Thing) (s : Sort) → t.1.sort ≡ s → is s ≡ false → (not (is t.1.sort) || holds t.0) ≡ true
      by_sort t s e f = ap (λ (s : Sort). not (is s) || holds t.0) e ∙ ap (λ (b : Bool). not b || holds t.0) f

      each : (t : List ℕ × Thing) → Kind t → (not (is t.1.sort) || holds t.0) ≡ true
      each t (IsInput e) = by_sort t sort.Input e i
      each t (IsOutput e here) = by_sort t sort.Output e o
      each t (IsWire e here) = by_sort t sort.Wire e w

  rule_5 : are_kept_once (sort_of m) m ≡ true
  rule_5 =
      and_from (are_stored_once (sort_of m) m) (are_filled_once (sort_of m) m)
      (and_from (has_each is_reg (λ name. is_among name []) m) true (none_of is_reg (λ name. is_among name []) refl refl refl) refl)
      (none_of is_memory (λ name. is_among name []) refl refl refl)

  rule_6 : are_divided_safely m ≡ true
  rule_6 = and_from (list_all (λ (a : Assign). holds_inside divides_safely a.value) m.assigns) true (all_items (λ (a : Assign). holds_inside divides_safely a.value) (module_assigns n) (λ a here. (each_fits a here).divides)) refl

  no_words : (decls : List Decl) → ((d : Decl) → IsItem decls d → decl_words d ≡ 0) → sum_by decl_words decls ≡ 0
  no_words [] none = refl
  no_words (d ∷ decls) none = sum_by-cons decl_words d decls ∙ omega (arith, none d (inl refl), no_words decls (λ e h. none e (inr h)))

  rule_7 : are_addressed (sort_of m) (width_of m) m ≡ true
  rule_7 =
      and_from (list_all decl_is_whole m.decls && nat_le (sum_by decl_words m.decls) 1048576) _
      (and_from (list_all decl_is_whole m.decls) (nat_le (sum_by decl_words m.decls) 1048576) (each_decl decl_is_whole (λ name e. refl))
      (ap (λ (words : ℕ). nat_le words 1048576) (no_words m.decls (λ d here. ap decl_words (decl_is d here).1))))
      (and_from (list_all (λ (a : Assign). all_address (sort_of m) (width_of m) a.value) m.assigns) true (all_items (λ (a : Assign). all_address (sort_of m) (width_of m) a.value) (module_assigns n) (λ a here. (each_fits a here).address)) refl)

  pub keeps_rules : first_broken m ≡ None
  keeps_rules = all_hold rule_1 rule_2 rule_3 rule_4 rule_5 rule_6 rule_7
    where
      all_hold : {a b c d e f g : Bool} → a ≡ true → b ≡ true → c ≡ true → d ≡ true → e ≡ true → f ≡ true → g ≡ true → first_false 1 (a ∷ b ∷ c ∷ d ∷ e ∷ f ∷ g ∷ []) ≡ None
      all_hold ha hb hc hd he hf hg = rw (ha, hb, hc, hd, he, hf, hg) refl

-- The netlist of a sheet is valid.
use Rattle.std.proofs.Common.{◌≡◌, ℕ, ◌^◌, ◌≤◌, ◌<◌, Bool, true, false, List, [], ◌∷◌, ◌++◌, length, take, drop, map, None, refl, sym, ap, subst, ◌∙◌, arith}
use Rattle.std.specs.Prelude.{IsTrue, All}
use Rattle.std.specs.List.{AllZip, IsDistinct, flat_map, zip}
use Rattle.std.specs.Str.{bytes_eq}
use Rattle.std.proofs.lemmas.List.{length-append, length-map, length-take-le, length-drop}
use Rattle.std.proofs.lemmas.List.Elements.{All-nil, All-cons, All-head, All-append, All-take, All-drop, All-from_get_or}
use Rattle.std.proofs.lemmas.Slice.Zip.{AllZip-long}
use Rattle.lg_circ.specs.declared.project.Comp.{Comp}
use Rattle.lg_circ.specs.declared.project.Wire.{Wire}
use Rattle.lg_nets.specs.Joined.{place_at}
use Rattle.lg_netlist.specs.declared.netlist.Cell.TheVariants as cell
use Rattle.lg_netlist.specs.declared.netlist.PartUse.{PartUse}
use Rattle.lg_netlist.specs.declared.netlist.PinUse.{PinUse}
use Rattle.lg_names.specs.Names.{AreNames, is_pin_name}
use Rattle.lg_netlist.specs.Valid.{IsPort, IsFittingPart, IsFittingPin, IsValid}
use Rattle.lg_netlist.proofs.WidthLemmas.{inputs_have_widths, outputs_have_widths}
use Rattle.lg_flatten.specs.declared.role.Role.{Role}
use Rattle.lg_flatten.specs.declared.role.Role.TheVariants.{Pin, Gate}
use Rattle.lg_flatten.specs.Uses.{Use, input_points, port_points, role_inputs}
use Rattle.lg_flatten.specs.Flat.{role_labels, label_of, pin_labels, port_count, takes_net, take_nets, flagged, role_part, parts_of, role_pin, names_after, pins_of, ArePortBits}
use Rattle.lg_flatten.proofs.BitLemmas.{IsBits, by_port_bits, AllZip-first, AllZip-second}

-- a flag for each port
flags_long : (uses : List Use) (attached : List Bool) → length attached ≡ length (flat_map port_points uses) → length (take_nets uses attached) ≡ length (flat_map port_points uses)
flags_long [] attached e = refl
flags_long (u ∷ more) attached e =
    let all = length-append (port_points u) (flat_map port_points more) in
    let own = length-take-le (port_count u) attached (omega (arith, e, all)) in
    let others = flags_long more (drop (port_count u) attached) (omega (arith, e, all, length-drop (port_count u) attached)) in
    omega (arith, all, own, others, length-append (map (takes_net u.1) (take (port_count u) attached)) (take_nets more (drop (port_count u) attached)), length-map (take (port_count u) attached) (takes_net u.1))

port_from_bits : (count : ℕ) (flag : Bool) (bits : List ℕ) → IsBits count flag bits → IsPort count bits
port_from_bits count true bits h = record { few_bits = omega (arith, h.0); on_nets = h.1 }
port_from_bits count false bits h = record { few_bits = omega (arith, h.0); on_nets = h.1 }

ports_from_bits : (count : ℕ) (flags : List Bool) (ports : List (List ℕ)) → AllZip (IsBits count) flags ports → All (IsPort count) ports
ports_from_bits count [] [] h = All-nil (IsPort count)
ports_from_bits count [] (bits ∷ ports) h = absurd h
ports_from_bits count (flag ∷ flags) [] h = absurd h
ports_from_bits count (flag ∷ flags) (bits ∷ ports) h = All-cons (IsPort count) bits ports (port_from_bits count flag bits h.0) (ports_from_bits count flags ports h.1)

one_bit_at_most : (count : ℕ) (flag : Bool) (bits : List ℕ) → IsBits count flag bits → length bits ≤ 1
one_bit_at_most count true bits h = omega (arith, h.0)
one_bit_at_most count false bits h = omega (arith, h.0)

few_from_bits : (count : ℕ) (flags : List Bool) (ports : List (List ℕ)) → AllZip (IsBits count) flags ports → All (λ bits. length bits ≤ 1) ports
few_from_bits count [] [] h = All-nil (λ (bits : List ℕ). length bits ≤ 1)
few_from_bits count [] (bits ∷ ports) h = absurd h
few_from_bits count (flag ∷ flags) [] h = absurd h
few_from_bits count (flag ∷ flags) (bits ∷ ports) h = All-cons (λ (bits : List ℕ). length bits ≤ 1) bits ports (one_bit_at_most count flag bits h.0) (few_from_bits count flags ports h.1)

one_part : (count : ℕ) (p : PartUse) → IsFittingPart count p → All (IsFittingPart count) (p ∷ [])
one_part count p h = All-cons (IsFittingPart count) p [] h (All-nil (IsFittingPart count))

role_part_fits : (circuit : List ℕ) (count : ℕ) (c : Comp) (r : Role) (ports : List (List ℕ)) → All (IsPort count) ports → All (λ bits. length bits ≤ 1) ports → length ports ≡ length (port_points (c, r))
    → All (IsFittingPart count) (role_part circuit c (length (role_inputs c.loc r)) ports r)
role_part_fits circuit count c (Pin input) ports all few long = All-nil (IsFittingPart count)
role_part_fits circuit count c (Gate cell.Not size) ports all few long = one_part count _ (record {
  takes = let one = length-take-le 1 ports (omega (arith, long)) in (omega (arith, one), omega (arith, one));
  gives = omega (arith, long, length-drop 1 ports);
  inputs = All-take (IsPort count) 1 ports all;
  outputs = All-drop (IsPort count) 1 ports all;
  input_widths = inputs_have_widths cell.Not (take 1 ports) (All-take (λ (bits : List ℕ). length bits ≤ 1) 1 ports few);
  output_widths = outputs_have_widths cell.Not (drop 1 ports) (All-drop (λ (bits : List ℕ). length bits ≤ 1) 1 ports few);
})
role_part_fits circuit count c (Gate cell.And size) ports all few long = one_part count _ (record {
  takes = let two = length-take-le 2 ports (omega (arith, long)) in (omega (arith, two), omega (arith, two));
  gives = omega (arith, long, length-drop 2 ports);
  inputs = All-take (IsPort count) 2 ports all;
  outputs = All-drop (IsPort count) 2 ports all;
  input_widths = inputs_have_widths cell.And (take 2 ports) (All-take (λ (bits : List ℕ). length bits ≤ 1) 2 ports few);
  output_widths = outputs_have_widths cell.And (drop 2 ports) (All-drop (λ (bits : List ℕ). length bits ≤ 1) 2 ports few);
})
role_part_fits circuit count c (Gate cell.Or size) ports all few long = one_part count _ (record {
  takes = let two = length-take-le 2 ports (omega (arith, long)) in (omega (arith, two), omega (arith, two));
  gives = omega (arith, long, length-drop 2 ports);
  inputs = All-take (IsPort count) 2 ports all;
  outputs = All-drop (IsPort count) 2 ports all;
  input_widths = inputs_have_widths cell.Or (take 2 ports) (All-take (λ (bits : List ℕ). length bits ≤ 1) 2 ports few);
  output_widths = outputs_have_widths cell.Or (drop 2 ports) (All-drop (λ (bits : List ℕ). length bits ≤ 1) 2 ports few);
})

-- the flags and the net bits of one use's ports
abbrev own_flags : Use → List Bool → List Bool
own_flags u attached = map (takes_net u.1) (take (port_count u) attached)

own_long : (u : Use) (attached : List Bool) → port_count u ≤ length attached → length (own_flags u attached) ≡ port_count u
own_long u attached few = length-map (take (port_count u) attached) (takes_net u.1) ∙ length-take-le (port_count u) attached few

parts_fit : (circuit : List ℕ) (count : ℕ) (uses : List Use) (attached : List Bool) (ports : List (List ℕ)) → length attached ≡ length (flat_map port_points uses) → AllZip (IsBits count) (take_nets uses attached) ports
    → All (IsFittingPart count) (parts_of circuit uses ports)
parts_fit circuit count [] attached ports e h = All-nil (IsFittingPart count)
parts_fit circuit count (u ∷ more) attached ports e h =
    let all = length-append (port_points u) (flat_map port_points more) in
    let long = own_long u attached (omega (arith, e, all)) in
    let rest = drop (port_count u) attached in
    let first = AllZip-first (IsBits count) (port_count u) (own_flags u attached) (take_nets more rest) ports long h in
    let others = AllZip-second (IsBits count) (port_count u) (own_flags u attached) (take_nets more rest) ports long h in
    let own = take (port_count u) ports in
    All-append (IsFittingPart count) (role_part circuit u.0 (length (input_points u)) own u.1) (parts_of circuit more (drop (port_count u) ports))
    (role_part_fits circuit count u.0 u.1 own (ports_from_bits count (own_flags u attached) own first) (few_from_bits count (own_flags u attached) own first) (AllZip-long (IsBits count) (own_flags u attached) own first ∙ long))
    (parts_fit circuit count more rest (drop (port_count u) ports) (omega (arith, e, all, length-drop (port_count u) attached)) others)

few_parts : (circuit : List ℕ) (comps : List Comp) (roles : List Role) (ports : List (List ℕ)) → length (parts_of circuit (zip comps roles) ports) ≤ length comps
few_parts circuit [] roles ports = omega arith
few_parts circuit (c ∷ comps) [] ports = omega arith
few_parts circuit (c ∷ comps) (r ∷ roles) ports =
    let n = port_count (c, r) in
    let first = one r (take n ports) in
    let others = few_parts circuit comps roles (drop n ports) in
    omega (arith, first, others, length-append (role_part circuit c (length (role_inputs c.loc r)) (take n ports) r) (parts_of circuit (zip comps roles) (drop n ports)))
  where
    one : (r : Role) (own : List (List ℕ)) → length (role_part circuit c (length (role_inputs c.loc r)) own r) ≤ 1
    one (Pin input) own = omega arith
    one (Gate cell size) own = omega arith

few_pins : (circuit : List ℕ) (names : List (List ℕ)) (comps : List Comp) (roles : List Role) (ports : List (List ℕ)) → length (pins_of circuit names (zip comps roles) ports) ≤ length comps
few_pins circuit names [] roles ports = omega arith
few_pins circuit names (c ∷ comps) [] ports = omega arith
few_pins circuit names (c ∷ comps) (r ∷ roles) ports =
    let n = port_count (c, r) in
    let first = one r names (take n ports) in
    let others = few_pins circuit (names_after r names) comps roles (drop n ports) in
    omega (arith, first, others, length-append (role_pin circuit c names (take n ports) r) (pins_of circuit (names_after r names) (zip comps roles) (drop n ports)))
  where
    one : (r : Role) (names : List (List ℕ)) (own : List (List ℕ)) → length (role_pin circuit c names own r) ≤ 1
    one (Pin input) [] [] = omega arith
    one (Pin input) [] (bits ∷ ports) = omega arith
    one (Pin input) (name ∷ names) [] = omega arith
    one (Pin input) (name ∷ names) (bits ∷ ports) = omega arith
    one (Gate cell size) [] [] = omega arith
    one (Gate cell size) [] (bits ∷ ports) = omega arith
    one (Gate cell size) (name ∷ names) [] = omega arith
    one (Gate cell size) (name ∷ names) (bits ∷ ports) = omega arith

abbrev IsName : List ℕ → Type 0
IsName name = IsTrue (is_pin_name name)

one_pin : (count : ℕ) (p : PinUse) → IsFittingPin count p → All (IsFittingPin count) (p ∷ [])
one_pin count p h = All-cons (IsFittingPin count) p [] h (All-nil (IsFittingPin count))

role_pin_fits : (circuit : List ℕ) (count : ℕ) (c : Comp) (r : Role) (names : List (List ℕ)) (attached : List Bool) (ports : List (List ℕ)) → All IsName names → AllZip (IsBits count) (map (takes_net r) attached) ports
    → All (IsFittingPin count) (role_pin circuit c names ports r)
role_pin_fits circuit count c (Pin input) [] attached [] named h = All-nil (IsFittingPin count)
role_pin_fits circuit count c (Pin input) [] attached (bits ∷ ports) named h = All-nil (IsFittingPin count)
role_pin_fits circuit count c (Pin input) (name ∷ names) attached [] named h = All-nil (IsFittingPin count)
role_pin_fits circuit count c (Pin input) (name ∷ names) [] (bits ∷ ports) named h = absurd h
role_pin_fits circuit count c (Pin input) (name ∷ names) (a ∷ attached) (bits ∷ ports) named h =
    one_pin count _ (record { named = All-head IsName name names named; some_bits = omega (arith, h.0.0); few_bits = omega (arith, h.0.0); on_nets = h.0.1 })
role_pin_fits circuit count c (Gate cell size) [] attached [] named h = All-nil (IsFittingPin count)
role_pin_fits circuit count c (Gate cell size) [] attached (bits ∷ ports) named h = All-nil (IsFittingPin count)
role_pin_fits circuit count c (Gate cell size) (name ∷ names) attached [] named h = All-nil (IsFittingPin count)
role_pin_fits circuit count c (Gate cell size) (name ∷ names) attached (bits ∷ ports) named h = All-nil (IsFittingPin count)

left_named : (r : Role) (names : List (List ℕ)) → All IsName names → All IsName (names_after r names)
left_named (Pin input) names named = All-drop IsName 1 names named
left_named (Gate cell size) names named = named

pins_fit : (circuit : List ℕ) (count : ℕ) (names : List (List ℕ)) (uses : List Use) (attached : List Bool) (ports : List (List ℕ)) → All IsName names → length attached ≡ length (flat_map port_points uses)
    → AllZip (IsBits count) (take_nets uses attached) ports → All (IsFittingPin count) (pins_of circuit names uses ports)
pins_fit circuit count names [] attached ports named e h = All-nil (IsFittingPin count)
pins_fit circuit count names (u ∷ more) attached ports named e h =
    let all = length-append (port_points u) (flat_map port_points more) in
    let long = own_long u attached (omega (arith, e, all)) in
    let rest = drop (port_count u) attached in
    let first = AllZip-first (IsBits count) (port_count u) (own_flags u attached) (take_nets more rest) ports long h in
    let others = AllZip-second (IsBits count) (port_count u) (own_flags u attached) (take_nets more rest) ports long h in
    All-append (IsFittingPin count) (role_pin circuit u.0 names (take (port_count u) ports) u.1) (pins_of circuit (names_after u.1 names) more (drop (port_count u) ports))
    (role_pin_fits circuit count u.0 u.1 names (take (port_count u) attached) (take (port_count u) ports) named first)
    (pins_fit circuit count (names_after u.1 names) more rest (drop (port_count u) ports) (left_named u.1 names named) (omega (arith, e, all, length-drop (port_count u) attached)) others)

names_long : (taken labels names : List (List ℕ)) → AreNames taken labels names → length names ≡ length labels
names_long taken [] [] h = refl
names_long taken [] (name ∷ names) h = absurd h
names_long taken (label ∷ labels) [] h = absurd h
names_long taken (label ∷ labels) (name ∷ names) h = let others = names_long (taken ++ name ∷ []) labels names h.1 in omega (arith, others)

abbrev name_of : PinUse → List ℕ
name_of p = p.name

-- the names of one use's pin before others, where there are as many as pins
own_name : (circuit : List ℕ) (c : Comp) (r : Role) (names : List (List ℕ)) (ports : List (List ℕ)) (label : List ℕ) (others : List (List ℕ)) (pins : List PinUse) → 1 ≤ length ports → length names ≡ length (role_labels label r ++ others)
    → (length (names_after r names) ≡ length others → map name_of pins ≡ names_after r names) → map name_of (role_pin circuit c names ports r ++ pins) ≡ names
own_name circuit c (Pin input) names [] label others pins some long rest = absurd (omega (arith, some))
own_name circuit c (Pin input) [] (bits ∷ ports) label others pins some long rest = absurd (omega (arith, long))
own_name circuit c (Pin input) (name ∷ names) (bits ∷ ports) label others pins some long rest = ap (λ (ns : List (List ℕ)). name ∷ ns) (rest (omega (arith, long)))
own_name circuit c (Gate cell size) [] [] label others pins some long rest = rest long
own_name circuit c (Gate cell size) [] (bits ∷ ports) label others pins some long rest = rest long
own_name circuit c (Gate cell size) (name ∷ names) [] label others pins some long rest = rest long
own_name circuit c (Gate cell size) (name ∷ names) (bits ∷ ports) label others pins some long rest = rest long

names_of_pins : (circuit : List ℕ) (names : List (List ℕ)) (uses : List Use) (ports : List (List ℕ)) → length names ≡ length (pin_labels uses) → length ports ≡ length (flat_map port_points uses) → map name_of (pins_of circuit names uses ports) ≡ names
names_of_pins circuit [] [] ports e f = refl
names_of_pins circuit (name ∷ names) [] ports e f = absurd (omega (arith, e))
names_of_pins circuit names (u ∷ more) ports e f =
    let all = length-append (port_points u) (flat_map port_points more) in
    let one = length-append (input_points u) (u.0.loc ∷ []) in
    let own = length-take-le (port_count u) ports (omega (arith, f, all)) in
    own_name circuit u.0 u.1 names (take (port_count u) ports) (label_of u) (pin_labels more) (pins_of circuit (names_after u.1 names) more (drop (port_count u) ports)) (omega (arith, own, one)) e
    (λ long. names_of_pins circuit (names_after u.1 names) more (drop (port_count u) ports) long (omega (arith, f, all, length-drop (port_count u) ports)))

-- the net bits of ports, each with what its flag says
port_bits : (wires : List Wire) (uses : List Use) (ports : List (List ℕ)) (count : ℕ) (h : ArePortBits wires uses ports count) → AllZip (IsBits count) (take_nets uses h.attached) ports
port_bits wires uses ports count h =
    let points = flat_map port_points uses in
    let flags = take_nets uses h.attached in
    let below = All-from_get_or (λ (net : ℕ). net < count) h.nets 0 h.numbering.below in
    let long = flags_long uses h.attached h.are_attached.one_each in
    subst (AllZip (IsBits count) flags) (sym h.bits) (by_port_bits count flags points h.nets (sym long) (h.numbering.one_each ∙ length-map (flagged flags points) place_at) below)

-- net bits for each port
pub bits_long : (wires : List Wire) (uses : List Use) (ports : List (List ℕ)) (count : ℕ) → ArePortBits wires uses ports count → length ports ≡ length (flat_map port_points uses)
bits_long wires uses ports count h =
    AllZip-long (IsBits count) (take_nets uses h.attached) ports (port_bits wires uses ports count h) ∙ flags_long uses h.attached h.are_attached.one_each

-- the parts and pins of few components are valid, where the names of pins can be spelled and differ
pub valid : (circuit : List ℕ) (wires : List Wire) (comps : List Comp) (roles : List Role) (ports : List (List ℕ)) (count : ℕ) (names : List (List ℕ)) → ArePortBits wires (zip comps roles) ports count → AreNames [] (pin_labels (zip comps roles)) names
    → length comps < 2 ^ 32 → All (λ name. IsTrue (is_pin_name name)) names → IsDistinct bytes_eq names → IsValid (parts_of circuit (zip comps roles) ports) (pins_of circuit names (zip comps roles) ports) [] count None
valid circuit wires comps roles ports count names made naming few named differ =
    let uses : List Use = zip comps roles in
    record {
      few_parts = omega (arith, few_parts circuit comps roles ports, few);
      few_pins = omega (arith, few_pins circuit names comps roles ports, few);
      few_clocks = omega arith;
      parts_fit = parts_fit circuit count uses made.attached ports made.are_attached.one_each (port_bits wires uses ports count made);
      pins_fit = pins_fit circuit count names uses made.attached ports named made.are_attached.one_each (port_bits wires uses ports count made);
      clocks_fit = All-nil (λ (c : ℕ × List ℕ). c.0 < count);
      names_differ = subst (IsDistinct bytes_eq) (sym (names_of_pins circuit names uses ports (names_long [] (pin_labels uses) names naming) (bits_long wires uses ports count made))) differ;
      clock_pin_is_input = tt;
    }

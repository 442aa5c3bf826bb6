-- Every sheet of few components has a netlist.
use Rattle.std.proofs.Common.{◌≡◌, ℕ, ◌^◌, ◌≤◌, ◌<◌, Bool, None, List, [], ◌∷◌, length, refl, ap, arith}
use Rattle.std.specs.List.{flat_map, zip}
use Rattle.std.proofs.lemmas.List.{length-append}
use Rattle.lg_circ.specs.declared.project.Comp.{Comp}
use Rattle.lg_circ.specs.declared.project.Wire.{Wire}
use Rattle.lg_circ.specs.declared.project.Sheet.{Sheet}
use Rattle.lg_nets.specs.Joined.{AreLabels, AreAttached}
use Rattle.lg_nets.proofs.SomeNets.{labels_exist, attached_exist}
use Rattle.lg_netlist.specs.declared.netlist.Netlist.{Netlist}
use Rattle.lg_names.specs.Names.{AreNames}
use Rattle.lg_names.specs.Numbering.{IsNumbering}
use Rattle.lg_names.proofs.SomeNumbers.{numbers_exist}
use Rattle.lg_names.proofs.SomeNames.{names_exist}
use Rattle.lg_names.proofs.SpelledLemmas.{all_spelled, all_differ, none_differ}
use Rattle.lg_flatten.specs.declared.role.Role.{Role}
use Rattle.lg_flatten.specs.declared.role.Role.TheVariants.{Pin, Gate}
use Rattle.lg_flatten.specs.Uses.{Use, port_points}
use Rattle.lg_flatten.specs.Flat.{role_labels, label_of, pin_labels, take_nets, flagged, by_port, ArePortBits, parts_of, pins_of, IsNetlistOf}
use Rattle.lg_flatten.proofs.NetLemmas.{IsNumbering-from_labels}
use Rattle.lg_flatten.proofs.Validity.{valid}

-- the ports of uses, on nets by number
record SomeBits (wires : List Wire) (uses : List Use) : Type 0 where
  pub ports : List (List ℕ)
  pub count : ℕ
  pub are : ArePortBits wires uses ports count

bits_exist : (wires : List Wire) (uses : List Use) → SomeBits wires uses
bits_exist wires uses = from_nets (labels_exist wires (flat_map port_points uses)) (attached_exist wires (flat_map port_points uses))
  where
    from_numbers : (labels : List ℕ) (flags : List Bool) → AreLabels wires (flat_map port_points uses) labels → AreAttached wires (flat_map port_points uses) flags
        → (nets : List ℕ) × (count : ℕ) × IsNumbering ◌≡◌ (flagged (take_nets uses flags) labels) nets count → SomeBits wires uses
    from_numbers labels flags l a (nets, count, n) = record {
      ports = by_port (take_nets uses flags) nets;
      count = count;
      are = record {
        attached = flags;
        nets = nets;
        are_attached = a;
        numbering = IsNumbering-from_labels wires (flat_map port_points uses) (take_nets uses flags) labels nets count l n;
        bits = refl;
      };
    }

    from_nets : (labels : List ℕ) × AreLabels wires (flat_map port_points uses) labels → (flags : List Bool) × AreAttached wires (flat_map port_points uses) flags → SomeBits wires uses
    from_nets (labels, l) (flags, a) = from_numbers labels flags l a (numbers_exist (flagged (take_nets uses flags) labels))

-- no component has two labels
few_labels : (comps : List Comp) (roles : List Role) → length (pin_labels (zip comps roles)) ≤ length comps
few_labels [] roles = omega arith
few_labels (c ∷ comps) [] = omega arith
few_labels (c ∷ comps) (r ∷ roles) =
    let others = few_labels comps roles in
    omega (arith, one (label_of (c, r)) r, others, length-append (role_labels (label_of (c, r)) r) (pin_labels (zip comps roles)))
  where
    one : (label : List ℕ) (r : Role) → length (role_labels label r) ≤ 1
    one label (Pin input) = omega arith
    one label (Gate cell size) = omega arith

pub netlist_exists : (sheet : Sheet) (roles : List Role) → length sheet.comps < 2 ^ 32 → (n : Netlist) × IsNetlistOf sheet (zip sheet.comps roles) n
netlist_exists sheet roles few = made (names_exist (pin_labels (zip sheet.comps roles)) few_named)
  where
    few_named : length (pin_labels (zip sheet.comps roles)) < 2 ^ 63
    few_named = omega (arith, few_labels sheet.comps roles)

    bits : SomeBits sheet.wires (zip sheet.comps roles)
    bits = bits_exist sheet.wires (zip sheet.comps roles)

    made : (names : List (List ℕ)) × AreNames [] (pin_labels (zip sheet.comps roles)) names → (n : Netlist) × IsNetlistOf sheet (zip sheet.comps roles) n
    made (names, naming) = (
      record {
        circuit = sheet.name;
        parts = parts_of sheet.name (zip sheet.comps roles) bits.ports;
        pins = pins_of sheet.name names (zip sheet.comps roles) bits.ports;
        clocks = [];
        nets = bits.count;
        clock_pin = None;
        valid = valid sheet.name sheet.wires sheet.comps roles bits.ports bits.count names bits.are naming few
            (all_spelled [] (pin_labels (zip sheet.comps roles)) names (omega (arith, few_named)) naming) (all_differ [] (pin_labels (zip sheet.comps roles)) names none_differ naming);
      },
      record {
        attached = bits.are.attached;
        nets = bits.are.nets;
        names = names;
        are_attached = bits.are.are_attached;
        numbering = bits.are.numbering;
        naming = naming;
        circuit = refl;
        parts = ap (parts_of sheet.name (zip sheet.comps roles)) bits.are.bits;
        pins = ap (pins_of sheet.name names (zip sheet.comps roles)) bits.are.bits;
        no_clock = refl;
        no_clock_pin = refl;
      },
    )

-- Each part of the netlist is what was made for it.
use Rattle.std.proofs.Common.{◌≡◌, ◌<◌, ◌^◌, [], ℕ, List, length, refl, sym, ap, subst, ◌∙◌, arith}
use Rattle.std.specs.Prelude.{IsTrue, All}
use Rattle.std.specs.List.{zip, IsDistinct}
use Rattle.std.specs.Str.{bytes_eq}
use Rattle.lg_circ.specs.declared.project.Wire.{Wire}
use Rattle.lg_circ.specs.declared.project.Comp.{Comp}
use Rattle.lg_names.specs.Names.{AreNames, is_pin_name}
use Rattle.lg_flatten.specs.declared.role.Role.{Role}
use Rattle.lg_flatten.specs.Uses.{AreFit}
use Rattle.lg_flatten.specs.Flat.{pin_labels, parts_of, pins_of, ArePortBits, IsNetlistOf}
use Rattle.lg_flatten.proofs.OneNetlist.{one_netlist}
use Rattle.lg_flatten.proofs.RoleLemmas.{AreFit-from_roles}
use Rattle.lg_flatten.proofs.Validity.{bits_long, valid}
use Rattle.lg_flatten.proofs.flat.netlist.Goals as goal

-- equal circuits, components and net bits have equal parts and pins
same_parts : (circuit circuit' : List ℕ) (comps comps' : List Comp) (roles : List Role) (ports ports' : List (List ℕ)) → circuit ≡ circuit' → comps ≡ comps' → ports ≡ ports'
    → parts_of circuit (zip comps roles) ports ≡ parts_of circuit' (zip comps' roles) ports'
same_parts circuit circuit' comps comps' roles ports ports' e f g =
    ap (λ (text : List ℕ). parts_of text (zip comps roles) ports) e ∙ (ap (λ (cs : List Comp). parts_of circuit' (zip cs roles) ports) f ∙ ap (parts_of circuit' (zip comps' roles)) g)

same_pins : (circuit circuit' : List ℕ) (names names' : List (List ℕ)) (comps comps' : List Comp) (roles : List Role) (ports ports' : List (List ℕ)) → circuit ≡ circuit' → names ≡ names' → comps ≡ comps' → ports ≡ ports'
    → pins_of circuit names (zip comps roles) ports ≡ pins_of circuit' names' (zip comps' roles) ports'
same_pins circuit circuit' names names' comps comps' roles ports ports' e d f g =
    ap (λ (text : List ℕ). pins_of text names (zip comps roles) ports) e ∙ (ap (λ (ns : List (List ℕ)). pins_of circuit' ns (zip comps roles) ports) d
    ∙ (ap (λ (cs : List Comp). pins_of circuit' names' (zip cs roles) ports) f ∙ ap (pins_of circuit' names' (zip comps' roles)) g))

pub port_bits-requires-clause-few : goal.port_bits-requires-clause-few
port_bits-requires-clause-few c = omega (arith, ap length c.as_slice-comps.ensures, ap length c.as_slice-wires.ensures, c.requires.few)

pub port_bits-requires-clause-fit : goal.port_bits-requires-clause-fit
port_bits-requires-clause-fit c = subst (λ (comps : List Comp). AreFit comps c.args.roles.now) (sym c.as_slice-comps.ensures) (AreFit-from_roles c.args.sheet.now.comps c.args.roles.now c.requires.known)

pub parts-requires : goal.parts-requires
parts-requires c = ap length c.as_slice-bits.ensures ∙ bits_long c.as_slice-wires.result.now (zip c.as_slice-comps.result.now c.args.roles.now) c.in_ok-ports.ports c.in_ok-ports.count c.in_ok-ports.ensures

pub pins-requires : goal.pins-requires
pins-requires c = ap length c.as_slice-bits.ensures ∙ bits_long c.as_slice-wires.result.now (zip c.as_slice-comps.result.now c.args.roles.now) c.in_ok-ports.ports c.in_ok-ports.count c.in_ok-ports.ensures

pub invariant_of-result : goal.invariant_of-result
invariant_of-result c =
    let roles = c.args.roles.now in
    let wires = c.as_slice-wires.result.now in
    let comps = c.as_slice-comps.result.now in
    let uses = zip comps roles in
    let ports = c.as_slice-bits.result.now in
    let names = c.as_slice-names.result.now in
    let count = c.in_ok-ports.count in
    let bits : ArePortBits wires uses ports count = subst (λ (ps : List (List ℕ)). ArePortBits wires uses ps count) (sym c.as_slice-bits.ensures) c.in_ok-ports.ensures in
    let named : AreNames [] (pin_labels uses) names =
    subst (AreNames [] (pin_labels uses)) (sym c.as_slice-names.ensures) (subst (λ (ls : List (List ℕ)). AreNames [] ls c.in_ok-found.found) (c.as_slice.ensures ∙ c.in_ok-labels.ensures) c.in_ok-found.ensures.named) in
    let few : length comps < 2 ^ 32 = omega (arith, ap length c.as_slice-comps.ensures, c.requires.few) in
    let spelled = subst (All (λ (name : List ℕ). IsTrue (is_pin_name name))) (sym c.as_slice-names.ensures) c.in_ok-found.ensures.spelled in
    let differ = subst (IsDistinct bytes_eq) (sym c.as_slice-names.ensures) c.in_ok-found.ensures.differ in
    record { valid = rw (c.in_ok-parts.ensures, c.in_ok-pins.ensures, c.new.ensures) (valid c.as_str-circuit.result.now wires comps roles ports count names bits named few spelled differ) }

pub returns : goal.returns
returns c =
    let sheet = c.args.sheet.now in
    let roles = c.args.roles.now in
    let uses = zip sheet.comps roles in
    let comps = c.as_slice-comps.ensures in
    let ports = c.in_ok-ports.ports in
    let count = c.in_ok-ports.count in
    let names = c.in_ok-found.found in
    let bits : ArePortBits sheet.wires uses ports count =
    subst (λ (cs : List Comp). ArePortBits sheet.wires (zip cs roles) ports count) comps (subst (λ (ws : List Wire). ArePortBits ws (zip c.as_slice-comps.result.now roles) ports count) c.as_slice-wires.ensures c.in_ok-ports.ensures) in
    let named : AreNames [] (pin_labels uses) names =
    subst (λ (ls : List (List ℕ)). AreNames [] ls names) (c.as_slice.ensures ∙ (c.in_ok-labels.ensures ∙ ap (λ (cs : List Comp). pin_labels (zip cs roles)) comps)) c.in_ok-found.ensures.named in
    let found : IsNetlistOf sheet uses _ = record {
      attached = bits.attached;
      nets = bits.nets;
      names = names;
      are_attached = bits.are_attached;
      numbering = bits.numbering;
      naming = named;
      circuit = c.in_ok-copy_of.ensures ∙ c.as_str-circuit.ensures;
      parts = c.in_ok-parts.ensures ∙ same_parts _ _ _ _ roles _ _ c.as_str-circuit.ensures comps (c.as_slice-bits.ensures ∙ bits.bits);
      pins = c.in_ok-pins.ensures ∙ same_pins _ _ _ _ _ _ roles _ _ c.as_str-circuit.ensures c.as_slice-names.ensures comps (c.as_slice-bits.ensures ∙ bits.bits);
      no_clock = c.new.ensures;
      no_clock_pin = refl;
    } in
    record {
      found = found;
      only = λ other is. one_netlist sheet uses _ other found is;
    }

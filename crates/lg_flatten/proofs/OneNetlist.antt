-- A sheet has one netlist.
use Rattle.std.proofs.Common.{◌≡◌, ℕ, Bool, List, [], map, Option, sym, ap, subst, ◌∙◌}
use Rattle.std.specs.List.{flat_map}
use Rattle.std.proofs.Props.{props}
use Rattle.lg_circ.specs.declared.project.Point.{Point}
use Rattle.lg_circ.specs.declared.project.Sheet.{Sheet}
use Rattle.lg_nets.specs.Joined.{place_at, Joined}
use Rattle.lg_netlist.specs.declared.netlist.PartUse.{PartUse}
use Rattle.lg_netlist.specs.declared.netlist.PinUse.{PinUse}
use Rattle.lg_netlist.specs.declared.netlist.Netlist.{Netlist}
use Rattle.lg_names.specs.Numbering.{IsNumbering}
use Rattle.lg_netlist.specs.Valid.{IsValid}
use Rattle.lg_names.proofs.OneNaming.{one_naming}
use Rattle.lg_names.proofs.OneNumbering.{one_numbering}
use Rattle.lg_flatten.specs.Uses.{Use, port_points}
use Rattle.lg_flatten.specs.Flat.{pin_labels, take_nets, flagged, by_port, parts_of, pins_of, IsNetlistOf}
use Rattle.lg_flatten.proofs.NetLemmas.{one_attached}

-- a netlist of these fields
abbrev made : (circuit : List ℕ) (parts : List PartUse) (pins : List PinUse) (clocks : List (ℕ × List ℕ)) (nets : ℕ) (clock_pin : Option ℕ) → IsValid parts pins clocks nets clock_pin → Netlist
made circuit parts pins clocks nets clock_pin valid =
    record { circuit = circuit; parts = parts; pins = pins; clocks = clocks; nets = nets; clock_pin = clock_pin; valid = valid }

one_validity : (parts : List PartUse) (pins : List PinUse) (clocks : List (ℕ × List ℕ)) (nets : ℕ) (clock_pin : Option ℕ) → IsProp (IsValid parts pins clocks nets clock_pin)
one_validity parts pins clocks nets clock_pin = hlevel props

-- netlists of the same parts, pins and nets are the same, since each is valid in one way
pub same_netlist : (n other : Netlist) → other.circuit ≡ n.circuit → other.parts ≡ n.parts → other.pins ≡ n.pins → other.clocks ≡ n.clocks → other.nets ≡ n.nets → other.clock_pin ≡ n.clock_pin → other ≡ n
same_netlist n other a b c d e f =
    let none : (v : IsValid n.parts n.pins n.clocks n.nets n.clock_pin) → made n.circuit n.parts n.pins n.clocks n.nets n.clock_pin v ≡ n =
    λ v. ap (made n.circuit n.parts n.pins n.clocks n.nets n.clock_pin) (one_validity n.parts n.pins n.clocks n.nets n.clock_pin v n.valid) in
    let by_clock_pin = subst (λ (x : Option ℕ). (v : IsValid n.parts n.pins n.clocks n.nets x) → made n.circuit n.parts n.pins n.clocks n.nets x v ≡ n) (sym f) none in
    let by_nets = subst (λ (x : ℕ). (v : IsValid n.parts n.pins n.clocks x other.clock_pin) → made n.circuit n.parts n.pins n.clocks x other.clock_pin v ≡ n) (sym e) by_clock_pin in
    let by_clocks = subst (λ (x : List (ℕ × List ℕ)). (v : IsValid n.parts n.pins x other.nets other.clock_pin) → made n.circuit n.parts n.pins x other.nets other.clock_pin v ≡ n) (sym d) by_nets in
    let by_pins = subst (λ (x : List PinUse). (v : IsValid n.parts x other.clocks other.nets other.clock_pin) → made n.circuit n.parts x other.clocks other.nets other.clock_pin v ≡ n) (sym c) by_clocks in
    let by_parts = subst (λ (x : List PartUse). (v : IsValid x other.pins other.clocks other.nets other.clock_pin) → made n.circuit x other.pins other.clocks other.nets other.clock_pin v ≡ n) (sym b) by_pins in
    subst (λ (x : List ℕ). made x other.parts other.pins other.clocks other.nets other.clock_pin other.valid ≡ n) (sym a) (by_parts other.valid)

-- two netlists of a sheet are the same
pub one_netlist : (sheet : Sheet) (uses : List Use) (n other : Netlist) → IsNetlistOf sheet uses n → IsNetlistOf sheet uses other → other ≡ n
one_netlist sheet uses n other h o =
    let ports : List Point = flat_map port_points uses in
    let attached : o.attached ≡ h.attached = one_attached sheet.wires ports o.attached h.attached o.are_attached h.are_attached in
    let numbering = subst (λ (flags : List Bool). IsNumbering (Joined sheet.wires ports) (map place_at (flagged (take_nets uses flags) ports)) o.nets other.nets) attached o.numbering in
    let numbers = one_numbering (map place_at (flagged (take_nets uses h.attached) ports)) o.nets h.nets other.nets n.nets numbering h.numbering in
    let names = one_naming [] (pin_labels uses) o.names h.names o.naming h.naming in
    let nets : by_port (take_nets uses o.attached) o.nets ≡ by_port (take_nets uses h.attached) h.nets =
    ap (λ (flags : List Bool). by_port (take_nets uses flags) o.nets) attached ∙ ap (by_port (take_nets uses h.attached)) numbers.0 in
    same_netlist n other (o.circuit ∙ sym h.circuit) (o.parts ∙ (ap (parts_of sheet.name uses) nets ∙ sym h.parts))
    (o.pins ∙ (ap (λ (ns : List (List ℕ)). pins_of sheet.name ns uses (by_port (take_nets uses o.attached) o.nets)) names ∙ (ap (pins_of sheet.name h.names uses) nets ∙ sym h.pins)))
    (o.no_clock ∙ sym h.no_clock) numbers.1 (o.no_clock_pin ∙ sym h.no_clock_pin)

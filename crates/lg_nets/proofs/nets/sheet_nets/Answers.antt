-- The links of rows and of columns, together.
use Rattle.std.proofs.Common.{◌≡◌, ℕ, ◌+◌, ◌*◌, ◌<◌, ◌++◌, List, length, map, get_or, sym, ap, subst, ◌∙◌, arith}
use Rattle.std.proofs.lemmas.List.Elements.{Contains-get_or}
use Rattle.lg_nets.specs.declared.components.Link.{Link}
use Rattle.lg_nets.specs.Joined.{AreLabels}
use Rattle.lg_nets.specs.Links.{AreClasses}
use Rattle.lg_nets.specs.Rays.{rays}
use Rattle.lg_nets.specs.Segment.{segment_of}
use Rattle.lg_nets.specs.Shares.{AreShared}
use Rattle.lg_nets.proofs.RayLemmas.{length-sheet_rays}
use Rattle.lg_nets.proofs.NetLemmas.{AreNetLinks, AreNetLinks-made, AreLabels-from, AreAttached-from, within}
use Rattle.lg_nets.proofs.nets.sheet_nets.Goals as goal

pub components-requires-clause-few : goal.components-requires-clause-few
components-requires-clause-few c =
    let made : c.in_ok-rays.rays.items ≡ rays (map segment_of c.args.wires.now) c.args.ports.now = c.in_ok-rays.ensures in
    omega (arith, c.len.ensures, ap length made, length-sheet_rays c.args.wires.now c.args.ports.now, c.in_ok-rays.rays.ok.0)

pub components-requires-clause-within : goal.components-requires-clause-within
components-requires-clause-within c =
    let wires = c.args.wires.now in
    let ports = c.args.ports.now in
    let made : c.in_ok-rays.rays.items ≡ rays (map segment_of wires) ports = c.in_ok-rays.ensures in
    let count : length (rays (map segment_of wires) ports) ≡ c.len.result = omega (arith, c.len.ensures, ap length made, c.in_ok-rays.rays.ok.0) in
    let links : AreNetLinks wires ports c.deref-5.result.now =
    AreNetLinks-made wires ports c.deref.result.now c.deref-2.result.now c.deref-3.result.now c.in_ok-links.links.items c.in_ok-columns.columns.items c.deref-5.result.now
    (c.deref.ensures.value ∙ made) (c.deref-2.ensures.value ∙ made) (c.deref-3.ensures.value ∙ c.in_ok-turned.ensures) c.in_ok-links.ensures c.in_ok-columns.ensures
    (c.deref-5.ensures.value ∙ (c.in_ok-extend_from_slice.ensures.items ∙ ap (λ (ls : List Link). c.in_ok-links.links.items ++ ls) c.deref-4.ensures.value)) in
    λ k d less. subst (λ (n : ℕ). ((get_or c.deref-5.result.now k d).from < n) × ((get_or c.deref-5.result.now k d).to < n)) count
    (within wires ports c.deref-5.result.now (get_or c.deref-5.result.now k d) links (Contains-get_or c.deref-5.result.now k d less))

pub attached-requires-clause-long : goal.attached-requires-clause-long
attached-requires-clause-long c =
    let made : c.in_ok-rays.rays.items ≡ rays (map segment_of c.args.wires.now) c.args.ports.now = c.in_ok-rays.ensures in
    let classes : AreClasses c.deref-5.result.now c.len.result c.in_ok-labels.labels.items = c.in_ok-labels.ensures in
    omega (arith, classes.one_each, c.len.ensures, ap length made, length-sheet_rays c.args.wires.now c.args.ports.now, c.in_ok-rays.rays.ok.0, ap length c.deref-6.ensures.value)

pub returns : goal.returns
returns c =
    let wires = c.args.wires.now in
    let ports = c.args.ports.now in
    let labels = c.in_ok-labels.labels.items in
    let made : c.in_ok-rays.rays.items ≡ rays (map segment_of wires) ports = c.in_ok-rays.ensures in
    let count : length ports + 2 * length wires ≡ c.len.result = omega (arith, c.len.ensures, ap length made, length-sheet_rays wires ports, c.in_ok-rays.rays.ok.0) in
    let links : AreNetLinks wires ports c.deref-5.result.now =
    AreNetLinks-made wires ports c.deref.result.now c.deref-2.result.now c.deref-3.result.now c.in_ok-links.links.items c.in_ok-columns.columns.items c.deref-5.result.now
    (c.deref.ensures.value ∙ made) (c.deref-2.ensures.value ∙ made) (c.deref-3.ensures.value ∙ c.in_ok-turned.ensures) c.in_ok-links.ensures c.in_ok-columns.ensures
    (c.deref-5.ensures.value ∙ (c.in_ok-extend_from_slice.ensures.items ∙ ap (λ (ls : List Link). c.in_ok-links.links.items ++ ls) c.deref-4.ensures.value)) in
    let classes : AreClasses c.deref-5.result.now c.len.result labels = c.in_ok-labels.ensures in
    let shared : AreShared wires (length ports) labels c.in_ok-attached.attached.items =
    subst (λ (ls : List ℕ). AreShared wires (length ports) ls c.in_ok-attached.attached.items) c.deref-6.ensures.value c.in_ok-attached.ensures in
    record {
      labels = subst (AreLabels wires ports) (sym c.truncate.ensures.items) (AreLabels-from wires ports c.deref-5.result.now c.len.result labels links classes (omega (arith, count)));
      attached = AreAttached-from wires ports c.deref-5.result.now c.len.result labels c.in_ok-attached.attached.items links classes (omega (arith, count)) shared;
    }

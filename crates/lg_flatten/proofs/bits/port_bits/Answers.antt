-- The labels of the ports that take a net are numbered.
use Rattle.std.proofs.Common.{◌≡◌, ℕ, ◌<◌, Bool, List, length, sym, ap, subst, ◌∙◌, arith}
use Rattle.std.specs.Prelude.{All}
use Rattle.std.specs.List.{flat_map, zip}
use Rattle.lg_circ.specs.declared.project.Point.{Point}
use Rattle.lg_nets.specs.Joined.{AreLabels, AreAttached}
use Rattle.lg_names.specs.Numbering.{IsNumbering}
use Rattle.lg_flatten.specs.Uses.{port_points}
use Rattle.lg_flatten.specs.Flat.{take_nets, flagged, by_port}
use Rattle.lg_flatten.proofs.BitLemmas.{flagged_short}
use Rattle.lg_flatten.proofs.NetLemmas.{IsNumbering-from_labels, labels_small}
use Rattle.lg_flatten.proofs.RoleLemmas.{length-ports}
use Rattle.lg_flatten.proofs.bits.port_bits.Goals as goal

pub sheet_nets-requires : goal.sheet_nets-requires
sheet_nets-requires c =
    let places = c.as_slice-places.ensures.value ∙ c.in_ok-points.ensures in
    record { few = omega (arith, ap length places, length-ports c.args.comps.now c.args.roles.now, c.requires.few) }

pub take_nets-requires : goal.take_nets-requires
take_nets-requires c =
    ap length c.as_slice-attached.ensures.value ∙ (c.in_ok-joined.ensures.attached.one_each ∙ ap length (c.as_slice-places.ensures.value ∙ c.in_ok-points.ensures))

pub numbered-requires-clause-few : goal.numbered-requires-clause-few
numbered-requires-clause-few c =
    let places = c.as_slice-places.ensures.value ∙ c.in_ok-points.ensures in
    let kept = c.as_slice-kept.ensures.value ∙ c.in_ok-taken.ensures in
    let labels = ap length c.as_slice-labels.ensures.value ∙ c.in_ok-joined.ensures.labels.one_each in
    omega (arith, ap length kept, flagged_short c.as_slice-flags.result.now c.as_slice-labels.result.now, labels, ap length places, length-ports c.args.comps.now c.args.roles.now, c.requires.few)

pub numbered-requires-clause-small : goal.numbered-requires-clause-small
numbered-requires-clause-small c =
    let places = c.as_slice-places.result.now in
    let flags = c.as_slice-flags.result.now in
    let small = labels_small c.args.wires.now places flags c.in_ok-joined.joined.labels.items c.in_ok-joined.ensures.labels in
    let kept : c.as_slice-kept.result.now ≡ flagged flags c.in_ok-joined.joined.labels.items =
    c.as_slice-kept.ensures.value ∙ (c.in_ok-taken.ensures ∙ ap (λ (labels : List ℕ). flagged flags labels) c.as_slice-labels.ensures.value) in
    subst (All (λ label. label < length places)) (sym kept) small

pub returns : goal.returns
returns c =
    let wires = c.args.wires.now in
    let uses = zip c.args.comps.now c.args.roles.now in
    let ports = flat_map port_points uses in
    let labels = c.in_ok-joined.joined.labels.items in
    let attached = c.in_ok-joined.joined.attached.items in
    let nets = c.in_ok-nets.nets.items in
    let count = c.in_ok-nets.count in
    let takes = take_nets uses attached in
    let places : c.as_slice-places.result.now ≡ ports = c.as_slice-places.ensures.value ∙ c.in_ok-points.ensures in
    let flags : c.as_slice-flags.result.now ≡ takes = c.as_slice-flags.ensures.value ∙ (c.in_ok-takes.ensures ∙ ap (take_nets uses) c.as_slice-attached.ensures.value) in
    let kept : c.as_slice-kept.result.now ≡ flagged takes labels =
    c.as_slice-kept.ensures.value ∙ (c.in_ok-taken.ensures ∙ (ap (λ (ls : List ℕ). flagged c.as_slice-flags.result.now ls) c.as_slice-labels.ensures.value ∙ ap (λ (fs : List Bool). flagged fs labels) flags)) in
    let labelled : AreLabels wires ports labels = subst (λ (ps : List Point). AreLabels wires ps labels) places c.in_ok-joined.ensures.labels in
    let numbered : IsNumbering ◌≡◌ (flagged takes labels) nets count = subst (λ (ls : List ℕ). IsNumbering ◌≡◌ ls nets count) kept c.in_ok-nets.ensures in
    record {
      attached = attached;
      nets = nets;
      are_attached = subst (λ (ps : List Point). AreAttached wires ps attached) places c.in_ok-joined.ensures.attached;
      numbering = IsNumbering-from_labels wires ports takes labels nets count labelled numbered;
      bits = c.in_ok-bits.ensures ∙ (ap (λ (fs : List Bool). by_port fs c.as_slice-numbers.result.now) flags ∙ ap (by_port takes) c.as_slice-numbers.ensures.value);
    }

-- A turn marks the label of one wire more.
use Rattle.std.proofs.Common.{◌≡◌, ◌∙◌, sym, ap, Some}
use Rattle.std.specs.Prelude.{slice_get}
use Rattle.std.proofs.lemmas.Option.{slice_get-get_or}
use Rattle.lg_circ.specs.declared.project.Wire.{Wire}
use Rattle.lg_nets.proofs.ShareLemmas.{WireShares-taken, WireShares-skipped}
use Rattle.lg_nets.proofs.nets.share_wires.Goals as goal
use Rattle.lg_nets.proofs.nets.share_wires.Goals.{then-is_straight, else-is_straight}

pub loop-place-preserved : goal.loop-place-preserved
loop-place-preserved c =
    let i = c.loop-place.place in
    let wires = c.args.wires.now in
    let wire = c.index-wires-place.result in
    let at : slice_get wires i ≡ Some wire = slice_get-get_or wires i wire c.loop-place-test.true ∙ ap (λ (w : Wire). Some w) (sym c.index-wires-place.is) in
    elim c.if-is_straight.branch [
      | then-is_straight w ↦ rw (w.shared-is, w.mark.ensures) (WireShares-taken wires c.args.labels.now i wire c.args.shared.now c.loop-place.shared
          at (sym c.is_straight.ensures ∙ w.if-is_straight.true) c.loop-place.invariant)
      | else-is_straight w ↦ rw w.shared-is (WireShares-skipped wires c.args.labels.now i wire c.args.shared.now c.loop-place.shared
          at (sym c.is_straight.ensures ∙ w.if-is_straight.false) c.loop-place.invariant)
    ]

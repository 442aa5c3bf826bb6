-- Pins that have columns, up to the first that has none.
use Rattle.std.proofs.Common.{◌≡◌, inr, true, false, [], take, sym, ap, subst, ◌∙◌, List, ℕ}
use Rattle.std.proofs.lemmas.List.{take_all}
use Rattle.lg_vectors.specs.declared.pin.PinShape.{PinShape}
use Rattle.lg_vectors.specs.Binding.{column_names, has_name, AreBound, HaveColumns}
use Rattle.lg_vectors.specs.Known.{KnowsNames}
use Rattle.lg_vectors.proofs.BindingLemmas.{without_at, have_more}
use Rattle.lg_vectors.proofs.binding.bind_rows.Goals as goal

pub returns-then-not-contains-clause-fault : goal.returns-then-not-contains-clause-fault
returns-then-not-contains-clause-fault c =
    let columns = c.args.vector.now.columns in
    let pin = c.pin-item.result in
    let name : List ℕ = c.in_ok-name.name in
    let named : name ≡ pin.name = c.in_ok-name.ensures ∙ c.as_str-then-not-contains.ensures in
    let places : List ℕ = c.in_ok-places.places in
    let bound : AreBound [] c.args.pins.now columns places = rw c.as_slice.ensures at c.in_ok-places.ensures.bound in
    let known : KnowsNames (column_names columns) c.bind_columns.new.seen = rw c.as_slice.ensures at c.in_ok-places.ensures.seen in
    let none : has_name (column_names columns) pin.name ≡ false = ap (has_name (column_names columns)) (sym c.as_str.ensures) ∙ (sym (known.known c.as_str.result.now) ∙ (sym c.contains.ensures ∙ c.if-not-contains.true)) in
    inr (inr ((places, bound), without_at columns c.args.pins.now c.loop-pin.pin-index pin name c.loop-pin-test.true c.pin-item.is c.loop-pin.invariant none named))

pub loop-pin-preserved : goal.loop-pin-preserved
loop-pin-preserved c =
    let columns = c.args.vector.now.columns in
    let pin = c.pin-item.result in
    let known : KnowsNames (column_names columns) c.bind_columns.new.seen = rw c.as_slice.ensures at c.in_ok-places.ensures.seen in
    let has : has_name (column_names columns) pin.name ≡ true = ap (has_name (column_names columns)) (sym c.as_str.ensures) ∙ (sym (known.known c.as_str.result.now) ∙ (sym c.contains.ensures ∙ c.if-not-contains.false)) in
    have_more columns c.args.pins.now c.loop-pin.pin-index pin c.loop-pin-test.true c.pin-item.is c.loop-pin.invariant has

pub returns-clause-whole : goal.returns-clause-whole
returns-clause-whole c =
    let whole : take c.loop-pin.pin-index c.args.pins.now ≡ c.args.pins.now = take_all c.loop-pin.pin-index c.args.pins.now c.loop-pin-test.false in
    subst (λ (pins : List PinShape). HaveColumns c.args.vector.now.columns pins) whole c.loop-pin.invariant

-- A column's name is looked up among earlier names and among pins.
use Rattle.std.proofs.Common.{◌≡◌, inr, Some, sym, ap, ◌∙◌, List, ℕ}
use Rattle.std.specs.BTreeMap.{get_by_text}
use Rattle.lg_vectors.specs.declared.pin.PinShape.{PinShape}
use Rattle.lg_vectors.specs.Binding.{column_names, has_name}
use Rattle.lg_vectors.proofs.BindingLemmas.{place_within, namesake_at}
use Rattle.lg_vectors.proofs.binding.place_of.Goals as goal

pub bounds-pins-place : goal.bounds-pins-place
bounds-pins-place c =
    let named : get_by_text c.args.index.now c.args.column.now.name ≡ Some c.in-Some.place = ap (λ (q : List ℕ). get_by_text c.args.index.now q) (sym c.as_str-name.ensures) ∙ (sym c.get.ensures.value ∙ (sym c.copied.ensures ∙ c.in-Some.is)) in
    place_within c.args.pins.now c.args.index.now c.args.column.now.name c.in-Some.place c.requires.index named

pub bounds-pins-place-in-Some : goal.bounds-pins-place-in-Some
bounds-pins-place-in-Some c =
    let named : get_by_text c.args.index.now c.args.column.now.name ≡ Some c.in-Some.place = ap (λ (q : List ℕ). get_by_text c.args.index.now q) (sym c.as_str-name.ensures) ∙ (sym c.get.ensures.value ∙ (sym c.copied.ensures ∙ c.in-Some.is)) in
    place_within c.args.pins.now c.args.index.now c.args.column.now.name c.in-Some.place c.requires.index named

pub returns-then-pins-place-clause-fault : goal.returns-then-pins-place-clause-fault
returns-then-pins-place-clause-fault c =
    let named : get_by_text c.args.index.now c.args.column.now.name ≡ Some c.in-Some.place = ap (λ (q : List ℕ). get_by_text c.args.index.now q) (sym c.as_str-name.ensures) ∙ (sym c.get.ensures.value ∙ (sym c.copied.ensures ∙ c.in-Some.is)) in
    let pin = c.index-pins-place.result in
    let width = ap (λ (p : PinShape). p.width) c.index-pins-place.is in
    inr (
      c.in_ok-name-3.ensures ∙ c.as_str-name.ensures,
      ap (has_name (column_names c.args.earlier.now)) (sym c.as_str-name.ensures) ∙ (sym (c.requires.seen.known c.as_str-name.result.now) ∙ (sym c.contains.ensures ∙ c.if-contains.false)),
      (c.in-Some.place, pin, namesake_at c.args.pins.now c.args.index.now c.args.column.now c.in-Some.place pin c.requires.index named c.index-pins-place.is, λ e. c.if-pins-place.true (sym width ∙ e)),
    )

pub returns-clause-pin : goal.returns-clause-pin
returns-clause-pin c =
    let named : get_by_text c.args.index.now c.args.column.now.name ≡ Some c.in-Some.place = ap (λ (q : List ℕ). get_by_text c.args.index.now q) (sym c.as_str-name.ensures) ∙ (sym c.get.ensures.value ∙ (sym c.copied.ensures ∙ c.in-Some.is)) in
    let pin = c.index-pins-place.result in
    (pin, namesake_at c.args.pins.now c.args.index.now c.args.column.now c.in-Some.place pin c.requires.index named c.index-pins-place.is, ap (λ (p : PinShape). p.width) c.index-pins-place.is ∙ c.if-pins-place.false)

-- One pin more is known.
use Rattle.std.proofs.Common.{◌≡◌, ◌≤◌, ℕ, List, Some, take, length, subst, ◌∙◌, arith, length-take-le}
use Rattle.std.specs.BTreeMap.{get_by_text}
use Rattle.std.specs.Map.{update}
use Rattle.std.specs.Prelude.{string_bytes}
use Rattle.std.specs.Str.{bytes_eq}
use Rattle.std.proofs.lemmas.List.{take_more}
use Rattle.std.proofs.lemmas.Map.Text.{btree_map_updates_text}
use Rattle.lg_vectors.proofs.BindingLemmas.{KnowsPins-more}
use Rattle.lg_vectors.proofs.binding.pin_index.Goals as goal

pub loop-at-preserved : goal.loop-at-preserved
loop-at-preserved c =
    let pins = c.args.pins.now in
    let at = c.loop-at.at in
    let pin = c.index-pins-at.result in
    let old = c.loop-at.index in
    let key-is : string_bytes c.in_ok-from_str.field-0 ≡ pin.name = c.in_ok-from_str.ensures.ok ∙ c.as_str.ensures in
    let place : c.in-Ok.place ≡ length (take at pins) = let short : at ≤ length pins = omega arith in rw (length-take-le at pins short) (omega (arith, c.in-Ok.ensures)) in
    let one : (q : List ℕ) → get_by_text c.insert.new.self q ≡ update bytes_eq (λ (q : List ℕ). get_by_text old q) pin.name (Some c.in-Ok.place) q = λ q. subst (λ (k : List ℕ). get_by_text c.insert.new.self q ≡ update bytes_eq (λ (q : List ℕ). get_by_text old q) k (Some c.in-Ok.place) q) key-is (btree_map_updates_text (string_bytes c.in_ok-from_str.field-0) old c.insert.new.self (Some c.in-Ok.place) c.in_ok-insert.ensures.updates q) in
    rw (take_more pins at pin c.loop-at-test.true, ← c.index-pins-at.is)
    (KnowsPins-more (take at pins) pin c.in-Ok.place old c.insert.new.self place c.loop-at.invariant one)

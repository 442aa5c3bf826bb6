-- The names of the labels so far, and one more.
use Rattle.std.proofs.Common.{◌≡◌, [], ◌∷◌, ◌++◌, take, ap, subst, ◌∙◌, List, ℕ, arith}
use Rattle.std.specs.BTreeMap.{get_by_text}
use Rattle.std.proofs.lemmas.List.{take_more, take_all}
use Rattle.lg_names.specs.Names.{IsFreeName, name_of_label, AreNames}
use Rattle.lg_names.specs.NextNumbers.{KnowsTaken}
use Rattle.lg_names.proofs.NameLemmas.{AreNames-more}
use Rattle.lg_names.proofs.SpelledLemmas.{all_spelled, all_differ, none_differ}
use Rattle.lg_names.proofs.names.pin_names.Goals as goal

pub loop-label-preserved : goal.loop-label-preserved
loop-label-preserved c =
    let label = c.label-item.result in
    let name-is : c.in_ok-name.name ≡ name_of_label label = c.in_ok-name.ensures ∙ ap name_of_label c.as_str.ensures in
    let free : IsFreeName c.loop-label.names (name_of_label label) c.in_ok-free.free =
    subst (λ (n : List ℕ). IsFreeName c.loop-label.names n c.in_ok-free.free) name-is (subst (λ (t : List (List ℕ)). IsFreeName t c.in_ok-name.name c.in_ok-free.free) c.as_slice.ensures c.in_ok-free.ensures.free) in
    let more = AreNames-more [] (take c.loop-label.label-index c.args.labels.now) c.loop-label.names label c.in_ok-free.free c.loop-label.invariant.named free in
    let grown = take_more c.args.labels.now c.loop-label.label-index label c.loop-label-test.true in
    record {
      named = rw (grown, ← c.label-item.is, c.in_ok-push.ensures.ok) more;
      known = rw c.in_ok-push.ensures.ok (subst (λ (t : List (List ℕ)). KnowsTaken (t ++ c.in_ok-free.free ∷ []) (λ (q : List ℕ). get_by_text c.free_name.new.next q)) c.as_slice.ensures c.in_ok-free.ensures.known);
    }

pub returns-clause-spelled : goal.returns-clause-spelled
returns-clause-spelled c =
    let whole : take c.loop-label.label-index c.args.labels.now ≡ c.args.labels.now = take_all c.loop-label.label-index c.args.labels.now (omega arith) in
    all_spelled [] c.args.labels.now c.loop-label.names (omega arith) (subst (λ (ls : List (List ℕ)). AreNames [] ls c.loop-label.names) whole c.loop-label.invariant.named)

pub returns-clause-differ : goal.returns-clause-differ
returns-clause-differ c = all_differ [] (take c.loop-label.label-index c.args.labels.now) c.loop-label.names none_differ c.loop-label.invariant.named

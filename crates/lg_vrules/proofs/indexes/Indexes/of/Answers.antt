use Rattle.std.proofs.Common.{◌≡◌, ℕ, List, [], Some, take, get_or, sym, subst, Bor}
use Rattle.std.specs.BTreeMap.{get_by_text}
use Rattle.std.specs.Map.{update}
use Rattle.std.specs.Prelude.{string_bytes}
use Rattle.std.specs.Str.{bytes_eq}
use Rattle.std.proofs.lemmas.Map.Text.{btree_map_updates_text}
use Rattle.lg_vrules.specs.Indexes.{KnowsIndexes}
use Rattle.lg_vrules.proofs.IndexesLemmas.{texts, texts_more, fresh_at, count_at, KnowsIndexes-more}
use Rattle.lg_vrules.proofs.indexes.Indexes.of.Goals as goal

pub loop-at-preserved : goal.loop-at-preserved
loop-at-preserved c =
    let names = c.args.names.now in
    let i = c.loop-at.at in
    let none : Bor (List ℕ) = record { ref_ptr = (0, 0); now = [] } in
    let name = get_or names i none in
    let key = c.in_ok-from_str.field-0 in
    let old = c.loop-at.indexes in
    let new = c.insert.new.self in
    let spelled : string_bytes key ≡ name.now = c.in_ok-from_str.ensures.ok in
    let updated : (q : List ℕ) → get_by_text new q ≡ update bytes_eq (λ (q : List ℕ). get_by_text old q) name.now (Some i) q = λ q.
    subst (λ (k : List ℕ). get_by_text new q ≡ update bytes_eq (λ (q : List ℕ). get_by_text old q) k (Some i) q) spelled (btree_map_updates_text (string_bytes key) old new (Some i) c.in_ok-insert.ensures.updates q) in
    let more = texts_more names i none c.loop-at-test.true in
    let fresh = fresh_at names i none c.requires c.loop-at-test.true in
    let count = count_at names i c.loop-at-test.true in
    subst (λ (some : List (List ℕ)). KnowsIndexes some (record { indexes = new })) (sym more)
    (KnowsIndexes-more (texts (take i names)) name.now i (record { indexes = old }) (record { indexes = new }) c.loop-at.invariant fresh count updated)

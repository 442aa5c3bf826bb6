-- A name that has no next number is free.
use Rattle.std.proofs.Common.{◌≡◌, ℕ, List, Some, None, true, false, is_some, ap, sym, subst, ◌∙◌}
use Rattle.std.specs.BTreeMap.{get_by_text}
use Rattle.std.specs.Map.{update}
use Rattle.std.specs.Prelude.{string_bytes}
use Rattle.std.specs.Str.{bytes_eq}
use Rattle.std.proofs.lemmas.Map.Text.{btree_map_updates_text}
use Rattle.lg_names.specs.Names.{is_taken}
use Rattle.lg_names.proofs.NextLemmas.{KnowsTaken-more, IsFreeName-first, IsFreeName-itself}
use Rattle.lg_names.proofs.names.free_name.Goals as goal

pub next_name-requires-clause-taken : goal.next_name-requires-clause-taken
next_name-requires-clause-taken c =
    let known : get_by_text c.args.next.now c.args.name ≡ Some c.in-Some.number = ap (λ (q : List ℕ). get_by_text c.args.next.now q) (sym c.as_str.ensures) ∙ (sym c.get.ensures.value ∙ (sym c.copied.ensures ∙ c.in-Some.is)) in
    sym (c.requires.known c.args.name) ∙ ap is_some known

pub next_name-requires-clause-tried : goal.next_name-requires-clause-tried
next_name-requires-clause-tried c =
    let known : get_by_text c.args.next.now c.args.name ≡ Some c.in-Some.number = ap (λ (q : List ℕ). get_by_text c.args.next.now q) (sym c.as_str.ensures) ∙ (sym c.get.ensures.value ∙ (sym c.copied.ensures ∙ c.in-Some.is)) in
    c.requires.tried c.args.name c.in-Some.number known

pub returns-in-Some-clause-free : goal.returns-in-Some-clause-free
returns-in-Some-clause-free c =
    let known : get_by_text c.args.next.now c.args.name ≡ Some c.in-Some.number = ap (λ (q : List ℕ). get_by_text c.args.next.now q) (sym c.as_str.ensures) ∙ (sym c.get.ensures.value ∙ (sym c.copied.ensures ∙ c.in-Some.is)) in
    let taken : is_taken c.args.taken.now c.args.name ≡ true = sym (c.requires.known c.args.name) ∙ ap is_some known in
    IsFreeName-first c.args.taken.now c.args.name c.next_name.result taken c.next_name.ensures.free

pub returns-in_ok-insert-in-None-clause-free : goal.returns-in_ok-insert-in-None-clause-free
returns-in_ok-insert-in-None-clause-free c =
    let known : get_by_text c.args.next.now c.args.name ≡ None = ap (λ (q : List ℕ). get_by_text c.args.next.now q) (sym c.as_str.ensures) ∙ (sym c.get.ensures.value ∙ (sym c.copied.ensures ∙ c.in-None.is)) in
    let free : is_taken c.args.taken.now c.args.name ≡ false = sym (c.requires.known c.args.name) ∙ ap is_some known in
    IsFreeName-itself c.args.taken.now c.args.name free

pub returns-in_ok-insert-in-None-clause-known : goal.returns-in_ok-insert-in-None-clause-known
returns-in_ok-insert-in-None-clause-known c =
    let name : List ℕ = c.args.name in
    let key-is : string_bytes c.in_ok-from_str-in-None.field-0 ≡ name = c.in_ok-from_str-in-None.ensures.ok ∙ c.as_str-in-None.ensures in
    let one : (q : List ℕ) → get_by_text c.insert.new.self q ≡ update bytes_eq (λ (q : List ℕ). get_by_text c.args.next.now q) name (Some 2) q = λ q. subst (λ (k : List ℕ). get_by_text c.insert.new.self q ≡ update bytes_eq (λ (q : List ℕ). get_by_text c.args.next.now q) k (Some 2) q) key-is (btree_map_updates_text (string_bytes c.in_ok-from_str-in-None.field-0) c.args.next.now c.insert.new.self (Some 2) c.in_ok-insert-in-None.ensures.updates q) in
    KnowsTaken-more c.args.taken.now (λ (q : List ℕ). get_by_text c.args.next.now q) (λ (q : List ℕ). get_by_text c.insert.new.self q) name c.requires one

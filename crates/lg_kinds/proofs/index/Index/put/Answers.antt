-- A place under two names, under the first of which there are others, or none.
use Rattle.std.proofs.Common.{rules, ◌≡◌, ◌∙◌, sym, ap, subst, ℕ, List, Some, None}
use Rattle.std.specs.Prelude.{string_bytes}
use Rattle.std.specs.BTreeMap.{get_by_text, is_at}
use Rattle.std.specs.Cmp.Lexicographic.{slice_cmp}
use Rattle.std.specs.Map.{lookup, update}
use Rattle.std.specs.Option.{option_and_then, option_copied_mut}
use Rattle.std.specs.Ordering.{nat_cmp}
use Rattle.std.specs.Str.{bytes_eq}
use Rattle.std.proofs.lemmas.Map.Text.{btree_map_updates_text}
use Rattle.lg_kinds.proofs.IndexLemmas.{puts}
use Rattle.lg_kinds.proofs.index.Index.put.Goals as goal

pub returns-in-Some : goal.returns-in-Some
returns-in-Some c =
    let places = c.args.self.now.places in
    let inside = c.in-Some.inside.now in
    let after = c.insert.new.self in
    let there : get_by_text places c.args.first.now ≡ Some inside = sym c.get_mut.ensures.value ∙ ap option_copied_mut c.in-Some.is in
    let outer : (q : List ℕ) → get_by_text (c.get_mut.follows.lender after) q ≡ update bytes_eq (get_by_text places) c.args.first.now (Some after) q = btree_map_updates_text c.args.first.now places (c.get_mut.follows.lender after) (Some after) ((c.get_mut.follows.holds after).3 (search rules)) in
    let inner : (q : List ℕ) → get_by_text after q ≡ update bytes_eq (get_by_text inside) c.args.second.now (Some c.args.place) q = λ q. subst (λ (k : List ℕ). get_by_text after q ≡ update bytes_eq (get_by_text inside) k (Some c.args.place) q) c.in_ok-second.ensures.ok (btree_map_updates_text (string_bytes c.in_ok-second.second) inside after (Some c.args.place) c.in_ok-insert.ensures.updates q) in
    puts (λ m. get_by_text m) (get_by_text places) (get_by_text (c.get_mut.follows.lender after)) inside after c.args.first.now c.args.second.now c.args.place (λ b. ap (λ o. option_and_then (λ m. get_by_text m b) o) there) outer inner

pub returns : goal.returns
returns c =
    let places = c.args.self.now.places in
    let inside = c.new-inside.result in
    let after = c.insert-2.new.self in
    let there : get_by_text places c.args.first.now ≡ None = sym c.get_mut.ensures.value ∙ ap option_copied_mut c.in_default.is in
    let lent = c.get_mut.follows.lender-at-none in
    let outer = λ (q : List ℕ). btree_map_updates_text (string_bytes c.in_ok-from_str.field-0) lent c.insert-3.new.self (Some after) c.in_ok-insert-3.ensures.updates q ∙ ap (λ m. update bytes_eq (get_by_text m) (string_bytes c.in_ok-from_str.field-0) (Some after) q) c.get_mut.follows.holds-at-none in
    let one : (q : List ℕ) → get_by_text c.insert-3.new.self q ≡ update bytes_eq (get_by_text places) c.args.first.now (Some after) q = λ q. subst (λ (k : List ℕ). get_by_text c.insert-3.new.self q ≡ update bytes_eq (get_by_text places) k (Some after) q) c.in_ok-from_str.ensures.ok (outer q) in
    let inner : (q : List ℕ) → get_by_text after q ≡ update bytes_eq (get_by_text inside) c.args.second.now (Some c.args.place) q = λ q. subst (λ (k : List ℕ). get_by_text after q ≡ update bytes_eq (get_by_text inside) k (Some c.args.place) q) c.in_ok-second.ensures.ok (btree_map_updates_text (string_bytes c.in_ok-second.second) inside after (Some c.args.place) c.in_ok-insert-2.ensures.updates q) in
    let empty : (q : List ℕ) → get_by_text inside q ≡ None = λ q. ap (λ es. lookup (is_at (λ k. slice_cmp nat_cmp q (string_bytes k))) es) c.new-inside.ensures.empty in
    puts (λ m. get_by_text m) (get_by_text places) (get_by_text c.insert-3.new.self) inside after c.args.first.now c.args.second.now c.args.place (λ b. ap (λ o. option_and_then (λ m. get_by_text m b) o) there ∙ sym (empty b)) one inner

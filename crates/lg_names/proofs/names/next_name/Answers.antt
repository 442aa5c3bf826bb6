-- The name that is found is taken now, and so is each of lesser number.
use Rattle.std.proofs.Common.{◌≡◌, ℕ, ◌+◌, ◌∷◌, ◌++◌, [], List, Some, ap, sym, subst, ◌∙◌}
use Rattle.std.specs.BTreeMap.{get_by_text}
use Rattle.std.specs.Map.{update}
use Rattle.std.specs.Prelude.{string_bytes}
use Rattle.std.specs.Str.{bytes_eq}
use Rattle.std.proofs.lemmas.Map.Text.{btree_map_updates_text}
use Rattle.lg_names.specs.Names.{numbered_name}
use Rattle.lg_names.specs.NextNumbers.{IsTriedTo, IsFirstFreeNumber}
use Rattle.lg_names.proofs.NextLemmas.{KnowsTaken-more, KnowsTaken-set, IsTriedTo-next, still_taken}
use Rattle.lg_names.proofs.names.next_name.Goals as goal

pub returns-clause-known : goal.returns-clause-known
returns-clause-known c =
    let name : List ℕ = c.args.name in
    let taken : List (List ℕ) = c.args.taken.now in
    let number = c.in_ok-number.number in
    let found : List ℕ = c.in_ok-found.found in
    let found-is : found ≡ numbered_name name number = c.in_ok-found.ensures ∙ ap (λ (n : List ℕ). numbered_name n number) c.as_str-2.ensures in
    let first : IsFirstFreeNumber taken name number = subst (λ (n : List ℕ). IsFirstFreeNumber taken n number) c.as_str.ensures c.in_ok-number.ensures in
    let key-is : string_bytes c.in_ok-from_str.field-0 ≡ found = c.in_ok-from_str.ensures.ok ∙ c.as_str-3.ensures in
    let again-is : string_bytes c.into_string.result ≡ name = c.into_string.ensures in
    let tried : IsTriedTo (taken ++ found ∷ []) name (number + 1) = subst (λ (f : List ℕ). IsTriedTo (taken ++ f ∷ []) name (number + 1)) (sym found-is) (IsTriedTo-next taken name number first) in
    let one : (q : List ℕ) → get_by_text c.insert.new.self q ≡ update bytes_eq (λ (q : List ℕ). get_by_text c.args.next.now q) found (Some 2) q = λ q. subst (λ (k : List ℕ). get_by_text c.insert.new.self q ≡ update bytes_eq (λ (q : List ℕ). get_by_text c.args.next.now q) k (Some 2) q) key-is (btree_map_updates_text (string_bytes c.in_ok-from_str.field-0) c.args.next.now c.insert.new.self (Some 2) c.in_ok-insert.ensures.updates q) in
    let two : (q : List ℕ) → get_by_text c.insert-2.new.self q ≡ update bytes_eq (λ (q : List ℕ). get_by_text c.insert.new.self q) name (Some (number + 1)) q = λ q. subst (λ (k : List ℕ). get_by_text c.insert-2.new.self q ≡ update bytes_eq (λ (q : List ℕ). get_by_text c.insert.new.self q) k (Some (number + 1)) q) again-is (btree_map_updates_text (string_bytes c.into_string.result) c.insert.new.self c.insert-2.new.self (Some (number + 1)) c.in_ok-insert-2.ensures.updates q) in
    KnowsTaken-set (taken ++ found ∷ []) (λ (q : List ℕ). get_by_text c.insert.new.self q) (λ (q : List ℕ). get_by_text c.insert-2.new.self q) name (number + 1)
    (KnowsTaken-more taken (λ (q : List ℕ). get_by_text c.args.next.now q) (λ (q : List ℕ). get_by_text c.insert.new.self q) found c.requires.known one)
    (still_taken taken found name c.requires.taken) tried two

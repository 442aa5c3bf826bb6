use Rattle.std.proofs.Common.{◌≡◌, ℕ, Bool, true, false, List, Option, Some, None, refl, sym, ap, subst, ◌∙◌}
use Rattle.std.specs.BTreeMap.{get_by_text}
use Rattle.std.specs.Map.{update}
use Rattle.std.specs.Prelude.{string_bytes, not, is_none, is_some}
use Rattle.std.specs.Str.{bytes_eq}
use Rattle.std.proofs.lemmas.Map.Text.{btree_map_updates_text}
use Rattle.lg_vrules.specs.declared.names.Thing.{Thing}
use Rattle.lg_vrules.proofs.names.NameIndex.add.Goals as goal

new_is : (b : Bool) (o : Option Thing) → not b ≡ is_some o → b ≡ is_none o
new_is true None e = refl
new_is true (Some t) e = absurd (cc e)
new_is false None e = absurd (cc e)
new_is false (Some t) e = refl

pub returns : goal.returns
returns c =
    let key = c.in_ok-key.key in
    let name = c.args.name.now in
    let old = c.args.self.now.things in
    let new = c.insert.new.self in
    let spelled : string_bytes key ≡ name = c.in_ok-key.ensures.ok ∙ c.as_str.ensures.spelling in
    record {
      was_new = new_is c.is_none.result c.in_ok-before.before (sym c.is_none.ensures) ∙ ap is_none (c.in_ok-before.ensures.old ∙ ap (λ (k : List ℕ). get_by_text old k) spelled);
      updated = λ q.
          subst (λ (k : List ℕ). get_by_text new q ≡ update bytes_eq (λ (q : List ℕ). get_by_text old q) k (Some c.args.thing) q) spelled
          (btree_map_updates_text (string_bytes key) old new (Some c.args.thing) c.in_ok-before.ensures.updates q);
    }

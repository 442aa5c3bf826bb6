-- One column more is bound, or is the first that is not.
use Rattle.std.proofs.Common.{◌≡◌, ◌⊎◌, [], ℕ, List, inl, inr, true, cond, take, subst, ◌∙◌}
use Rattle.std.specs.BTreeSet.{contains_text}
use Rattle.std.specs.Prelude.{string_bytes}
use Rattle.std.specs.Str.{bytes_eq}
use Rattle.std.proofs.lemmas.List.{take_more}
use Rattle.std.proofs.lemmas.Map.Text.{btree_set_updates_text}
use Rattle.std.proofs.lemmas.Result.{err_from_is_err_and}
use Rattle.lg_vectors.specs.declared.fault.VectorFault.{VectorFault}
use Rattle.lg_vectors.specs.declared.fault.VectorFault.TheVariants.{Memory as NoMemory}
use Rattle.lg_vectors.specs.Binding.{column_names, IsBindFault}
use Rattle.lg_vectors.proofs.BindingLemmas.{AreBound-more, KnowsNames-more, column_names-more, fault_at}
use Rattle.lg_vectors.proofs.binding.bind_columns.Goals as goal

pub returns-in_err-place-clause-fault : goal.returns-in_err-place-clause-fault
returns-in_err-place-clause-fault c =
    let columns = c.args.columns.now in
    let fault : VectorFault = c.in_err-place.field-0.0 in
    let p = err_from_is_err_and c.from_residual-in_err-place.result c.from_residual-in_err-place.ensures.1 in
    rw (p.1, p.2) (elim c.in_err-place.ensures.fault as (λ _. (fault ≡ NoMemory) ⊎ IsBindFault c.args.pins.now columns fault) [
      | inl e ↦ inl e
      | inr bad ↦ inr (fault_at c.args.pins.now columns c.loop-at.places c.loop-at.at c.index-columns-at.result fault c.loop-at-test.true c.index-columns-at.is c.loop-at.invariant.bound bad)
    ])

pub loop-at-preserved : goal.loop-at-preserved
loop-at-preserved c =
    let columns = c.args.columns.now in
    let at = c.loop-at.at in
    let column = c.index-columns-at.result in
    let names = column_names (take at columns) in
    let old = c.loop-at.seen in
    let key-is : string_bytes c.in_ok-from_str.field-0 ≡ column.name = c.in_ok-from_str.ensures.ok ∙ c.as_str.ensures in
    let one : (q : List ℕ) → contains_text c.insert.new.self q ≡ cond (bytes_eq column.name q) true (contains_text old q) = λ q. subst (λ (k : List ℕ). contains_text c.insert.new.self q ≡ cond (bytes_eq k q) true (contains_text old q)) key-is (btree_set_updates_text (string_bytes c.in_ok-from_str.field-0) old c.insert.new.self true c.in_ok-insert.ensures.updates q) in
    let more = take_more columns at column c.loop-at-test.true in
    record {
      bound = rw (more, ← c.index-columns-at.is, c.in_ok-push.ensures.ok) (AreBound-more [] c.args.pins.now (take at columns) c.loop-at.places column c.in_ok-place.place c.loop-at.invariant.bound c.in_ok-place.ensures.new c.in_ok-place.ensures.pin);
      seen = rw (more, ← c.index-columns-at.is, column_names-more) (KnowsNames-more names column.name old c.insert.new.self c.loop-at.invariant.seen one);
    }

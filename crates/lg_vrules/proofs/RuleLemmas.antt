-- What a module keeps in which no rule is broken.
use Rattle.std.proofs.Common.{◌≡◌, ℕ, ◌+◌, Bool, true, false, ◌&&◌, List, [], ◌∷◌, None, refl}
use Rattle.std.specs.List.{list_all}
use Rattle.std.proofs.lemmas.Bool.{and_parts}
use Rattle.lg_vtree.specs.declared.module.Assign.{Assign}
use Rattle.lg_vtree.specs.declared.module.Module.{Module}
use Rattle.lg_vrules.specs.Things.{sort_of, width_of, is_assignable}
use Rattle.lg_vrules.specs.Rules.{first_false, first_broken, are_named, are_used, are_narrow, are_fitting, are_assigned_once, are_kept_once, are_divided_safely, are_addressed, all_differ, assigned, is_of, has_each, is_among}

-- where no test fails each holds
none_first : (n : ℕ) (a : Bool) (more : List Bool) → first_false n (a ∷ more) ≡ None → (a ≡ true) × (first_false (n + 1) more ≡ None)
none_first n true more e = (refl, e)
none_first n false more e = absurd (cc e)

pub record KeepsRules (m : Module) : Type 0 where
  pub named : are_named m ≡ true
  pub used : are_used (sort_of m) m ≡ true
  pub narrow : are_narrow m ≡ true
  pub fitting : are_fitting (sort_of m) (width_of m) m ≡ true
  pub assigned_once : are_assigned_once (sort_of m) m ≡ true
  pub kept_once : are_kept_once (sort_of m) m ≡ true
  pub addressed : are_addressed (sort_of m) (width_of m) m ≡ true

pub rules_kept : (m : Module) → first_broken m ≡ None → KeepsRules m
rules_kept m e =
    let addressed = are_addressed (sort_of m) (width_of m) m in
    let last = are_kept_once (sort_of m) m ∷ are_divided_safely m ∷ addressed ∷ [] in
    let once = are_assigned_once (sort_of m) m in
    let wide = are_narrow m && are_fitting (sort_of m) (width_of m) m in
    let one = none_first 1 (are_named m) (are_used (sort_of m) m ∷ wide ∷ once ∷ last) e in
    let two = none_first 2 (are_used (sort_of m) m) (wide ∷ once ∷ last) one.1 in
    let three = none_first 3 wide (once ∷ last) two.1 in
    let four = none_first 4 once last three.1 in
    let five = none_first 5 (are_kept_once (sort_of m) m) (are_divided_safely m ∷ addressed ∷ []) four.1 in
    let six = none_first 6 (are_divided_safely m) (addressed ∷ []) five.1 in
    let seven = none_first 7 addressed [] six.1 in
    let widths = and_parts (are_narrow m) (are_fitting (sort_of m) (width_of m) m) three.0 in
    record { named = one.0; used = two.0; narrow = widths.0; fitting = widths.1; assigned_once = four.0; kept_once = five.0; addressed = seven.0 }

-- no name is assigned twice
pub assigned_differ : (m : Module) → first_broken m ≡ None → all_differ (assigned m) ≡ true
assigned_differ m e = (and_parts (all_differ (assigned m)) (list_all (λ (a : Assign). is_of is_assignable (sort_of m) a.name) m.assigns && has_each is_assignable (λ name. is_among name (assigned m)) m) (rules_kept m e).assigned_once).0

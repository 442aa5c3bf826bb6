use Rattle.std.proofs.Common.{◌<◌, List, length, sym, ap, subst, ◌∙◌}
use Rattle.std.specs.Prelude.{slice_get}
use Rattle.std.proofs.lemmas.Option.{slice_get_within}
use Rattle.lg_vtree.specs.declared.module.Assign.{Assign}
use Rattle.lg_vrules.specs.Depends.{IsFirstCyclic}
use Rattle.lg_vrules.specs.Order.{IsDependence}
use Rattle.lg_vrules.proofs.RuleLemmas.{assigned_differ}
use Rattle.lg_vmeaning.proofs.validity.valid.Goals as goal

pub assign_order-requires : goal.assign_order-requires
assign_order-requires c = assigned_differ c.args.«module» c.in_ok-names.ensures.rules

pub name_at-wire-requires : goal.name_at-wire-requires
name_at-wire-requires c =
    let first : IsFirstCyclic c.args.«module» c.in-Cyclic.at = subst (IsDependence c.args.«module») c.in-Cyclic.is c.in_ok-order.ensures in
    subst (λ (assigns : List Assign). c.in-Cyclic.at < length assigns) (sym c.as_slice.ensures) (slice_get_within c.args.«module».assigns c.in-Cyclic.at first.assign first.stands)

pub returns-in_ok-copy_of-in-Cyclic-clause-fault : goal.returns-in_ok-copy_of-in-Cyclic-clause-fault
returns-in_ok-copy_of-in-Cyclic-clause-fault c =
    let first : IsFirstCyclic c.args.«module» c.in-Cyclic.at = subst (IsDependence c.args.«module») c.in-Cyclic.is c.in_ok-order.ensures in
    let stands = ap (λ (assigns : List Assign). slice_get assigns c.in-Cyclic.at) c.as_slice.ensures ∙ first.stands in
    record {
      rules = c.in_ok-names.ensures.rules;
      at = c.in-Cyclic.at;
      first = first;
      named = sym (c.in_ok-copy_of-in-Cyclic.ensures ∙ c.name_at-wire.ensures first.assign stands);
    }

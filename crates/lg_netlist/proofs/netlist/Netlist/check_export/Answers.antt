-- Nothing was said of drivers, and what has an order has no cycle.
use Rattle.std.proofs.Common.{◌≡◌, ◌<◌, ℕ, List, Option, None, Some, Err, length, get_or, sym, subst, ◌∙◌, ap, arith, inl, inr, refl}
use Rattle.std.specs.Prelude.{slice_get}
use Rattle.std.proofs.lemmas.Option.{get_or_from_slice_get, slice_get_within}
use Rattle.lg_netlist.specs.declared.acceptance.NotAccepted.{NotAccepted}
use Rattle.lg_netlist.specs.declared.acceptance.NotAccepted.TheVariants as refusal
use Rattle.lg_netlist.specs.declared.netlist.Netlist.{Netlist}
use Rattle.lg_netlist.specs.declared.netlist.PartUse.{PartUse}
use Rattle.lg_netlist.specs.Acceptance.{Condition, ManyDrivers, Undriven, Cycle, Refuses, many_drivers, undriven}
use Rattle.lg_netlist.specs.Chain.{Output, IsOrder}
use Rattle.lg_netlist.proofs.OrderLemmas.{cycle_output, order_acyclic}
use Rattle.lg_netlist.proofs.netlist.Netlist.check_export.Goals as goal

-- where nothing was said, nothing is
silent : (said found : Option NotAccepted) → found ≡ said → found ≡ None → (fault : NotAccepted) → said ≡ Some fault → ⊥
silent said found is none fault some = let no : None ≡ Some fault = sym none ∙ (is ∙ some) in cc

none_refuses : (n : Netlist) (many un : Option NotAccepted) (outputs : List Output) → many ≡ many_drivers n → many ≡ None → un ≡ undriven n → un ≡ None → IsOrder n outputs
    → (condition : Condition) (fault : NotAccepted) → Refuses condition n fault → ⊥
none_refuses n many un outputs a b c d order ManyDrivers fault h = silent (many_drivers n) many a b fault h
none_refuses n many un outputs a b c d order Undriven fault h = silent (undriven n) un c d fault h
none_refuses n many un outputs a b c d order Cycle fault h = order_acyclic n outputs order (h.0, h.2.output) h.2.on_cycle

pub returns-in-Ok-clause-accepted : goal.returns-in-Ok-clause-accepted
returns-in-Ok-clause-accepted c = λ _.
    none_refuses c.args.self.now c.in_ok-fault.field-0 c.in_ok-fault-2.field-0 c.in-Ok.field-0.items c.in_ok-fault.ensures c.in_default.is c.in_ok-fault-2.ensures c.in_default-2.is c.in-Ok.ensures.order

pub bounds-as_slice-part : goal.bounds-as_slice-part
bounds-as_slice-part c =
    let first = c.in-Err-Cycle.ensures.cycle c.in-Err-Cycle.part (ap Err c.in-Err-Cycle.field-0-is) in
    let there = cycle_output c.args.self.now (c.in-Err-Cycle.part, first.output) first.on_cycle in
    let inside = slice_get_within c.args.self.now.parts c.in-Err-Cycle.part there.0 there.1 in
    let same = ap length c.as_slice-in-Err-Cycle.ensures in
    omega arith

pub returns-in-Err-Cycle-clause-refused : goal.returns-in-Err-Cycle-clause-refused
returns-in-Err-Cycle-clause-refused c =
    let n = c.args.self.now in
    let first = c.in-Err-Cycle.ensures.cycle c.in-Err-Cycle.part (ap Err c.in-Err-Cycle.field-0-is) in
    let there = cycle_output n (c.in-Err-Cycle.part, first.output) first.on_cycle in
    let part : get_or c.as_slice-in-Err-Cycle.result.now c.in-Err-Cycle.part c.index-as_slice-part.result ≡ there.0 =
    ap (λ (ps : List PartUse). get_or ps c.in-Err-Cycle.part c.index-as_slice-part.result) c.as_slice-in-Err-Cycle.ensures
    ∙ get_or_from_slice_get n.parts c.in-Err-Cycle.part there.0 c.index-as_slice-part.result there.1 in
    let name : c.in_ok-part-in-Err-Cycle.part ≡ there.0.name = c.in_ok-part-in-Err-Cycle.ensures ∙ (c.as_str.ensures ∙ ap (λ (p : PartUse). p.name) part) in
    inr (inr (
      silent (many_drivers n) c.in_ok-fault.field-0 c.in_ok-fault.ensures c.in_default.is,
      inr (
        silent (undriven n) c.in_ok-fault-2.field-0 c.in_ok-fault-2.ensures c.in_default-2.is,
        inl (c.in-Err-Cycle.part, there.0, first, there.1, ap refusal.Cycle name),
      ),
    ))

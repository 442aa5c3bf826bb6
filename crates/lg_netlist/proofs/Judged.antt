-- Each netlist is accepted, or refused for some reason.
use Rattle.std.proofs.Common.{◌≡◌, ℕ, zero, suc, ◌+◌, ◌<◌, ◌≤◌, List, [], length, refl, sym, subst, ap, ◌∙◌, arith, ◌⊎◌, inl, inr, Option, None, Some}
use Rattle.std.specs.Prelude.{slice_get, Contains}
use Rattle.std.proofs.lemmas.Bool.{cases_lt, cases_order}
use Rattle.std.proofs.lemmas.List.{get_or_past}
use Rattle.std.proofs.lemmas.Option.{same_Some, slice_get_within}
use Rattle.lg_graph.specs.Graph.{HasArrow, Leads}
use Rattle.lg_graph.proofs.Ways.{nothing, leads_or_not}
use Rattle.lg_netlist.specs.declared.acceptance.NotAccepted.{NotAccepted}
use Rattle.lg_netlist.specs.declared.acceptance.NotAccepted.TheVariants as refusal
use Rattle.lg_netlist.specs.declared.netlist.Netlist.{Netlist}
use Rattle.lg_netlist.specs.Acceptance.{Condition, ManyDrivers, Undriven, Cycle, Refuses, IsRefused, IsAccepted, many_drivers, undriven}
use Rattle.lg_netlist.specs.Chain.{Output, IsOnCycle, IsFirstOnCycle}
use Rattle.lg_netlist.specs.Graph.{all_outputs, net_graph, IsNetGraph}
use Rattle.lg_netlist.proofs.NetGraphLemmas.{IsNetGraph-made}
use Rattle.lg_netlist.proofs.OutputLemmas.{output_listed, parts_rise}
use Rattle.lg_netlist.proofs.CycleLemmas.{cycle_leads, leads_cycle}
use Rattle.lg_netlist.proofs.OrderLemmas.{arrow_inside, cycle_output}

-- a way leads from one node of the graph of nets and outputs to another, or none does
pub way_or_none : (n : Netlist) (from to : ℕ) → Leads (net_graph n) from to ⊎ (Leads (net_graph n) from to → ⊥)
way_or_none n = leads_or_not (net_graph n) inside
  where
    inside : (from to : ℕ) → HasArrow (net_graph n) from to → to < length (net_graph n)
    inside from to h = by_case (cases_lt from (length (net_graph n)))
      where
        by_case : (from < length (net_graph n)) ⊎ (length (net_graph n) ≤ from) → to < length (net_graph n)
        by_case (inl less) = arrow_inside n (net_graph n) (IsNetGraph-made n) from to less h
        by_case (inr past) = absurd (nothing (subst (λ (xs : List ℕ). Contains xs to) (get_or_past (net_graph n) from [] past) h))

-- an output is on a cycle, or not
cycle_or_not : (n : Netlist) (o : Output) (k : ℕ) → slice_get (all_outputs n) k ≡ Some o → IsOnCycle n o ⊎ (IsOnCycle n o → ⊥)
cycle_or_not n o k is = go (way_or_none n (n.nets + k) (n.nets + k))
  where
    graph : IsNetGraph n (net_graph n)
    graph = IsNetGraph-made n

    go : Leads (net_graph n) (n.nets + k) (n.nets + k) ⊎ (Leads (net_graph n) (n.nets + k) (n.nets + k) → ⊥) → IsOnCycle n o ⊎ (IsOnCycle n o → ⊥)
    go (inl l) = inl (leads_cycle n (net_graph n) graph o k is l)
    go (inr none) = inr (λ cycle. none (cycle_leads n (net_graph n) graph o k is cycle))

-- the first output on a cycle among those before a number, or none
data FirstOf (n : Netlist) (k : ℕ) : Type 0 where
  First : (i : ℕ) (o : Output) → slice_get (all_outputs n) i ≡ Some o → IsOnCycle n o
      → ((j : ℕ) (other : Output) → j < i → slice_get (all_outputs n) j ≡ Some other → IsOnCycle n other → ⊥) → FirstOf n k
  NoneOf : ((j : ℕ) (other : Output) → j < k → slice_get (all_outputs n) j ≡ Some other → IsOnCycle n other → ⊥) → FirstOf n k

first_of : (n : Netlist) (k : ℕ) → FirstOf n k
first_of n zero = NoneOf (λ j other less. absurd (omega arith))
first_of n (suc k) = go (first_of n k) (slice_get (all_outputs n) k) refl
  where
    go : FirstOf n k → (o : Option Output) → slice_get (all_outputs n) k ≡ o → FirstOf n (suc k)
    go (First i o is cycle before) found e = First i o is cycle before
    go (NoneOf none) None e = NoneOf (λ j other less at cycle. by_case j other at cycle (cases_lt j k) (omega arith))
      where
        by_case : (j : ℕ) (other : Output) → slice_get (all_outputs n) j ≡ Some other → IsOnCycle n other → (j < k) ⊎ (k ≤ j) → j ≤ k → ⊥
        by_case j other at cycle (inl less) le = none j other less at cycle
        by_case j other at cycle (inr from) le =
            let same : j ≡ k = omega arith in
            let both : Some other ≡ None = sym at ∙ (ap (slice_get (all_outputs n)) same ∙ e) in
            cc
    go (NoneOf none) (Some o) e = judge (cycle_or_not n o k e)
      where
        judge : IsOnCycle n o ⊎ (IsOnCycle n o → ⊥) → FirstOf n (suc k)
        judge (inl cycle) = First k o e cycle (λ j other less at c. none j other less at c)
        judge (inr not_on) = NoneOf (λ j other less at cycle. by_case j other at cycle (cases_lt j k) (omega arith))
          where
            by_case : (j : ℕ) (other : Output) → slice_get (all_outputs n) j ≡ Some other → IsOnCycle n other → (j < k) ⊎ (k ≤ j) → j ≤ k → ⊥
            by_case j other at cycle (inl less) le = none j other less at cycle
            by_case j other at cycle (inr from) le =
                let same : j ≡ k = omega arith in
                let equal : other ≡ o = same_Some other o (sym at ∙ (ap (slice_get (all_outputs n)) same ∙ e)) in
                not_on (subst (IsOnCycle n) equal cycle)

-- a netlist has a first part with an output on a cycle, or no output is on one
pub cycles_or_none : (n : Netlist) → ((part : ℕ) × IsFirstOnCycle n part) ⊎ ((o : Output) → IsOnCycle n o → ⊥)
cycles_or_none n = go (first_of n (length (all_outputs n)))
  where
    go : FirstOf n (length (all_outputs n)) → ((part : ℕ) × IsFirstOnCycle n part) ⊎ ((o : Output) → IsOnCycle n o → ⊥)
    go (First i o is cycle before) =
        inl (o.0, record { output = o.1; on_cycle = cycle; first = λ other other_cycle. least other other_cycle (output_listed n other (cycle_output n other other_cycle)) })
      where
        least : (other : Output) → IsOnCycle n other → (j : ℕ) × (slice_get (all_outputs n) j ≡ Some other) → o.0 ≤ other.0
        least other other_cycle (j, at) = by_order (cases_order i j)
          where
            by_order : (i ≡ j) ⊎ ((i < j) ⊎ (j < i)) → o.0 ≤ other.0
            by_order (inl equal) =
                let same = same_Some o other (sym is ∙ (ap (slice_get (all_outputs n)) equal ∙ at)) in
                let parts = ap (λ (q : Output). q.0) same in
                omega arith
            by_order (inr (inl later)) = parts_rise n i j o other later is at
            by_order (inr (inr earlier)) = absurd (before j other earlier at other_cycle)
    go (NoneOf none) = inr (λ o cycle. let at = output_listed n o (cycle_output n o cycle) in none at.0 o (slice_get_within (all_outputs n) at.0 o at.1) at.1 cycle)

pub judged : (n : Netlist) → IsAccepted n ⊎ ((fault : NotAccepted) × IsRefused n fault)
judged n = by_drivers (many_drivers n) refl (undriven n) refl
  where
    silent : (said : Option NotAccepted) → said ≡ None → (fault : NotAccepted) → said ≡ Some fault → ⊥
    silent said none fault some = let no : None ≡ Some fault = sym none ∙ some in cc

    by_drivers : (many : Option NotAccepted) → many_drivers n ≡ many → (un : Option NotAccepted) → undriven n ≡ un → IsAccepted n ⊎ ((fault : NotAccepted) × IsRefused n fault)
    by_drivers (Some fault) e un f = inr (fault, inl e)
    by_drivers None e (Some fault) f = inr (fault, inr (silent (many_drivers n) e, inl f))
    by_drivers None e None f = by_cycles (cycles_or_none n)
      where
        none_refuses : ((o : Output) → IsOnCycle n o → ⊥) → (condition : Condition) (fault : NotAccepted) → Refuses condition n fault → ⊥
        none_refuses acyclic ManyDrivers fault h = silent (many_drivers n) e fault h
        none_refuses acyclic Undriven fault h = silent (undriven n) f fault h
        none_refuses acyclic Cycle fault h = acyclic (h.0, h.2.output) h.2.on_cycle

        by_cycles : ((part : ℕ) × IsFirstOnCycle n part) ⊎ ((o : Output) → IsOnCycle n o → ⊥) → IsAccepted n ⊎ ((fault : NotAccepted) × IsRefused n fault)
        by_cycles (inl (part, first)) =
            let is = cycle_output n (part, first.output) first.on_cycle in
            inr (refusal.Cycle is.0.name, inr (silent (many_drivers n) e, inr (silent (undriven n) f, inl (part, is.0, first, is.1, refl))))
        by_cycles (inr acyclic) = inl (none_refuses acyclic)

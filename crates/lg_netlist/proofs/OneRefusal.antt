-- A netlist is refused for one reason.
use Rattle.std.proofs.Common.{◌≡◌, ℕ, List, [], ◌∷◌, ◌≤◌, sym, subst, ap, ◌∙◌, arith, ◌⊎◌, inl, inr, Option, Some}
use Rattle.std.specs.Prelude.{slice_get}
use Rattle.std.proofs.lemmas.Option.{same_Some}
use Rattle.lg_netlist.specs.declared.acceptance.NotAccepted.{NotAccepted}
use Rattle.lg_netlist.specs.declared.acceptance.NotAccepted.TheVariants as refusal
use Rattle.lg_netlist.specs.declared.netlist.Netlist.{Netlist}
use Rattle.lg_netlist.specs.declared.netlist.PartUse.{PartUse}
use Rattle.lg_netlist.specs.Acceptance.{Condition, ManyDrivers, Undriven, Cycle, conditions, Refuses, IsRefusedBy, IsRefused, IsAccepted}

same_names : (n : Netlist) (condition : Condition) (fault other : NotAccepted) → Refuses condition n fault → Refuses condition n other → fault ≡ other
same_names n ManyDrivers fault other e f = same_Some fault other (sym e ∙ f)
same_names n Undriven fault other e f = same_Some fault other (sym e ∙ f)
same_names n Cycle fault other e f =
    let low = e.2.first (f.0, f.2.output) f.2.on_cycle in
    let high = f.2.first (e.0, e.2.output) e.2.on_cycle in
    let place : e.0 ≡ f.0 = omega arith in
    let part : e.1 ≡ f.1 = same_Some e.1 f.1 (sym e.3 ∙ (ap (slice_get n.parts) place ∙ f.3)) in
    e.4 ∙ (ap (λ (p : PartUse). refusal.Cycle p.name) part ∙ sym f.4)

one_by : (conditions : List Condition) (n : Netlist) (fault other : NotAccepted) → IsRefusedBy conditions n fault → IsRefusedBy conditions n other → fault ≡ other
one_by [] n fault other e f = absurd e
one_by (first ∷ more) n fault other (inl e) (inl f) = same_names n first fault other e f
one_by (first ∷ more) n fault other (inl e) (inr f) = absurd (f.0 fault e)
one_by (first ∷ more) n fault other (inr e) (inl f) = absurd (e.0 other f)
one_by (first ∷ more) n fault other (inr e) (inr f) = one_by more n fault other e.1 f.1

pub one_refusal : (n : Netlist) (fault other : NotAccepted) → IsRefused n fault → IsRefused n other → fault ≡ other
one_refusal n fault other e f = one_by conditions n fault other e f

none_by : (conditions : List Condition) (n : Netlist) (fault : NotAccepted) → IsAccepted n → IsRefusedBy conditions n fault → ⊥
none_by [] n fault accepted e = e
none_by (first ∷ more) n fault accepted (inl e) = accepted first fault e
none_by (first ∷ more) n fault accepted (inr e) = none_by more n fault accepted e.1

pub accepted_not_refused : (n : Netlist) (fault : NotAccepted) → IsAccepted n → IsRefused n fault → ⊥
accepted_not_refused n fault accepted e = none_by conditions n fault accepted e

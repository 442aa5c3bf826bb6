-- The first two drivers of each net, driver by driver.
use Rattle.std.proofs.Common.{◌≡◌, ℕ, ◌<◌, List, [], ◌∷◌, ◌++◌, get_or, set, refl, sym, subst, ap, ◌∙◌, arith, ◌⊎◌, inl, inr, None}
use Rattle.std.specs.Prelude.{◌==◌, map, filter, replicate, slice_get}
use Rattle.std.specs.List.{range_with_len}
use Rattle.std.proofs.lemmas.Bool.{cases_eq, eq-eqb, ne_eqb, cond-true, cond-false}
use Rattle.std.proofs.lemmas.List.{map-append, append-nil, get_or-set_same, get_or-set_other, get_or-replicate, get_or-map, length-set, length-map, length-replicate}
use Rattle.std.proofs.lemmas.List.Elements.{filter-append}
use Rattle.std.proofs.lemmas.List.FromFn.{fill_by_all}
use Rattle.lg_netlist.specs.declared.drivers.Driver.{Driver}
use Rattle.lg_netlist.specs.declared.first_two.FirstTwo.{FirstTwo}
use Rattle.lg_netlist.specs.declared.netlist.Netlist.{Netlist}
use Rattle.lg_netlist.specs.Drivers.{on_net, drivers, first_driver}
use Rattle.lg_netlist.specs.FirstTwo.{no_driver, two_of, with_driver, AreTwoOf, AreFirstTwo}

on_net-push : (net : ℕ) (all : List (ℕ × Driver)) (d : ℕ × Driver) → on_net net (all ++ d ∷ []) ≡ on_net net all ++ on_net net (d ∷ [])
on_net-push net all d =
    ap (map (λ (d : ℕ × Driver). d.1)) (filter-append (λ (d : ℕ × Driver). d.0 == net) all (d ∷ []))
    ∙ map-append (λ (d : ℕ × Driver). d.1) (filter (λ (d : ℕ × Driver). d.0 == net) all) (filter (λ (d : ℕ × Driver). d.0 == net) (d ∷ []))

on_net-same : (net : ℕ) (all : List (ℕ × Driver)) (d : Driver) → on_net net (all ++ (net, d) ∷ []) ≡ on_net net all ++ d ∷ []
on_net-same net all d =
    on_net-push net all (net, d)
    ∙ ap (λ (ds : List (ℕ × Driver)). on_net net all ++ map (λ (d : ℕ × Driver). d.1) ds) (cond-true (net == net) ((net, d) ∷ []) [] (eq-eqb net net refl))

on_net-other : (net : ℕ) (all : List (ℕ × Driver)) (other : ℕ) (d : Driver) → (other ≡ net → ⊥) → on_net net (all ++ (other, d) ∷ []) ≡ on_net net all
on_net-other net all other d ne =
    on_net-push net all (other, d)
    ∙ (ap (λ (ds : List (ℕ × Driver)). on_net net all ++ map (λ (d : ℕ × Driver). d.1) ds) (cond-false (other == net) ((other, d) ∷ []) [] (ne_eqb other net ne))
    ∙ append-nil (on_net net all))

two_of-push : (ds : List Driver) (d : Driver) → two_of (ds ++ d ∷ []) ≡ with_driver (two_of ds) d
two_of-push [] d = refl
two_of-push (a ∷ []) d = refl
two_of-push (a ∷ b ∷ more) d = refl

pub AreTwoOf-none : (nets : ℕ) → AreTwoOf nets [] (replicate nets no_driver)
AreTwoOf-none nets = record { one_each = length-replicate nets no_driver; two_each = λ net less. get_or-replicate nets net no_driver no_driver less }

pub AreTwoOf-more : (nets : ℕ) (all : List (ℕ × Driver)) (twos : List FirstTwo) (net : ℕ) (d : Driver) → net < nets → AreTwoOf nets all twos
    → AreTwoOf nets (all ++ (net, d) ∷ []) (set twos net (with_driver (get_or twos net no_driver) d))
AreTwoOf-more nets all twos net d less t =
    let length_is = t.one_each in
    record {
      one_each = length-set twos net (with_driver (get_or twos net no_driver) d) ∙ t.one_each;
      two_each = λ other inside. by_case other inside (cases_eq other net);
    }
  where
    by_case : (other : ℕ) → other < nets → (other ≡ net) ⊎ (other ≡ net → ⊥)
        → get_or (set twos net (with_driver (get_or twos net no_driver) d)) other no_driver ≡ two_of (on_net other (all ++ (net, d) ∷ []))
    by_case other inside (inl e) =
        let length_is = t.one_each in
        subst (λ (k : ℕ). get_or (set twos net (with_driver (get_or twos net no_driver) d)) k no_driver ≡ two_of (on_net k (all ++ (net, d) ∷ []))) (sym e)
        (get_or-set_same twos net (with_driver (get_or twos net no_driver) d) no_driver (omega arith)
        ∙ (ap (λ (two : FirstTwo). with_driver two d) (t.two_each net less) ∙ sym (ap two_of (on_net-same net all d) ∙ two_of-push (on_net net all) d)))
    by_case other inside (inr ne) =
        get_or-set_other twos net other (with_driver (get_or twos net no_driver) d) no_driver ne
        ∙ (t.two_each other inside ∙ sym (ap two_of (on_net-other other all net d (λ e. ne (sym e)))))

first_of_two : (ds : List Driver) → (two_of ds).first ≡ slice_get ds 0
first_of_two [] = refl
first_of_two (a ∷ []) = refl
first_of_two (a ∷ b ∷ more) = refl

-- the first of each two is the first driver of each net
pub first_drivers_are : (n : Netlist) (twos : List FirstTwo) → AreFirstTwo n twos → map (λ (two : FirstTwo). two.first) twos ≡ map (first_driver n) (range_with_len 0 n.nets)
first_drivers_are n twos t =
    fill_by_all (first_driver n) (map (λ (two : FirstTwo). two.first) twos) n.nets None (length-map twos (λ (two : FirstTwo). two.first) ∙ t.one_each) at
  where
    at : (net : ℕ) → net < n.nets → get_or (map (λ (two : FirstTwo). two.first) twos) net None ≡ first_driver n net
    at net less =
        let each = t.one_each in
        get_or-map (λ (two : FirstTwo). two.first) twos net no_driver None (omega arith)
        ∙ (ap (λ (two : FirstTwo). two.first) (t.two_each net less) ∙ first_of_two (drivers n net))

-- What drives a net is a bit of an output or of an input pin that is on the net, or a clock on it, and each such bit or clock drives the net.
use Rattle.std.proofs.Common.{◌≡◌, ℕ, zero, suc, ◌+◌, Bool, true, false, List, [], ◌∷◌, ◌++◌, length, refl, sym, subst, ap, ◌∙◌, arith, ◌⊎◌, inl, inr, Some, if◌then◌else◌}
use Rattle.std.specs.Prelude.{All, Contains, ◌==◌, map, filter, slice_get}
use Rattle.std.specs.List.{flat_map, enumerate_from}
use Rattle.std.proofs.lemmas.Bool.{cases_eq, eq-eqb, ne_eqb, cond-true, cond-false}
use Rattle.std.proofs.lemmas.List.Elements.{All-nil, All-cons, All-head, All-tail, All-append, Contains-append_left, Contains-append_right}
use Rattle.std.proofs.lemmas.Option.{same_Some, slice_get-get_or, get_or_from_slice_get, slice_get_within}
use Rattle.lg_netlist.specs.declared.drivers.Driver.{Driver}
use Rattle.lg_netlist.specs.declared.drivers.Driver.TheVariants.{Part, Pin, Clock}
use Rattle.lg_netlist.specs.declared.netlist.PartUse.{PartUse}
use Rattle.lg_netlist.specs.declared.netlist.PinUse.{PinUse}
use Rattle.lg_netlist.specs.declared.netlist.Netlist.{Netlist}
use Rattle.lg_netlist.specs.Acceptance.{is_undriven}
use Rattle.lg_netlist.specs.Drivers.{numbered, output_drivers, part_drivers, pin_drivers, clock_driver, all_drivers, on_net, drivers}

-- the driver is a bit of an output or of an input pin that is on the net, or a clock on it
abbrev pub IsSourceOf : Netlist → Driver → ℕ → Type 0
IsSourceOf n (Part part output bit) net =
    (p : PartUse) × (bits : List ℕ) × (slice_get n.parts part ≡ Some p) × (slice_get p.outputs output ≡ Some bits) × (slice_get bits bit ≡ Some net)
IsSourceOf n (Pin pin bit) net = (p : PinUse) × (slice_get n.pins pin ≡ Some p) × (p.input ≡ true) × (slice_get p.bits bit ≡ Some net)
IsSourceOf n (Clock clock) net = (c : ℕ × List ℕ) × (slice_get n.clocks clock ≡ Some c) × (c.0 ≡ net)

-- ---- items at places

pub All-at : {X : Type 0} (P : X → Type 0) (xs : List X) (i : ℕ) (x : X) → All P xs → slice_get xs i ≡ Some x → P x
All-at P xs i x h e = subst P (get_or_from_slice_get xs i x x e) (h i x (slice_get_within xs i x e))

pub Contains-at : {X : Type 0} (xs : List X) (i : ℕ) (x : X) → slice_get xs i ≡ Some x → Contains xs x
Contains-at xs i x e = (i, slice_get_within xs i x e, get_or_from_slice_get xs i x x e)

pub place_of : {X : Type 0} (xs : List X) (x : X) → Contains xs x → (i : ℕ) × (slice_get xs i ≡ Some x)
place_of xs x h = (h.0, slice_get-get_or xs h.0 x h.1 ∙ ap Some h.2)

-- ---- each driver is a source

flat_All : {A : Type 0} (P : ℕ × Driver → Type 0) (f : ℕ × A → List (ℕ × Driver)) (k : ℕ) (xs : List A)
    → ((j : ℕ) (a : A) → slice_get xs j ≡ Some a → All P (f (k + j, a))) → All P (flat_map f (enumerate_from k xs))
flat_All P f k [] gives = All-nil P
flat_All P f k (x ∷ xs) gives =
    let here : k + 0 ≡ k = omega arith in
    All-append P (f (k, x)) (flat_map f (enumerate_from (k + 1) xs)) (subst (λ (i : ℕ). All P (f (i, x))) here (gives 0 x refl))
    (flat_All P f (k + 1) xs (λ j a e. let next : k + suc j ≡ k + 1 + j = omega arith in subst (λ (i : ℕ). All P (f (i, a))) next (gives (suc j) a e)))

map_All : {A : Type 0} (P : ℕ × Driver → Type 0) (f : ℕ × A → ℕ × Driver) (k : ℕ) (xs : List A)
    → ((j : ℕ) (a : A) → slice_get xs j ≡ Some a → P (f (k + j, a))) → All P (map f (enumerate_from k xs))
map_All P f k [] gives = All-nil P
map_All P f k (x ∷ xs) gives =
    let here : k + 0 ≡ k = omega arith in
    All-cons P (f (k, x)) (map f (enumerate_from (k + 1) xs)) (subst (λ (i : ℕ). P (f (i, x))) here (gives 0 x refl))
    (map_All P f (k + 1) xs (λ j a e. let next : k + suc j ≡ k + 1 + j = omega arith in subst (λ (i : ℕ). P (f (i, a))) next (gives (suc j) a e)))

flat_each : {A : Type 0} (P : ℕ × Driver → Type 0) (f : ℕ × A → List (ℕ × Driver)) (xs : List A)
    → ((j : ℕ) (a : A) → slice_get xs j ≡ Some a → All P (f (j, a))) → All P (flat_map f (numbered xs))
flat_each P f xs gives = flat_All P f 0 xs (λ j a e. let same : j ≡ 0 + j = omega arith in subst (λ (i : ℕ). All P (f (i, a))) same (gives j a e))

map_each : {A : Type 0} (P : ℕ × Driver → Type 0) (f : ℕ × A → ℕ × Driver) (xs : List A)
    → ((j : ℕ) (a : A) → slice_get xs j ≡ Some a → P (f (j, a))) → All P (map f (numbered xs))
map_each P f xs gives = map_All P f 0 xs (λ j a e. let same : j ≡ 0 + j = omega arith in subst (λ (i : ℕ). P (f (i, a))) same (gives j a e))

-- a driver with its net
abbrev IsSource : Netlist → ℕ × Driver → Type 0
IsSource n d = IsSourceOf n d.1 d.0

pins_are : (n : Netlist) (pin : ℕ) (p : PinUse) (b : Bool) → slice_get n.pins pin ≡ Some p → p.input ≡ b → All (IsSource n) (if b then map (λ (b : ℕ × ℕ). (b.1, Pin pin b.0)) (numbered p.bits) else [])
pins_are n pin p true e input = map_each (IsSource n) (λ (b : ℕ × ℕ). (b.1, Pin pin b.0)) p.bits (λ bit net at. (p, e, input, at))
pins_are n pin p false e input = All-nil (IsSource n)

sources : (n : Netlist) → All (IsSource n) (all_drivers n)
sources n =
    All-append (IsSource n) (flat_map part_drivers (numbered n.parts) ++ flat_map pin_drivers (numbered n.pins)) (map clock_driver (numbered n.clocks))
    (All-append (IsSource n) (flat_map part_drivers (numbered n.parts)) (flat_map pin_drivers (numbered n.pins))
    (flat_each (IsSource n) part_drivers n.parts
    (λ part p e. flat_each (IsSource n) (output_drivers part) p.outputs
    (λ output bits f. map_each (IsSource n) (λ (b : ℕ × ℕ). (b.1, Part part output b.0)) bits (λ bit net at. (p, bits, e, f, at)))))
    (flat_each (IsSource n) pin_drivers n.pins (λ pin p e. pins_are n pin p p.input e refl)))
    (map_each (IsSource n) clock_driver n.clocks (λ clock c e. (c, e, refl)))

-- what holds of all holds of those on a net
on_net_All : (P : ℕ × Driver → Type 0) (net : ℕ) (all : List (ℕ × Driver)) → All P all → All (λ (d : Driver). P (net, d)) (on_net net all)
on_net_All P net [] h = All-nil (λ (d : Driver). P (net, d))
on_net_All P net ((on, d) ∷ all) h = by_case (cases_eq on net) (All-head P (on, d) all h) (on_net_All P net all (All-tail P (on, d) all h))
  where
    by_case : (on ≡ net) ⊎ (on ≡ net → ⊥) → P (on, d) → All (λ (d : Driver). P (net, d)) (on_net net all) → All (λ (d : Driver). P (net, d)) (on_net net ((on, d) ∷ all))
    by_case (inl e) first rest =
        subst (λ (ds : List (ℕ × Driver)). All (λ (d : Driver). P (net, d)) (map (λ (d : ℕ × Driver). d.1) ds))
        (sym (cond-true (on == net) ((on, d) ∷ filter (λ (d : ℕ × Driver). d.0 == net) all) (filter (λ (d : ℕ × Driver). d.0 == net) all) (eq-eqb on net e)))
        (All-cons (λ (d : Driver). P (net, d)) d (on_net net all) (subst (λ (k : ℕ). P (k, d)) e first) rest)
    by_case (inr ne) first rest =
        subst (λ (ds : List (ℕ × Driver)). All (λ (d : Driver). P (net, d)) (map (λ (d : ℕ × Driver). d.1) ds))
        (sym (cond-false (on == net) ((on, d) ∷ filter (λ (d : ℕ × Driver). d.0 == net) all) (filter (λ (d : ℕ × Driver). d.0 == net) all) (ne_eqb on net ne)))
        rest

-- each driver of a net is on it
pub driver_is : (n : Netlist) (net : ℕ) → All (λ d. IsSourceOf n d net) (drivers n net)
driver_is n net = on_net_All (IsSource n) net (all_drivers n) (sources n)

-- ---- each source drives

flat_Contains : {A : Type 0} (f : ℕ × A → List (ℕ × Driver)) (k : ℕ) (xs : List A) (i : ℕ) (a : A) (d : ℕ × Driver)
    → slice_get xs i ≡ Some a → Contains (f (k + i, a)) d → Contains (flat_map f (enumerate_from k xs)) d
flat_Contains f k [] i a d e h = absurd (cc)
flat_Contains {A = A} f k (x ∷ xs) zero a d e h =
    let same : x ≡ a = same_Some x a e in
    let here : k + 0 ≡ k = omega arith in
    Contains-append_left (f (k, x)) (flat_map f (enumerate_from (k + 1) xs)) d
    (subst (λ (y : A). Contains (f (k, y)) d) (sym same) (subst (λ (i : ℕ). Contains (f (i, a)) d) here h))
flat_Contains f k (x ∷ xs) (suc i) a d e h =
    let next : k + suc i ≡ k + 1 + i = omega arith in
    Contains-append_right (f (k, x)) (flat_map f (enumerate_from (k + 1) xs)) d
    (flat_Contains f (k + 1) xs i a d e (subst (λ (j : ℕ). Contains (f (j, a)) d) next h))

map_Contains : {A : Type 0} (f : ℕ × A → ℕ × Driver) (k : ℕ) (xs : List A) (i : ℕ) (a : A)
    → slice_get xs i ≡ Some a → Contains (map f (enumerate_from k xs)) (f (k + i, a))
map_Contains f k [] i a e = absurd (cc)
map_Contains {A = A} f k (x ∷ xs) zero a e =
    let same : x ≡ a = same_Some x a e in
    let here : k + 0 ≡ k = omega arith in
    (0, omega arith, ap (λ (y : A). f (k, y)) same ∙ ap (λ (i : ℕ). f (i, a)) (sym here))
map_Contains f k (x ∷ xs) (suc i) a e =
    let next : k + 1 + i ≡ k + suc i = omega arith in
    Contains-append_right (f (k, x) ∷ []) (map f (enumerate_from (k + 1) xs)) (f (k + suc i, a))
    (subst (λ (j : ℕ). Contains (map f (enumerate_from (k + 1) xs)) (f (j, a))) next (map_Contains f (k + 1) xs i a e))

flat_place : {A : Type 0} (f : ℕ × A → List (ℕ × Driver)) (xs : List A) (i : ℕ) (a : A) (d : ℕ × Driver)
    → slice_get xs i ≡ Some a → Contains (f (i, a)) d → Contains (flat_map f (numbered xs)) d
flat_place f xs i a d e h = let same : i ≡ 0 + i = omega arith in flat_Contains f 0 xs i a d e (subst (λ (j : ℕ). Contains (f (j, a)) d) same h)

map_place : {A : Type 0} (f : ℕ × A → ℕ × Driver) (xs : List A) (i : ℕ) (a : A) → slice_get xs i ≡ Some a → Contains (map f (numbered xs)) (f (i, a))
map_place f xs i a e = let same : 0 + i ≡ i = omega arith in subst (λ (j : ℕ). Contains (map f (numbered xs)) (f (j, a))) same (map_Contains f 0 xs i a e)

among_drivers : (n : Netlist) (d : Driver) (net : ℕ) → IsSourceOf n d net → Contains (all_drivers n) (net, d)
among_drivers n (Part part output bit) net (p, bits, is_part, is_output, is_bit) =
    Contains-append_left (flat_map part_drivers (numbered n.parts) ++ flat_map pin_drivers (numbered n.pins)) (map clock_driver (numbered n.clocks)) (net, Part part output bit)
    (Contains-append_left (flat_map part_drivers (numbered n.parts)) (flat_map pin_drivers (numbered n.pins)) (net, Part part output bit)
    (flat_place part_drivers n.parts part p (net, Part part output bit) is_part
    (flat_place (output_drivers part) p.outputs output bits (net, Part part output bit) is_output
    (map_place (λ (b : ℕ × ℕ). (b.1, Part part output b.0)) bits bit net is_bit))))
among_drivers n (Pin pin bit) net (p, is_pin, input, is_bit) =
    Contains-append_left (flat_map part_drivers (numbered n.parts) ++ flat_map pin_drivers (numbered n.pins)) (map clock_driver (numbered n.clocks)) (net, Pin pin bit)
    (Contains-append_right (flat_map part_drivers (numbered n.parts)) (flat_map pin_drivers (numbered n.pins)) (net, Pin pin bit)
    (flat_place pin_drivers n.pins pin p (net, Pin pin bit) is_pin
    (subst (λ (ds : List (ℕ × Driver)). Contains ds (net, Pin pin bit)) (sym (cond-true p.input (map (λ (b : ℕ × ℕ). (b.1, Pin pin b.0)) (numbered p.bits)) [] input))
    (map_place (λ (b : ℕ × ℕ). (b.1, Pin pin b.0)) p.bits bit net is_bit))))
among_drivers n (Clock clock) net (c, is_clock, on) =
    Contains-append_right (flat_map part_drivers (numbered n.parts) ++ flat_map pin_drivers (numbered n.pins)) (map clock_driver (numbered n.clocks)) (net, Clock clock)
    (subst (λ (k : ℕ). Contains (map clock_driver (numbered n.clocks)) (k, Clock clock)) on (map_place clock_driver n.clocks clock c is_clock))

on_net_Contains : (net : ℕ) (d : Driver) (all : List (ℕ × Driver)) (i : ℕ) → slice_get all i ≡ Some (net, d) → Contains (on_net net all) d
on_net_Contains net d [] i e = absurd (cc)
on_net_Contains net d ((on, first) ∷ all) zero e =
    let same : on ≡ net = ap (λ (x : ℕ × Driver). x.0) (same_Some (on, first) (net, d) e) in
    let driver : first ≡ d = ap (λ (x : ℕ × Driver). x.1) (same_Some (on, first) (net, d) e) in
    subst (λ (ds : List (ℕ × Driver)). Contains (map (λ (d : ℕ × Driver). d.1) ds) d)
    (sym (cond-true (on == net) ((on, first) ∷ filter (λ (d : ℕ × Driver). d.0 == net) all) (filter (λ (d : ℕ × Driver). d.0 == net) all) (eq-eqb on net same)))
    (0, omega arith, driver)
on_net_Contains net d ((on, first) ∷ all) (suc i) e = by_case (cases_eq on net) (on_net_Contains net d all i e)
  where
    by_case : (on ≡ net) ⊎ (on ≡ net → ⊥) → Contains (on_net net all) d → Contains (on_net net ((on, first) ∷ all)) d
    by_case (inl same) h =
        subst (λ (ds : List (ℕ × Driver)). Contains (map (λ (d : ℕ × Driver). d.1) ds) d)
        (sym (cond-true (on == net) ((on, first) ∷ filter (λ (d : ℕ × Driver). d.0 == net) all) (filter (λ (d : ℕ × Driver). d.0 == net) all) (eq-eqb on net same)))
        (Contains-append_right (first ∷ []) (on_net net all) d h)
    by_case (inr ne) h =
        subst (λ (ds : List (ℕ × Driver)). Contains (map (λ (d : ℕ × Driver). d.1) ds) d)
        (sym (cond-false (on == net) ((on, first) ∷ filter (λ (d : ℕ × Driver). d.0 == net) all) (filter (λ (d : ℕ × Driver). d.0 == net) all) (ne_eqb on net ne)))
        h

pub source_drives : (n : Netlist) (d : Driver) (net : ℕ) → IsSourceOf n d net → Contains (drivers n net) d
source_drives n d net h =
    let at = place_of (all_drivers n) (net, d) (among_drivers n d net h) in
    on_net_Contains net d (all_drivers n) at.0 at.1

pub is_driven : (n : Netlist) (net : ℕ) (d : Driver) → Contains (drivers n net) d → is_undriven n net ≡ false
is_driven n net d h = go (drivers n net) h
  where
    go : (ds : List Driver) → Contains ds d → (length ds == 0) ≡ false
    go [] h = let inside = h.1 in absurd (omega arith)
    go (d ∷ more) h = ne_eqb (length (d ∷ more)) 0 (λ e. absurd (omega (arith, e)))

-- a bit of an output drives the net that it is on
pub driver_of_output : (n : Netlist) (part output bit net : ℕ) (p : PartUse) (bits : List ℕ) → slice_get n.parts part ≡ Some p → slice_get p.outputs output ≡ Some bits → slice_get bits bit ≡ Some net
    → Contains (drivers n net) (Part part output bit) × (is_undriven n net ≡ false)
driver_of_output n part output bit net p bits is_part is_output is_bit =
    let h = source_drives n (Part part output bit) net (p, bits, is_part, is_output, is_bit) in
    (h, is_driven n net (Part part output bit) h)

-- a bit of an input pin drives the net that it is on
pub driver_of_pin : (n : Netlist) (pin bit net : ℕ) (p : PinUse) → slice_get n.pins pin ≡ Some p → p.input ≡ true → slice_get p.bits bit ≡ Some net
    → Contains (drivers n net) (Pin pin bit) × (is_undriven n net ≡ false)
driver_of_pin n pin bit net p is_pin input is_bit =
    let h = source_drives n (Pin pin bit) net (p, is_pin, input, is_bit) in
    (h, is_driven n net (Pin pin bit) h)

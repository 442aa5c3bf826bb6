-- In an accepted netlist a driven net has one driver, and what is read is driven.
use Rattle.std.proofs.Common.{◌≡◌, ℕ, zero, suc, ◌+◌, ◌<◌, Bool, true, false, not, List, [], ◌∷◌, length, get_or, refl, sym, subst, ap, ◌∙◌, arith, Option, None, Some, if◌then◌else◌}
use Rattle.std.specs.Prelude.{All, Contains, ◌==◌, ◌&&◌, slice_get, codes}
use Rattle.std.specs.List.{list_any, range_with_len, enumerate_from}
use Rattle.std.specs.Option.{option_or}
use Rattle.std.proofs.lemmas.Bool.{or_parts}
use Rattle.std.proofs.lemmas.List.Elements.{All-nil, All-cons}
use Rattle.std.proofs.lemmas.List.FromFn.{get_or-range_with_len, length-range_with_len}
use Rattle.std.proofs.lemmas.Option.{same_Some}
use Rattle.lg_netlist.specs.declared.acceptance.NotAccepted.TheVariants as refusal
use Rattle.lg_netlist.specs.declared.drivers.Driver.{Driver}
use Rattle.lg_netlist.specs.declared.drivers.Driver.TheVariants.{Part, Pin, Clock}
use Rattle.lg_netlist.specs.declared.netlist.PartUse.{PartUse}
use Rattle.lg_netlist.specs.declared.netlist.PinUse.{PinUse}
use Rattle.lg_netlist.specs.declared.netlist.Netlist.{Netlist}
use Rattle.lg_netlist.specs.Acceptance.{first_said, driver_name, contested_by, many_drivers, is_undriven, reads_undriven, undriven_input, undriven_part, undriven_pin, undriven, IsAccepted, ManyDrivers, Undriven}
use Rattle.lg_netlist.specs.Cell.{input_name}
use Rattle.lg_netlist.specs.Drivers.{numbered, drivers}
use Rattle.lg_netlist.specs.Valid.{IsPort, IsFittingPart, IsFittingPin}
use Rattle.lg_netlist.proofs.DriverFacts.{All-at, IsSourceOf, driver_is}

none_said : {B : Type 0} (said : Option B) → ((b : B) → said ≡ Some b → ⊥) → said ≡ None
none_said None never = refl
none_said (Some b) never = absurd (never b refl)

-- where nothing is said, nothing is said of any item
said_of_none : {A B : Type 0} (says : A → Option B) (xs : List A) → first_said says xs ≡ None → All (λ x. says x ≡ None) xs
said_of_none says [] h = All-nil (λ x. says x ≡ None)
said_of_none {A = A} {B = B} says (x ∷ xs) h = by_first (says x) refl h (said_of_none says xs)
  where
    by_first : (said : Option B) → says x ≡ said → option_or said (first_said says xs) ≡ None → (first_said says xs ≡ None → All (λ (x : A). says x ≡ None) xs) → All (λ (x : A). says x ≡ None) (x ∷ xs)
    by_first None e h rest = All-cons (λ (x : A). says x ≡ None) x xs e (rest h)
    by_first (Some b) e h rest = absurd (cc)

-- ---- one driver

uncontested : (n : Netlist) → IsAccepted n → (net : ℕ) → net < n.nets → contested_by n net (drivers n net) ≡ None
uncontested n accepted net less =
    let none = none_said (many_drivers n) (accepted ManyDrivers) in
    let all = said_of_none (λ net. contested_by n net (drivers n net)) (range_with_len 0 n.nets) none in
    let same : 0 + net ≡ net = omega arith in
    let at : get_or (range_with_len 0 n.nets) net 0 ≡ net = get_or-range_with_len 0 n.nets net 0 less ∙ same in
    subst (λ (k : ℕ). contested_by n k (drivers n k) ≡ None) at (all net 0 (omega (arith, length-range_with_len 0 n.nets, less)))

-- a net that something drives has one driver
pub one_driver : (n : Netlist) → IsAccepted n → (net : ℕ) → net < n.nets → is_undriven n net ≡ false → (d : Driver) × (drivers n net ≡ d ∷ [])
one_driver n accepted net less driven = by_drivers (drivers n net) refl
  where
    by_drivers : (ds : List Driver) → drivers n net ≡ ds → (d : Driver) × (drivers n net ≡ d ∷ [])
    by_drivers [] e = let no : true ≡ false = sym (ap (λ (ds : List Driver). length ds == 0) e) ∙ driven in absurd (cc)
    by_drivers (d ∷ []) e = (d, e)
    by_drivers (a ∷ b ∷ more) e =
        let no : Some (refusal.ManyDrivers net (driver_name n a) (driver_name n b)) ≡ None = sym (ap (contested_by n net) e) ∙ uncontested n accepted net less in
        absurd (cc)

-- two drivers of one net are one
pub same_driver : (n : Netlist) → IsAccepted n → (net : ℕ) → net < n.nets → (a b : Driver) → Contains (drivers n net) a → Contains (drivers n net) b → a ≡ b
same_driver n accepted net less a b h k = by_drivers (drivers n net) refl h k
  where
    only : (d x : Driver) → Contains (d ∷ []) x → d ≡ x
    only d x (zero, inside, e) = e
    only d x (suc i, inside, e) = absurd (omega (arith, inside))

    by_drivers : (ds : List Driver) → drivers n net ≡ ds → Contains ds a → Contains ds b → a ≡ b
    by_drivers [] e h k = let inside = h.1 in absurd (omega arith)
    by_drivers (d ∷ []) e h k = sym (only d a h) ∙ only d b k
    by_drivers (x ∷ y ∷ more) e h k =
        let no : Some (refusal.ManyDrivers net (driver_name n x) (driver_name n y)) ≡ None = sym (ap (contested_by n net) e) ∙ uncontested n accepted net less in
        absurd (cc)

-- ---- what is read is driven

or_none : {B : Type 0} (a b : Option B) → option_or a b ≡ None → (a ≡ None) × (b ≡ None)
or_none None b h = (refl, h)
or_none (Some a) b h = absurd (cc)

not_if : {B : Type 0} (t : Bool) (b : B) → (if t then Some b else None) ≡ None → t ≡ false
not_if true b h = absurd (cc)
not_if false b h = refl

none_undriven : (n : Netlist) → IsAccepted n → (first_said (undriven_part n) n.parts ≡ None) × (first_said (undriven_pin n) n.pins ≡ None)
none_undriven n accepted = or_none (first_said (undriven_part n) n.parts) (first_said (undriven_pin n) n.pins) (none_said (undriven n) (accepted Undriven))

numbered_at : {A : Type 0} (k : ℕ) (xs : List A) (i : ℕ) (x : A) → slice_get xs i ≡ Some x → slice_get (enumerate_from k xs) i ≡ Some (k + i, x)
numbered_at k [] i x e = absurd (cc)
numbered_at {A = A} k (y ∷ xs) zero x e = let here : k ≡ k + 0 = omega arith in ap (λ (j : ℕ). Some (j, y)) here ∙ ap (λ (z : A). Some (k + 0, z)) (same_Some y x e)
numbered_at k (y ∷ xs) (suc i) x e = let next : k + 1 + i ≡ k + suc i = omega arith in numbered_at (k + 1) xs i x e ∙ ap (λ (j : ℕ). Some (j, x)) next

-- no input of a part is at fault
pub input_is_right : (n : Netlist) → IsAccepted n → (part input : ℕ) (p : PartUse) (bits : List ℕ) → slice_get n.parts part ≡ Some p → slice_get p.inputs input ≡ Some bits → reads_undriven n p input bits ≡ false
input_is_right n accepted part input p bits is_part is_input =
    let part_none : undriven_part n p ≡ None = All-at (λ (p : PartUse). undriven_part n p ≡ None) n.parts part p (said_of_none (undriven_part n) n.parts (none_undriven n accepted).0) is_part in
    let same : 0 + input ≡ input = omega arith in
    let input_none : undriven_input n p (input, bits) ≡ None =
    All-at (λ (i : ℕ × List ℕ). undriven_input n p i ≡ None) (numbered p.inputs) input (input, bits) (said_of_none (undriven_input n p) (numbered p.inputs) part_none) (numbered_at 0 p.inputs input bits is_input ∙ ap (λ (i : ℕ). Some (i, bits)) same) in
    not_if (reads_undriven n p input bits) (refusal.Undriven p.name (input_name p.cell input)) input_none

none_of_any : (test : ℕ → Bool) (bits : List ℕ) (bit net : ℕ) → list_any test bits ≡ false → slice_get bits bit ≡ Some net → test net ≡ false
none_of_any test [] bit net h e = absurd (cc)
none_of_any test (b ∷ bits) zero net h e = subst (λ (k : ℕ). test k ≡ false) (same_Some b net e) (or_parts (test b) (list_any test bits) h).0
none_of_any test (b ∷ bits) (suc bit) net h e = none_of_any test bits bit net (or_parts (test b) (list_any test bits) h).1 e

pub part_at_fits : (n : Netlist) (part : ℕ) (p : PartUse) → slice_get n.parts part ≡ Some p → IsFittingPart n.nets p
part_at_fits n part p is_part = All-at (IsFittingPart n.nets) n.parts part p n.valid.parts_fit is_part

pub pin_at_fits : (n : Netlist) (pin : ℕ) (p : PinUse) → slice_get n.pins pin ≡ Some p → IsFittingPin n.nets p
pin_at_fits n pin p is_pin = All-at (IsFittingPin n.nets) n.pins pin p n.valid.pins_fit is_pin

pub input_net : (n : Netlist) (part input bit net : ℕ) (p : PartUse) (bits : List ℕ) → slice_get n.parts part ≡ Some p → slice_get p.inputs input ≡ Some bits → slice_get bits bit ≡ Some net → net < n.nets
input_net n part input bit net p bits is_part is_input is_bit =
    All-at (λ (net : ℕ). net < n.nets) bits bit net (All-at (IsPort n.nets) p.inputs input bits (part_at_fits n part p is_part).inputs is_input).on_nets is_bit

pub output_net : (n : Netlist) (part output bit net : ℕ) (p : PartUse) (bits : List ℕ) → slice_get n.parts part ≡ Some p → slice_get p.outputs output ≡ Some bits → slice_get bits bit ≡ Some net → net < n.nets
output_net n part output bit net p bits is_part is_output is_bit =
    All-at (λ (net : ℕ). net < n.nets) bits bit net (All-at (IsPort n.nets) p.outputs output bits (part_at_fits n part p is_part).outputs is_output).on_nets is_bit

pub pin_net : (n : Netlist) (pin bit net : ℕ) (p : PinUse) → slice_get n.pins pin ≡ Some p → slice_get p.bits bit ≡ Some net → net < n.nets
pin_net n pin bit net p is_pin is_bit = All-at (λ (net : ℕ). net < n.nets) p.bits bit net (pin_at_fits n pin p is_pin).on_nets is_bit

pub source_net : (n : Netlist) (d : Driver) (net : ℕ) → IsSourceOf n d net → net < n.nets
source_net n (Part part output bit) net (p, bits, is_part, is_output, is_bit) = output_net n part output bit net p bits is_part is_output is_bit
source_net n (Pin pin bit) net (p, is_pin, input, is_bit) = pin_net n pin bit net p is_pin is_bit
source_net n (Clock clock) net (c, is_clock, on) = subst (λ (k : ℕ). k < n.nets) on (All-at (λ (c : ℕ × List ℕ). c.0 < n.nets) n.clocks clock c n.valid.clocks_fit is_clock)

-- a net's only driver, which is on it
pub record HasDriver (n : Netlist) (net : ℕ) : Type 0 where
  pub driver : Driver
  pub alone : drivers n net ≡ driver ∷ []
  pub source : IsSourceOf n driver net

pub has_driver : (n : Netlist) → IsAccepted n → (net : ℕ) → is_undriven n net ≡ false → HasDriver n net
has_driver n accepted net driven = by_drivers (drivers n net) refl
  where
    only : (one : (d : Driver) × (drivers n net ≡ d ∷ [])) → HasDriver n net
    only one = record { driver = one.0; alone = one.1; source = subst (λ (ds : List Driver). All (λ d. IsSourceOf n d net) ds) one.1 (driver_is n net) 0 one.0 (omega arith) }

    by_drivers : (ds : List Driver) → drivers n net ≡ ds → HasDriver n net
    by_drivers [] e = let no : true ≡ false = sym (ap (λ (ds : List Driver). length ds == 0) e) ∙ driven in absurd (cc)
    by_drivers (d ∷ more) e =
        let source : IsSourceOf n d net = subst (λ (ds : List Driver). All (λ d. IsSourceOf n d net) ds) e (driver_is n net) 0 d (omega arith) in
        only (one_driver n accepted net (source_net n d net source) driven)

-- something drives each net of an attached input of a part
pub read_is_driven : (n : Netlist) → IsAccepted n → (part input bit net : ℕ) (p : PartUse) (bits : List ℕ) → slice_get n.parts part ≡ Some p → slice_get p.inputs input ≡ Some bits → slice_get bits bit ≡ Some net
    → (net < n.nets) × (is_undriven n net ≡ false)
read_is_driven n accepted part input bit net p bits is_part is_input is_bit = (input_net n part input bit net p bits is_part is_input is_bit, go bits (input_is_right n accepted part input p bits is_part is_input) is_bit)
  where
    go : (bits : List ℕ) → reads_undriven n p input bits ≡ false → slice_get bits bit ≡ Some net → is_undriven n net ≡ false
    go [] h e = absurd (cc)
    go (b ∷ bits) h e = none_of_any (is_undriven n) (b ∷ bits) bit net h e

-- something drives each net of an output pin
pub shown_is_driven : (n : Netlist) → IsAccepted n → (pin bit net : ℕ) (p : PinUse) → slice_get n.pins pin ≡ Some p → p.input ≡ false → slice_get p.bits bit ≡ Some net
    → (net < n.nets) × (is_undriven n net ≡ false)
shown_is_driven n accepted pin bit net p is_pin output is_bit =
    let pin_none : undriven_pin n p ≡ None = All-at (λ (p : PinUse). undriven_pin n p ≡ None) n.pins pin p (said_of_none (undriven_pin n) n.pins (none_undriven n accepted).1) is_pin in
    let neither : (not p.input && list_any (is_undriven n) p.bits) ≡ false = not_if (not p.input && list_any (is_undriven n) p.bits) (refusal.Undriven p.place (codes "p")) pin_none in
    let none : list_any (is_undriven n) p.bits ≡ false = subst (λ (b : Bool). (not b && list_any (is_undriven n) p.bits) ≡ false) output neither in
    (pin_net n pin bit net p is_pin is_bit, none_of_any (is_undriven n) p.bits bit net none is_bit)

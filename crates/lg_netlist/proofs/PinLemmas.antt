-- Pins one by one, and as references to them.
use Rattle.std.proofs.Common.{◌≡◌, ℕ, ◌+◌, ◌<◌, Bool, true, false, not, cond, IsTrue, ◌↔◌, eq-eqb, Bor, List, [], ◌∷◌, ◌++◌, length, map, filter, get_or, drop, Option, Some, None, refl, sym, ap, subst, ◌∙◌, arith}
use Rattle.std.specs.Prelude.{◌==◌, All}
use Rattle.std.specs.List.{enumerate_from}
use Rattle.std.proofs.lemmas.Bool.{eqb-true, false≢true}
use Rattle.std.proofs.lemmas.List.{at_drop_more, get_or-map, length-map}
use Rattle.std.proofs.lemmas.List.Elements.{All-same, All-get_or}
use Rattle.std.proofs.lemmas.Option.{same_Some}
use Rattle.lg_netlist.specs.declared.netlist.PinUse.{PinUse}
use Rattle.lg_netlist.specs.declared.netlist.Netlist.{Netlist}
use Rattle.lg_netlist.specs.Static.{data_pins}

-- what some references point to
abbrev pub pointed : List (Bor PinUse) → List PinUse
pointed pins = map (λ p. p.now) pins

-- whether the pin at a place is none but the clock pin
abbrev pub is_data : Option ℕ → ℕ → Bool
is_data None place = true
is_data (Some clock) place = not (clock == place)

-- the pins other than the clock pin among some, numbered from a place
abbrev pub data_pins_from : Option ℕ → ℕ → List PinUse → List PinUse
data_pins_from clock place pins = map (λ (p : ℕ × PinUse). p.1) (filter (λ (p : ℕ × PinUse). is_data clock p.0) (enumerate_from place pins))

data_pins-by : (n : Netlist) (clock : Option ℕ) → n.clock_pin ≡ clock → data_pins n ≡ data_pins_from clock 0 n.pins
data_pins-by n None e = rw e refl
data_pins-by n (Some clock) e = rw e refl

pub data_pins-from : (n : Netlist) → data_pins n ≡ data_pins_from n.clock_pin 0 n.pins
data_pins-from n = data_pins-by n n.clock_pin refl

other_place : (clock place : ℕ) (t : Bool) → (clock == place) ≡ t → (Some clock ≡ Some place → IsTrue false) → not (clock == place) ≡ true
other_place clock place true e never = absurd (false≢true (never (ap (λ (k : ℕ). Some k) (eqb-true clock place e))))
other_place clock place false e never = rw e refl

is_data-of : (clock : Option ℕ) (place : ℕ) (b : Bool) → IsTrue b ↔ (clock ≡ Some place) → is_data clock place ≡ not b
is_data-of None place true h = absurd (cc (h.0 refl))
is_data-of None place false h = refl
is_data-of (Some clock) place true h = let same : (clock == place) ≡ true = eq-eqb clock place (same_Some clock place (h.0 refl)) in rw same refl
is_data-of (Some clock) place false h = other_place clock place (clock == place) refl h.1

-- one pin more
data_one : (clock : Option ℕ) (place : ℕ) (p : PinUse) (pins : List PinUse) (b : Bool) → is_data clock place ≡ not b → data_pins_from clock place (p ∷ pins) ≡ cond b [] (p ∷ []) ++ data_pins_from clock (place + 1) pins
data_one clock place p pins true e = rw e refl
data_one clock place p pins false e = rw e refl

pub data_pins-more : (clock : Option ℕ) (pins : List PinUse) (i : ℕ) (p : PinUse) (b : Bool) → i < length pins → p ≡ get_or pins i p → IsTrue b ↔ (clock ≡ Some i)
    → data_pins_from clock i (drop i pins) ≡ cond b [] (p ∷ []) ++ data_pins_from clock (i + 1) (drop (i + 1) pins)
data_pins-more clock pins i p b less is h =
    at_drop_more (data_pins_from clock i) pins i p less ∙ (ap (λ (x : PinUse). data_pins_from clock i (x ∷ drop (i + 1) pins)) (sym is) ∙ data_one clock i p (drop (i + 1) pins) b (is_data-of clock i b h))

-- what is kept of the references points to what is kept
kept_one : (test : PinUse → Bool) (p : Bor PinUse) (pins : List (Bor PinUse)) (b : Bool) → test p.now ≡ b → pointed (filter (λ x. test x.now) pins) ≡ filter test (pointed pins)
    → pointed (filter (λ x. test x.now) (p ∷ pins)) ≡ filter test (pointed (p ∷ pins))
kept_one test p pins true e rest = rw e (ap (λ (xs : List PinUse). p.now ∷ xs) rest)
kept_one test p pins false e rest = rw e rest

pub pointed-filter : (test : PinUse → Bool) (pins : List (Bor PinUse)) → pointed (filter (λ p. test p.now) pins) ≡ filter test (pointed pins)
pointed-filter test [] = refl
pointed-filter test (p ∷ pins) = kept_one test p pins (test p.now) refl (pointed-filter test pins)

pointed-get_or : (pins : List (Bor PinUse)) (i : ℕ) (p : Bor PinUse) → i < length pins → get_or (pointed pins) i p.now ≡ (get_or pins i p).now
pointed-get_or pins i p less = get_or-map (λ (x : Bor PinUse). x.now) pins i p p.now less

-- one reference more
pub pointed-more : (pins : List (Bor PinUse)) (i : ℕ) (p : Bor PinUse) → i < length pins → p ≡ get_or pins i p → pointed (drop i pins) ≡ p.now ∷ pointed (drop (i + 1) pins)
pointed-more pins i p less is = at_drop_more pointed pins i p less ∙ ap (λ (x : Bor PinUse). x.now ∷ pointed (drop (i + 1) pins)) (sym is)

-- what holds of each pin holds of the one that a reference points to
pub pointed-All : (P : PinUse → Type 0) (all : List PinUse) (pins : List (Bor PinUse)) (i : ℕ) (p : Bor PinUse) → pointed pins ≡ all → All P all → i < length pins → p ≡ get_or pins i p → P p.now
pointed-All P all pins i p same holds less is =
    let at : P (get_or (pointed pins) i p.now) = All-get_or P (pointed pins) i p.now (omega (arith, length-map pins (λ (x : Bor PinUse). x.now))) (All-same P (pointed pins) all same holds) in
    subst P (pointed-get_or pins i p less ∙ ap (λ (x : Bor PinUse). x.now) (sym is)) at

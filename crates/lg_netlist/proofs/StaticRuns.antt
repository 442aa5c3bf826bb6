-- What drivers give nets, step after step: in an accepted netlist two runs of such steps come to the same values.
use Rattle.std.proofs.Common.{◌≡◌, ℕ, zero, suc, ◌+◌, ◌<◌, false, List, [], ◌∷◌, length, get_or, map, filter, take, refl, sym, ap, ◌∙◌, arith, Option, None, Some}
use Rattle.std.specs.Prelude.{slice_get}
use Rattle.std.proofs.lemmas.Option.{slice_get_within}
use Rattle.lg_value.specs.declared.bit.Bit.{Bit}
use Rattle.lg_value.specs.declared.bit.Bit.TheVariants.{Zero}
use Rattle.lg_netlist.specs.declared.drivers.Driver.{Driver}
use Rattle.lg_netlist.specs.declared.drivers.Driver.TheVariants.{Part, Pin, Clock}
use Rattle.lg_netlist.specs.declared.netlist.PartUse.{PartUse}
use Rattle.lg_netlist.specs.declared.netlist.PinUse.{PinUse}
use Rattle.lg_netlist.specs.declared.netlist.Netlist.{Netlist}
use Rattle.lg_netlist.specs.Acceptance.{is_undriven, IsAccepted}
use Rattle.lg_netlist.specs.Cell.{State, cell_word}
use Rattle.lg_netlist.specs.Chain.{IsOutput, Follows}
use Rattle.lg_netlist.specs.Drivers.{drivers, first_driver}
use Rattle.lg_netlist.specs.Graph.{all_outputs}
use Rattle.lg_netlist.specs.Static.{word_at, inputs_of, state_of}
use Rattle.lg_netlist.proofs.AcceptedFacts.{has_driver, read_is_driven}
use Rattle.lg_netlist.proofs.CellFacts.{reads_all}
use Rattle.lg_netlist.proofs.DriverFacts.{Contains-at, IsSourceOf}
use Rattle.lg_netlist.proofs.OutputLemmas.{output_listed}
use Rattle.lg_netlist.proofs.Ranks.{HasRanks}

-- which word of a row is the word of the pin at a place: there are as many before it as input pins
abbrev pub row_place : List PinUse → ℕ → ℕ
row_place pins place = length (filter (λ p. p.input) (take place pins))

-- what a bit of an output of a part gives
abbrev pub part_gives : List State → ℕ → ℕ → ℕ → (ℕ → Bit) → Option PartUse → Bit
part_gives states part output bit value None = Zero
part_gives states part output bit value (Some p) = get_or (cell_word p.cell (state_of states part) (inputs_of value p) output) bit Zero

-- what a driver gives where the nets have these values
abbrev pub given_by : Netlist → List State → List (List Bit) → (ℕ → Bit) → Driver → Bit
given_by n states row value (Part part output bit) = part_gives states part output bit value (slice_get n.parts part)
given_by n states row value (Pin pin bit) = get_or (get_or row (row_place n.pins pin) []) bit Zero
given_by n states row value (Clock clock) = Zero

-- what a net is given: 0 where it has no driver
abbrev pub net_given : Netlist → List State → List (List Bit) → (ℕ → Bit) → Option Driver → Bit
net_given n states row value None = Zero
net_given n states row value (Some d) = given_by n states row value d

-- the values one step on: each net has what its first driver gives
abbrev pub stepped : Netlist → List State → List (List Bit) → (ℕ → Bit) → ℕ → Bit
stepped n states row value net = net_given n states row value (first_driver n net)

-- the only driver of a net gives its value
pub stepped_by : (n : Netlist) (states : List State) (row : List (List Bit)) (value : ℕ → Bit) (net : ℕ) (d : Driver) → drivers n net ≡ d ∷ [] → stepped n states row value net ≡ given_by n states row value d
stepped_by n states row value net d alone = ap (λ (ds : List Driver). net_given n states row value (slice_get ds 0)) alone

-- ---- values that agree

pub map_agrees : {A B : Type 0} (f g : A → B) (xs : List A) → ((i : ℕ) (x : A) → slice_get xs i ≡ Some x → f x ≡ g x) → map f xs ≡ map g xs
map_agrees f g [] h = refl
map_agrees {B = B} f g (x ∷ xs) h = ap (λ (y : B). y ∷ map f xs) (h 0 x refl) ∙ ap (λ (ys : List B). g x ∷ ys) (map_agrees f g xs (λ i y e. h (suc i) y e))

word_at_agrees : (a b : ℕ → Bit) (bits : List ℕ) → ((bit net : ℕ) → slice_get bits bit ≡ Some net → a net ≡ b net) → word_at a bits ≡ word_at b bits
word_at_agrees a b [] h = refl
word_at_agrees a b (bit ∷ bits) h = ap Some (map_agrees a b (bit ∷ bits) h)

-- values that agree on what a part reads give it the same words
pub inputs_agree : (a b : ℕ → Bit) (p : PartUse) → ((input : ℕ) (bits : List ℕ) (bit net : ℕ) → slice_get p.inputs input ≡ Some bits → slice_get bits bit ≡ Some net → a net ≡ b net) → inputs_of a p ≡ inputs_of b p
inputs_agree a b p h = map_agrees (word_at a) (word_at b) p.inputs (λ input bits is_input. word_at_agrees a b bits (λ bit net is_bit. h input bits bit net is_input is_bit))

-- ---- runs

-- values step after step: on the nets that something drives each comes from the one before
abbrev pub IsRun : Netlist → List State → List (List Bit) → (ℕ → ℕ → Bit) → Type 0
IsRun n states row run = (k net : ℕ) → is_undriven n net ≡ false → run (suc k) net ≡ stepped n states row (run k) net

-- from this step on the driver gives what it gives at last
abbrev pub IsSettledBy : (n : Netlist) → HasRanks n → ℕ → Driver → Type 0
IsSettledBy n r k (Part part output bit) = (i : ℕ) × (slice_get (all_outputs n) i ≡ Some (part, output)) × (r.rank i + 1 < k)
IsSettledBy n r k (Pin pin bit) = 0 < k
IsSettledBy n r k (Clock clock) = 0 < k

pub never_settled : (n : Netlist) (r : HasRanks n) (d : Driver) → IsSettledBy n r 0 d → ⊥
never_settled n r (Part part output bit) (i, is, less) = absurd (omega (arith, less))
never_settled n r (Pin pin bit) less = absurd (omega (arith, less))
never_settled n r (Clock clock) less = absurd (omega (arith, less))

-- what an output reads is settled a step before it
pub reads_settled : (n : Netlist) (r : HasRanks n) (k part output : ℕ) (p : PartUse) (shown : List ℕ) → slice_get n.parts part ≡ Some p → slice_get p.outputs output ≡ Some shown
    → (i : ℕ) → slice_get (all_outputs n) i ≡ Some (part, output) → r.rank i + 1 < suc k
    → (input : ℕ) (bits : List ℕ) (bit net : ℕ) → slice_get p.inputs input ≡ Some bits → slice_get bits bit ≡ Some net
    → (d : Driver) → IsSourceOf n d net → IsSettledBy n r k d
reads_settled n r k part output p shown is_part is_output i is_i less input bits bit net is_input is_bit (Part part' output' bit') (p', bits', is_part', is_output', is_bit') =
    let is_earlier : IsOutput n (part', output') = (p', is_part', slice_get_within p'.outputs output' bits' is_output') in
    let follows : Follows n (part', output') (part, output) = record {
      is_earlier = is_earlier;
      is_later = (p, is_part, slice_get_within p.outputs output shown is_output);
      net = net;
      driven = record { part = p'; bits = bits'; is_part = is_part'; is_output = is_output'; on = Contains-at bits' bit' net is_bit' };
      read = record { part = p; input = input; bits = bits; is_part = is_part; is_input = is_input; reads = reads_all p.cell output input; on = Contains-at bits bit net is_bit };
    } in
    let at = output_listed n (part', output') is_earlier in
    let lower = r.rises i at.0 (part, output) (part', output') is_i at.1 follows in
    (at.0, at.1, omega (arith, lower, less))
reads_settled n r k part output p shown is_part is_output i is_i less input bits bit net is_input is_bit (Pin pin bit') source = omega (arith, less)
reads_settled n r k part output p shown is_part is_output i is_i less input bits bit net is_input is_bit (Clock clock) source = omega (arith, less)

-- at last all drivers are settled
pub all_settled : (n : Netlist) (r : HasRanks n) (d : Driver) (net : ℕ) → IsSourceOf n d net → IsSettledBy n r (r.most + 2) d
all_settled n r (Part part output bit) net (p, bits, is_part, is_output, is_bit) =
    let at = output_listed n (part, output) (p, is_part, slice_get_within p.outputs output bits is_output) in
    let low = r.below at.0 in
    (at.0, at.1, omega (arith, low))
all_settled n r (Pin pin bit) net source = omega arith
all_settled n r (Clock clock) net source = omega arith

-- what a driver gives, where values agree on what was settled a step before
given_agrees : (n : Netlist) → IsAccepted n → (r : HasRanks n) (states : List State) (row : List (List Bit)) (k : ℕ) (a b : ℕ → Bit)
    → ((net : ℕ) → is_undriven n net ≡ false → (d : Driver) → drivers n net ≡ d ∷ [] → IsSourceOf n d net → IsSettledBy n r k d → a net ≡ b net)
    → (net : ℕ) (d : Driver) → IsSourceOf n d net → IsSettledBy n r (suc k) d → given_by n states row a d ≡ given_by n states row b d
given_agrees n accepted r states row k a b earlier net (Part part output bit) (p, shown, is_part, is_output, is_bit) (i, is_i, less) =
    ap (part_gives states part output bit a) is_part
    ∙ (ap (λ (words : List (Option (List Bit))). get_or (cell_word p.cell (state_of states part) words output) bit Zero) (inputs_agree a b p same)
    ∙ sym (ap (part_gives states part output bit b) is_part))
  where
    same : (input : ℕ) (bits : List ℕ) (bit net : ℕ) → slice_get p.inputs input ≡ Some bits → slice_get bits bit ≡ Some net → a net ≡ b net
    same input bits bit net is_input is_bit =
        let driven = (read_is_driven n accepted part input bit net p bits is_part is_input is_bit).1 in
        let h = has_driver n accepted net driven in
        earlier net driven h.driver h.alone h.source (reads_settled n r k part output p shown is_part is_output i is_i less input bits bit net is_input is_bit h.driver h.source)
given_agrees n accepted r states row k a b earlier net (Pin pin bit) source settled = refl
given_agrees n accepted r states row k a b earlier net (Clock clock) source settled = refl

-- two runs agree on nets that are settled
pub runs_agree : (n : Netlist) → IsAccepted n → (r : HasRanks n) (states : List State) (row : List (List Bit)) (a b : ℕ → ℕ → Bit) → IsRun n states row a → IsRun n states row b
    → (k net : ℕ) → is_undriven n net ≡ false → (d : Driver) → drivers n net ≡ d ∷ [] → IsSourceOf n d net → IsSettledBy n r k d → a k net ≡ b k net
runs_agree n accepted r states row a b run_a run_b zero net driven d alone source settled = absurd (never_settled n r d settled)
runs_agree n accepted r states row a b run_a run_b (suc k) net driven d alone source settled =
    run_a k net driven
    ∙ (stepped_by n states row (a k) net d alone
    ∙ (given_agrees n accepted r states row k (a k) (b k) (runs_agree n accepted r states row a b run_a run_b k) net d source settled
    ∙ (sym (stepped_by n states row (b k) net d alone) ∙ sym (run_b k net driven))))

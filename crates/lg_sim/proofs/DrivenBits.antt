-- A net with one driver carries the bit that its driver puts on it.
use Rattle.std.proofs.Common.{◌≡◌, ℕ, zero, suc, ◌+◌, ◌≤◌, Bool, true, false, cond, List, [], ◌∷◌, ◌++◌, length, map, filter, Some, refl, sym, ap, subst, ◌∙◌, arith, eq-eqb, append-nil, replicate}
use Rattle.std.specs.Prelude.{◌==◌, slice_get, Contains}
use Rattle.std.specs.List.{flat_map, enumerate_from}
use Rattle.std.specs.Option.{option_map}
use Rattle.std.proofs.lemmas.List.{length-append, length-map}
use Rattle.std.proofs.lemmas.List.Elements.{filter-append, Contains-append_left, Contains-append_right}
use Rattle.std.proofs.lemmas.Option.{slice_get-map, same_Some, none-some}
use Rattle.lg_value.specs.declared.bit.Bit.{Bit}
use Rattle.lg_value.specs.declared.bit.Bit.TheVariants.{Zero, One, Unknown, Error}
use Rattle.lg_value.specs.Drivers.{join_of_drivers}
use Rattle.lg_timing.specs.Circuit.{Word, Port, Stimulus}
use Rattle.lg_timing.specs.Instant.{Instant, Numbered, bits_on, words_on, output_words, drivers_of, net_bit, or_else, numbered_parts}
use Rattle.lg_netlist.specs.declared.drivers.Driver.{Driver}
use Rattle.lg_netlist.specs.declared.drivers.Driver.TheVariants.{Part, Pin}
use Rattle.lg_netlist.specs.declared.netlist.PartUse.{PartUse}
use Rattle.lg_netlist.specs.declared.netlist.PinUse.{PinUse}
use Rattle.lg_netlist.specs.declared.netlist.Netlist.{Netlist}
use Rattle.lg_netlist.specs.Cell.{output_width}
use Rattle.lg_netlist.specs.Drivers.{output_drivers, part_drivers, pin_drivers, clock_driver, all_drivers, drivers, numbered}
use Rattle.lg_netlist.specs.Static.{input_pins, has_no_clock}
use Rattle.lg_netlist.proofs.StaticLemmas.{no_clock_nets, all_input_pins}
use Rattle.lg_sim.specs.InTime.{part_of, circuit_of}
use Rattle.lg_sim.proofs.PartsInTime.{nets_of-ports, part_at}

-- ---- how many bits drive a net: no more than it has drivers

abbrev on : ℕ → List (ℕ × Driver) → List (ℕ × Driver)
on net all = filter (λ (d : ℕ × Driver). d.0 == net) all

on-append : (net : ℕ) (xs ys : List (ℕ × Driver)) → length (on net (xs ++ ys)) ≡ length (on net xs) + length (on net ys)
on-append net xs ys = ap length (filter-append (λ (d : ℕ × Driver). d.0 == net) xs ys) ∙ length-append (on net xs) (on net ys)

few_bits : (net k : ℕ) (f : ℕ → Driver) (bits : List ℕ) (word : Word) → length (bits_on net bits word) ≤ length (on net (map (λ (b : ℕ × ℕ). (b.1, f b.0)) (enumerate_from k bits)))
few_bits net k f [] word = omega arith
few_bits net k f (n ∷ bits) [] = omega arith
few_bits net k f (n ∷ bits) (bit ∷ word) = by (n == net) (few_bits net (k + 1) f bits word)
  where
    by : (t : Bool) → length (bits_on net bits word) ≤ length (on net (map (λ (b : ℕ × ℕ). (b.1, f b.0)) (enumerate_from (k + 1) bits)))
        → length (cond t (bit ∷ bits_on net bits word) (bits_on net bits word)) ≤ length (cond t ((n, f k) ∷ on net (map (λ (b : ℕ × ℕ). (b.1, f b.0)) (enumerate_from (k + 1) bits))) (on net (map (λ (b : ℕ × ℕ). (b.1, f b.0)) (enumerate_from (k + 1) bits))))
    by true few = omega (arith, few)
    by false few = few

few_words : (net part k : ℕ) (ports : List (List ℕ)) (words : List Word) → length (words_on net ports words) ≤ length (on net (flat_map (output_drivers part) (enumerate_from k ports)))
few_words net part k [] words = omega arith
few_words net part k (bits ∷ ports) [] = omega arith
few_words net part k (bits ∷ ports) (word ∷ words) =
    omega (
      arith,
      length-append (bits_on net bits word) (words_on net ports words),
      on-append net (output_drivers part (k, bits)) (flat_map (output_drivers part) (enumerate_from (k + 1) ports)),
      few_bits net 0 (Part part k) bits word,
      few_words net part (k + 1) ports words,
    )

-- the bits that a part puts on a net
abbrev pub bits_of_part : ℕ → List Instant → Numbered → List Bit
bits_of_part net past p = words_on net (map (λ (port : Port). port.nets) p.1.outputs) (output_words past p)

pub bits_of_part-are : (net : ℕ) (past : List Instant) (k : ℕ) (p : PartUse) → bits_of_part net past (k, part_of p) ≡ words_on net p.outputs (output_words past (k, part_of p))
bits_of_part-are net past k p = ap (λ (ports : List (List ℕ)). words_on net ports (output_words past (k, part_of p))) (nets_of-ports (output_width p.cell) 0 p.outputs)

few_from_parts : (net : ℕ) (past : List Instant) (k : ℕ) (parts : List PartUse)
    → length (flat_map (bits_of_part net past) (enumerate_from k (map part_of parts))) ≤ length (on net (flat_map part_drivers (enumerate_from k parts)))
few_from_parts net past k [] = omega arith
few_from_parts net past k (p ∷ parts) =
    omega (
      arith,
      length-append (bits_of_part net past (k, part_of p)) (flat_map (bits_of_part net past) (enumerate_from (k + 1) (map part_of parts))),
      on-append net (part_drivers (k, p)) (flat_map part_drivers (enumerate_from (k + 1) parts)),
      ap length (bits_of_part-are net past k p),
      few_words net k 0 p.outputs (output_words past (k, part_of p)),
      few_from_parts net past (k + 1) parts,
    )

few_from_pins : (net k : ℕ) (pins : List PinUse) (words : List Word)
    → length (words_on net (map (λ (p : PinUse). p.bits) (filter (λ (p : PinUse). p.input) pins)) words) ≤ length (on net (flat_map pin_drivers (enumerate_from k pins)))
few_from_pins net k [] words = omega arith
few_from_pins net k (p ∷ pins) words = by p.input refl words (λ ws. few_from_pins net (k + 1) pins ws)
  where
    by : (t : Bool) → p.input ≡ t → (ws : List Word)
        → ((later : List Word) → length (words_on net (map (λ (q : PinUse). q.bits) (filter (λ (q : PinUse). q.input) pins)) later) ≤ length (on net (flat_map pin_drivers (enumerate_from (k + 1) pins))))
        → length (words_on net (map (λ (q : PinUse). q.bits) (filter (λ (q : PinUse). q.input) (p ∷ pins))) ws) ≤ length (on net (flat_map pin_drivers (enumerate_from k (p ∷ pins))))
    by true e [] few = rw e (omega arith)
    by true e (word ∷ ws) few =
        let own : List (ℕ × Driver) = map (λ (b : ℕ × ℕ). (b.1, Pin k b.0)) (numbered p.bits) in
        rw e
        (omega (
          arith,
          length-append (bits_on net p.bits word) (words_on net (map (λ (q : PinUse). q.bits) (filter (λ (q : PinUse). q.input) pins)) ws),
          on-append net own (flat_map pin_drivers (enumerate_from (k + 1) pins)),
          few_bits net 0 (Pin k) p.bits word,
          few ws,
        ))
    by false e ws few = rw e (few ws)

-- the bits that drive a net, where there is no clock
abbrev all_bits : Netlist → Stimulus → List Instant → ℕ → List Bit
all_bits n s past net =
    flat_map (bits_of_part net past) (numbered_parts (circuit_of n)) ++ words_on net (map (λ (p : PinUse). p.bits) (input_pins n)) s.words

drivers_of-are : (n : Netlist) (s : Stimulus) (past : List Instant) (net : ℕ) → has_no_clock n ≡ true → drivers_of (circuit_of n) s past net ≡ all_bits n s past net
drivers_of-are n s past net none =
    ap (λ (clocks : List ℕ). all_bits n s past net ++ bits_on net clocks (replicate (length clocks) s.clock)) (no_clock_nets n none) ∙ append-nil (all_bits n s past net)

few_drive : (n : Netlist) (s : Stimulus) (past : List Instant) (net : ℕ) → has_no_clock n ≡ true → length (drivers_of (circuit_of n) s past net) ≤ length (drivers n net)
few_drive n s past net none =
    let parts : List (ℕ × Driver) = flat_map part_drivers (numbered n.parts) in
    let pins : List (ℕ × Driver) = flat_map pin_drivers (numbered n.pins) in
    let pin_bits : ℕ = length (words_on net (map (λ (p : PinUse). p.bits) (input_pins n)) s.words) in
    let few_pins : pin_bits ≤ length (on net pins) =
    subst (λ (inputs : List PinUse). length (words_on net (map (λ (p : PinUse). p.bits) inputs) s.words) ≤ length (on net pins)) (sym (all_input_pins n none)) (few_from_pins net 0 n.pins s.words) in
    omega (
      arith,
      ap length (drivers_of-are n s past net none),
      length-append (flat_map (bits_of_part net past) (numbered_parts (circuit_of n))) (words_on net (map (λ (p : PinUse). p.bits) (input_pins n)) s.words),
      few_from_parts net past 0 n.parts,
      few_pins,
      length-map (on net (all_drivers n)) (λ (d : ℕ × Driver). d.1),
      on-append net (parts ++ pins) (map clock_driver (numbered n.clocks)),
      on-append net parts pins,
    )

-- ---- which bits drive it

has_bit : (net : ℕ) (bits : List ℕ) (word : Word) (i : ℕ) (bit : Bit) → slice_get bits i ≡ Some net → slice_get word i ≡ Some bit → Contains (bits_on net bits word) bit
has_bit net [] word i bit at_net at_bit = absurd (none-some net at_net)
has_bit net (n ∷ bits) [] i bit at_net at_bit = absurd (none-some bit at_bit)
has_bit net (n ∷ bits) (b ∷ word) zero bit at_net at_bit =
    let here : (n == net) ≡ true = eq-eqb n net (same_Some n net at_net) in
    rw here (0, omega arith, same_Some b bit at_bit)
has_bit net (n ∷ bits) (b ∷ word) (suc i) bit at_net at_bit = by (n == net) (has_bit net bits word i bit at_net at_bit)
  where
    by : (t : Bool) → Contains (bits_on net bits word) bit → Contains (cond t (b ∷ bits_on net bits word) (bits_on net bits word)) bit
    by true h = Contains-append_right (b ∷ []) (bits_on net bits word) bit h
    by false h = h

has_word : (net : ℕ) (ports : List (List ℕ)) (words : List Word) (j i : ℕ) (bits : List ℕ) (word : Word) (bit : Bit)
    → slice_get ports j ≡ Some bits → slice_get words j ≡ Some word → slice_get bits i ≡ Some net → slice_get word i ≡ Some bit → Contains (words_on net ports words) bit
has_word net [] words j i bits word bit at_port at_word at_net at_bit = absurd (none-some bits at_port)
has_word net (port ∷ ports) [] j i bits word bit at_port at_word at_net at_bit = absurd (none-some word at_word)
has_word net (port ∷ ports) (w ∷ words) zero i bits word bit at_port at_word at_net at_bit =
    let same_port : port ≡ bits = same_Some port bits at_port in
    let same_word : w ≡ word = same_Some w word at_word in
    rw (same_port, same_word) (Contains-append_left (bits_on net bits word) (words_on net ports words) bit (has_bit net bits word i bit at_net at_bit))
has_word net (port ∷ ports) (w ∷ words) (suc j) i bits word bit at_port at_word at_net at_bit =
    Contains-append_right (bits_on net port w) (words_on net ports words) bit (has_word net ports words j i bits word bit at_port at_word at_net at_bit)

has_item : {A : Type 0} (f : A → List Bit) (items : List A) (i : ℕ) (x : A) (bit : Bit) → slice_get items i ≡ Some x → Contains (f x) bit → Contains (flat_map f items) bit
has_item f [] i x bit there h = absurd (none-some x there)
has_item f (y ∷ items) zero x bit there h =
    let same : y ≡ x = same_Some y x there in
    rw same (Contains-append_left (f x) (flat_map f items) bit h)
has_item f (y ∷ items) (suc i) x bit there h = Contains-append_right (f y) (flat_map f items) bit (has_item f items i x bit there h)

-- ---- so a net with one driver has its bit

join_one : (bit : Bit) → or_else (join_of_drivers (bit ∷ [])) (join_of_drivers []) ≡ bit
unfolding join_of_drivers
join_one Zero = refl
join_one One = refl
join_one Unknown = refl
join_one Error = refl

one_bit : (bits : List Bit) (bit : Bit) → length bits ≤ 1 → Contains bits bit → bits ≡ bit ∷ []
one_bit [] bit few h = let inside = h.1 in absurd (omega arith)
one_bit (b ∷ []) bit few (zero, inside, e) = ap (λ (x : Bit). x ∷ []) e
one_bit (b ∷ []) bit few (suc k, inside, e) = absurd (omega (arith, inside))
one_bit (b ∷ other ∷ bits) bit few h = absurd (omega (arith, few))

carries : (n : Netlist) (s : Stimulus) (past : List Instant) (net : ℕ) (bit : Bit) → has_no_clock n ≡ true → length (drivers n net) ≤ 1 → Contains (all_bits n s past net) bit
    → net_bit (circuit_of n) s past net ≡ bit
carries n s past net bit none few h =
    let drives = drivers_of (circuit_of n) s past net in
    let on_it : Contains drives bit = subst (λ (bits : List Bit). Contains bits bit) (sym (drivers_of-are n s past net none)) h in
    let one : drives ≡ bit ∷ [] = one_bit drives bit (omega (arith, few_drive n s past net none, few)) on_it in
    ap (λ (bits : List Bit). or_else (join_of_drivers bits) (join_of_drivers [])) one ∙ join_one bit

-- a bit of an output of a part
pub record IsOutputBit (n : Netlist) (net : ℕ) : Type 0 where
  pub part : ℕ
  pub output : ℕ
  pub bit : ℕ
  pub used : PartUse
  pub bits : List ℕ
  pub is_part : slice_get n.parts part ≡ Some used
  pub is_output : slice_get used.outputs output ≡ Some bits
  pub is_bit : slice_get bits bit ≡ Some net

-- a bit of an input pin
pub record IsPinBit (n : Netlist) (net : ℕ) : Type 0 where
  pub place : ℕ
  pub bit : ℕ
  pub pin : PinUse
  pub is_pin : slice_get (input_pins n) place ≡ Some pin
  pub is_bit : slice_get pin.bits bit ≡ Some net

-- a net that an output alone drives has that output's bit
pub output_carries : (n : Netlist) (s : Stimulus) (past : List Instant) (net : ℕ) (bit : Bit) (word : Word) → has_no_clock n ≡ true → length (drivers n net) ≤ 1 → (o : IsOutputBit n net)
    → slice_get (output_words past (o.part, part_of o.used)) o.output ≡ Some word → slice_get word o.bit ≡ Some bit → net_bit (circuit_of n) s past net ≡ bit
output_carries n s past net bit word none few o shows at =
    let bits = flat_map (bits_of_part net past) (numbered_parts (circuit_of n)) in
    let words = output_words past (o.part, part_of o.used) in
    let own : Contains (bits_of_part net past (o.part, part_of o.used)) bit =
    subst (λ (bs : List Bit). Contains bs bit) (sym (bits_of_part-are net past o.part o.used)) (has_word net o.used.outputs words o.output o.bit o.bits word bit o.is_output shows o.is_bit at) in
    carries n s past net bit none few
    (Contains-append_left bits (words_on net (map (λ (p : PinUse). p.bits) (input_pins n)) s.words) bit
    (has_item (bits_of_part net past) (numbered_parts (circuit_of n)) o.part (o.part, part_of o.used) bit (part_at o.part n.parts o.used o.is_part) own))

-- and one that an input pin alone drives has the pin's
pub pin_carries : (n : Netlist) (s : Stimulus) (past : List Instant) (net : ℕ) (bit : Bit) (word : Word) → has_no_clock n ≡ true → length (drivers n net) ≤ 1 → (p : IsPinBit n net)
    → slice_get s.words p.place ≡ Some word → slice_get word p.bit ≡ Some bit → net_bit (circuit_of n) s past net ≡ bit
pin_carries n s past net bit word none few p shows at =
    let pins = map (λ (q : PinUse). q.bits) (input_pins n) in
    carries n s past net bit none few
    (Contains-append_right (flat_map (bits_of_part net past) (numbered_parts (circuit_of n))) (words_on net pins s.words) bit
    (has_word net pins s.words p.place p.bit p.pin.bits word bit (slice_get-map (λ (q : PinUse). q.bits) (input_pins n) p.place ∙ ap (option_map (λ (q : PinUse). q.bits)) p.is_pin) shows p.is_bit at))

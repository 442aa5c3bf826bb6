-- An accepted netlist without clocks has static values, defined where something drives the net, and no others there.
use Rattle.std.proofs.Common.{◌≡◌, ℕ, zero, suc, ◌+◌, ◌<◌, ◌≤◌, Bool, true, false, List, [], ◌∷◌, ◌++◌, length, get_or, map, filter, take, refl, sym, subst, ap, ◌∙◌, arith, ◌⊎◌, inl, inr, Option, None, Some}
use Rattle.std.specs.Prelude.{All, Contains, is_none, ◌==◌, slice_get}
use Rattle.std.proofs.lemmas.Bool.{and_parts, eqb-true, cases_lt, cond-true, cond-false}
use Rattle.std.proofs.lemmas.List.{get_or-map, get_or_past, nil_from_length}
use Rattle.std.proofs.lemmas.List.Elements.{All-nil, All-cons, All-get_or}
use Rattle.std.proofs.lemmas.Option.{same_Some, slice_get-get_or, get_or_from_slice_get, slice_get_within}
use Rattle.lg_value.specs.declared.bit.Bit.{Bit}
use Rattle.lg_value.specs.declared.bit.Bit.TheVariants.{Zero, One}
use Rattle.lg_value.specs.Word.{IsDefined}
use Rattle.lg_netlist.specs.declared.drivers.Driver.{Driver}
use Rattle.lg_netlist.specs.declared.drivers.Driver.TheVariants.{Part, Pin, Clock}
use Rattle.lg_netlist.specs.declared.netlist.PartUse.{PartUse}
use Rattle.lg_netlist.specs.declared.netlist.PinUse.{PinUse}
use Rattle.lg_netlist.specs.declared.netlist.Netlist.{Netlist}
use Rattle.lg_netlist.specs.Acceptance.{is_undriven, IsAccepted}
use Rattle.lg_netlist.specs.Cell.{State, output_width, cell_word}
use Rattle.lg_netlist.specs.Drivers.{drivers}
use Rattle.lg_netlist.specs.Static.{input_pins, has_no_clock, bits_at, clock_nets, word_on, inputs_of, state_of, Carries, AreStaticValues, AreTheStaticValues, IsDefinedRow}
use Rattle.lg_netlist.proofs.AcceptedFacts.{has_driver, same_driver, source_net, read_is_driven, part_at_fits}
use Rattle.lg_netlist.proofs.CellFacts.{cell_word-state, port_width, cell_long, IsDefinedBit, defined_bit, AreDefinedOn, cell_defined}
use Rattle.lg_netlist.proofs.DriverFacts.{IsSourceOf, source_drives, is_driven}
use Rattle.lg_netlist.proofs.PinLemmas.{data_pins_from, data_pins-from}
use Rattle.lg_netlist.proofs.Ranks.{HasRanks, ranks, none_on_cycle}
use Rattle.lg_netlist.proofs.StaticRuns.{row_place, part_gives, given_by, stepped, stepped_by, IsSettledBy, never_settled, reads_settled, all_settled, runs_agree}

-- static values for some states are static values for all
pub static-state : (n : Netlist) (s t : List State) (row : List (List Bit)) (value : ℕ → Bit) → AreStaticValues n s row value → AreStaticValues n t row value
static-state n s t row value h = record {
  pins = h.pins;
  clocks = h.clocks;
  parts = λ part p is_part output bits is_output.
      subst (Carries value bits) (cell_word-state p.cell (state_of s part) (state_of t part) (inputs_of value p) output) (h.parts part p is_part output bits is_output);
}

-- ---- netlists without clocks

none_from : {A : Type 0} (o : Option A) → is_none o ≡ true → o ≡ None
none_from None h = refl
none_from (Some a) h = absurd (cc)

-- there is no clock and no clock pin
pub no_clocks : (n : Netlist) → has_no_clock n ≡ true → (n.clocks ≡ []) × (n.clock_pin ≡ None)
no_clocks n h =
    let both = and_parts (length n.clocks == 0) (is_none n.clock_pin) h in
    (nil_from_length n.clocks (eqb-true (length n.clocks) 0 both.0), none_from n.clock_pin both.1)

-- no net ticks
pub no_clock_nets : (n : Netlist) → has_no_clock n ≡ true → clock_nets n ≡ []
no_clock_nets n h =
    let none = no_clocks n h in
    ap (λ (clocks : List (ℕ × List ℕ)). map (λ (c : ℕ × List ℕ). c.0) clocks ++ bits_at n.pins n.clock_pin) none.0 ∙ ap (bits_at n.pins) none.1

all_data : (k : ℕ) (pins : List PinUse) → data_pins_from None k pins ≡ pins
all_data k [] = refl
all_data k (p ∷ pins) = ap (λ (ps : List PinUse). p ∷ ps) (all_data (k + 1) pins)

-- a row gives words to all input pins
pub all_input_pins : (n : Netlist) → has_no_clock n ≡ true → input_pins n ≡ filter (λ p. p.input) n.pins
all_input_pins n h =
    ap (filter (λ (p : PinUse). p.input)) (data_pins-from n ∙ (ap (λ (clock : Option ℕ). data_pins_from clock 0 n.pins) (no_clocks n h).1 ∙ all_data 0 n.pins))

-- ---- the words of pins

input_kept : (p : PinUse) (pins : List PinUse) → p.input ≡ true → filter (λ (p : PinUse). p.input) (p ∷ pins) ≡ p ∷ filter (λ (p : PinUse). p.input) pins
input_kept p pins e = cond-true p.input (p ∷ filter (λ (p : PinUse). p.input) pins) (filter (λ (p : PinUse). p.input) pins) e

output_dropped : (p : PinUse) (pins : List PinUse) → p.input ≡ false → filter (λ (p : PinUse). p.input) (p ∷ pins) ≡ filter (λ (p : PinUse). p.input) pins
output_dropped p pins e = cond-false p.input (p ∷ filter (λ (p : PinUse). p.input) pins) (filter (λ (p : PinUse). p.input) pins) e

-- the words on pins
abbrev words_on : (ℕ → Bit) → List PinUse → List (List Bit)
words_on value pins = map (λ (p : PinUse). word_on value p.bits) pins

-- a pin's word stands at its place
pin_word : (value : ℕ → Bit) (pins : List PinUse) (j : ℕ) (p : PinUse) → slice_get pins j ≡ Some p → p.input ≡ true → get_or (words_on value (filter (λ (p : PinUse). p.input) pins)) (row_place pins j) [] ≡ word_on value p.bits
pin_word value [] j p at input = absurd (cc)
pin_word value (q ∷ pins) zero p at input =
    let same : q ≡ p = same_Some q p at in
    ap (λ (ps : List PinUse). get_or (words_on value ps) 0 []) (input_kept q pins (ap (λ (p : PinUse). p.input) same ∙ input)) ∙ ap (λ (p : PinUse). word_on value p.bits) same
pin_word value (q ∷ pins) (suc j) p at input = by_input q.input refl (pin_word value pins j p at input)
  where
    by_input : (b : Bool) → q.input ≡ b → get_or (words_on value (filter (λ (p : PinUse). p.input) pins)) (row_place pins j) [] ≡ word_on value p.bits
        → get_or (words_on value (filter (λ (p : PinUse). p.input) (q ∷ pins))) (length (filter (λ (p : PinUse). p.input) (q ∷ take j pins))) [] ≡ word_on value p.bits
    by_input true e rest =
        ap (λ (ps : List PinUse). get_or (words_on value ps) (length (filter (λ (p : PinUse). p.input) (q ∷ take j pins))) []) (input_kept q pins e)
        ∙ (ap (λ (ps : List PinUse). get_or (words_on value (q ∷ filter (λ (p : PinUse). p.input) pins)) (length ps) []) (input_kept q (take j pins) e) ∙ rest)
    by_input false e rest =
        ap (λ (ps : List PinUse). get_or (words_on value ps) (length (filter (λ (p : PinUse). p.input) (q ∷ take j pins))) []) (output_dropped q pins e)
        ∙ (ap (λ (ps : List PinUse). get_or (words_on value (filter (λ (p : PinUse). p.input) pins)) (length ps) []) (output_dropped q (take j pins) e) ∙ rest)

-- a word is on bits where each of these has its bit
word_is : (value : ℕ → Bit) (bits : List ℕ) (word : List Bit) → length word ≡ length bits → ((bit net : ℕ) → slice_get bits bit ≡ Some net → value net ≡ get_or word bit Zero) → word_on value bits ≡ word
word_is value [] [] long h = refl
word_is value [] (b ∷ word) long h = absurd (omega (arith, long))
word_is value (net ∷ bits) [] long h = absurd (omega (arith, long))
word_is value (net ∷ bits) (b ∷ word) long h =
    ap (λ (c : Bit). c ∷ word_on value bits) (h 0 net refl) ∙ ap (λ (w : List Bit). b ∷ w) (word_is value bits word (omega (arith, long)) (λ bit other e. h (suc bit) other e))

-- a row is on pins where each bit of these has its bit
abbrev RowIs : (ℕ → Bit) → List PinUse → Type 0
RowIs value pins =
    (row : List (List Bit)) → IsDefinedRow (filter (λ (p : PinUse). p.input) pins) row
    → ((j bit net : ℕ) (p : PinUse) → slice_get pins j ≡ Some p → p.input ≡ true → slice_get p.bits bit ≡ Some net → value net ≡ get_or (get_or row (row_place pins j) []) bit Zero)
    → words_on value (filter (λ (p : PinUse). p.input) pins) ≡ row

row_is : (value : ℕ → Bit) (pins : List PinUse) → RowIs value pins
row_is value [] [] fits h = refl
row_is value [] (word ∷ row) fits h = absurd fits
row_is value (q ∷ pins) row fits h = by_input q.input refl (row_is value pins)
  where
    with_input : q.input ≡ true → RowIs value pins → (row : List (List Bit)) → IsDefinedRow (q ∷ filter (λ (p : PinUse). p.input) pins) row
        → ((j bit net : ℕ) (p : PinUse) → slice_get (q ∷ pins) j ≡ Some p → p.input ≡ true → slice_get p.bits bit ≡ Some net → value net ≡ get_or (get_or row (row_place (q ∷ pins) j) []) bit Zero)
        → words_on value (q ∷ filter (λ (p : PinUse). p.input) pins) ≡ row
    with_input e later [] fits h = absurd fits
    with_input e later (word ∷ row) fits h =
        ap (λ (w : List Bit). w ∷ words_on value (filter (λ (p : PinUse). p.input) pins)) (word_is value q.bits word fits.1 (λ bit net at. h 0 bit net q refl e at))
        ∙ ap (λ (ws : List (List Bit)). word ∷ ws)
        (later row fits.2
        (λ j bit net p is_pin input at. h (suc j) bit net p is_pin input at
        ∙ ap (λ (ps : List PinUse). get_or (get_or (word ∷ row) (length ps) []) bit Zero) (input_kept q (take j pins) e)))

    by_input : (b : Bool) → q.input ≡ b → RowIs value pins → words_on value (filter (λ (p : PinUse). p.input) (q ∷ pins)) ≡ row
    by_input true e later =
        ap (words_on value) (input_kept q pins e) ∙ with_input e later row (subst (λ (ps : List PinUse). IsDefinedRow ps row) (input_kept q pins e) fits) h
    by_input false e later =
        ap (words_on value) (output_dropped q pins e)
        ∙ later row (subst (λ (ps : List PinUse). IsDefinedRow ps row) (output_dropped q pins e) fits)
        (λ j bit net p is_pin input at. h (suc j) bit net p is_pin input at ∙ ap (λ (ps : List PinUse). get_or (get_or row (length ps) []) bit Zero) (output_dropped q (take j pins) e))

row_defined : (pins : List PinUse) (row : List (List Bit)) → IsDefinedRow pins row → All IsDefined row
row_defined [] [] h = All-nil IsDefined
row_defined [] (word ∷ row) h = absurd h
row_defined (p ∷ pins) [] h = absurd h
row_defined (p ∷ pins) (word ∷ row) h = All-cons IsDefined word row h.0 (row_defined pins row h.2)

word_at_place : (row : List (List Bit)) (place : ℕ) → All IsDefined row → IsDefined (get_or row place [])
word_at_place row place h = go (cases_lt place (length row))
  where
    go : (place < length row) ⊎ (length row ≤ place) → IsDefined (get_or row place [])
    go (inl less) = All-get_or IsDefined row place [] less h
    go (inr past) = subst IsDefined (sym (get_or_past row place [] past)) (All-nil IsDefinedBit)

-- ---- values that stay

-- each net that something drives has what its driver gives
abbrev Stay : Netlist → List State → List (List Bit) → (ℕ → Bit) → Type 0
Stay n states row value = (net : ℕ) → is_undriven n net ≡ false → value net ≡ stepped n states row value net

-- then each driver of a net gives its value
source_gives : (n : Netlist) → IsAccepted n → (states : List State) (row : List (List Bit)) (value : ℕ → Bit) → Stay n states row value → (d : Driver) (net : ℕ) → IsSourceOf n d net → value net ≡ given_by n states row value d
source_gives n accepted states row value stay d net source =
    let drives = source_drives n d net source in
    let driven = is_driven n net d drives in
    let h = has_driver n accepted net driven in
    let first : Contains (drivers n net) h.driver = subst (λ (ds : List Driver). Contains ds h.driver) (sym h.alone) (0, omega arith, refl) in
    let same : h.driver ≡ d = same_driver n accepted net (source_net n d net source) h.driver d first drives in
    stay net driven ∙ (stepped_by n states row value net h.driver h.alone ∙ ap (given_by n states row value) same)

-- values that stay are static values
stay_static : (n : Netlist) (states : List State) (row : List (List Bit)) (value : ℕ → Bit) → has_no_clock n ≡ true → IsAccepted n → IsDefinedRow (input_pins n) row → Stay n states row value → AreStaticValues n states row value
stay_static n states row value quiet accepted fits stay = record {
  pins = subst (λ (ps : List PinUse). words_on value ps ≡ row) (sym (all_input_pins n quiet))
      (row_is value n.pins row (subst (λ (ps : List PinUse). IsDefinedRow ps row) (all_input_pins n quiet) fits)
      (λ j bit net p is_pin input at. source_gives n accepted states row value stay (Pin j bit) net (p, is_pin, input, at)));
  clocks = subst (λ (nets : List ℕ). map value nets ≡ map (λ net. Zero) nets) (sym (no_clock_nets n quiet)) refl;
  parts = λ part p is_part output bits is_output. carries part p is_part output bits is_output bits refl;
}
  where
    carries : (part : ℕ) (p : PartUse) → slice_get n.parts part ≡ Some p → (output : ℕ) (bits : List ℕ) → slice_get p.outputs output ≡ Some bits → (same : List ℕ) → bits ≡ same
        → Carries value bits (cell_word p.cell (state_of states part) (inputs_of value p) output)
    carries part p is_part output bits is_output [] e = inl e
    carries part p is_part output bits is_output (first ∷ more) e =
        let fits = part_at_fits n part p is_part in
        let wide = port_width (output_width p.cell) p.outputs output 0 first bits fits.output_widths is_output (ap (λ (bs : List ℕ). slice_get bs 0) e) in
        inr
        (word_is value bits (cell_word p.cell (state_of states part) (inputs_of value p) output) (cell_long p.cell (state_of states part) value p.inputs output fits.input_widths ∙ sym wide)
        (λ bit net is_bit. source_gives n accepted states row value stay (Part part output bit) net (p, bits, is_part, is_output, is_bit) ∙ ap (part_gives states part output bit value) is_part))

-- static values stay
static_stay : (n : Netlist) (states : List State) (row : List (List Bit)) (value : ℕ → Bit) → has_no_clock n ≡ true → IsAccepted n → AreStaticValues n states row value → Stay n states row value
static_stay n states row value quiet accepted are net driven =
    let h = has_driver n accepted net driven in
    gives h.driver h.source ∙ sym (stepped_by n states row value net h.driver h.alone)
  where
    carried : (bits : List ℕ) (word : List Bit) (bit : ℕ) → slice_get bits bit ≡ Some net → Carries value bits word → value net ≡ get_or word bit Zero
    carried bits word bit at (inl none) = let no : None ≡ Some net = sym (ap (λ (bs : List ℕ). slice_get bs bit) none) ∙ at in absurd (cc)
    carried bits word bit at (inr same) =
        ap value (sym (get_or_from_slice_get bits bit net 0 at))
        ∙ (sym (get_or-map value bits bit 0 Zero (slice_get_within bits bit net at)) ∙ ap (λ (w : List Bit). get_or w bit Zero) same)

    gives : (d : Driver) → IsSourceOf n d net → value net ≡ given_by n states row value d
    gives (Part part output bit) (p, bits, is_part, is_output, is_bit) =
        carried bits (cell_word p.cell (state_of states part) (inputs_of value p) output) bit is_bit (are.parts part p is_part output bits is_output) ∙ sym (ap (part_gives states part output bit value) is_part)
    gives (Pin pin bit) (p, is_pin, input, is_bit) =
        let whole : words_on value (filter (λ (p : PinUse). p.input) n.pins) ≡ row = subst (λ (ps : List PinUse). words_on value ps ≡ row) (all_input_pins n quiet) are.pins in
        carried p.bits (get_or row (row_place n.pins pin) []) bit is_bit
        (inr (sym (pin_word value n.pins pin p is_pin input) ∙ ap (λ (r : List (List Bit)). get_or r (row_place n.pins pin) []) whole))
    gives (Clock clock) (c, is_clock, on) =
        let no : None ≡ Some c = sym (ap (λ (cs : List (ℕ × List ℕ)). slice_get cs clock) (no_clocks n quiet).0) ∙ is_clock in
        absurd (cc)

-- values that stay are defined where something drives the net
stay_defined : (n : Netlist) → IsAccepted n → (r : HasRanks n) (states : List State) (row : List (List Bit)) (value : ℕ → Bit) → All IsDefined row → Stay n states row value
    → (k net : ℕ) → is_undriven n net ≡ false → (d : Driver) → drivers n net ≡ d ∷ [] → IsSourceOf n d net → IsSettledBy n r k d → IsDefinedBit (value net)
stay_defined n accepted r states row value words stay zero net driven d alone source settled = absurd (never_settled n r d settled)
stay_defined n accepted r states row value words stay (suc k) net driven d alone source settled =
    subst IsDefinedBit (sym (stay net driven ∙ stepped_by n states row value net d alone)) (given (stay_defined n accepted r states row value words stay k) d source settled)
  where
    given : ((net : ℕ) → is_undriven n net ≡ false → (d : Driver) → drivers n net ≡ d ∷ [] → IsSourceOf n d net → IsSettledBy n r k d → IsDefinedBit (value net))
        → (d : Driver) → IsSourceOf n d net → IsSettledBy n r (suc k) d → IsDefinedBit (given_by n states row value d)
    given earlier (Part part output bit) (p, shown, is_part, is_output, is_bit) (i, is_i, less) =
        subst (λ (o : Option PartUse). IsDefinedBit (part_gives states part output bit value o)) (sym is_part)
        (defined_bit (cell_word p.cell (state_of states part) (inputs_of value p) output) bit (cell_defined n accepted part p is_part (state_of states part) value output inputs))
      where
        inputs : AreDefinedOn value p.inputs
        inputs input d within bit e inside =
            let is_input = slice_get-get_or p.inputs input d within in
            let is_bit = slice_get-get_or (get_or p.inputs input d) bit e inside in
            let net = get_or (get_or p.inputs input d) bit e in
            let driven = (read_is_driven n accepted part input bit net p (get_or p.inputs input d) is_part is_input is_bit).1 in
            let h = has_driver n accepted net driven in
            earlier net driven h.driver h.alone h.source (reads_settled n r k part output p shown is_part is_output i is_i less input (get_or p.inputs input d) bit net is_input is_bit h.driver h.source)
    given earlier (Pin pin bit) source settled = defined_bit (get_or row (row_place n.pins pin) []) bit (word_at_place row (row_place n.pins pin) words)
    given earlier (Clock clock) source settled = inl refl

-- ---- static values

-- the values after so many steps from all 0
abbrev values_after : Netlist → List State → List (List Bit) → ℕ → ℕ → Bit
values_after n states row zero = λ net. Zero
values_after n states row (suc k) = stepped n states row (values_after n states row k)

-- static values of an accepted netlist without clocks, and no others, defined where something drives the net
pub record AreStaticFor (n : Netlist) (states : List State) (row : List (List Bit)) : Type 0 where
  pub value : ℕ → Bit
  pub the : AreTheStaticValues n states row value
  pub defined : (net : ℕ) → is_undriven n net ≡ false → (value net ≡ Zero) ⊎ (value net ≡ One)

pub static_values : (n : Netlist) (states : List State) (row : List (List Bit)) → has_no_clock n ≡ true → IsAccepted n → IsDefinedRow (input_pins n) row → AreStaticFor n states row
static_values n states row quiet accepted fits = record {
  value = values_after n states row (r.most + 2);
  the = record {
    are = stay_static n states row (values_after n states row (r.most + 2)) quiet accepted fits stay;
    only = λ other are net driven.
        let h = has_driver n accepted net driven in
        runs_agree n accepted r states row (λ k. other) (values_after n states row) (λ k. static_stay n states row other quiet accepted are) (λ k net driven. refl) (r.most + 2) net driven h.driver h.alone h.source (all_settled n r h.driver net h.source);
  };
  defined = λ net driven.
      let h = has_driver n accepted net driven in
      stay_defined n accepted r states row (values_after n states row (r.most + 2)) (row_defined (input_pins n) row fits) stay (r.most + 2) net driven h.driver h.alone h.source (all_settled n r h.driver net h.source);
}
  where
    r : HasRanks n
    r = ranks n (none_on_cycle n accepted)

    stay : Stay n states row (values_after n states row (r.most + 2))
    stay net driven =
        let h = has_driver n accepted net driven in
        runs_agree n accepted r states row (values_after n states row) (λ k. values_after n states row (suc k)) (λ k net driven. refl) (λ k net driven. refl) (r.most + 2) net driven h.driver h.alone h.source (all_settled n r h.driver net h.source)

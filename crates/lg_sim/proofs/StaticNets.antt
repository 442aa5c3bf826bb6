-- Where the parts of an accepted netlist show what they answer to static values, each driven net has its static value.
use Rattle.std.proofs.Common.{◌≡◌, ℕ, ◌≤◌, true, List, [], length, Some, sym, ap, subst, ◌∙◌, inl, inr, ◌⊎◌}
use Rattle.std.specs.Prelude.{slice_get}
use Rattle.std.specs.Option.{option_map}
use Rattle.std.proofs.lemmas.Option.{slice_get-map, none-some}
use Rattle.lg_value.specs.declared.bit.Bit.{Bit}
use Rattle.lg_timing.specs.Circuit.{Word, Stimulus}
use Rattle.lg_timing.specs.Instant.{in_force, timeline, value_at, net_bit, outputs_at}
use Rattle.lg_netlist.specs.declared.netlist.PartUse.{PartUse}
use Rattle.lg_netlist.specs.declared.netlist.PinUse.{PinUse}
use Rattle.lg_netlist.specs.declared.netlist.Netlist.{Netlist}
use Rattle.lg_netlist.specs.Cell.{State, cell_word}
use Rattle.lg_netlist.specs.Drivers.{drivers}
use Rattle.lg_netlist.specs.Static.{input_pins, output_pins, word_on, inputs_of, state_of, Carries, AreStaticValues, has_no_clock}
use Rattle.lg_netlist.proofs.CellFacts.{cell_word-state}
use Rattle.lg_sim.specs.InTime.{part_of, circuit_of}
use Rattle.lg_sim.proofs.DrivenBits.{IsOutputBit, IsPinBit, output_carries, pin_carries}

-- what an accepted netlist without clocks says of the nets that are read: no net has two drivers, and each that a part or an
-- output pin reads is driven by an output or an input pin
pub record IsDriven (n : Netlist) : Type 0 where
  pub no_clock : has_no_clock n ≡ true
  pub few : (net : ℕ) → length (drivers n net) ≤ 1
  pub read : (part input i net : ℕ) (p : PartUse) (bits : List ℕ) → slice_get n.parts part ≡ Some p → slice_get p.inputs input ≡ Some bits → slice_get bits i ≡ Some net → IsOutputBit n net ⊎ IsPinBit n net
  pub shown : (place i net : ℕ) (pin : PinUse) → slice_get (output_pins n) place ≡ Some pin → slice_get pin.bits i ≡ Some net → IsOutputBit n net ⊎ IsPinBit n net

-- a stimulus of static values stays in force from an instant on
pub record Stays (n : Netlist) (stimuli : List Stimulus) (start : ℕ) (s : Stimulus) (states : List State) (value : ℕ → Bit) : Type 0 where
  pub driven : IsDriven n
  pub values : AreStaticValues n states s.words value
  pub last : (t : ℕ) → start ≤ t → in_force stimuli t ≡ s

-- the word that a part's output has for static values
abbrev pub static_word : (ℕ → Bit) → PartUse → ℕ → Word
static_word value p output = cell_word p.cell [] (inputs_of value p) output

-- at an instant an output shows it
abbrev pub ShowsStatic : Netlist → List Stimulus → (ℕ → Bit) → ℕ → ℕ → ℕ → Type 0
ShowsStatic n stimuli value t part output =
    (p : PartUse) (bits : List ℕ) → slice_get n.parts part ≡ Some p → slice_get p.outputs output ≡ Some bits
    → slice_get (outputs_at (circuit_of n) stimuli t (part, part_of p)) output ≡ Some (static_word value p output)

-- the nets at an instant, while the stimulus stays
net_at : (n : Netlist) (stimuli : List Stimulus) (start : ℕ) (s : Stimulus) (states : List State) (value : ℕ → Bit) → Stays n stimuli start s states value → (t net : ℕ) → start ≤ t
    → value_at (circuit_of n) stimuli t net ≡ net_bit (circuit_of n) s (timeline (circuit_of n) stimuli t) net
net_at n stimuli start s states value stays t net begun = ap (λ (x : Stimulus). net_bit (circuit_of n) x (timeline (circuit_of n) stimuli t) net) (stays.last t begun)

-- the bit at a place of a static word
bit_at : (value : ℕ → Bit) (bits : List ℕ) (word : Word) (i net : ℕ) → Carries value bits word → slice_get bits i ≡ Some net → slice_get word i ≡ Some (value net)
bit_at value bits word i net (inl loose) there =
    let none : slice_get [] i ≡ Some net = subst (λ (bs : List ℕ). slice_get bs i ≡ Some net) loose there in
    absurd (none-some net none)
bit_at value bits word i net (inr carried) there =
    ap (λ (w : Word). slice_get w i) (sym carried) ∙ (slice_get-map value bits i ∙ ap (option_map value) there)

-- the net of a pin has its static value as soon as the stimulus is in force
pub pin_is_static : (n : Netlist) (stimuli : List Stimulus) (start : ℕ) (s : Stimulus) (states : List State) (value : ℕ → Bit) → Stays n stimuli start s states value → (t net : ℕ) → start ≤ t
    → IsPinBit n net → value_at (circuit_of n) stimuli t net ≡ value net
pin_is_static n stimuli start s states value stays t net begun p =
    let word : Word = word_on value p.pin.bits in
    let shows : slice_get s.words p.place ≡ Some word =
    ap (λ (ws : List Word). slice_get ws p.place) (sym stays.values.pins)
    ∙ (slice_get-map (λ (q : PinUse). word_on value q.bits) (input_pins n) p.place ∙ ap (option_map (λ (q : PinUse). word_on value q.bits)) p.is_pin) in
    net_at n stimuli start s states value stays t net begun
    ∙ pin_carries n s (timeline (circuit_of n) stimuli t) net (value net) word stays.driven.no_clock (stays.driven.few net) p shows
    (slice_get-map value p.pin.bits p.bit ∙ ap (option_map value) p.is_bit)

-- that of an output has it as soon as the output shows its static word
pub output_is_static : (n : Netlist) (stimuli : List Stimulus) (start : ℕ) (s : Stimulus) (states : List State) (value : ℕ → Bit) → Stays n stimuli start s states value → (t net : ℕ) → start ≤ t
    → (o : IsOutputBit n net) → ShowsStatic n stimuli value t o.part o.output → value_at (circuit_of n) stimuli t net ≡ value net
output_is_static n stimuli start s states value stays t net begun o shows =
    let word : Word = static_word value o.used o.output in
    let any : cell_word o.used.cell (state_of states o.part) (inputs_of value o.used) o.output ≡ word = cell_word-state o.used.cell (state_of states o.part) [] (inputs_of value o.used) o.output in
    let carried : Carries value o.bits word = subst (Carries value o.bits) any (stays.values.parts o.part o.used o.is_part o.output o.bits o.is_output) in
    net_at n stimuli start s states value stays t net begun
    ∙ output_carries n s (timeline (circuit_of n) stimuli t) net (value net) word stays.driven.no_clock (stays.driven.few net) o (shows o.used o.bits o.is_part o.is_output)
    (bit_at value o.bits word o.bit net carried o.is_bit)

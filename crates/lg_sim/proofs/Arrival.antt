-- Static words arrive at each output within the delays of the chains that end in it, and so within the longest.
use Rattle.std.proofs.Common.{◌≡◌, ℕ, zero, suc, ◌+◌, ◌-◌, ◌<◌, ◌≤◌, false, List, [], ◌∷◌, length, map, get_or, Option, Some, refl, sym, ap, subst, ◌∙◌, arith, inl, inr, ◌⊎◌}
use Rattle.std.specs.Prelude.{slice_get}
use Rattle.std.specs.List.{enumerate_from}
use Rattle.std.proofs.lemmas.Option.{same_Some, slice_get_within, get_or_from_slice_get}
use Rattle.lg_value.specs.declared.bit.Bit.{Bit}
use Rattle.lg_timing.specs.Circuit.{Word, Stimulus}
use Rattle.lg_timing.specs.Instant as time
use Rattle.lg_timing.specs.Instant.{Instant, Numbered, numbered_parts, timeline, instant_at, value_at, answered, output_words, outputs_at}
use Rattle.lg_timing.specs.Settling.{is_busy}
use Rattle.lg_timing.proofs.Timeline.{slice_get-timeline}
use Rattle.lg_timing.proofs.Outputs.{SameOutputs, quiet_from_same}
use Rattle.lg_netlist.specs.declared.netlist.PartUse.{PartUse}
use Rattle.lg_netlist.specs.declared.netlist.Netlist.{Netlist}
use Rattle.lg_netlist.specs.Cell.{State, cell_word, delay_of}
use Rattle.lg_netlist.specs.Chain.{Output, IsOutput, Follows, IsChain, output_delay, chain_delay, IsLongest}
use Rattle.lg_netlist.specs.Drivers.{numbered}
use Rattle.lg_netlist.specs.Static.{inputs_of}
use Rattle.lg_netlist.proofs.CellFacts.{cell_word-state, reads_all}
use Rattle.lg_netlist.proofs.DriverFacts.{Contains-at}
use Rattle.lg_netlist.proofs.StaticRuns.{inputs_agree}
use Rattle.lg_sim.specs.InTime.{part_of, circuit_of}
use Rattle.lg_sim.proofs.PartsInTime.{delay_low, answer_at, word_count, each_part, part_at}
use Rattle.lg_sim.proofs.DrivenBits.{IsOutputBit, IsPinBit}
use Rattle.lg_sim.proofs.StaticNets.{Stays, static_word, ShowsStatic, pin_is_static, output_is_static}

-- the delay of an output is that of its part's cell
delay_is : (n : Netlist) (o : Output) (p : PartUse) → slice_get n.parts o.0 ≡ Some p → output_delay n o ≡ delay_of p.cell
delay_is n o p is_part = rw is_part refl

-- where the words on a part's inputs were static its delay ago, its outputs show static words
shows_later : (n : Netlist) (stimuli : List Stimulus) (value : ℕ → Bit) (t u part output : ℕ) (p : PartUse) (bits : List ℕ) → slice_get p.outputs output ≡ Some bits → t ≡ u + delay_of p.cell
    → inputs_of (value_at (circuit_of n) stimuli u) p ≡ inputs_of value p → slice_get (outputs_at (circuit_of n) stimuli t (part, part_of p)) output ≡ Some (static_word value p output)
shows_later n stimuli value t u part output p bits is_output later same =
    let c = circuit_of n in
    let least : 1 ≤ delay_of p.cell = delay_low p.cell in
    let back : slice_get (timeline c stimuli t) (delay_of p.cell - 1) ≡ Some (instant_at c stimuli u) = slice_get-timeline c stimuli (delay_of p.cell - 1) t u (omega (arith, later, least)) in
    let state : State = time.state_of (instant_at c stimuli u) part in
    ap (λ (o : Option Instant). slice_get (answered (part, part_of p) o) output) back
    ∙ (answer_at part output p bits (instant_at c stimuli u) is_output
    ∙ (ap (λ (inputs : List (Option Word)). Some (cell_word p.cell state inputs output)) same
    ∙ ap (λ (word : Word). Some word) (cell_word-state p.cell state [] (inputs_of value p) output)))

-- each chain that ends in an output is no longer than this
abbrev ChainsWithin : Netlist → Output → ℕ → Type 0
ChainsWithin n o most = (earlier : List Output) → IsChain n (o ∷ earlier) → chain_delay n (o ∷ earlier) ≤ most

-- so the chains that end in an output that it follows are shorter by its delay
chains_before : (n : Netlist) (o earlier : Output) (most : ℕ) → Follows n earlier o → ChainsWithin n o most → ChainsWithin n earlier (most - output_delay n o)
chains_before n o earlier most follows within before chain =
    let all : output_delay n o + chain_delay n (earlier ∷ before) ≤ most = within (earlier ∷ before) (follows, chain) in
    omega (arith, all)

-- an output follows the one that drives what it reads
follows_driver : (n : Netlist) (part output input i net : ℕ) (p : PartUse) (bits : List ℕ) → IsOutput n (part, output) → slice_get n.parts part ≡ Some p → slice_get p.inputs input ≡ Some bits
    → slice_get bits i ≡ Some net → (d : IsOutputBit n net) → Follows n (d.part, d.output) (part, output)
follows_driver n part output input i net p bits is_later is_part is_input is_bit d = record {
  is_earlier = (d.used, d.is_part, slice_get_within d.used.outputs d.output d.bits d.is_output);
  is_later = is_later;
  net = net;
  driven = record { part = d.used; bits = d.bits; is_part = d.is_part; is_output = d.is_output; on = Contains-at d.bits d.bit net d.is_bit };
  read = record { part = p; input = input; bits = bits; is_part = is_part; is_input = is_input; reads = reads_all p.cell output input; on = Contains-at bits i net is_bit };
}

-- an output shows its static word once the chains that end in it have passed
arrives : (n : Netlist) (stimuli : List Stimulus) (start : ℕ) (s : Stimulus) (states : List State) (value : ℕ → Bit) → Stays n stimuli start s states value
    → (fuel most part output : ℕ) → most ≤ fuel → ChainsWithin n (part, output) most → (t : ℕ) → start + most ≤ t → ShowsStatic n stimuli value t part output
arrives n stimuli start s states value stays zero most part output enough within t passed p bits is_part is_output =
    let alone : output_delay n (part, output) + 0 ≤ most = within [] (p, is_part, slice_get_within p.outputs output bits is_output) in
    absurd (omega (arith, alone, enough, delay_is n (part, output) p is_part, delay_low p.cell))
arrives n stimuli start s states value stays (suc fuel) most part output enough within t passed p bits is_part is_output =
    shows_later n stimuli value t (t - delay_of p.cell) part output p bits is_output (omega (arith, alone, delay, passed))
    (inputs_agree (value_at (circuit_of n) stimuli (t - delay_of p.cell)) value p
    (λ input read i net is_input is_bit. by input i net read is_input is_bit (stays.driven.read part input i net p read is_part is_input is_bit)
    (λ before other less within_less u reached. arrives n stimuli start s states value stays fuel (most - output_delay n (part, output)) before other less within_less u reached)))
  where
    is_one : IsOutput n (part, output)
    is_one = (p, is_part, slice_get_within p.outputs output bits is_output)

    delay : output_delay n (part, output) ≡ delay_of p.cell
    delay = delay_is n (part, output) p is_part

    alone : output_delay n (part, output) + 0 ≤ most
    alone = within [] is_one

    begun : start ≤ t - delay_of p.cell
    begun = omega (arith, alone, delay, passed)

    by : (input i net : ℕ) (read : List ℕ) → slice_get p.inputs input ≡ Some read → slice_get read i ≡ Some net → IsOutputBit n net ⊎ IsPinBit n net
        → ((before other : ℕ) → most - output_delay n (part, output) ≤ fuel → ChainsWithin n (before, other) (most - output_delay n (part, output))
        → (u : ℕ) → start + (most - output_delay n (part, output)) ≤ u → ShowsStatic n stimuli value u before other)
        → value_at (circuit_of n) stimuli (t - delay_of p.cell) net ≡ value net
    by input i net read is_input is_bit (inr pin) earlier = pin_is_static n stimuli start s states value stays (t - delay_of p.cell) net begun pin
    by input i net read is_input is_bit (inl d) earlier =
        let follows : Follows n (d.part, d.output) (part, output) = follows_driver n part output input i net p read is_one is_part is_input is_bit d in
        output_is_static n stimuli start s states value stays (t - delay_of p.cell) net begun d
        (earlier d.part d.output (omega (arith, enough, delay, delay_low p.cell)) (chains_before n (part, output) (d.part, d.output) most follows within)
        (t - delay_of p.cell) (omega (arith, passed, alone, delay)))

-- within the longest delay all outputs show static words
pub all_arrive : (n : Netlist) (stimuli : List Stimulus) (start : ℕ) (s : Stimulus) (states : List State) (value : ℕ → Bit) (longest : ℕ) → Stays n stimuli start s states value → IsLongest n longest
    → (t part output : ℕ) → start + longest ≤ t → ShowsStatic n stimuli value t part output
all_arrive n stimuli start s states value longest stays bound t part output passed =
    arrives n stimuli start s states value stays longest longest part output (omega arith) (λ earlier chain. bound.most ((part, output) ∷ earlier) chain) t passed

-- the words of a part, one for each of its ports
words_are : (word : ℕ → Word) (k : ℕ) (ports : List (List ℕ)) (words : List Word) → length words ≡ length ports
    → ((j m : ℕ) (bits : List ℕ) → slice_get ports j ≡ Some bits → m ≡ k + j → slice_get words j ≡ Some (word m)) → words ≡ map (λ (o : ℕ × List ℕ). word o.0) (enumerate_from k ports)
words_are word k [] [] long each = refl
words_are word k [] (w ∷ words) long each = absurd (omega (arith, long))
words_are word k (bits ∷ ports) [] long each = absurd (omega (arith, long))
words_are word k (bits ∷ ports) (w ∷ words) long each =
    cons_words w (word k) words (map (λ (o : ℕ × List ℕ). word o.0) (enumerate_from (k + 1) ports)) (same_Some w (word k) (each 0 k bits refl (omega arith)))
    (words_are word (k + 1) ports words (omega (arith, long)) (λ j m b there at. each (suc j) m b there (omega (arith, at))))
  where
    cons_words : (a b : Word) (xs ys : List Word) → a ≡ b → xs ≡ ys → a ∷ xs ≡ b ∷ ys
    cons_words a b xs ys e h = cc

-- the words of all its outputs for static values
abbrev static_words : (ℕ → Bit) → PartUse → List Word
static_words value p = map (λ (o : ℕ × List ℕ). static_word value p o.0) (numbered p.outputs)

part_shows : (n : Netlist) (stimuli : List Stimulus) (value : ℕ → Bit) (t part : ℕ) (p : PartUse) → slice_get n.parts part ≡ Some p → ((output : ℕ) → ShowsStatic n stimuli value t part output)
    → outputs_at (circuit_of n) stimuli t (part, part_of p) ≡ static_words value p
part_shows n stimuli value t part p is_part shows =
    let words = outputs_at (circuit_of n) stimuli t (part, part_of p) in
    words_are (static_word value p) 0 p.outputs words (word_count (timeline (circuit_of n) stimuli t) part p)
    (λ j m bits there at.
    let same : j ≡ m = omega (arith, at) in
    shows j p bits is_part there ∙ ap (λ (k : ℕ). Some (static_word value p k)) same)

-- where all outputs show static words at two instants, no part's outputs changed
pub same_when_static : (n : Netlist) (stimuli : List Stimulus) (value : ℕ → Bit) (t u : ℕ) → ((part output : ℕ) → ShowsStatic n stimuli value t part output)
    → ((part output : ℕ) → ShowsStatic n stimuli value u part output) → SameOutputs (circuit_of n) stimuli t u
same_when_static n stimuli value t u first second =
    each_part (λ (p : Numbered). outputs_at (circuit_of n) stimuli t p ≡ outputs_at (circuit_of n) stimuli u p) 0 n.parts
    (λ i m p there at.
    let same : i ≡ m = omega (arith, at) in
    let is_part : slice_get n.parts m ≡ Some p = subst (λ (k : ℕ). slice_get n.parts k ≡ Some p) same there in
    part_shows n stimuli value t m p is_part (first m) ∙ sym (part_shows n stimuli value u m p is_part (second m)))

-- and where no outputs changed, static words stay
pub static_when_same : (n : Netlist) (stimuli : List Stimulus) (value : ℕ → Bit) (t u : ℕ) → SameOutputs (circuit_of n) stimuli t u → ((part output : ℕ) → ShowsStatic n stimuli value u part output)
    → (part output : ℕ) → ShowsStatic n stimuli value t part output
static_when_same n stimuli value t u same shows part output p bits is_part is_output =
    let c = circuit_of n in
    let here : slice_get (numbered_parts c) part ≡ Some (part, part_of p) = part_at part n.parts p is_part in
    let item : get_or (numbered_parts c) part (part, part_of p) ≡ (part, part_of p) = get_or_from_slice_get (numbered_parts c) part (part, part_of p) (part, part_of p) here in
    let kept = same part (part, part_of p) (slice_get_within (numbered_parts c) part (part, part_of p) here) in
    let words : outputs_at c stimuli t (part, part_of p) ≡ outputs_at c stimuli u (part, part_of p) =
    subst (λ (q : Numbered). outputs_at c stimuli t q ≡ outputs_at c stimuli u q) item kept in
    ap (λ (ws : List Word). slice_get ws output) words ∙ shows part output p bits is_part is_output

-- after the longest delay nothing is busy
pub quiet_after : (n : Netlist) (stimuli : List Stimulus) (start : ℕ) (s : Stimulus) (states : List State) (value : ℕ → Bit) (longest : ℕ) → Stays n stimuli start s states value → IsLongest n longest
    → (t : ℕ) → start + longest < t → is_busy (circuit_of n) stimuli t ≡ false
quiet_after n stimuli start s states value longest stays bound zero passed = absurd (omega (arith, passed))
quiet_after n stimuli start s states value longest stays bound (suc t) passed =
    let static = all_arrive n stimuli start s states value longest stays bound in
    quiet_from_same (circuit_of n) stimuli t
    (same_when_static n stimuli value t (suc t) (λ part output. static t part output (omega (arith, passed))) (λ part output. static (suc t) part output (omega (arith, passed))))

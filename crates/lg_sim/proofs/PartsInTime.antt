-- The parts of a netlist's circuit answer as its cells do: to the words on attached inputs, whatever their states.
use Rattle.std.proofs.Common.{◌≡◌, ℕ, zero, suc, ◌+◌, ◌-◌, ◌≤◌, List, [], ◌∷◌, length, map, Option, Some, None, refl, ap, ◌∙◌, arith}
use Rattle.std.specs.Prelude.{slice_get, All}
use Rattle.std.specs.List.{enumerate_from}
use Rattle.std.specs.Option.{option_map}
use Rattle.std.proofs.lemmas.List.{length-map}
use Rattle.std.proofs.lemmas.List.Elements.{All-nil, All-cons}
use Rattle.std.proofs.lemmas.List.FromFn.{length-enumerate_from}
use Rattle.std.proofs.lemmas.Option.{slice_get-map, same_Some, none-some}
use Rattle.lg_value.specs.declared.bit.Bit.{Bit}
use Rattle.lg_timing.specs.Circuit.{Word, Port}
use Rattle.lg_timing.specs.Instant as time
use Rattle.lg_timing.specs.Instant.{Instant, Numbered, answered, output_words, input_words}
use Rattle.lg_timing.specs.Settling.{IsSteady}
use Rattle.lg_netlist.specs.declared.netlist.Cell.{Cell}
use Rattle.lg_netlist.specs.declared.netlist.Cell.TheVariants.{Not, And, Or}
use Rattle.lg_netlist.specs.declared.netlist.PartUse.{PartUse}
use Rattle.lg_netlist.specs.Cell.{State, cell_word, cell_step, delay_of, input_width, output_width}
use Rattle.lg_netlist.specs.Drivers.{numbered}
use Rattle.lg_netlist.specs.Static as static
use Rattle.lg_netlist.specs.Static.{inputs_of}
use Rattle.lg_sim.specs.InTime.{ports_of, given, part_of}

-- a cell's delay is 1 to 255
pub delay_low : (c : Cell) → 1 ≤ delay_of c
delay_low Not = omega arith
delay_low And = omega arith
delay_low Or = omega arith

pub delay_high : (c : Cell) → delay_of c ≤ 255
delay_high Not = omega arith
delay_high And = omega arith
delay_high Or = omega arith

-- cells keep nothing
keeps_nothing : (c : Cell) (state : State) (before now : List (Option (List Bit))) → cell_step c state before now ≡ state
keeps_nothing Not state before now = refl
keeps_nothing And state before now = refl
keeps_nothing Or state before now = refl

pub steady_part : (p : PartUse) → IsSteady 255 (part_of p)
steady_part p = record {
  least_delay = delay_low p.cell;
  greatest_delay = delay_high p.cell;
  second_step = λ state before now. keeps_nothing p.cell (cell_step p.cell state (given p.inputs before) (given p.inputs now)) (given p.inputs now) (given p.inputs now);
}

pub steady_parts : (parts : List PartUse) → All (IsSteady 255) (map part_of parts)
steady_parts [] = All-nil (IsSteady 255)
steady_parts (p ∷ parts) = All-cons (IsSteady 255) (part_of p) (map part_of parts) (steady_part p) (steady_parts parts)

-- the words given to a cell are those on its attached inputs
given-on : (nets : ℕ → Bit) (width : ℕ → ℕ) (k : ℕ) (ports : List (List ℕ))
    → given ports (map (λ (port : Port). time.word_at nets port.width port.nets) (ports_of width (enumerate_from k ports))) ≡ map (static.word_at nets) ports
given-on nets width k [] = refl
given-on nets width k ([] ∷ ports) = ap (λ (words : List (Option Word)). None ∷ words) (given-on nets width (k + 1) ports)
given-on nets width k ((net ∷ bits) ∷ ports) = ap (λ (words : List (Option Word)). Some (map nets (net ∷ bits)) ∷ words) (given-on nets width (k + 1) ports)

pub given_words : (nets : ℕ → Bit) (p : PartUse) → given p.inputs (input_words nets (part_of p)) ≡ inputs_of nets p
given_words nets p = given-on nets (input_width p.cell) 0 p.inputs

-- an item of a numbered list has its number
pub slice_get-numbered : {A : Type 0} (k j m : ℕ) (xs : List A) (x : A) → slice_get xs j ≡ Some x → m ≡ k + j → slice_get (enumerate_from k xs) j ≡ Some (m, x)
slice_get-numbered k j m [] x e at = absurd (none-some x e)
slice_get-numbered k zero m (y ∷ xs) x e at =
    let same : k ≡ m = omega (arith, at) in
    let item : y ≡ x = same_Some y x e in
    rw (same, item) refl
slice_get-numbered k (suc j) m (y ∷ xs) x e at = slice_get-numbered (k + 1) j m xs x e (omega (arith, at))

-- the word at an output of a part that answers to an instant
pub answer_at : (k j : ℕ) (p : PartUse) (bits : List ℕ) (instant : Instant) → slice_get p.outputs j ≡ Some bits
    → slice_get (answered (k, part_of p) (Some instant)) j ≡ Some (cell_word p.cell (time.state_of instant k) (inputs_of instant.nets p) j)
answer_at k j p bits instant there =
    let word : ℕ × List ℕ → Word = λ (o : ℕ × List ℕ). cell_word p.cell (time.state_of instant k) (given p.inputs (input_words instant.nets (part_of p))) o.0 in
    slice_get-map word (numbered p.outputs) j
    ∙ (ap (option_map word) (slice_get-numbered 0 j j p.outputs bits there (omega arith))
    ∙ ap (λ (inputs : List (Option Word)). Some (cell_word p.cell (time.state_of instant k) inputs j)) (given_words instant.nets p))

-- a part has a word for each of its outputs
pub word_count : (past : List Instant) (k : ℕ) (p : PartUse) → length (output_words past (k, part_of p)) ≡ length p.outputs
word_count past k p = by (slice_get past (delay_of p.cell - 1))
  where
    by : (o : Option Instant) → length (answered (k, part_of p) o) ≡ length p.outputs
    by None = length-map (ports_of (output_width p.cell) (numbered p.outputs)) _ ∙ (length-map (numbered p.outputs) _ ∙ length-enumerate_from 0 p.outputs)
    by (Some instant) = length-map (numbered p.outputs) _ ∙ length-enumerate_from 0 p.outputs

-- the nets of numbered ports
pub nets_of-ports : (width : ℕ → ℕ) (k : ℕ) (ports : List (List ℕ)) → map (λ (port : Port). port.nets) (ports_of width (enumerate_from k ports)) ≡ ports
nets_of-ports width k [] = refl
nets_of-ports width k (bits ∷ ports) = ap (λ (more : List (List ℕ)). bits ∷ more) (nets_of-ports width (k + 1) ports)

-- what holds of each part with its number holds of the circuit's parts
pub each_part : (P : Numbered → Type 0) (k : ℕ) (parts : List PartUse) → ((i m : ℕ) (p : PartUse) → slice_get parts i ≡ Some p → m ≡ k + i → P (m, part_of p)) → All P (enumerate_from k (map part_of parts))
each_part P k [] holds = All-nil P
each_part P k (p ∷ parts) holds =
    All-cons P (k, part_of p) (enumerate_from (k + 1) (map part_of parts)) (holds 0 k p refl (omega arith))
    (each_part P (k + 1) parts (λ i m q there at. holds (suc i) m q there (omega (arith, at))))

-- the part of a number among the circuit's
pub part_at : (k : ℕ) (parts : List PartUse) (p : PartUse) → slice_get parts k ≡ Some p → slice_get (enumerate_from 0 (map part_of parts)) k ≡ Some (k, part_of p)
part_at k parts p there =
    slice_get-numbered 0 k k (map part_of parts) (part_of p) (slice_get-map part_of parts k ∙ ap (option_map part_of) there) (omega arith)

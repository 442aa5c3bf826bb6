-- The parts of the tests, by their kinds.
use Rattle.std.proofs.Common.{◌≤◌, List, arith}
use Rattle.lg_base_tests.specs.declared.timing_samples.Kind.{Kind}
use Rattle.lg_base_tests.specs.declared.timing_samples.Kind.TheVariants.{Not, And, Nand, Line3, Line5, Constant, FlipFlop}
use Rattle.lg_base_tests.specs.declared.timing_samples.Sample.{Sample}
use Rattle.lg_timing.specs.Circuit.{Port, Part}
use Rattle.lg_timing.specs.Settling.{IsSteady}
use Rattle.lg_timing.specs.Samples.{not_gate}
use Rattle.lg_base_tests.specs.TimingSamples.{and_gate, nand_gate, line_in, constant, flip_flop}
use Rattle.lg_base_tests.proofs.SampleLemmas.{steady_gate, steady_flip_flop}

abbrev pub part_of : Kind → List Port → List Port → Part
part_of k inputs outputs =
    elim k as (λ x. Part) [
      | Not ↦ not_gate inputs outputs
      | And ↦ and_gate inputs outputs
      | Nand ↦ nand_gate inputs outputs
      | Line3 ↦ line_in 3 inputs outputs
      | Line5 ↦ line_in 5 inputs outputs
      | Constant ↦ constant inputs outputs
      | FlipFlop ↦ flip_flop inputs outputs
    ]

abbrev pub meaning_of : Sample → Part
meaning_of s = part_of s.kind s.inputs.items s.outputs.items

-- each has a delay of 1, 3 or 5, and a second step to the same inputs changes nothing
pub steady_kind : (k : Kind) (inputs outputs : List Port) → IsSteady 5 (part_of k inputs outputs)
steady_kind Not inputs outputs = steady_gate 1 _ inputs outputs (omega arith) (omega arith)
steady_kind And inputs outputs = steady_gate 1 _ inputs outputs (omega arith) (omega arith)
steady_kind Nand inputs outputs = steady_gate 1 _ inputs outputs (omega arith) (omega arith)
steady_kind Line3 inputs outputs = steady_gate 3 _ inputs outputs (omega arith) (omega arith)
steady_kind Line5 inputs outputs = steady_gate 5 _ inputs outputs (omega arith) (omega arith)
steady_kind Constant inputs outputs = steady_gate 1 _ inputs outputs (omega arith) (omega arith)
steady_kind FlipFlop inputs outputs = steady_flip_flop inputs outputs

pub least_kind : (k : Kind) (inputs outputs : List Port) → 1 ≤ (part_of k inputs outputs).delay
least_kind k inputs outputs = (steady_kind k inputs outputs).least_delay

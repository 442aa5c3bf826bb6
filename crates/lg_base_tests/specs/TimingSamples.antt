-- The parts of the tests: gates, a constant, delay lines and a flip-flop, with ports of one bit.
use Rattle.std.specs.Prelude.{ℕ, Bool, ◌&&◌, List, [], ◌∷◌, if◌then◌else◌}
use Rattle.lg_value.specs.declared.bit.Bit.{Bit}
use Rattle.lg_value.specs.declared.bit.Bit.TheVariants.{Zero, One, Unknown, Error}
use Rattle.lg_value.specs.Bit.{same_bit, not_bit}
use Rattle.lg_timing.specs.Circuit.{Word, Port, Part}
use Rattle.lg_timing.specs.Samples.{bit_in, one_word, gate_in, gate}

-- AND of two bits: a 0 gives 0, else an undefined bit gives an error, else 1
abbrev pub and_bit : Bit → Bit → Bit
and_bit Zero b = Zero
and_bit One Zero = Zero
and_bit One One = One
and_bit Unknown Zero = Zero
and_bit Error Zero = Zero
and_bit _ _ = Error

-- whether the second input rises: from 0 to 1
abbrev pub rises : List Word → List Word → Bool
rises before now = same_bit (bit_in before 1) Zero && same_bit (bit_in now 1) One

abbrev pub and_gate : List Port → List Port → Part
and_gate = gate (λ now. one_word (and_bit (bit_in now 0) (bit_in now 1)))

abbrev pub nand_gate : List Port → List Port → Part
nand_gate = gate (λ now. one_word (not_bit (and_bit (bit_in now 0) (bit_in now 1))))

-- it gives its input as it is, after 3 or 5 instants
abbrev pub line_in : ℕ → List Port → List Port → Part
line_in delay = gate_in delay (λ now. one_word (bit_in now 0))

abbrev pub constant : List Port → List Port → Part
constant = gate (λ now. one_word One)

-- it takes its first input where its second rises, and gives its state and the opposite of that
abbrev pub flip_flop : List Port → List Port → Part
flip_flop inputs outputs = record {
  delay = 5;
  inputs = inputs;
  outputs = outputs;
  start = one_word Zero;
  step = λ state before now. if rises before now then one_word (bit_in now 0) else state;
  out = λ state now. (bit_in state 0 ∷ []) ∷ one_word (not_bit (bit_in state 0));
}

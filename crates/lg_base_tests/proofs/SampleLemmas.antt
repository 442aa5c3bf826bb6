-- The parts of the tests are steady.
use Rattle.std.proofs.Common.{◌≡◌, ℕ, ◌≤◌, false, List, refl, arith}
use Rattle.std.specs.Prelude.{◌&&◌}
use Rattle.lg_value.specs.declared.bit.Bit.{Bit}
use Rattle.lg_value.specs.declared.bit.Bit.TheVariants.{Zero, One, Unknown, Error}
use Rattle.lg_value.specs.Bit.{same_bit}
use Rattle.lg_timing.specs.Circuit.{Word, Port}
use Rattle.lg_timing.specs.Settling.{IsSteady}
use Rattle.lg_timing.specs.Samples.{gate_in, bit_in}
use Rattle.lg_base_tests.specs.TimingSamples.{flip_flop, rises}

pub steady_gate : (delay : ℕ) (f : List Word → List Word) (inputs outputs : List Port) → 1 ≤ delay → delay ≤ 5 → IsSteady 5 (gate_in delay f inputs outputs)
steady_gate delay f inputs outputs least most = record { least_delay = least; greatest_delay = most; second_step = λ state before now. refl }

no_rise : (b : Bit) → (same_bit b Zero && same_bit b One) ≡ false
no_rise Zero = refl
no_rise One = refl
no_rise Unknown = refl
no_rise Error = refl

pub steady_flip_flop : (inputs outputs : List Port) → IsSteady 5 (flip_flop inputs outputs)
steady_flip_flop inputs outputs = record {
  least_delay = omega arith;
  greatest_delay = omega arith;
  second_step = λ state before now.
      let still : rises now now ≡ false = no_rise (bit_in now 1) in
      rw still refl;
}

-- The timeline of a NOT gate from a pin A, net 0, to a pin Y, net 1, with rows 0 and 1.
-- Source: the Logisim-evolution user guide, Value propagation, with a delay of 1 by this project's choice.
use Rattle.std.specs.Prelude.{◌≡◌, ℕ, Bool, List, [], ◌∷◌, None}
use Rattle.lg_value.specs.declared.bit.Bit.{Bit}
use Rattle.lg_value.specs.declared.bit.Bit.TheVariants.{Zero, One}
use Rattle.lg_timing.specs.Circuit.{Port, Circuit, Stimulus}
use Rattle.lg_timing.specs.Instant.{value_at}
use Rattle.lg_timing.specs.Settling.{is_busy}
use Rattle.lg_timing.specs.Session.{Table, set_at}
use Rattle.lg_timing.specs.Evaluation.{evaluations_at}
use Rattle.lg_timing.specs.Samples.{one_word, not_gate}

abbrev pub port_on : ℕ → List Port
port_on net = (record { nets = net ∷ []; width = 1 }) ∷ []

abbrev pub not_circuit : Circuit
not_circuit = record {
  parts = not_gate (port_on 0) (port_on 1) ∷ [];
  pulls = [];
  pins = (0 ∷ []) ∷ [];
  outputs = (1 ∷ []) ∷ [];
  clocks = [];
}

-- row 0 at instant 0
abbrev pub row_0 : List Stimulus
row_0 = set_at 0 (one_word Zero) ∷ []

-- and row 1 at instant 2, the settled instant plus 1
abbrev pub both_rows : List Stimulus
both_rows = set_at 0 (one_word Zero) ∷ set_at 2 (one_word One) ∷ []

-- a line of the timeline: what A and Y carry at an instant, whether it is busy, and its evaluations
pub record Shows (t : ℕ) (a y : Bit) (busy : Bool) (count : ℕ) : Type 0 where
  pub on_a : value_at not_circuit both_rows t 0 ≡ a
  pub on_y : value_at not_circuit both_rows t 1 ≡ y
  pub is_busy : is_busy not_circuit both_rows t ≡ busy
  pub evaluations : evaluations_at not_circuit both_rows t ≡ count

-- Y is 1 after row 0 and 0 after row 1, and each takes one instant
abbrev pub not_table : Table
not_table = record {
  lines =
      (record { outputs = one_word One; settle = 1; tick = None })
      ∷ (record { outputs = one_word Zero; settle = 1; tick = None })
      ∷ [];
  stop = None;
}

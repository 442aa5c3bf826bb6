-- A sink in memory, as a contract sees it.
use Rattle.std.specs.Prelude.{ℕ, List}

-- the bytes taken, the room that is left, the most that a call takes, the numbers of the calls that fail, the number of the next call, and how many have failed
pub record SinkState : Type 0 where
  pub taken : List ℕ
  pub room : ℕ
  pub piece : ℕ
  pub fails : List ℕ
  pub calls : ℕ
  pub faults : ℕ

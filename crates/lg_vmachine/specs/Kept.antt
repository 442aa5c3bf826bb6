-- What a module keeps from row to row. Source: IEEE 1364-2005, 4.2.2 (variables), 4.9 (arrays).
use Rattle.std.specs.Prelude.{ℕ, List}

-- a number for each register and the words of each memory, each in the order of the declarations
pub record Kept : Type 0 where
  pub numbers : List ℕ
  pub memories : List (List ℕ)

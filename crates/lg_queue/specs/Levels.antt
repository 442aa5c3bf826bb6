-- Rows of bits above one another, each of which tells where the one below has bits.
use Rattle.std.specs.Prelude.{ℕ, ◌*◌, ◌≤◌, ◌↔◌, List, length}
use Rattle.lg_queue.specs.declared.levels.Levels.{Levels}
use Rattle.lg_queue.specs.Row.{Has, HasSomeIn}

-- a row has just the numbers of those words of the row below that have one, and has room for all of them
pub record IsSummary (below above : List ℕ) : Type 0 where
  pub has : (word : ℕ) → Has above word ↔ HasSomeIn below word
  pub room : length below ≤ 64 * length above

-- each row tells of the one below
pub record AreLevels (s : Levels) : Type 0 where
  pub words : IsSummary s.numbers.items s.words.items
  pub blocks : IsSummary s.words.items s.blocks.items
  pub top : IsSummary s.blocks.items s.top

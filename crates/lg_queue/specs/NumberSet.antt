-- A finite set of numbers, as the list of them in order.
use Rattle.std.specs.Prelude.{ℕ, zero, suc, ◌*◌, ◌==◌, nat_lt, List, [], ◌∷◌, ◌++◌, length, if◌then◌else◌}
use Rattle.lg_queue.specs.Order.{with_value}
use Rattle.lg_queue.specs.Row.{digit}

-- the numbers, which rise, all below a room
pub record NumberSet : Type 0 where
  pub room : ℕ
  pub numbers : List ℕ

-- the set with a number more
abbrev pub with_number : ℕ → NumberSet → NumberSet
with_number n s = record { room = s.room; numbers = with_value nat_lt n s.numbers }

-- the numbers of a row of bits that are below a bound
unfoldable pub numbers_below : List ℕ → ℕ → List ℕ
numbers_below words zero = []
numbers_below words (suc n) = numbers_below words n ++ (if digit words n == 1 then n ∷ [] else [])

-- the numbers of a row of bits
abbrev pub numbers_of : List ℕ → NumberSet
numbers_of words = record { room = 64 * length words; numbers = numbers_below words (64 * length words) }

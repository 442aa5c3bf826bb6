-- Numbers that have no 1 at one place. No contract of the crate's surface speaks of this.
use Rattle.std.specs.Prelude.{ℕ, ◌≡◌}
use Rattle.std.specs.Int.{bit_at}

-- where the second has a 1, the first has a 0
abbrev pub AreApart : ℕ → ℕ → Type 0
AreApart number free = (place : ℕ) → bit_at free place ≡ 1 → bit_at number place ≡ 0

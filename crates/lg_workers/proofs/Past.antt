-- The numbers of a claim rise, so a worker ends.
use Rattle.std.proofs.Common.{◌≡◌, ℕ, ◌+◌, ◌-◌, ◌<◌, ◌≤◌, List, [], ◌∷◌, ◌++◌, max, arith}
use Rattle.std.specs.List.{All}
use Rattle.std.proofs.lemmas.List.Elements.{All-head, All-tail}

-- the number past all of a list
abbrev pub past : List ℕ → ℕ
past [] = 0
past (n ∷ numbers) = max (n + 1) (past numbers)

past_push : (numbers : List ℕ) (n : ℕ) → past numbers ≤ n → past (numbers ++ n ∷ []) ≡ n + 1
past_push [] n low = omega arith
past_push (m ∷ numbers) n low = let p = past_push numbers n (omega arith) in omega arith

past_below : (numbers : List ℕ) (n : ℕ) → All (λ m. m < n) numbers → past numbers ≤ n
past_below [] n all = omega arith
past_below (m ∷ numbers) n all =
    let h : m < n = All-head (λ k. k < n) m numbers all in let p = past_below numbers n (All-tail (λ k. k < n) m numbers all) in omega arith

pub nearer : (jobs : ℕ) (numbers : List ℕ) (n : ℕ) → n < jobs → All (λ m. m < n) numbers → jobs - past (numbers ++ n ∷ []) < jobs - past numbers
nearer jobs numbers n below all = let p = past_below numbers n all in let q = past_push numbers n p in omega arith

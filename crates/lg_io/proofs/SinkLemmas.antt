-- What several writes took, one after another.
use Rattle.std.proofs.Common.{ℕ, ◌≡◌, ◌+◌, ◌-◌, List, ◌++◌, length, take, drop, Option, Some, None, option_map, refl, append_assoc}
use Rattle.std.proofs.Math.Seq.{take-add}
use Rattle.std.proofs.lemmas.List.{take_rest}

-- the next n bytes after the first `done` make the first `done + n`; the rest of the bytes is written as a slice up to their end is
pub taken-next
    : (start now after : Option (List ℕ)) (bytes : List ℕ) (done n : ℕ)
    → now ≡ option_map (λ before. before ++ take done bytes) start
    → after ≡ option_map (λ before. before ++ take n (take (length bytes - done) (drop done bytes))) now
    → after ≡ option_map (λ before. before ++ take (done + n) bytes) start
taken-next None now after bytes done n was next = rw (next, was) refl
taken-next (Some before) now after bytes done n was next = rw (next, was, take_rest, take-add, append_assoc) refl

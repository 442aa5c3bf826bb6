-- What shifts and rolls do to the number of a word.
use Rattle.std.proofs.Common.{◌≡◌, ℕ, ◌+◌, ◌-◌, ◌*◌, ◌/◌, ◌%◌, ◌^◌, ◌<◌, ◌≤◌, List, ◌++◌, length, take, drop, replicate, ap, ◌∙◌, arith, inl, inr, length-drop}
use Rattle.std.proofs.Math.Nat.{mod-eq_of_lt, mul_comm}
use Rattle.std.proofs.lemmas.Bool.{cases_lt}
use Rattle.std.proofs.lemmas.Nat.{pow-add, shr_le}
use Rattle.std.proofs.lemmas.List.{length-replicate, drop_all, take_rest}
use Rattle.lg_value.specs.declared.bit.Bit.{Bit}
use Rattle.lg_value.specs.declared.bit.Bit.TheVariants.{Zero, One}
use Rattle.lg_value.specs.Word.{number_of}
use Rattle.lg_value.proofs.WordLemmas.{number_of_nil, number_of-append, number_of-lt}
use Rattle.lg_arith.specs.Shift.{moved_left, moved_right, turned}
use Rattle.lg_arith.proofs.NumberLemmas.{number_of_zeros, number_of_ones, number_of-take, number_of-drop}
use Rattle.lg_arith.proofs.ShiftLemmas.{moved_right_out, moved_right_in}

pub number_of-moved_left : (a : List Bit) (distance : ℕ) → number_of (moved_left a distance) ≡ number_of a * 2 ^ distance % 2 ^ length a
number_of-moved_left a distance =
    let below : number_of (replicate distance Zero ++ a) ≡ number_of (replicate distance Zero) + 2 ^ length (replicate distance Zero) * number_of a =
    number_of-append (replicate distance Zero) a in
    let raised : number_of (replicate distance Zero ++ a) ≡ number_of a * 2 ^ distance =
    below ∙ rw (number_of_zeros distance, length-replicate distance Zero, mul_comm (2 ^ distance) (number_of a)) (omega arith) in
    number_of-take (length a) (replicate distance Zero ++ a) ∙ ap (λ n. n % 2 ^ length a) raised

pub number_of-moved_right : (a : List Bit) (distance : ℕ) → number_of (moved_right Zero a distance) ≡ number_of a / 2 ^ distance
number_of-moved_right a distance =
    let parts : number_of (drop distance a ++ replicate (length a) Zero) ≡ number_of (drop distance a) + 2 ^ length (drop distance a) * number_of (replicate (length a) Zero) =
    number_of-append (drop distance a) (replicate (length a) Zero) in
    let lowered : number_of (drop distance a ++ replicate (length a) Zero) ≡ number_of a / 2 ^ distance =
    parts ∙ rw (number_of_zeros (length a), number_of-drop distance a) (omega arith) in
    let small : number_of a / 2 ^ distance < 2 ^ length a = omega (arith, shr_le (number_of a) distance, number_of-lt a) in
    number_of-take (length a) (drop distance a ++ replicate (length a) Zero) ∙ ap (λ n. n % 2 ^ length a) lowered ∙ mod-eq_of_lt small

filled_above : (x p o q : ℕ) → o + 1 ≡ q → x + p * o + p ≡ x + p * q
filled_above x p o q h = rw (← h) (grind arith)

pub number_of-ones_above : (a : List Bit) (distance : ℕ) → number_of (moved_right One a distance) + 2 ^ (length a - distance) ≡ number_of a / 2 ^ distance + 2 ^ length a
number_of-ones_above a distance = elim (cases_lt (length a) distance) [
  | inl past ↦
      let filled = moved_right_out One a distance (omega arith) in
      let dropped : number_of (drop distance a) ≡ 0 = ap number_of (drop_all distance a (omega arith)) ∙ number_of_nil in
      let none : length a - distance ≡ 0 = omega arith in
      rw (filled, none, ← number_of-drop distance a, dropped) (omega (arith, number_of_ones (length a)))
  | inr inside ↦
      let filled = moved_right_in One a distance inside ∙ ap (λ x. x ++ replicate distance One) (take_rest a distance) in
      let parts = rw (number_of-drop distance a, length-drop distance a) at (number_of-append (drop distance a) (replicate distance One)) in
      let power : 2 ^ length a ≡ 2 ^ (length a - distance) * 2 ^ distance =
      rw (← pow-add 2 (length a - distance) distance) (ap (λ n. 2 ^ n) (omega arith)) in
      rw (filled, parts, power)
      (filled_above (number_of a / 2 ^ distance) (2 ^ (length a - distance)) (number_of (replicate distance One)) (2 ^ distance) (number_of_ones distance))
]

pub number_of-turned : (a : List Bit) (place : ℕ) → place ≤ length a → number_of (turned a place) ≡ number_of a / 2 ^ place + 2 ^ (length a - place) * (number_of a % 2 ^ place)
number_of-turned a place inside =
    let parts = number_of-append (drop place a) (take place a) in
    rw (number_of-drop place a, number_of-take place a, length-drop place a) at parts

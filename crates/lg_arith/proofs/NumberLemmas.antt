-- Numbers of the parts of a word.
use Rattle.std.proofs.Common.{◌≡◌, ℕ, zero, suc, ◌+◌, ◌*◌, ◌/◌, ◌%◌, ◌^◌, ◌<◌, ◌≤◌, List, length, take, drop, replicate, sym, ap, ◌∙◌, arith, inl, inr, length-take-le, take-append-drop}
use Rattle.std.proofs.Math.Nat.{pow-succ', mod-eq_of_lt, div-eq_of_lt, add-mul-mod_self_left, add-mul-div_left}
use Rattle.std.proofs.Math.Pow.{pow_mono}
use Rattle.std.proofs.lemmas.Nat.{pow_pos}
use Rattle.std.proofs.lemmas.Bool.{cases_lt}
use Rattle.std.proofs.lemmas.List.{take_all, drop_all}
use Rattle.lg_value.specs.declared.bit.Bit.{Bit}
use Rattle.lg_value.specs.declared.bit.Bit.TheVariants.{Zero, One}
use Rattle.lg_value.specs.Word.{number_of}
use Rattle.lg_value.proofs.WordLemmas.{number_of_nil, number_of-cons, number_of-append, number_of-lt}

-- a word of zeros, and one of ones
pub number_of_zeros : (width : ℕ) → number_of (replicate width Zero) ≡ 0
number_of_zeros zero = number_of_nil
number_of_zeros (suc width) =
    rw (number_of-cons Zero (replicate width Zero), number_of_zeros width) (omega arith)

pub number_of_ones : (width : ℕ) → number_of (replicate width One) + 1 ≡ 2 ^ width
number_of_ones zero = rw number_of_nil (omega arith)
number_of_ones (suc width) =
    rw (number_of-cons One (replicate width One), pow-succ' 2 width) (omega (arith, number_of_ones width))

split_at : (word : List Bit) (place : ℕ) → place ≤ length word → number_of word ≡ number_of (take place word) + 2 ^ place * number_of (drop place word)
split_at word place inside =
    let parts = number_of-append (take place word) (drop place word) in
    rw (take-append-drop place word, length-take-le place word inside) at parts

low_lt : (word : List Bit) (place : ℕ) → place ≤ length word → number_of (take place word) < 2 ^ place
low_lt word place inside = rw (length-take-le place word inside) at (number_of-lt (take place word))

fits_above : (word : List Bit) (place : ℕ) → length word ≤ place → number_of word < 2 ^ place
fits_above word place past =
    let higher : 2 ^ length word ≤ 2 ^ place = pow_mono {i = length word} {j = place} past in
    omega (arith, number_of-lt word)

-- the low bits of a word, and the bits from a place on
pub number_of-take : (place : ℕ) (word : List Bit) → number_of (take place word) ≡ number_of word % 2 ^ place
number_of-take place word = elim (cases_lt place (length word)) [
  | inl inside ↦
      let low : number_of (take place word) < 2 ^ place = low_lt word place (omega arith) in
      let whole = split_at word place (omega arith) in
      sym (ap (λ n. n % 2 ^ place) whole ∙ add-mul-mod_self_left (number_of (take place word)) (2 ^ place) (number_of (drop place word)) ∙ mod-eq_of_lt low)
  | inr past ↦ ap number_of (take_all place word past) ∙ sym (mod-eq_of_lt (fits_above word place past))
]

pub number_of-drop : (place : ℕ) (word : List Bit) → number_of (drop place word) ≡ number_of word / 2 ^ place
number_of-drop place word = elim (cases_lt place (length word)) [
  | inl inside ↦
      let low : number_of (take place word) < 2 ^ place = low_lt word place (omega arith) in
      let whole = split_at word place (omega arith) in
      let none : number_of (take place word) / 2 ^ place ≡ 0 = div-eq_of_lt low in
      sym (ap (λ n. n / 2 ^ place) whole ∙ add-mul-div_left (number_of (take place word)) (number_of (drop place word)) (pow_pos place) ∙ omega arith)
  | inr past ↦ ap number_of (drop_all place word past) ∙ number_of_nil ∙ sym (div-eq_of_lt (fits_above word place past))
]

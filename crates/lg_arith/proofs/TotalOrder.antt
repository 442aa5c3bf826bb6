-- Of two defined words exactly one is greater, or they are equal.
use Rattle.std.proofs.Common.{◌≡◌, ℕ, zero, suc, ◌*◌, ◌^◌, ◌<◌, ◌≤◌, Bool, true, false, ◌⊎◌, List, [], ◌∷◌, length, sym, refl, ap, ◌∙◌, inl, inr, arith}
use Rattle.std.specs.Prelude.{◌≢◌, ℤ, pos, negsuc, ◌-ℤ◌, int_lt}
use Rattle.std.proofs.lemmas.Bool.{cases_order, lt-ltb, le-ltb}
use Rattle.std.proofs.lemmas.Int.{ints}
use Rattle.lg_value.specs.declared.bit.Bit.{Bit}
use Rattle.lg_value.specs.Bit.{digit_of}
use Rattle.lg_value.specs.Word.{IsDefined, number_of, word_of_number, same_word}
use Rattle.lg_value.proofs.WordLemmas.{number_of-lt, word_of_number-number_of, Decides-same_word}
use Rattle.lg_arith.specs.Count.{ones_in}
use Rattle.lg_arith.specs.Operands.{top_bit}
use Rattle.lg_arith.specs.Order.{signed_number_of, compared_number, greater_of, equal_of, less_of}
use Rattle.lg_arith.proofs.DefinedLemmas.{defined_two}
use Rattle.lg_arith.proofs.OrderLemmas.{greater_defined, equal_defined, less_defined}
use Rattle.lg_arith.proofs.WholeLemmas.{digit_le}

-- words of one width with one number are the same
same_from_number : (a b : List Bit) → length b ≡ length a → IsDefined a → IsDefined b → number_of a ≡ number_of b → a ≡ b
same_from_number a b same h k number =
    let first : word_of_number (length a) (number_of b) ≡ a = rw number at (word_of_number-number_of a h) in
    let second : word_of_number (length a) (number_of b) ≡ b = rw same at (word_of_number-number_of b k) in
    sym first ∙ second

signed_apart : (m n p q d e : ℕ) → m < p → n < p → q ≡ p → d ≤ 1 → e ≤ 1 → pos m -ℤ pos (d * p) ≡ pos n -ℤ pos (e * q) → m ≡ n
signed_apart m n p q zero zero low high same d e h = omega (arith, ints)
signed_apart m n p q zero (suc zero) low high same d e h = omega (arith, ints)
signed_apart m n p q (suc zero) zero low high same d e h = omega (arith, ints)
signed_apart m n p q (suc zero) (suc zero) low high same d e h = omega (arith, ints)
signed_apart m n p q (suc (suc d)) e low high same large small h = absurd (omega (arith, large))
signed_apart m n p q d (suc (suc e)) low high same small large h = absurd (omega (arith, large))

same_signed : (a b : List Bit) → length b ≡ length a → signed_number_of a ≡ signed_number_of b → number_of a ≡ number_of b
unfolding signed_number_of
same_signed a b same h =
    signed_apart (number_of a) (number_of b) (2 ^ length a) (2 ^ length b) (digit_of (top_bit a)) (digit_of (top_bit b)) (number_of-lt a) (rw same at (number_of-lt b)) (ap (λ n. 2 ^ n) same) (digit_le (top_bit a)) (digit_le (top_bit b)) h

same_compared : (a b : List Bit) (signed : Bool) → length b ≡ length a → compared_number signed a ≡ compared_number signed b → number_of a ≡ number_of b
same_compared a b true same h = same_signed a b same h
same_compared a b false same h = cc

-- one number is less than another, or the other is less, or they are equal
abbrev OneIsLess : ℤ → ℤ → Type 0
OneIsLess x y = ((int_lt x y ≡ true) × (int_lt y x ≡ false)) ⊎ (((int_lt y x ≡ true) × (int_lt x y ≡ false)) ⊎ (x ≡ y))

order : (x y : ℤ) → OneIsLess x y
order (pos m) (pos n) = elim (cases_order m n) [
  | inl same ↦ inr (inr (ap pos same))
  | inr more ↦ elim more [
    | inl less ↦ inl (lt-ltb m n less, le-ltb n m (omega arith))
    | inr greater ↦ inr (inl (lt-ltb n m greater, le-ltb m n (omega arith)))
  ]
]
order (pos m) (negsuc n) = inr (inl (refl, refl))
order (negsuc m) (pos n) = inl (refl, refl)
order (negsuc m) (negsuc n) = elim (cases_order m n) [
  | inl same ↦ inr (inr (ap negsuc same))
  | inr more ↦ elim more [
    | inl less ↦ inr (inl (lt-ltb m n less, le-ltb n m (omega arith)))
    | inr greater ↦ inl (lt-ltb n m greater, le-ltb m n (omega arith))
  ]
]

never_less : (x : ℤ) → int_lt x x ≡ false
never_less (pos n) = le-ltb n n (omega arith)
never_less (negsuc n) = le-ltb n n (omega arith)

apart : (x y : ℤ) → int_lt x y ≡ true → x ≢ y
apart x y less same =
    let never = never_less y in
    let more : int_lt y y ≡ true = rw same at less in
    cc

false_unless : (test : Bool) → test ≢ true → test ≡ false
false_unless true h = absurd (h refl)
false_unless false h = refl

differ : (a b : List Bit) (signed : Bool) → compared_number signed a ≢ compared_number signed b → same_word a b ≡ false
differ a b signed h = false_unless (same_word a b) (λ e. h (ap (compared_number signed) ((Decides-same_word a b).0 e)))

pub one_order : (a b : List Bit) (signed : Bool) → length b ≡ length a → IsDefined a → IsDefined b → ones_in (greater_of a b signed ∷ equal_of a b ∷ less_of a b signed ∷ []) ≡ 1
one_order a b signed same h k =
    let defined = defined_two a b h k in
    let x : ℤ = compared_number signed a in
    let y : ℤ = compared_number signed b in
    rw (greater_defined a b signed defined, equal_defined a b defined, less_defined a b signed defined)
    (elim (order x y) [
      | inl less ↦ rw (less.0, less.1, differ a b signed (apart x y less.0)) refl
      | inr more ↦ elim more [
        | inl greater ↦ rw (greater.0, greater.1, differ a b signed (λ e. apart y x greater.0 (sym e))) refl
        | inr equal ↦
            let words : a ≡ b = same_from_number a b same h k (same_compared a b signed same equal) in
            let test : same_word a b ≡ true = (Decides-same_word a b).1 words in
            rw (test, equal, never_less y) refl
      ]
    ])

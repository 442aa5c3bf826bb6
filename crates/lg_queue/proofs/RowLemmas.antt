-- Bits of a row, and the numbers that they stand for.
use Rattle.std.proofs.Common.{◌≡◌, ℕ, ◌+◌, ◌*◌, ◌/◌, ◌%◌, ◌^◌, ◌<◌, ◌≤◌, List, length, get_or, set, refl, sym, ap, ◌∙◌, subst, arith, inl, inr, eqb, length-set}
use Rattle.std.specs.Prelude.{bit_and, bit_or}
use Rattle.std.specs.Int.{bit_at, bit_not, w64, trailing_zeros}
use Rattle.std.specs.Bool.{MatchBool}
use Rattle.std.proofs.lemmas.Bool.{cases_lt, cases_eq, eq-eqb, ne_eqb}
use Rattle.std.proofs.lemmas.Nat.{div-mul-add, mod-mul-add}
use Rattle.std.proofs.lemmas.Nat.Bits.{bit_at-lt, bit_at-zero, bit_at_set_same, bit_at_set_other, bit_at_clear_same, bit_at_clear_other, bit_at-trailing_zeros}
use Rattle.std.proofs.lemmas.List.{get_or-set_same, get_or-set_other, get_or_past}
use Rattle.lg_queue.specs.Row.{digit, Has, HasAdded, HasTaken, HasNoneIn, HasSomeIn, IsLeastIn}

-- a row has no number past its words
pub digit_past : (words : List ℕ) (number : ℕ) → length words ≤ number / 64 → digit words number ≡ 0
unfolding digit
digit_past words number past = ap (λ w. bit_at w (number % 64)) (get_or_past words (number / 64) 0 past) ∙ bit_at-zero (number % 64)

pub digit_of_zero : (words : List ℕ) (number : ℕ) → get_or words (number / 64) 0 ≡ 0 → digit words number ≡ 0
unfolding digit
digit_of_zero words number zero_word = ap (λ w. bit_at w (number % 64)) zero_word ∙ bit_at-zero (number % 64)

pub digit_below : (words : List ℕ) (number : ℕ) → digit words number < 2
unfolding digit
digit_below words number = bit_at-lt (get_or words (number / 64) 0) (number % 64)

-- the number of a word that a bit stands for
pub digit_at : (words : List ℕ) (word place : ℕ) → place < 64 → digit words (word * 64 + place) ≡ bit_at (get_or words word 0) place
unfolding digit
digit_at words word place h = rw (div-mul-add word 64 place h, mod-mul-add word 64 place h) refl

same_number : (a b : ℕ) → a / 64 ≡ b / 64 → a % 64 ≡ b % 64 → a ≡ b
same_number a b p q = omega (arith, p, q)

-- a word with a bit more
pub added : (words : List ℕ) (number : ℕ) → number / 64 < length words
    → HasAdded number words (set words (number / 64) (bit_or (get_or words (number / 64) 0) (1 * 2 ^ (number % 64) % 2 ^ 64)))
unfolding digit
added words number h =
    let w = get_or words (number / 64) 0 in
    let v = bit_or w (1 * 2 ^ (number % 64) % 2 ^ 64) in
    let place : number % 64 < 64 = omega arith in
    record {
      itself = ap (λ x. bit_at x (number % 64)) (get_or-set_same words (number / 64) v 0 h) ∙ bit_at_set_same w64 w (number % 64) place;
      others = λ other apart. elim (cases_eq (other / 64) (number / 64)) [
        | inl same ↦ ap (λ i. bit_at (get_or (set words (number / 64) v) i 0) (other % 64)) same
            ∙ ap (λ x. bit_at x (other % 64)) (get_or-set_same words (number / 64) v 0 h)
            ∙ bit_at_set_other w64 w (number % 64) place (other % 64) (λ e. apart (same_number other number same e))
            ∙ ap (λ i. bit_at (get_or words i 0) (other % 64)) (sym same)
        | inr differ ↦ ap (λ x. bit_at x (other % 64)) (get_or-set_other words (number / 64) (other / 64) v 0 differ)
      ];
      length = length-set words (number / 64) v;
    }

-- a word with a bit less
pub taken : (words : List ℕ) (number : ℕ) → number / 64 < length words
    → HasTaken number words (set words (number / 64) (bit_and (get_or words (number / 64) 0) (bit_not w64 (1 * 2 ^ (number % 64) % 2 ^ 64))))
unfolding digit
taken words number h =
    let w = get_or words (number / 64) 0 in
    let v = bit_and w (bit_not w64 (1 * 2 ^ (number % 64) % 2 ^ 64)) in
    let place : number % 64 < 64 = omega arith in
    record {
      itself = ap (λ x. bit_at x (number % 64)) (get_or-set_same words (number / 64) v 0 h) ∙ bit_at_clear_same w64 w (number % 64) place;
      others = λ other apart. elim (cases_eq (other / 64) (number / 64)) [
        | inl same ↦ ap (λ i. bit_at (get_or (set words (number / 64) v) i 0) (other % 64)) same
            ∙ ap (λ x. bit_at x (other % 64)) (get_or-set_same words (number / 64) v 0 h)
            ∙ bit_at_clear_other w64 w (number % 64) place (other % 64) (omega arith) (λ e. apart (same_number other number same e))
            ∙ ap (λ i. bit_at (get_or words i 0) (other % 64)) (sym same)
        | inr differ ↦ ap (λ x. bit_at x (other % 64)) (get_or-set_other words (number / 64) (other / 64) v 0 differ)
      ];
      length = length-set words (number / 64) v;
    }

-- a word that is 0 has no number
pub none_of_zero : (words : List ℕ) (word : ℕ) → get_or words word 0 ≡ 0 → HasNoneIn words word
none_of_zero words word e = λ number at. digit_of_zero words number (ap (λ i. get_or words i 0) at ∙ e)

-- a word that has a number isn't 0
pub some_not_zero : (words : List ℕ) (word : ℕ) → HasSomeIn words word → 0 < get_or words word 0
some_not_zero words word some = elim (cases_eq (get_or words word 0) 0) [
  | inl e ↦ absurd (omega (arith, none_of_zero words word e some.number some.of_word, some.has))
  | inr differ ↦ omega (arith, differ)
]

pub some_within : (words : List ℕ) (word : ℕ) → HasSomeIn words word → word < length words
some_within words word some = elim (cases_lt word (length words)) [
  | inl h ↦ h
  | inr past ↦ absurd (omega (arith, some_not_zero words word some, get_or_past words word 0 past))
]

least_place : (words : List ℕ) (word place other : ℕ) → ((i : ℕ) → i < place → bit_at (get_or words word 0) i ≡ 0) → other / 64 ≡ word → Has words other → word * 64 + place ≤ other
unfolding digit
least_place words word place other zeros at has = elim (cases_lt (other % 64) place) [
  | inl before ↦ absurd (omega (arith, zeros (other % 64) before, ap (λ i. bit_at (get_or words i 0) (other % 64)) (sym at), has))
  | inr after ↦ omega (arith, after, at)
]

-- the lowest bit of a word that isn't 0
pub lowest : (words : List ℕ) (word : ℕ) → 0 < get_or words word 0 → get_or words word 0 < 2 ^ 64
    → IsLeastIn words word (64 * word + trailing_zeros w64 (get_or words word 0))
lowest words word some fits =
    let w = get_or words word 0 in
    let low = bit_at-trailing_zeros w64 w some fits in
    let place = trailing_zeros w64 w in
    let turned : word * 64 + place ≡ 64 * word + place = omega arith in
    subst (IsLeastIn words word) turned (record {
      has = digit_at words word place low.0 ∙ low.1;
      of_word = div-mul-add word 64 place low.0;
      least = λ other at has. least_place words word place other low.2 at has;
    })

-- a number of a word that isn't 0
pub some_of_word : (words : List ℕ) (word : ℕ) → 0 < get_or words word 0 → get_or words word 0 < 2 ^ 64 → HasSomeIn words word
some_of_word words word some fits = let low = lowest words word some fits in record { number = 64 * word + trailing_zeros w64 (get_or words word 0); of_word = low.of_word; has = low.has }

-- a word has no number where it is 0
pub is_none : (words : List ℕ) (word : ℕ) → get_or words word 0 < 2 ^ 64 → MatchBool (eqb (get_or words word 0) 0) (HasNoneIn words word) (HasSomeIn words word)
is_none words word fits = elim (cases_eq (get_or words word 0) 0) [
  | inl zero ↦ rw (eq-eqb (get_or words word 0) 0 zero) (none_of_zero words word zero)
  | inr differ ↦ rw (ne_eqb (get_or words word 0) 0 differ) (some_of_word words word (omega (arith, differ)) fits)
]

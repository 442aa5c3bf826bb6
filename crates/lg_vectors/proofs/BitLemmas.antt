-- Words of numbers, bit by bit.
use Rattle.std.proofs.Common.{◌≡◌, ℕ, zero, suc, ◌+◌, ◌-◌, ◌*◌, ◌/◌, ◌%◌, ◌^◌, ◌<◌, ◌≤◌, cond, eqb, ◌⊎◌, inl, inr, List, [], ◌∷◌, length, map, Some, sym, refl, ap, ◌∙◌, arith}
use Rattle.std.specs.Prelude.{slice_get, option_map}
use Rattle.std.specs.Int.{bit_at}
use Rattle.std.proofs.Math.Nat.{pow-succ', mod-mod, mul-add-mod_self_right}
use Rattle.std.proofs.lemmas.Bool.{cases_lt}
use Rattle.std.proofs.lemmas.Nat.{pow_pos, pow-add, mod-pow-add, div-mul-add, div-add-mod'}
use Rattle.std.proofs.lemmas.Nat.Bits.{bit_at_lowest, bit_at-suc, bit_at-lt, bit_at-zero, bit_at_above, bit_at_cat_low, bit_at_cat_high}
use Rattle.std.proofs.lemmas.Option.{slice_get-map, slice_get_within}
use Rattle.lg_value.specs.declared.bit.Bit.{Bit}
use Rattle.lg_value.specs.declared.bit.Bit.TheVariants.{Zero, One}
use Rattle.lg_value.specs.Bit.{not_bit}
use Rattle.lg_value.specs.Word.{bit_of_number, word_of_number}
use Rattle.lg_value.proofs.WordLemmas.{length-word_of_number, number_of-word_of_number, word_of_number-number_of, IsDefined-word_of_number, word_of_number-suc, word_of_number_nil}
use Rattle.lg_vectors.specs.Apart.{AreApart}
use Rattle.lg_vectors.specs.CaredBits.{RestIsZero}
use Rattle.lg_vectors.specs.Values.{cared_but}

-- a word is the word of the number of its low digits
word_of_number-mod : (width n : ℕ) → word_of_number width (n % 2 ^ width) ≡ word_of_number width n
word_of_number-mod width n =
    let again = word_of_number-number_of (word_of_number width n) (IsDefined-word_of_number width n) in
    rw (length-word_of_number width n, number_of-word_of_number width n) at again

word_of_number-same : (width m n : ℕ) → m % 2 ^ width ≡ n % 2 ^ width → word_of_number width m ≡ word_of_number width n
word_of_number-same width m n same =
    sym (word_of_number-mod width m) ∙ ap (word_of_number width) same ∙ word_of_number-mod width n

low_of_more : (n j k : ℕ) → n % 2 ^ (j + k) % 2 ^ k ≡ n % 2 ^ k
low_of_more n j k =
    rw (mod-pow-add n j k, mul-add-mod_self_right (n / 2 ^ k % 2 ^ j) (2 ^ k) (n % 2 ^ k)) (mod-mod n (2 ^ k))

-- a number that wraps past 64 bits has the same word in a width of at most 64
pub word_of_number-wrapped : (width n : ℕ) → width ≤ 64 → word_of_number width (n % 2 ^ 64) ≡ word_of_number width n
word_of_number-wrapped width n short =
    let whole : 64 - width + width ≡ 64 = omega arith in
    let low : n % 2 ^ (64 - width + width) % 2 ^ width ≡ n % 2 ^ width = low_of_more n (64 - width) width in
    word_of_number-same width (n % 2 ^ 64) n (rw whole at low)

one_less : (m q : ℕ) → (m + 1) * q ≡ m * q + q
one_less m q = grind arith

-- the greatest number of a width, as the greatest of 64 bits cut to it
pub greatest_of_width : (width : ℕ) → width ≤ 64 → 18446744073709551615 / 2 ^ (64 - width) + 1 ≡ 2 ^ width
greatest_of_width width short =
    let p = 2 ^ width in
    let q = 2 ^ (64 - width) in
    let whole : 2 ^ (width + (64 - width)) ≡ 2 ^ width * 2 ^ (64 - width) = pow-add 2 width (64 - width) in
    let all : width + (64 - width) ≡ 64 = omega arith in
    let product : 2 ^ 64 ≡ 2 ^ width * 2 ^ (64 - width) = rw all at whole in
    let back : 2 ^ width - 1 + 1 ≡ 2 ^ width = omega (arith, pow_pos width) in
    let less : 2 ^ width * 2 ^ (64 - width) ≡ (2 ^ width - 1) * 2 ^ (64 - width) + 2 ^ (64 - width) = rw back at (one_less (2 ^ width - 1) (2 ^ (64 - width))) in
    let top : 18446744073709551615 ≡ (2 ^ width - 1) * 2 ^ (64 - width) + (2 ^ (64 - width) - 1) = omega (arith, product, less, pow_pos (64 - width)) in
    let cut : ((2 ^ width - 1) * 2 ^ (64 - width) + (2 ^ (64 - width) - 1)) / 2 ^ (64 - width) ≡ 2 ^ width - 1 =
    div-mul-add (2 ^ width - 1) (2 ^ (64 - width)) (2 ^ (64 - width) - 1) (omega (arith, pow_pos (64 - width))) in
    rw top (omega (arith, cut, pow_pos width))

flipped : (a b : ℕ) → a < 2 → b ≡ 1 - a → cond (eqb b 1) One Zero ≡ not_bit (cond (eqb a 1) One Zero)
flipped zero b h e = rw e refl
flipped (suc zero) b h e = rw e refl
flipped (suc (suc a)) b h e = absurd (omega (arith, h))

half_of_rest : (p n : ℕ) → n < 2 * p → (2 * p - 1 - n) / 2 ≡ p - 1 - n / 2
half_of_rest p n h = omega (arith, h)

low_of_rest : (p n : ℕ) → n < 2 * p → (2 * p - 1 - n) % 2 ≡ 1 - n % 2
low_of_rest p n h = omega (arith, h)

half_below : (p n : ℕ) → n < 2 * p → n / 2 < p
half_below p n h = omega (arith, h)

-- a word of the rest up to the last number is inverted
word_of_rest : (more width n : ℕ) → n < 2 ^ (more + width) → word_of_number width (2 ^ (more + width) - 1 - n) ≡ map not_bit (word_of_number width n)
word_of_rest more zero n h = rw (word_of_number_nil n, word_of_number_nil (2 ^ (more + 0) - 1 - n)) refl
word_of_rest more (suc width) n h =
    let longer : more + suc width ≡ suc (more + width) = omega arith in
    let twice : 2 ^ (more + suc width) ≡ 2 * 2 ^ (more + width) = ap (λ k. 2 ^ k) longer ∙ pow-succ' 2 (more + width) in
    let fits : n < 2 * 2 ^ (more + width) = rw twice at h in
    let low : bit_at (2 * 2 ^ (more + width) - 1 - n) 0 ≡ 1 - bit_at n 0 =
    bit_at_lowest (2 * 2 ^ (more + width) - 1 - n) ∙ low_of_rest (2 ^ (more + width)) n fits ∙ ap (λ k. 1 - k) (sym (bit_at_lowest n)) in
    let first : bit_of_number (2 * 2 ^ (more + width) - 1 - n) 0 ≡ not_bit (bit_of_number n 0) = flipped (bit_at n 0) (bit_at (2 * 2 ^ (more + width) - 1 - n) 0) (bit_at-lt n 0) low in
    let half = half_of_rest (2 ^ (more + width)) n fits in
    let others : word_of_number width (2 ^ (more + width) - 1 - n / 2) ≡ map not_bit (word_of_number width (n / 2)) = word_of_rest more width (n / 2) (half_below (2 ^ (more + width)) n fits) in
    rw (twice, word_of_number-suc width (2 * 2 ^ (more + width) - 1 - n), word_of_number-suc width n, first, half, others) refl

-- the code's `!n` has the inverted word
pub word_of_not : (width n : ℕ) → width ≤ 64 → n < 2 ^ 64 → word_of_number width (18446744073709551615 - n) ≡ map not_bit (word_of_number width n)
word_of_not width n short fits =
    let whole : 64 - width + width ≡ 64 = omega arith in
    let rest = word_of_rest (64 - width) width n (rw whole fits) in
    rw whole at rest

-- the bit of a number's word at a place
pub bit_of_word : (width n place : ℕ) → place < width → slice_get (word_of_number width n) place ≡ Some (bit_of_number n place)
bit_of_word zero n place h = absurd (omega (arith, h))
bit_of_word (suc width) n zero h = rw (word_of_number-suc width n) refl
bit_of_word (suc width) n (suc place) h =
    let one : bit_at (n / 2) place ≡ bit_at n (suc place) = sym (bit_at-suc n place) in
    rw (word_of_number-suc width n) (bit_of_word width (n / 2) place (omega (arith, h)) ∙ ap (λ b. Some (cond (eqb b 1) One Zero)) one)

one_where : (m : ℕ) → m < 2 → not_bit (cond (eqb m 1) One Zero) ≡ Zero → m ≡ 1
one_where zero h e = absurd (cc e)
one_where (suc zero) h e = refl
one_where (suc (suc m)) h e = absurd (omega (arith, h))

-- numbers that are apart keep a value
pub apart_is_zero : (width number free : ℕ) → AreApart number free → RestIsZero (cared_but width number free)
apart_is_zero width number free apart place h =
    let word = word_of_number width free in
    let long : place < length (map not_bit word) = slice_get_within (map not_bit word) place Zero h in
    let inside : place < width = omega (arith, long, length-map_not width free) in
    let bit : option_map not_bit (slice_get word place) ≡ Some Zero = sym (slice_get-map not_bit word place) ∙ h in
    let known : option_map not_bit (slice_get word place) ≡ Some (not_bit (bit_of_number free place)) = ap (option_map not_bit) (bit_of_word width free place inside) in
    let zero_bit : not_bit (bit_of_number free place) ≡ Zero = cc in
    let free_one : bit_at free place ≡ 1 = one_where (bit_at free place) (bit_at-lt free place) zero_bit in
    bit_of_word width number place inside ∙ ap (λ b. Some (cond (eqb b 1) One Zero)) (apart place free_one)
  where
    length-map_not : (width n : ℕ) → length (map not_bit (word_of_number width n)) ≡ width
    length-map_not width n = same_length (word_of_number width n) ∙ length-word_of_number width n
      where
        same_length : (w : List Bit) → length (map not_bit w) ≡ length w
        same_length [] = refl
        same_length (b ∷ w) = ap suc (same_length w)

-- one more digit behind numbers that are apart
pub apart_more : (number free size d e : ℕ) → d < 2 ^ size → e < 2 ^ size → (d ≡ 0) ⊎ (e ≡ 0) → AreApart number free → AreApart (number * 2 ^ size + d) (free * 2 ^ size + e)
apart_more number free size d e small_d small_e one apart place h =
    elim (cases_lt place size) [
      | inl low ↦
          let free_low : bit_at e place ≡ 1 = sym (bit_at_cat_low free size e place low) ∙ h in
          bit_at_cat_low number size d place low ∙ elim one as (λ _. bit_at d place ≡ 0) [
            | inl none ↦ ap (λ x. bit_at x place) none ∙ bit_at-zero place
            | inr none ↦ absurd (no_one (bit_at e place) free_low (ap (λ x. bit_at x place) none ∙ bit_at-zero place))
          ]
      | inr high ↦
          let free_high : bit_at free (place - size) ≡ 1 = sym (bit_at_cat_high free size e place small_e high) ∙ h in
          bit_at_cat_high number size d place small_d high ∙ apart (place - size) free_high
    ]
  where
    no_one : (m : ℕ) → m ≡ 1 → m ≡ 0 → ⊥
    no_one m p q = omega (arith, p, q)

-- the bits past 64 are not looked at
pub apart_wrapped : (number free : ℕ) → AreApart number free → AreApart number (free % 2 ^ 64)
apart_wrapped number free apart place h =
    elim (cases_lt place 64) [
      | inl low ↦
          let split : free / 2 ^ 64 * 2 ^ 64 + free % 2 ^ 64 ≡ free = div-add-mod' free (2 ^ 64) in
          let same : bit_at free place ≡ bit_at (free % 2 ^ 64) place = ap (λ x. bit_at x place) (sym split) ∙ bit_at_cat_low (free / 2 ^ 64) 64 (free % 2 ^ 64) place low in
          apart place (same ∙ h)
      | inr high ↦ absurd (no_one (bit_at (free % 2 ^ 64) place) h (bit_at_above (free % 2 ^ 64) 64 place (omega arith) high))
    ]
  where
    no_one : (m : ℕ) → m ≡ 1 → m ≡ 0 → ⊥
    no_one m p q = omega (arith, p, q)

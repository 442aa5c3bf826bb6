-- How two planes and a width store a word.
use Rattle.std.proofs.Common.{◌≡◌, ℕ, zero, suc, ◌+◌, ◌-◌, ◌*◌, ◌/◌, ◌%◌, ◌^◌, ◌<◌, ◌≤◌, Bool, true, false, cond, eqb, List, [], ◌∷◌, ◌++◌, length, map, get_or, set, take, drop, replicate, min, max, refl, sym, ap, ◌∙◌, subst, arith, rules, ◌⊎◌, inl, inr, length-append, length-set, length-drop, length-take-le}
use Rattle.std.specs.Prelude.{◌&&◌, bit_and, bit_or, count_by}
use Rattle.std.specs.Int.{bit_at, bit_not, w64}
use Rattle.std.specs.Int.RustNames.{bit_xor, count_ones}
use Rattle.std.proofs.lemmas.Bool.{cases_lt, cases_eq}
use Rattle.std.specs.Bool.{Decides}
use Rattle.std.proofs.Math.Nat.{mod-eq_of_lt, pow-succ'}
use Rattle.std.proofs.Math.ListN.{get_or-append}
use Rattle.std.proofs.lemmas.Nat.{pow-add, mul-add-lt, and_le_l, and_le_r, or_lt, xor_lt, pow_pos, pow_below, shr-shr, or_shifted, shl_whole, ones_cat}
use Rattle.std.proofs.lemmas.Nat.Bits.{bit_at_lowest, bit_at-suc, bit_at-lt, bit_at_and, bit_at_or, bit_at_xor, bit_at_not, bit_at_set_same, bit_at_set_other, bit_at_clear_same, bit_at_clear_other, bit_at_ones, bit_at_cat_low, bit_at_cat_high, bit_at-zero, same_from_bits_below}
use Rattle.std.proofs.lemmas.List.{ext_get_or, get_or-map, length-map, get_or-replicate, length-replicate, get_or-take, get_or-drop, get_or-append_right, get_or-set_same, get_or-set_other}
use Rattle.std.proofs.lemmas.List.Sums.{sum_by-cons}
use Rattle.std.proofs.Math.Pow.{pow_mono}
use Rattle.lg_value.specs.declared.bit.Bit.{Bit}
use Rattle.lg_value.specs.declared.bit.Bit.TheVariants.{Zero, One, Unknown, Error}
use Rattle.lg_value.specs.Bit.{same_bit, join_bits, and_bits, or_bits, xor_bits, equal_from_same_bit}
use Rattle.lg_value.specs.Word.{IsWidth, IsDefined, each_pair, join_words, number_of, bit_of_number, word_of_number}
use Rattle.lg_value.specs.Storage.{IsStored, Stores, word_of_planes, first_digit, second_digit, bit_of_digits, picked, length-word_of_planes, plane_of, digits_again, first_plane, second_plane}
use Rattle.lg_value.proofs.BitLemmas.{both}
use Rattle.lg_value.proofs.WordLemmas.{get_or-word_of_number, get_or-each_pair, length-each_pair, join_words-each_pair, length-word_of_number, IsDefined-word_of_number, number_of-word_of_number}

-- the bit that two planes hold at a place
abbrev pub bit_in : ℕ → ℕ → ℕ → Bit
bit_in a b i = bit_of_digits (bit_at a i) (bit_at b i)

get_or-word_of_planes : (width a b i : ℕ) (d : Bit) → i < width → get_or (word_of_planes width a b) i d ≡ bit_in a b i
unfolding word_of_planes
get_or-word_of_planes zero a b i d h = absurd (omega (arith, h))
get_or-word_of_planes (suc width) a b zero d h = rw (bit_at_lowest a, bit_at_lowest b) refl
get_or-word_of_planes (suc width) a b (suc i) d h =
    rw (bit_at-suc a i, bit_at-suc b i) (get_or-word_of_planes width (a / 2) (b / 2) i d (omega (arith, h)))

-- a stored word has the width that is stored
pub stored_width : {width a b : ℕ} {word : List Bit} → Stores width a b word → length word ≡ width
stored_width {width} {a} {b} own = ap length (sym own.word_is) ∙ length-word_of_planes width a b

-- a stored word has the bits that the planes hold
pub stored_bit : {width a b : ℕ} {word : List Bit} → Stores width a b word → (i : ℕ) (d : Bit) → i < width → get_or word i d ≡ bit_in a b i
stored_bit {width} {a} {b} own i d inside =
    ap (λ w. get_or w i d) (sym own.word_is) ∙ get_or-word_of_planes width a b i d inside

-- neither plane passes 64 digits
stored_below : {width a b : ℕ} → IsStored width a b → (a < 2 ^ 64) × (b < 2 ^ 64)
stored_below {width} {a} {b} own =
    let top : 2 ^ width ≤ 2 ^ 64 = pow_mono {i = width} {j = 64} own.in_range.1 in
    (omega (arith, own.first), omega (arith, own.second))

-- planes that hold each bit of a word store it
pub stored_from_bits : (width a b : ℕ) (word : List Bit) → IsStored width a b → length word ≡ width → ((i : ℕ) → i < width → bit_in a b i ≡ get_or word i Zero) → Stores width a b word
stored_from_bits width a b word stored long bits = record {
  stored = stored;
  word_is = ext_get_or Zero (word_of_planes width a b) word (length-word_of_planes width a b ∙ sym long)
      (λ i inside. let lt : i < width = omega (arith, inside, length-word_of_planes width a b) in get_or-word_of_planes width a b i Zero lt ∙ bits i lt);
}

-- whether both digits pass
abbrev each_digit : (ℕ → Bool) → Bool
each_digit test = test 0 && test 1

-- a test that both digits pass holds of a given one
at_digit : (test : ℕ → Bool) → each_digit test ≡ true → (n : ℕ) → n < 2 → test n ≡ true
at_digit test h zero k = (both (test 0) (test 1) h).0
at_digit test h (suc zero) k = (both (test 0) (test 1) h).1
at_digit test h (suc (suc n)) k = absurd (omega (arith, k))

-- what holds of the digits of two bits, tried at all sixteen, holds at each place of four planes
pub at_planes : (test : ℕ → ℕ → ℕ → ℕ → Bool) → each_digit (λ p. each_digit (λ q. each_digit (λ r. each_digit (test p q r)))) ≡ true → (a b c d i : ℕ) → test (bit_at a i) (bit_at b i) (bit_at c i) (bit_at d i) ≡ true
at_planes test h a b c d i =
    let p = bit_at a i in
    let q = bit_at b i in
    let r = bit_at c i in
    at_digit (test p q r)
    (at_digit (λ r. each_digit (test p q r))
    (at_digit (λ q. each_digit (λ r. each_digit (test p q r)))
    (at_digit (λ p. each_digit (λ q. each_digit (λ r. each_digit (test p q r)))) h p (bit_at-lt a i))
    q (bit_at-lt b i))
    r (bit_at-lt c i))
    (bit_at d i) (bit_at-lt d i)

and_not_at : (a d i : ℕ) → d < 2 ^ 64 → i < 64 → bit_at (bit_and a (bit_not w64 d)) i ≡ min (bit_at a i) (1 - bit_at d i)
and_not_at a d i small inside = bit_at_and a (bit_not w64 d) i ∙ ap (λ x. min (bit_at a i) x) (bit_at_not w64 d i small inside)

-- the second plane of a join
abbrev pub joined_second : ℕ → ℕ → ℕ → ℕ → ℕ
joined_second a b c d = bit_or (bit_and b d) (bit_xor (bit_and a (bit_not w64 d)) (bit_and c (bit_not w64 b)))

-- what the digits of two bits give, tried at all sixteen, is what a function of two bits gives at each place
abbrev agrees : (ℕ → ℕ → ℕ → ℕ → Bit) → (Bit → Bit → Bit) → ℕ → ℕ → ℕ → ℕ → Bool
agrees answer f p q r s = same_bit (answer p q r s) (f (bit_of_digits p q) (bit_of_digits r s))

at_pairs : (answer : ℕ → ℕ → ℕ → ℕ → Bit) (f : Bit → Bit → Bit) → each_digit (λ p. each_digit (λ q. each_digit (λ r. each_digit (agrees answer f p q r)))) ≡ true → (a b c d i : ℕ) → answer (bit_at a i) (bit_at b i) (bit_at c i) (bit_at d i) ≡ f (bit_in a b i) (bit_in c d i)
at_pairs answer f h a b c d i =
    equal_from_same_bit (answer (bit_at a i) (bit_at b i) (bit_at c i) (bit_at d i)) (f (bit_in a b i) (bit_in c d i))
    (at_planes (agrees answer f) h a b c d i)

joined_bit : (a b c d i : ℕ) → b < 2 ^ 64 → d < 2 ^ 64 → i < 64 → bit_in (bit_or a c) (joined_second a b c d) i ≡ join_bits (bit_in a b i) (bit_in c d i)
joined_bit a b c d i small less inside =
    rw (bit_at_or a c i, bit_at_or (bit_and b d) (bit_xor (bit_and a (bit_not w64 d)) (bit_and c (bit_not w64 b))) i, bit_at_and b d i, bit_at_xor (bit_and a (bit_not w64 d)) (bit_and c (bit_not w64 b)) i, and_not_at a d i less inside, and_not_at c b i small inside)
    (at_pairs (λ p q r s. bit_of_digits (max p r) (max (min q s) ((min p (1 - s) + min r (1 - q)) % 2))) join_bits refl a b c d i)

-- words of one length are stored at one width
same_width : {width a b other c d : ℕ} {u v : List Bit} → Stores width a b u → Stores other c d v → length u ≡ length v → Stores width c d v
same_width {width} {a} {b} {other} {c} {d} {u} {v} own others long =
    let same : other ≡ width = omega (arith, stored_width own, stored_width others, long) in
    subst (λ w. Stores w c d v) same others

-- planes that hold what a function gives to each pair of bits of two words
stored_pair : {width a b c d : ℕ} {u v : List Bit} → Stores width a b u → Stores width c d v → (f : Bit → Bit → Bit) (first second : ℕ) → first < 2 ^ width → second < 2 ^ width → ((i : ℕ) → i < 64 → bit_in first second i ≡ f (bit_in a b i) (bit_in c d i)) → Stores width first second (each_pair f u v)
stored_pair {width} {a} {b} {c} {d} {u} {v} own more f first second low high bits =
    stored_from_bits width first second (each_pair f u v)
    record { in_range = own.stored.in_range; first = low; second = high }
    (length-each_pair f u v (stored_width own ∙ sym (stored_width more)) ∙ stored_width own)
    (λ i inside.
    let left : get_or u i Zero ≡ bit_in a b i = stored_bit own i Zero inside in
    let right : get_or v i Zero ≡ bit_in c d i = stored_bit more i Zero inside in
    let long_u : i < length u = omega (arith, inside, stored_width own) in
    let long_v : i < length v = omega (arith, inside, stored_width more) in
    rw (get_or-each_pair f u v i Zero long_u long_v, left, right) (bits i (omega (arith, inside, own.stored.in_range.1))))

-- a part of a plane does not pass a width
and_lt : (width n m : ℕ) → n < 2 ^ width → bit_and n m < 2 ^ width
and_lt width n m small = omega (arith, and_le_l n m, small)

-- the planes of a join
pub stored_join : {width a b other c d : ℕ} {u v : List Bit} → Stores width a b u → Stores other c d v → length u ≡ length v → Stores width (bit_or a c) (joined_second a b c d) (join_words u v)
stored_join {width} {a} {b} {other} {c} {d} {u} {v} own others long =
    let more : Stores width c d v = same_width own others long in
    rw (join_words-each_pair u v)
    (stored_pair own more join_bits (bit_or a c) (joined_second a b c d)
    (or_lt width a c own.stored.first more.stored.first)
    (or_lt width (bit_and b d) (bit_xor (bit_and a (bit_not w64 d)) (bit_and c (bit_not w64 b)))
    (and_lt width b d own.stored.second)
    (xor_lt width (bit_and a (bit_not w64 d)) (bit_and c (bit_not w64 b))
    (and_lt width a (bit_not w64 d) own.stored.first) (and_lt width c (bit_not w64 b) more.stored.first)))
    (λ i inside. joined_bit a b c d i (stored_below own.stored).1 (stored_below more.stored).1 inside))

-- the places where neither of two words has a 0
abbrev pub without_zero : ℕ → ℕ → ℕ → ℕ → ℕ
without_zero a b c d = bit_and (bit_or a b) (bit_or c d)

-- the planes of an AND
pub stored_and : {width a b other c d : ℕ} {u v : List Bit} → Stores width a b u → Stores other c d v → length u ≡ length v → Stores width (without_zero a b c d) (bit_and (without_zero a b c d) (bit_or b d)) (each_pair and_bits u v)
stored_and {width} {a} {b} {other} {c} {d} {u} {v} own others long =
    let more : Stores width c d v = same_width own others long in
    let low : without_zero a b c d < 2 ^ width = and_lt width (bit_or a b) (bit_or c d) (or_lt width a b own.stored.first own.stored.second) in
    stored_pair own more and_bits (without_zero a b c d) (bit_and (without_zero a b c d) (bit_or b d)) low
    (and_lt width (without_zero a b c d) (bit_or b d) low)
    (λ i inside.
    rw (bit_at_and (without_zero a b c d) (bit_or b d) i, bit_at_and (bit_or a b) (bit_or c d) i, bit_at_or a b i, bit_at_or c d i, bit_at_or b d i)
    (at_pairs (λ p q r s. bit_of_digits (min (max p q) (max r s)) (min (min (max p q) (max r s)) (max q s))) and_bits refl a b c d i))

-- the places where one of two words has a 1
abbrev pub with_one : ℕ → ℕ → ℕ → ℕ → ℕ
with_one a b c d = bit_or (bit_and a (bit_not w64 b)) (bit_and c (bit_not w64 d))

with_one_at : (a b c d i : ℕ) → a < 2 ^ 64 → b < 2 ^ 64 → c < 2 ^ 64 → d < 2 ^ 64 → i < 64 → bit_at (bit_not w64 (with_one a b c d)) i ≡ 1 - max (min (bit_at a i) (1 - bit_at b i)) (min (bit_at c i) (1 - bit_at d i))
with_one_at a b c d i small_a small_b small_c small_d inside =
    let small : with_one a b c d < 2 ^ 64 =
    or_lt 64 (bit_and a (bit_not w64 b)) (bit_and c (bit_not w64 d)) (and_lt 64 a (bit_not w64 b) small_a) (and_lt 64 c (bit_not w64 d) small_c) in
    rw (bit_at_not w64 (with_one a b c d) i small inside, bit_at_or (bit_and a (bit_not w64 b)) (bit_and c (bit_not w64 d)) i, and_not_at a b i small_b inside, and_not_at c d i small_d inside) refl

-- the planes of an OR
pub stored_or : {width a b other c d : ℕ} {u v : List Bit} → Stores width a b u → Stores other c d v → length u ≡ length v → Stores width (bit_or (bit_or a c) (bit_or b d)) (bit_and (bit_or b d) (bit_not w64 (with_one a b c d))) (each_pair or_bits u v)
stored_or {width} {a} {b} {other} {c} {d} {u} {v} own others long =
    let more : Stores width c d v = same_width own others long in
    let second : bit_or b d < 2 ^ width = or_lt width b d own.stored.second more.stored.second in
    let small = stored_below own.stored in
    let less = stored_below more.stored in
    stored_pair own more or_bits (bit_or (bit_or a c) (bit_or b d)) (bit_and (bit_or b d) (bit_not w64 (with_one a b c d)))
    (or_lt width (bit_or a c) (bit_or b d) (or_lt width a c own.stored.first more.stored.first) second)
    (and_lt width (bit_or b d) (bit_not w64 (with_one a b c d)) second)
    (λ i inside.
    rw (bit_at_or (bit_or a c) (bit_or b d) i, bit_at_and (bit_or b d) (bit_not w64 (with_one a b c d)) i, with_one_at a b c d i small.0 small.1 less.0 less.1 inside, bit_at_or a c i, bit_at_or b d i)
    (at_pairs (λ p q r s. bit_of_digits (max (max p r) (max q s)) (min (max q s) (1 - max (min p (1 - q)) (min r (1 - s))))) or_bits refl a b c d i))

-- the planes of an XOR
pub stored_xor : {width a b other c d : ℕ} {u v : List Bit} → Stores width a b u → Stores other c d v → length u ≡ length v → Stores width (bit_or (bit_xor a c) (bit_or b d)) (bit_or b d) (each_pair xor_bits u v)
stored_xor {width} {a} {b} {other} {c} {d} {u} {v} own others long =
    let more : Stores width c d v = same_width own others long in
    let second : bit_or b d < 2 ^ width = or_lt width b d own.stored.second more.stored.second in
    stored_pair own more xor_bits (bit_or (bit_xor a c) (bit_or b d)) (bit_or b d)
    (or_lt width (bit_xor a c) (bit_or b d) (xor_lt width a c own.stored.first more.stored.first) second)
    second
    (λ i inside.
    rw (bit_at_or (bit_xor a c) (bit_or b d) i, bit_at_xor a c i, bit_at_or b d i)
    (at_pairs (λ p q r s. bit_of_digits (max ((p + r) % 2) (max q s)) (max q s)) xor_bits refl a b c d i))

digit_chosen : (p low high : ℕ) → p < 2 → low < 2 → high < 2 → max (min low (1 - p)) (min high p) ≡ cond (eqb p 1) high low
digit_chosen zero low high h k l = omega (arith, k)
digit_chosen (suc zero) low high h k l = omega (arith, l)
digit_chosen (suc (suc p)) low high h k l = absurd (omega (arith, h))

-- the plane that has one plane's digits where another has a 1, and a third one's elsewhere
abbrev pub chosen_of : ℕ → ℕ → ℕ → ℕ
chosen_of plane low high = bit_or (bit_and low (bit_not w64 plane)) (bit_and high plane)

pub chosen_at : (plane low high i : ℕ) → plane < 2 ^ 64 → i < 64 → bit_at (chosen_of plane low high) i ≡ cond (eqb (bit_at plane i) 1) (bit_at high i) (bit_at low i)
chosen_at plane low high i small inside =
    rw (bit_at_or (bit_and low (bit_not w64 plane)) (bit_and high plane) i, and_not_at low plane i small inside, bit_at_and high plane i)
    (digit_chosen (bit_at plane i) (bit_at low i) (bit_at high i) (bit_at-lt plane i) (bit_at-lt low i) (bit_at-lt high i))

pub chosen_below : (plane low high width : ℕ) → low < 2 ^ width → high < 2 ^ width → chosen_of plane low high < 2 ^ width
chosen_below plane low high width small less =
    or_lt width (bit_and low (bit_not w64 plane)) (bit_and high plane) (and_lt width low (bit_not w64 plane) small) (and_lt width high plane less)

-- the digits of the four bits that are given for a bit's value, chosen by that bit's digits
pub picked_digits : (p q za zb oa ob ua ub ea eb : ℕ) → p < 2 → q < 2 → bit_of_digits (cond (eqb q 1) (cond (eqb p 1) ea ua) (cond (eqb p 1) oa za)) (cond (eqb q 1) (cond (eqb p 1) eb ub) (cond (eqb p 1) ob zb)) ≡ picked (bit_of_digits za zb) (bit_of_digits oa ob) (bit_of_digits ua ub) (bit_of_digits ea eb) (bit_of_digits p q)
picked_digits zero zero za zb oa ob ua ub ea eb h k = refl
picked_digits (suc zero) zero za zb oa ob ua ub ea eb h k = refl
picked_digits zero (suc zero) za zb oa ob ua ub ea eb h k = refl
picked_digits (suc zero) (suc zero) za zb oa ob ua ub ea eb h k = refl
picked_digits (suc (suc p)) q za zb oa ob ua ub ea eb h k = absurd (omega (arith, h))
picked_digits zero (suc (suc q)) za zb oa ob ua ub ea eb h k = absurd (omega (arith, k))
picked_digits (suc zero) (suc (suc q)) za zb oa ob ua ub ea eb h k = absurd (omega (arith, k))

-- what holds of each value and the bit that is given for it holds of a bit and the one picked for it
pub at_picked : (P : Bit → Bit → Type 0) (low high floating fault : Bit) → P Zero low → P One high → P Unknown floating → P Error fault → (bit : Bit) → P bit (picked low high floating fault bit)
at_picked P low high floating fault l h f e Zero = l
at_picked P low high floating fault l h f e One = h
at_picked P low high floating fault l h f e Unknown = f
at_picked P low high floating fault l h f e Error = e

-- planes that hold what a function gives to each bit of a word
pub stored_map : {width a b : ℕ} {word : List Bit} → Stores width a b word → (f : Bit → Bit) (first second : ℕ) → first < 2 ^ width → second < 2 ^ width → ((i : ℕ) → i < width → bit_in first second i ≡ f (bit_in a b i)) → Stores width first second (map f word)
stored_map {width} {a} {b} {word} own f first second low high bits =
    stored_from_bits width first second (map f word)
    record { in_range = own.stored.in_range; first = low; second = high }
    (length-map word f ∙ stored_width own)
    (λ i inside.
    let bit : get_or word i Zero ≡ bit_in a b i = stored_bit own i Zero inside in
    let long : i < length word = omega (arith, inside, stored_width own) in
    rw (get_or-map f word i Zero Zero long, bit) (bits i inside))

-- a stored word of one bit over and over, at its width
pub stored_one_bit : {own a b : ℕ} {word : List Bit} → Stores own a b word → (width : ℕ) (bit : Bit) → word ≡ replicate width bit → Stores width a b (replicate width bit)
stored_one_bit {own} {a} {b} {word} stores width bit is =
    let wide : own ≡ width = omega (arith, stored_width stores, ap length is, length-replicate width bit) in
    subst (λ w. Stores w a b (replicate width bit)) wide (subst (λ w. Stores own a b w) is stores)

ones_of_digit : (n : ℕ) → n < 2 → count_ones n ≡ n
unfolding count_ones
ones_of_digit zero h = refl
ones_of_digit (suc zero) h = refl
ones_of_digit (suc (suc n)) h = absurd (omega (arith, h))

pub one_bit_at : {width a b : ℕ} {bit : Bit} → Stores width a b (replicate width bit) → (i : ℕ) → i < width → bit_in a b i ≡ bit
one_bit_at {width} {a} {b} {bit} stores i inside = sym (stored_bit stores i Zero inside) ∙ get_or-replicate width i bit Zero inside

-- the number of a plane's ones is that of a word's, where its ones stand at the word's
pub ones_of_plane : (plane : ℕ) (word : List Bit) → plane < 2 ^ length word → ((i : ℕ) → i < length word → bit_at plane i ≡ cond (same_bit One (get_or word i Zero)) 1 0) → count_ones plane ≡ count_by (same_bit One) word
unfolding count_ones
ones_of_plane plane [] small ones =
    let none : plane ≡ 0 = omega (arith, small) in
    ap count_ones none
ones_of_plane plane (bit ∷ rest) small ones =
    let split : plane ≡ plane / 2 * 2 ^ 1 + plane % 2 = omega arith in
    let parts : count_ones (plane / 2 * 2 ^ 1 + plane % 2) ≡ count_ones (plane / 2) + count_ones (plane % 2) = ones_cat 1 (plane / 2) (plane % 2) (omega arith) in
    let lowest : plane % 2 ≡ cond (same_bit One bit) 1 0 = sym (bit_at_lowest plane) ∙ ones 0 (omega arith) in
    let few : count_ones (plane % 2) ≡ plane % 2 = ones_of_digit (plane % 2) (omega arith) in
    let above : count_ones (plane / 2) ≡ count_by (same_bit One) rest = ones_of_plane (plane / 2) rest
    (omega (arith, small, pow-succ' 2 (length rest)))
    (λ i inside. sym (bit_at-suc plane i) ∙ ones (suc i) (omega (arith, inside))) in
    ap count_ones split ∙ parts ∙ omega (arith, few, lowest, above, sum_by-cons (λ (b : Bit). cond (same_bit One b) 1 0) bit rest)

one_digit : (p q : ℕ) → p < 2 → q < 2 → min p (1 - q) ≡ cond (same_bit One (bit_of_digits p q)) 1 0
one_digit zero zero h k = refl
one_digit (suc zero) zero h k = refl
one_digit zero (suc zero) h k = refl
one_digit (suc zero) (suc zero) h k = refl
one_digit (suc (suc p)) q h k = absurd (omega (arith, h))
one_digit zero (suc (suc q)) h k = absurd (omega (arith, k))
one_digit (suc zero) (suc (suc q)) h k = absurd (omega (arith, k))

-- the number of a word's ones is that of the places with a 1 in the first plane alone
pub stored_ones : {width a b : ℕ} {word : List Bit} → Stores width a b word → count_ones (bit_and a (bit_not w64 b)) ≡ count_by (same_bit One) word
stored_ones {width} {a} {b} {word} own =
    ones_of_plane (bit_and a (bit_not w64 b)) word
    (rw (stored_width own) (and_lt width a (bit_not w64 b) own.stored.first))
    (λ i inside.
    let below : i < width = omega (arith, inside, stored_width own) in
    rw (stored_bit own i Zero below, and_not_at a b i (stored_below own.stored).1 (omega (arith, below, own.stored.in_range.1)))
    (one_digit (bit_at a i) (bit_at b i) (bit_at-lt a i) (bit_at-lt b i)))

repeated : (digit width i : ℕ) → digit < 2 → i < width → bit_at (digit * (2 ^ width - 1)) i ≡ digit
repeated zero width i h inside = ap (λ n. bit_at n i) (omega arith) ∙ bit_at-zero i
repeated (suc zero) width i h inside = ap (λ n. bit_at n i) (omega arith) ∙ bit_at_ones width i inside
repeated (suc (suc digit)) width i h inside = absurd (omega (arith, h))

repeated_below : (digit width : ℕ) → digit < 2 → digit * (2 ^ width - 1) < 2 ^ width
repeated_below zero width h = omega (arith, pow_pos width)
repeated_below (suc zero) width h = omega (arith, pow_pos width)
repeated_below (suc (suc digit)) width h = absurd (omega (arith, h))

-- the digits of a bit
pub digits_of_bit : (bit : Bit) → (first_digit bit < 2) × (second_digit bit < 2) × (bit_of_digits (first_digit bit) (second_digit bit) ≡ bit)
digits_of_bit Zero = (omega arith, omega arith, refl)
digits_of_bit One = (omega arith, omega arith, refl)
digits_of_bit Unknown = (omega arith, omega arith, refl)
digits_of_bit Error = (omega arith, omega arith, refl)

-- the planes of a word of one bit
pub stored_fill : (width : ℕ) (bit : Bit) → IsWidth width → Stores width (first_digit bit * (2 ^ width - 1)) (second_digit bit * (2 ^ width - 1)) (replicate width bit)
stored_fill width bit in_range =
    let digits = digits_of_bit bit in
    stored_from_bits width (first_digit bit * (2 ^ width - 1)) (second_digit bit * (2 ^ width - 1)) (replicate width bit)
    record { in_range = in_range; first = repeated_below (first_digit bit) width digits.0; second = repeated_below (second_digit bit) width digits.1 }
    (length-replicate width bit)
    (λ i inside. rw (repeated (first_digit bit) width i digits.0 inside, repeated (second_digit bit) width i digits.1 inside, get_or-replicate width i bit Zero inside) digits.2)

masked : (n width i : ℕ) → i < width → bit_at (bit_and n (2 ^ width - 1)) i ≡ bit_at n i
masked n width i inside =
    let mask : bit_at (bit_and n (2 ^ width - 1)) i ≡ min (bit_at n i) (bit_at (2 ^ width - 1) i) = bit_at_and n (2 ^ width - 1) i in
    omega (arith, mask, bit_at_ones width i inside, bit_at-lt n i)

masked_below : (n width : ℕ) → bit_and n (2 ^ width - 1) < 2 ^ width
masked_below n width = omega (arith, and_le_r n (2 ^ width - 1), pow_pos width)

defined_bit : (digit : ℕ) → digit < 2 → bit_of_digits digit 0 ≡ cond (eqb digit 1) One Zero
defined_bit zero h = refl
defined_bit (suc zero) h = refl
defined_bit (suc (suc digit)) h = absurd (omega (arith, h))

bit_in_number : (n i : ℕ) → bit_in n 0 i ≡ bit_of_number n i
bit_in_number n i = rw (bit_at-zero i) (defined_bit (bit_at n i) (bit_at-lt n i))

-- the planes of a number's word
pub stored_number : (width n : ℕ) → IsWidth width → Stores width (bit_and n (2 ^ width - 1)) 0 (word_of_number width n)
stored_number width n in_range =
    stored_from_bits width (bit_and n (2 ^ width - 1)) 0 (word_of_number width n)
    record { in_range = in_range; first = masked_below n width; second = pow_pos width }
    (length-word_of_number width n)
    (λ i inside. rw (masked n width i inside, get_or-word_of_number width n i Zero inside) (bit_in_number n i))

shifted : (n low i : ℕ) → bit_at (n / 2 ^ low) i ≡ bit_at n (low + i)
shifted n low i = ap (λ m. m % 2) (shr-shr n low i)

-- the planes of a part of a word
pub stored_cut : {own a b : ℕ} {word : List Bit} → Stores own a b word → (low width : ℕ) → 1 ≤ width → low + width ≤ length word → Stores width (bit_and (a / 2 ^ low) (2 ^ width - 1)) (bit_and (b / 2 ^ low) (2 ^ width - 1)) (take width (drop low word))
stored_cut {own} {a} {b} {word} whole low width some inside =
    let last : low + width ≤ own = omega (arith, inside, stored_width whole) in
    let rest : length (drop low word) ≡ length word - low = length-drop low word in
    stored_from_bits width (bit_and (a / 2 ^ low) (2 ^ width - 1)) (bit_and (b / 2 ^ low) (2 ^ width - 1)) (take width (drop low word))
    record { in_range = (some, omega (arith, last, whole.stored.in_range.1)); first = masked_below (a / 2 ^ low) width; second = masked_below (b / 2 ^ low) width }
    (length-take-le width (drop low word) (omega (arith, rest, inside)))
    (λ i below.
    let place : low + i < own = omega (arith, below, last) in
    let bit : get_or word (low + i) Zero ≡ bit_in a b (low + i) = stored_bit whole (low + i) Zero place in
    rw (masked (a / 2 ^ low) width i below, masked (b / 2 ^ low) width i below, shifted a low i, shifted b low i, get_or-take width (drop low word) i Zero below, get_or-drop low word i Zero)
    (sym bit))

glued : (high low top width : ℕ) → high < 2 ^ top → low < 2 ^ width → width + top ≤ 64 → bit_or (high * 2 ^ width % 2 ^ 64) low ≡ high * 2 ^ width + low
glued high low top width above below room =
    let whole : high * 2 ^ width % 2 ^ 64 ≡ high * 2 ^ width = shl_whole high top width 64 above (omega (arith, room)) in
    ap (λ n. bit_or n low) whole ∙ or_shifted high width low below

glued_below : (high low top width : ℕ) → high < 2 ^ top → low < 2 ^ width → high * 2 ^ width + low < 2 ^ (width + top)
glued_below high low top width above below =
    rw (pow-add 2 width top) (mul-add-lt high (2 ^ width) low (2 ^ top) above below)

-- the planes of two words, one above the other
pub stored_glue : {width a b top c d : ℕ} {low high : List Bit} → Stores width a b low → Stores top c d high → length low + length high ≤ 64 → Stores (width + top) (bit_or (c * 2 ^ width % 2 ^ 64) a) (bit_or (d * 2 ^ width % 2 ^ 64) b) (low ++ high)
stored_glue {width} {a} {b} {top} {c} {d} {low} {high} own above room =
    let fits : width + top ≤ 64 = omega (arith, room, stored_width own, stored_width above) in
    let first = glued c a top width above.stored.first own.stored.first fits in
    let second = glued d b top width above.stored.second own.stored.second fits in
    rw (first, second)
    (stored_from_bits (width + top) (c * 2 ^ width + a) (d * 2 ^ width + b) (low ++ high)
    record {
      in_range = (omega (arith, own.stored.in_range.0), fits);
      first = glued_below c a top width above.stored.first own.stored.first;
      second = glued_below d b top width above.stored.second own.stored.second;
    }
    (omega (arith, length-append low high, stored_width own, stored_width above))
    (λ i inside. elim (cases_lt i width) [
      | inl below ↦
          let place : i < length low = omega (arith, below, stored_width own) in
          let bit : get_or low i Zero ≡ bit_in a b i = stored_bit own i Zero below in
          rw (bit_at_cat_low c width a i below, bit_at_cat_low d width b i below, get_or-append low high Zero i place) (sym bit)
      | inr past ↦
          let bit : get_or high (i - width) Zero ≡ bit_in c d (i - width) = stored_bit above (i - width) Zero (omega (arith, inside, past)) in
          rw (bit_at_cat_high c width a i own.stored.first past, bit_at_cat_high d width b i own.stored.second past, get_or-append_right low high width i Zero (stored_width own) past) (sym bit)
    ]))

-- planes that differ from a word's in one place
pub stored_set : {width a b : ℕ} {word : List Bit} → Stores width a b word → (place first second : ℕ) (bit : Bit) → place < length word → first < 2 ^ width → second < 2 ^ width → ((i : ℕ) → i < 64 → bit_at first i ≡ cond (eqb i place) (first_digit bit) (bit_at a i)) → ((i : ℕ) → i < 64 → bit_at second i ≡ cond (eqb i place) (second_digit bit) (bit_at b i)) → Stores width first second (set word place bit)
stored_set {width} {a} {b} {word} own place first second bit inside low high firsts seconds =
    stored_from_bits width first second (set word place bit)
    record { in_range = own.stored.in_range; first = low; second = high }
    (length-set word place bit ∙ stored_width own)
    (λ i below.
    let top : i < 64 = omega (arith, below, own.stored.in_range.1) in
    elim (cases_eq i place) [
      | inl same ↦
          let here : get_or (set word place bit) i Zero ≡ bit = ap (λ j. get_or (set word place bit) j Zero) same ∙ get_or-set_same word place bit Zero inside in
          let yes : eqb i place ≡ true = search (rules, same) in
          rw (firsts i top, seconds i top, yes, here) (digits_of_bit bit).2
      | inr other ↦
          let no : eqb i place ≡ false = search (rules, other) in
          rw (firsts i top, seconds i top, no, get_or-set_other word place i bit Zero other) (sym (stored_bit own i Zero below))
    ])

word_of_low : (width n : ℕ) → IsStored width n 0 → word_of_planes width n 0 ≡ word_of_number width n
word_of_low width n stored =
    (stored_from_bits width n 0 (word_of_number width n) stored (length-word_of_number width n)
    (λ i inside. bit_in_number n i ∙ sym (get_or-word_of_number width n i Zero inside))).word_is

second_of_defined : (p q : ℕ) → p < 2 → q < 2 → (bit_of_digits p q ≡ Zero) ⊎ (bit_of_digits p q ≡ One) → q ≡ 0
second_of_defined p q low high told =
    let digit : second_digit (bit_of_digits p q) ≡ q = (digits_again p q low high).1 in
    elim told [ inl e ↦ sym digit ∙ ap second_digit e | inr e ↦ sym digit ∙ ap second_digit e ]

-- a defined word has nothing in its second plane
pub second_is_zero : {width a b : ℕ} {word : List Bit} → Stores width a b word → IsDefined word → b ≡ 0
second_is_zero {width} {a} {b} {word} own told =
    same_from_bits_below width b 0 own.stored.second (pow_pos width)
    (λ i inside.
    let here = told i Zero (omega (arith, inside, stored_width own)) in
    let bit : get_or word i Zero ≡ bit_in a b i = stored_bit own i Zero inside in
    second_of_defined (bit_at a i) (bit_at b i) (bit_at-lt a i) (bit_at-lt b i) (rw bit at here) ∙ sym (bit_at-zero i))

-- a word with nothing in its second plane is that of the number in its first plane
pub word_of_first : {width a b : ℕ} {word : List Bit} → Stores width a b word → b ≡ 0 → word ≡ word_of_number width a
word_of_first {width} {a} {b} {word} own none =
    let stored : IsStored width a 0 = subst (λ n. IsStored width a n) none own.stored in
    sym own.word_is ∙ ap (λ n. word_of_planes width a n) none ∙ word_of_low width a stored

-- a word is defined exactly if there is nothing in its second plane
pub defined_by_second : {width a b : ℕ} {word : List Bit} → Stores width a b word → Decides (eqb b 0) (IsDefined word)
defined_by_second {width} {a} {b} {word} own = (
  λ yes. let none : b ≡ 0 = search (rules, yes) in rw (word_of_first own none) (IsDefined-word_of_number width a),
  λ told. let none : b ≡ 0 = second_is_zero own told in rw none refl,
)

-- the number of a defined word is its first plane
pub number_is_first : {width a b : ℕ} {word : List Bit} → Stores width a b word → IsDefined word → a ≡ number_of word
number_is_first {width} {a} {b} {word} own told =
    let word_is : word ≡ word_of_number width a = word_of_first own (second_is_zero own told) in
    let whole : a % 2 ^ width ≡ a = mod-eq_of_lt own.stored.first in
    sym (ap number_of word_is ∙ number_of-word_of_number width a ∙ whole)

-- words are the same exactly if what stores them is
pub same_planes : {width a b other c d : ℕ} {u v : List Bit} → Stores width a b u → Stores other c d v → Decides (eqb width other && eqb a c && eqb b d) (u ≡ v)
same_planes {width} {a} {b} {other} {c} {d} {u} {v} own others = (
  λ yes.
      let planes = both (eqb width other && eqb a c) (eqb b d) yes in
      let parts = both (eqb width other) (eqb a c) planes.0 in
      let width_same : width ≡ other = search (rules, parts.0) in
      let first_same : a ≡ c = search (rules, parts.1) in
      let second_same : b ≡ d = search (rules, planes.1) in
      let word : word_of_planes width a b ≡ word_of_planes other c d = rw (width_same, first_same, second_same) refl in
      sym own.word_is ∙ word ∙ others.word_is,
  λ same.
      let word : word_of_planes width a b ≡ word_of_planes other c d = own.word_is ∙ same ∙ sym others.word_is in
      let width_same : width ≡ other = omega (arith, ap length word, length-word_of_planes width a b, length-word_of_planes other c d) in
      let first_same : a ≡ c = sym (first_plane width a b own.stored.first) ∙ ap (plane_of first_digit) word ∙ first_plane other c d others.stored.first in
      let second_same : b ≡ d = sym (second_plane width a b own.stored.second) ∙ ap (plane_of second_digit) word ∙ second_plane other c d others.stored.second in
      let one : eqb width other ≡ true = search (rules, width_same) in
      let two : eqb a c ≡ true = search (rules, first_same) in
      let three : eqb b d ≡ true = search (rules, second_same) in
      rw (one, two, three) refl,
)

-- a plane in which the digit at one place is cleared and another put there
abbrev pub set_digit : ℕ → ℕ → ℕ → ℕ
set_digit plane place digit = bit_or (bit_and plane (bit_not w64 (1 * 2 ^ place % 2 ^ 64))) (digit * 2 ^ place % 2 ^ 64)

digit_set_zero : (plane place i : ℕ) → place < 64 → i < 64 → bit_at (set_digit plane place 0) i ≡ cond (eqb i place) 0 (bit_at plane i)
digit_set_zero plane place i inside below =
    let none : 0 * 2 ^ place % 2 ^ 64 ≡ 0 = omega arith in
    let kept = bit_and plane (bit_not w64 (1 * 2 ^ place % 2 ^ 64)) in
    let cleared : bit_at (bit_or kept 0) i ≡ max (bit_at kept i) (bit_at 0 i) = bit_at_or kept 0 i in
    rw none
    (elim (cases_eq i place) [
      | inl same ↦
          let here : bit_at kept place ≡ 0 = bit_at_clear_same w64 plane place inside in
          let there : bit_at kept i ≡ 0 = ap (λ j. bit_at kept j) same ∙ here in
          let yes : eqb i place ≡ true = search (rules, same) in
          rw yes (omega (arith, cleared, there, bit_at-zero i))
      | inr other ↦
          let there : bit_at kept i ≡ bit_at plane i = bit_at_clear_other w64 plane place inside i below other in
          let no : eqb i place ≡ false = search (rules, other) in
          rw no (omega (arith, cleared, there, bit_at-zero i))
    ])

digit_set_one : (plane place i : ℕ) → place < 64 → i < 64 → bit_at (set_digit plane place 1) i ≡ cond (eqb i place) 1 (bit_at plane i)
digit_set_one plane place i inside below =
    let kept = bit_and plane (bit_not w64 (1 * 2 ^ place % 2 ^ 64)) in
    elim (cases_eq i place) [
      | inl same ↦
          let here : bit_at (set_digit plane place 1) place ≡ 1 = bit_at_set_same w64 kept place inside in
          let yes : eqb i place ≡ true = search (rules, same) in
          rw yes (ap (λ j. bit_at (set_digit plane place 1) j) same ∙ here)
      | inr other ↦
          let no : eqb i place ≡ false = search (rules, other) in
          rw no (bit_at_set_other w64 kept place inside i other ∙ bit_at_clear_other w64 plane place inside i below other)
    ]

-- such a plane has that digit there and the others as they were
pub digit_set : (plane place digit i : ℕ) → place < 64 → digit < 2 → i < 64 → bit_at (set_digit plane place digit) i ≡ cond (eqb i place) digit (bit_at plane i)
digit_set plane place zero i inside h below = digit_set_zero plane place i inside below
digit_set plane place (suc zero) i inside h below = digit_set_one plane place i inside below
digit_set plane place (suc (suc digit)) i inside h below = absurd (omega (arith, h))

digit_below : (digit place width : ℕ) → digit < 2 → place < width → digit * 2 ^ place < 2 ^ width
digit_below zero place width h inside = omega (arith, pow_pos width)
digit_below (suc zero) place width h inside = omega (arith, pow_below place width inside)
digit_below (suc (suc digit)) place width h inside = absurd (omega (arith, h))

-- and it does not pass a width
pub digit_set_below : (plane place digit width : ℕ) → digit < 2 → place < width → plane < 2 ^ width → set_digit plane place digit < 2 ^ width
digit_set_below plane place digit width h inside small =
    or_lt width (bit_and plane (bit_not w64 (1 * 2 ^ place % 2 ^ 64))) (digit * 2 ^ place % 2 ^ 64)
    (omega (arith, and_le_l plane (bit_not w64 (1 * 2 ^ place % 2 ^ 64)), small))
    (omega (arith, digit_below digit place width h inside))

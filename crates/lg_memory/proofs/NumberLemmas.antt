-- Words and their numbers, as counters and addresses use them.
use Rattle.std.proofs.Common.{◌≡◌, ℕ, zero, suc, ◌+◌, ◌-◌, ◌*◌, ◌/◌, ◌%◌, ◌^◌, ◌<◌, ◌≤◌, Bool, true, false, ◌⊎◌, inl, inr, List, [], ◌∷◌, replicate, sym, refl, ap, ◌∙◌, arith}
use Rattle.std.specs.Bool.{Decides}
use Rattle.std.specs.List.{list_all}
use Rattle.std.specs.Prelude.{◌&&◌}
use Rattle.std.specs.Int.{bit_at}
use Rattle.std.proofs.Math.Nat.{pow-succ', mod-mod, mul-add-mod_self_right}
use Rattle.std.proofs.lemmas.Nat.{pow_pos, pow-add, mod-pow-add, div-mul-add}
use Rattle.std.proofs.lemmas.Nat.Bits.{bit_at_lowest}
use Rattle.std.proofs.lemmas.List.Elements.{All-nil, All-cons, All-head, All-tail}
use Rattle.lg_value.specs.declared.bit.Bit.{Bit}
use Rattle.lg_value.specs.declared.bit.Bit.TheVariants.{Zero, One, Unknown, Error}
use Rattle.lg_value.specs.Bit.{is_defined_bit}
use Rattle.lg_value.specs.Word.{IsDefined, word_of_number}
use Rattle.lg_value.proofs.WordLemmas.{length-word_of_number, number_of-word_of_number, word_of_number-number_of, IsDefined-word_of_number, word_of_number-suc, word_of_number_nil}

both : (p q : Bool) → (p && q) ≡ true → (p ≡ true) × (q ≡ true)
both true true h = (refl, refl)
both true false h = (refl, h)
both false q h = absurd (cc h)

-- a word is the word of the number of its low digits
pub word_of_number-mod : (width n : ℕ) → word_of_number width (n % 2 ^ width) ≡ word_of_number width n
word_of_number-mod width n =
    let again = word_of_number-number_of (word_of_number width n) (IsDefined-word_of_number width n) in
    rw (length-word_of_number width n, number_of-word_of_number width n) at again

-- numbers with the same low digits have the same word
pub word_of_number-same : (width m n : ℕ) → m % 2 ^ width ≡ n % 2 ^ width → word_of_number width m ≡ word_of_number width n
word_of_number-same width m n same =
    sym (word_of_number-mod width m) ∙ ap (word_of_number width) same ∙ word_of_number-mod width n

low_of_more : (n j k : ℕ) → n % 2 ^ (j + k) % 2 ^ k ≡ n % 2 ^ k
low_of_more n j k =
    rw (mod-pow-add n j k, mul-add-mod_self_right (n / 2 ^ k % 2 ^ j) (2 ^ k) (n % 2 ^ k)) (mod-mod n (2 ^ k))

-- a number that wraps past 64 bits has the same word in a width of at most 64
pub word_of_number-wrapped : (width n : ℕ) → width ≤ 64 → word_of_number width (n % 2 ^ 64) ≡ word_of_number width n
word_of_number-wrapped width n short =
    let whole : 64 - width + width ≡ 64 = omega arith in
    let low : n % 2 ^ (64 - width + width) % 2 ^ width ≡ n % 2 ^ width = low_of_more n (64 - width) width in
    word_of_number-same width (n % 2 ^ 64) n (rw whole at low)

half_of_last : (p : ℕ) → 0 < p → (2 * p - 1) / 2 ≡ p - 1
half_of_last p positive = omega arith

odd_last : (p : ℕ) → 0 < p → (2 * p - 1) % 2 ≡ 1
odd_last p positive = omega arith

-- the last number of a width has a 1 in every bit
pub word_of_number_last : (width : ℕ) → word_of_number width (2 ^ width - 1) ≡ replicate width One
word_of_number_last zero = word_of_number_nil (2 ^ 0 - 1)
word_of_number_last (suc width) =
    let twice : 2 ^ suc width ≡ 2 * 2 ^ width = pow-succ' 2 width in
    let lowest : bit_at (2 ^ suc width - 1) 0 ≡ 1 = bit_at_lowest (2 ^ suc width - 1) ∙ rw twice (odd_last (2 ^ width) (pow_pos width)) in
    let half : (2 ^ suc width - 1) / 2 ≡ 2 ^ width - 1 = rw twice (half_of_last (2 ^ width) (pow_pos width)) in
    rw (word_of_number-suc width (2 ^ suc width - 1), lowest, half, word_of_number_last width) refl

pub defined_is : (b : Bit) → is_defined_bit b ≡ true → (b ≡ Zero) ⊎ (b ≡ One)
defined_is Zero h = inl refl
defined_is One h = inr refl
defined_is Unknown h = absurd (cc h)
defined_is Error h = absurd (cc h)

pub is_defined : (b : Bit) → (b ≡ Zero) ⊎ (b ≡ One) → is_defined_bit b ≡ true
is_defined Zero h = refl
is_defined One h = refl
is_defined Unknown h = elim h [ inl e ↦ cc | inr e ↦ cc ]
is_defined Error h = elim h [ inl e ↦ cc | inr e ↦ cc ]

-- a word is defined where the test of each of its bits says so
pub IsDefined-from_test : (word : List Bit) → list_all is_defined_bit word ≡ true → IsDefined word
IsDefined-from_test [] h = All-nil (λ bit. (bit ≡ Zero) ⊎ (bit ≡ One))
IsDefined-from_test (b ∷ rest) h =
    let parts : (is_defined_bit b ≡ true) × (list_all is_defined_bit rest ≡ true) = both (is_defined_bit b) (list_all is_defined_bit rest) h in
    All-cons (λ bit. (bit ≡ Zero) ⊎ (bit ≡ One)) b rest (defined_is b parts.0) (IsDefined-from_test rest parts.1)

pub test-IsDefined : (word : List Bit) → IsDefined word → list_all is_defined_bit word ≡ true
test-IsDefined [] h = refl
test-IsDefined (b ∷ rest) h =
    let low = All-head (λ x. (x ≡ Zero) ⊎ (x ≡ One)) b rest h in
    let high = All-tail (λ x. (x ≡ Zero) ⊎ (x ≡ One)) b rest h in
    rw (is_defined b low, test-IsDefined rest high) refl

pub Decides-IsDefined : (word : List Bit) → Decides (list_all is_defined_bit word) (IsDefined word)
Decides-IsDefined word = (IsDefined-from_test word, test-IsDefined word)

one_less : (m q : ℕ) → (m + 1) * q ≡ m * q + q
one_less m q = grind arith

-- the greatest number of a width, as the greatest of 64 bits cut to it
pub greatest_of_width : (width : ℕ) → width ≤ 64 → 18446744073709551615 / 2 ^ (64 - width) + 1 ≡ 2 ^ width
greatest_of_width width short =
    let p = 2 ^ width in
    let q = 2 ^ (64 - width) in
    let whole : 2 ^ (width + (64 - width)) ≡ 2 ^ width * 2 ^ (64 - width) = pow-add 2 width (64 - width) in
    let all : width + (64 - width) ≡ 64 = omega arith in
    let product : 2 ^ 64 ≡ 2 ^ width * 2 ^ (64 - width) = rw all at whole in
    let back : 2 ^ width - 1 + 1 ≡ 2 ^ width = omega (arith, pow_pos width) in
    let less : 2 ^ width * 2 ^ (64 - width) ≡ (2 ^ width - 1) * 2 ^ (64 - width) + 2 ^ (64 - width) = rw back at (one_less (2 ^ width - 1) (2 ^ (64 - width))) in
    let top : 18446744073709551615 ≡ (2 ^ width - 1) * 2 ^ (64 - width) + (2 ^ (64 - width) - 1) = omega (arith, product, less, pow_pos (64 - width)) in
    let cut : ((2 ^ width - 1) * 2 ^ (64 - width) + (2 ^ (64 - width) - 1)) / 2 ^ (64 - width) ≡ 2 ^ width - 1 =
    div-mul-add (2 ^ width - 1) (2 ^ (64 - width)) (2 ^ (64 - width) - 1) (omega (arith, pow_pos (64 - width))) in
    rw top (omega (arith, cut, pow_pos width))

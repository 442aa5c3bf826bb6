-- Words and the numbers that they stand for.
use Rattle.std.proofs.Common.{◌≡◌, ℕ, zero, suc, ◌+◌, ◌*◌, ◌/◌, ◌%◌, ◌^◌, ◌<◌, ◌≤◌, true, false, cond, eqb, ◌⊎◌, List, [], ◌∷◌, ◌++◌, length, get_or, take, map, replicate, sym, refl, ap, ◌∙◌, inl, inr, arith, length-take-le}
use Rattle.std.specs.Bool.{Decides}
use Rattle.std.specs.List.{All, AllByRecursion, fold, enumerate_from, range_with_len, sum_by}
use Rattle.std.specs.Int.{bit_at}
use Rattle.std.proofs.Math.Nat.{pow-succ', mul_comm}
use Rattle.std.proofs.Math.Arith.{mod-mul}
use Rattle.std.proofs.lemmas.Nat.{pow_pos}
use Rattle.std.proofs.lemmas.List.{take_more, ext_get_or, get_or-map, length-map, get_or-replicate, length-replicate}
use Rattle.std.proofs.lemmas.List.Elements.{recursion_from_All, All-head, All-tail, All-map}
use Rattle.std.proofs.lemmas.List.FromFn.{get_or-map-range_with_len, length-map-range_with_len, map-range_with_len_more}
use Rattle.std.proofs.lemmas.List.Sums.{sum_by-cons}
use Rattle.std.proofs.lemmas.Nat.Bits.{bit_at_lowest, bit_at-suc, bit_at-lt}
use Rattle.std.proofs.lemmas.Slice.Eq.{slice_eq-Decides}
use Rattle.lg_value.specs.declared.bit.Bit.{Bit}
use Rattle.lg_value.specs.declared.bit.Bit.TheVariants.{Zero, One, Unknown, Error}
use Rattle.lg_value.specs.Bit.{join_bits, digit_of}
use Rattle.lg_value.specs.Word.{IsDefined, same_word, bit_of_number, each_pair, join_words, number_of, word_of_number}
use Rattle.lg_value.specs.Drivers.{join_of_drivers}
use Rattle.lg_value.proofs.BitLemmas.{Decides-same_bit}
use Rattle.lg_value.proofs.DriverLemmas.{joined_in_turn_lem}

-- the sum of a word whose lowest bit stands at a place
weighed : ℕ → List Bit → ℕ
weighed place word = sum_by (λ p. digit_of p.1 * 2 ^ p.0) (enumerate_from place word)

weighed-cons : (place : ℕ) (b : Bit) (rest : List Bit) → weighed place (b ∷ rest) ≡ digit_of b * 2 ^ place + weighed (place + 1) rest
unfolding weighed
weighed-cons place b rest = sum_by-cons (λ p. digit_of p.1 * 2 ^ p.0) (place, b) (enumerate_from (place + 1) rest)

weighed_nil : (place : ℕ) → weighed place [] ≡ 0
unfolding weighed
weighed_nil place = refl

twice_power : (place : ℕ) → 2 ^ (place + 1) ≡ 2 * 2 ^ place
twice_power place = grind (arith, pow-succ' 2 place)

higher : (d p a b : ℕ) → b ≡ 2 * a → d * (2 * p) + b ≡ 2 * (d * p + a)
higher d p a b h = grind arith

weighed_higher : (place : ℕ) (word : List Bit) → weighed (place + 1) word ≡ 2 * weighed place word
weighed_higher place [] = rw (weighed_nil (place + 1), weighed_nil place) refl
weighed_higher place (b ∷ rest) =
    rw (weighed-cons (place + 1) b rest, weighed-cons place b rest, twice_power place)
    (higher (digit_of b) (2 ^ place) (weighed (place + 1) rest) (weighed (place + 1 + 1) rest) (weighed_higher (place + 1) rest))

number_of-weighed : (word : List Bit) → number_of word ≡ weighed 0 word
unfolding number_of weighed
number_of-weighed word = refl

pub number_of_nil : number_of [] ≡ 0
number_of_nil = number_of-weighed [] ∙ weighed_nil 0

-- bit 0 is the number's lowest digit
pub number_of-cons : (b : Bit) (rest : List Bit) → number_of (b ∷ rest) ≡ digit_of b + 2 * number_of rest
number_of-cons b rest =
    let first : weighed 0 (b ∷ rest) ≡ digit_of b * 1 + weighed 1 rest = weighed-cons 0 b rest in
    let above : weighed 1 rest ≡ 2 * weighed 0 rest = weighed_higher 0 rest in
    rw (number_of-weighed (b ∷ rest), number_of-weighed rest) (omega arith)

digit_of-le : (b : Bit) → digit_of b ≤ 1
digit_of-le b = elim b as (λ x. digit_of x ≤ 1) [ Zero ↦ omega arith | One ↦ omega arith | Unknown ↦ omega arith | Error ↦ omega arith ]

-- the number fits the width
pub number_of-lt : (word : List Bit) → number_of word < 2 ^ length word
number_of-lt [] = rw number_of_nil (omega arith)
number_of-lt (b ∷ rest) =
    rw (number_of-cons b rest, pow-succ' 2 (length rest)) (omega (arith, digit_of-le b, number_of-lt rest))

regroup : (d p m n : ℕ) → d + 2 * (m + p * n) ≡ d + 2 * m + 2 * p * n
regroup d p m n = grind arith

-- the higher part of a word counts times two to the lower part's width
pub number_of-append : (low high : List Bit) → number_of (low ++ high) ≡ number_of low + 2 ^ length low * number_of high
number_of-append [] high = rw number_of_nil (omega arith)
number_of-append (b ∷ rest) high =
    rw (number_of-cons b (rest ++ high), number_of-cons b rest, number_of-append rest high, pow-succ' 2 (length rest))
    (regroup (digit_of b) (2 ^ length rest) (number_of rest) (number_of high))

pub number_of_one : (b : Bit) → number_of (b ∷ []) ≡ digit_of b
number_of_one b = rw (number_of-cons b [], number_of_nil) (omega arith)

-- one more bit, as at a step of a loop
pub number_of_more : (word : List Bit) (i : ℕ) (d : Bit) → i < length word → number_of (take (i + 1) word) ≡ number_of (take i word) + digit_of (get_or word i d) * 2 ^ i
number_of_more word i d inside =
    let short : length (take i word) ≡ i = length-take-le i word (omega arith) in
    rw (take_more word i d inside, number_of-append (take i word) (get_or word i d ∷ []), number_of_one (get_or word i d), short)
    (grind arith)

pub length-word_of_number : (width n : ℕ) → length (word_of_number width n) ≡ width
unfolding word_of_number
length-word_of_number width n = length-map-range_with_len (bit_of_number n) 0 width

-- one more place, as at a step of a loop
pub word_of_number_more : (width n : ℕ) → word_of_number (width + 1) n ≡ word_of_number width n ++ bit_of_number n width ∷ []
unfolding word_of_number
word_of_number_more width n = map-range_with_len_more (bit_of_number n) 0 width width (omega arith)

bits_of_half : (n from count : ℕ) → map (bit_of_number n) (range_with_len (from + 1) count) ≡ map (bit_of_number (n / 2)) (range_with_len from count)
bits_of_half n from zero = refl
bits_of_half n from (suc count) =
    let same : bit_at n (from + 1) ≡ bit_at (n / 2) from = grind (arith, bit_at-suc n from) in
    rw (same, bits_of_half n (from + 1) count) refl

pub word_of_number-suc : (width n : ℕ) → word_of_number (suc width) n ≡ bit_of_number n 0 ∷ word_of_number width (n / 2)
unfolding word_of_number
word_of_number-suc width n = ap (λ x. bit_of_number n 0 ∷ x) (bits_of_half n 0 width)

pub word_of_number_nil : (n : ℕ) → word_of_number 0 n ≡ []
unfolding word_of_number
word_of_number_nil n = refl

digit_of_digit : (m : ℕ) → m < 2 → digit_of (cond (eqb m 1) One Zero) ≡ m
digit_of_digit zero h = refl
digit_of_digit (suc zero) h = refl
digit_of_digit (suc (suc m)) h = absurd (omega (arith, h))

pub digit_of-bit_of_number : (n place : ℕ) → digit_of (bit_of_number n place) ≡ bit_at n place
digit_of-bit_of_number n place = digit_of_digit (bit_at n place) (bit_at-lt n place)

halves : (n m p : ℕ) → 0 < p → m ≡ n / 2 % p → n % 2 + 2 * m ≡ n % (2 * p)
halves n m p positive h =
    let split : n % (p * 2) ≡ (n / 2 % p) * 2 + n % 2 = mod-mul n positive (omega arith) in
    let swapped : n % (2 * p) ≡ n % (p * 2) = ap (λ x. n % x) (mul_comm 2 p) in
    omega arith

-- the word of a number has that number's low digits
pub number_of-word_of_number : (width n : ℕ) → number_of (word_of_number width n) ≡ n % 2 ^ width
number_of-word_of_number zero n = rw (word_of_number_nil n, number_of_nil) (omega arith)
number_of-word_of_number (suc width) n =
    let lowest : digit_of (bit_of_number n 0) ≡ n % 2 = digit_of-bit_of_number n 0 ∙ bit_at_lowest n in
    rw (word_of_number-suc width n, number_of-cons (bit_of_number n 0) (word_of_number width (n / 2)), lowest, pow-succ' 2 width)
    (halves n (number_of (word_of_number width (n / 2))) (2 ^ width) (pow_pos width) (number_of-word_of_number width (n / 2)))

-- the bit at a place of a number's word
pub get_or-word_of_number : (width n i : ℕ) (d : Bit) → i < width → get_or (word_of_number width n) i d ≡ bit_of_number n i
unfolding word_of_number
get_or-word_of_number width n i d inside =
    get_or-map-range_with_len (bit_of_number n) 0 width i i d inside (omega arith)

bit_of_number_is : (n place : ℕ) → (bit_of_number n place ≡ Zero) ⊎ (bit_of_number n place ≡ One)
bit_of_number_is n place =
    elim (eqb (bit_at n place) 1) as (λ b. (cond b One Zero ≡ Zero) ⊎ (cond b One Zero ≡ One)) [ true ↦ inr refl | false ↦ inl refl ]

pub IsDefined-word_of_number : (width n : ℕ) → IsDefined (word_of_number width n)
unfolding word_of_number
IsDefined-word_of_number width n =
    All-map (λ b. (b ≡ Zero) ⊎ (b ≡ One)) (bit_of_number n) (range_with_len 0 width)
    (λ k d _. bit_of_number_is n (get_or (range_with_len 0 width) k d))

bit_again : (b : Bit) (m : ℕ) → (b ≡ Zero) ⊎ (b ≡ One) → bit_of_number (digit_of b + 2 * m) 0 ≡ b
bit_again Zero m h =
    let even : bit_at (0 + 2 * m) 0 ≡ 0 = bit_at_lowest (0 + 2 * m) ∙ omega arith in
    rw even refl
bit_again One m h =
    let odd : bit_at (1 + 2 * m) 0 ≡ 1 = bit_at_lowest (1 + 2 * m) ∙ omega arith in
    rw odd refl
bit_again Unknown m h = elim h [ inl e ↦ cc | inr e ↦ cc ]
bit_again Error m h = elim h [ inl e ↦ cc | inr e ↦ cc ]

half_again : (b : Bit) (m : ℕ) → (digit_of b + 2 * m) / 2 ≡ m
half_again b m = omega (arith, digit_of-le b)

-- a defined word is the word of its number
pub word_of_number-number_of : (word : List Bit) → IsDefined word → word_of_number (length word) (number_of word) ≡ word
word_of_number-number_of [] h = word_of_number_nil (number_of [])
word_of_number-number_of (b ∷ rest) h =
    let low = All-head (λ x. (x ≡ Zero) ⊎ (x ≡ One)) b rest h in
    let high = All-tail (λ x. (x ≡ Zero) ⊎ (x ≡ One)) b rest h in
    rw (number_of-cons b rest, word_of_number-suc (length rest) (digit_of b + 2 * number_of rest), half_again b (number_of rest), bit_again b (number_of rest) low, word_of_number-number_of rest high)
    refl

-- a word that has each bit changed by f
pub mapped_word : (f : Bit → Bit) (word changed : List Bit) → length changed ≡ length word → ((k : ℕ) → k < length word → get_or changed k Unknown ≡ f (get_or word k Unknown)) → changed ≡ map f word
mapped_word f word changed wide bits =
    ext_get_or Unknown changed (map f word) (wide ∙ sym (length-map word f))
    (λ k h. let inside : k < length word = omega (arith, h, wide) in
    bits k inside ∙ sym (get_or-map f word k Unknown Unknown inside))

-- the bit of two words at a place, bit by bit
pub get_or-each_pair : (f : Bit → Bit → Bit) (a b : List Bit) (i : ℕ) (d : Bit) → i < length a → i < length b → get_or (each_pair f a b) i d ≡ f (get_or a i d) (get_or b i d)
get_or-each_pair f [] b i d h k = absurd (omega (arith, h))
get_or-each_pair f (x ∷ a) [] i d h k = absurd (omega (arith, k))
get_or-each_pair f (x ∷ a) (y ∷ b) zero d h k = refl
get_or-each_pair f (x ∷ a) (y ∷ b) (suc i) d h k = get_or-each_pair f a b i d (omega (arith, h)) (omega (arith, k))

pub length-each_pair : (f : Bit → Bit → Bit) (a b : List Bit) → length a ≡ length b → length (each_pair f a b) ≡ length a
length-each_pair f [] b h = refl
length-each_pair f (x ∷ a) [] h = sym h
length-each_pair f (x ∷ a) (y ∷ b) h = ap suc (length-each_pair f a b (omega (arith, h)))

-- the join of words joins each pair
pub join_words-each_pair : (a b : List Bit) → join_words a b ≡ each_pair join_bits a b
join_words-each_pair [] b = refl
join_words-each_pair (x ∷ a) [] = refl
join_words-each_pair (x ∷ a) (y ∷ b) = ap (λ rest. join_bits x y ∷ rest) (join_words-each_pair a b)

-- the bit of the join at a place
pub get_or-join_words : (a b : List Bit) (i : ℕ) (d : Bit) → i < length a → i < length b → get_or (join_words a b) i d ≡ join_bits (get_or a i d) (get_or b i d)
get_or-join_words a b i d h k = ap (λ w. get_or w i d) (join_words-each_pair a b) ∙ get_or-each_pair join_bits a b i d h k

pub length-join_words : (a b : List Bit) → length a ≡ length b → length (join_words a b) ≡ length a
length-join_words a b h = ap length (join_words-each_pair a b) ∙ length-each_pair join_bits a b h

-- the test for being the same word decides it
pub Decides-same_word : (a b : List Bit) → Decides (same_word a b) (a ≡ b)
Decides-same_word a b = slice_eq-Decides Decides-same_bit a b (same_word a b) refl

in_turn_from : (width : ℕ) (start : List Bit) (words : List (List Bit)) (i : ℕ) → length start ≡ width → AllByRecursion (λ word. length word ≡ width) words → i < width → get_or (fold join_words start words) i Unknown ≡ fold join_bits (get_or start i Unknown) (map (λ word. get_or word i Unknown) words)
in_turn_from width start [] i begins same inside = refl
in_turn_from width start (word ∷ words) i begins same inside =
    let first : length word ≡ width = same.0 in
    let joined : length (join_words start word) ≡ width = length-join_words start word (begins ∙ sym first) ∙ begins in
    let bit : get_or (join_words start word) i Unknown ≡ join_bits (get_or start i Unknown) (get_or word i Unknown) =
    get_or-join_words start word i Unknown (omega arith) (omega arith) in
    in_turn_from width (join_words start word) words i joined same.1 inside
    ∙ ap (λ b. fold join_bits b (map (λ w. get_or w i Unknown) words)) bit

-- words of one width that are joined two at a time, from one that floats, give at each place the join
-- of their bits there
pub words_in_turn : (width : ℕ) (words : List (List Bit)) (i : ℕ) → All (λ word. length word ≡ width) words → i < width → get_or (fold join_words (replicate width Unknown) words) i Unknown ≡ join_of_drivers (map (λ word. get_or word i Unknown) words)
words_in_turn width words i same inside =
    let floats : get_or (replicate width Unknown) i Unknown ≡ Unknown = get_or-replicate width i Unknown Unknown inside in
    in_turn_from width (replicate width Unknown) words i (length-replicate width Unknown) (recursion_from_All (λ word. length word ≡ width) words same) inside
    ∙ ap (λ b. fold join_bits b (map (λ word. get_or word i Unknown) words)) floats
    ∙ joined_in_turn_lem (map (λ word. get_or word i Unknown) words)

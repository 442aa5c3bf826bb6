-- Gates that take one attached input after another.
use Rattle.std.proofs.Common.{◌≡◌, ℕ, zero, suc, ◌+◌, ◌%◌, ◌==◌, ◌<◌, ◌≤◌, Bool, true, false, cond, ltb, List, [], ◌∷◌, ◌++◌, Option, None, Some, length, get_or, take, sym, refl, ap, ◌∙◌, subst, arith, rules, ◌≢◌}
use Rattle.std.specs.Prelude.{◌&&◌, replicate}
use Rattle.std.specs.List.{fold}
use Rattle.std.proofs.lemmas.Bool.{lt-ltb}
use Rattle.std.proofs.lemmas.List.{get_or-replicate, length-replicate, take_all}
use Rattle.std.proofs.lemmas.List.Folds.{list_all-append}
use Rattle.std.proofs.lemmas.List.Sums.{fold-append, sum_by_push}
use Rattle.lg_value.specs.declared.bit.Bit.{Bit}
use Rattle.lg_value.specs.declared.bit.Bit.TheVariants.{Zero, One, Unknown, Error}
use Rattle.lg_value.specs.Bit.{same_bit, is_defined_bit, and_bits, or_bits, xor_bits}
use Rattle.lg_value.specs.Word.{each_pair}
use Rattle.lg_value.proofs.WordLemmas.{get_or-each_pair, length-each_pair}
use Rattle.lg_gates.specs.Gate.{some_zero, some_one, all_defined, ones, bit_of, and_bit, or_bit, odd_bit, exactly_one_bit}
use Rattle.lg_gates.proofs.GateLemmas.{seen, seen_none, seen_some, counts}

-- a word that has at each place what f gives, from a first bit, over the attached inputs' bits there
pub record IsFolded (f : Bit → Bit → Bit) (first : Bit) (width : ℕ) (word : List Bit) (inputs : List (Option (List Bit))) : Type 0 where
  pub wide : length word ≡ width
  pub bits : (k : ℕ) → k < width → get_or word k Unknown ≡ fold f first (seen k inputs)

pub folded_start : (f : Bit → Bit → Bit) (first : Bit) (width : ℕ) (word : List Bit) → word ≡ replicate width first → IsFolded f first width word []
folded_start f first width word is = record {
  wide = ap length is ∙ length-replicate width first;
  bits = λ k inside. ap (λ (w : List Bit). get_or w k Unknown) is ∙ get_or-replicate width k first Unknown inside;
}

pub folded_none : {f : Bit → Bit → Bit} {first : Bit} {width : ℕ} {word : List Bit} (inputs : List (Option (List Bit))) (i : ℕ) → i < length inputs → get_or inputs i None ≡ None → IsFolded f first width word (take i inputs) → IsFolded f first width word (take (i + 1) inputs)
folded_none {f} {first} {width} {word} inputs i inside is folded = record {
  wide = folded.wide;
  bits = λ k below. folded.bits k below ∙ ap (fold f first) (sym (seen_none k inputs i inside is));
}

pub folded_some : {f : Bit → Bit → Bit} {first : Bit} {width : ℕ} {word : List Bit} (inputs : List (Option (List Bit))) (i : ℕ) (input next : List Bit) → i < length inputs → get_or inputs i None ≡ Some input → length input ≡ width → next ≡ each_pair f word input → IsFolded f first width word (take i inputs) → IsFolded f first width next (take (i + 1) inputs)
folded_some {f} {first} {width} {word} inputs i input next inside is wide joined folded = record {
  wide = ap length joined ∙ length-each_pair f word input (folded.wide ∙ sym wide) ∙ folded.wide;
  bits = λ k below.
      let before : get_or word k Unknown ≡ fold f first (seen k (take i inputs)) = folded.bits k below in
      let bit : get_or next k Unknown ≡ f (get_or word k Unknown) (get_or input k Unknown) =
      ap (λ (w : List Bit). get_or w k Unknown) joined ∙ get_or-each_pair f word input k Unknown (omega (arith, below, folded.wide)) (omega (arith, below, wide)) in
      let more : fold f first (seen k (take (i + 1) inputs)) ≡ f (fold f first (seen k (take i inputs))) (get_or input k Unknown) =
      ap (fold f first) (seen_some k inputs i input inside is) ∙ fold-append f first (seen k (take i inputs)) (get_or input k Unknown ∷ []) in
      bit ∙ ap (λ (b : Bit). f b (get_or input k Unknown)) before ∙ sym more;
}

pub folded_all : {f : Bit → Bit → Bit} {first : Bit} {width : ℕ} {word : List Bit} (inputs : List (Option (List Bit))) (i : ℕ) → length inputs ≤ i → IsFolded f first width word (take i inputs) → IsFolded f first width word inputs
folded_all {f} {first} {width} {word} inputs i whole folded =
    subst (λ (l : List (Option (List Bit))). IsFolded f first width word l) (take_all i inputs whole) folded

-- AND of bits, one after another, from each bit that may stand so far
and_in_turn : (bits : List Bit) → (fold and_bits Zero bits ≡ Zero) × (fold and_bits Error bits ≡ cond (some_zero bits) Zero Error) × (fold and_bits One bits ≡ and_bit bits)
and_in_turn [] = (refl, refl, refl)
and_in_turn (Zero ∷ bits) = let h = and_in_turn bits in (h.0, h.0, h.0)
and_in_turn (One ∷ bits) = let h = and_in_turn bits in (h.0, h.1, h.2)
and_in_turn (Unknown ∷ bits) = let h = and_in_turn bits in (h.0, h.1, h.1)
and_in_turn (Error ∷ bits) = let h = and_in_turn bits in (h.0, h.1, h.1)

pub fold_and : (bits : List Bit) → fold and_bits One bits ≡ and_bit bits
fold_and bits = (and_in_turn bits).2

-- OR of bits, in the same way
or_in_turn : (bits : List Bit) → (fold or_bits One bits ≡ One) × (fold or_bits Error bits ≡ cond (some_one bits) One Error) × (fold or_bits Zero bits ≡ or_bit bits)
or_in_turn [] = (refl, refl, refl)
or_in_turn (Zero ∷ bits) = let h = or_in_turn bits in (h.0, h.1, h.2)
or_in_turn (One ∷ bits) = let h = or_in_turn bits in (h.0, h.0, h.0)
or_in_turn (Unknown ∷ bits) = let h = or_in_turn bits in (h.0, h.1, h.1)
or_in_turn (Error ∷ bits) = let h = or_in_turn bits in (h.0, h.1, h.1)

pub fold_or : (bits : List Bit) → fold or_bits Zero bits ≡ or_bit bits
fold_or bits = (or_in_turn bits).2

-- where bits are defined and so many are 1 before them, whether the number of those that are 1 is odd
abbrev odd_after : ℕ → List Bit → Bit
odd_after n bits = cond (all_defined bits) (bit_of ((n + ones bits) % 2 == 1)) Error

odd_step : (n m : ℕ) (bits : List Bit) → n % 2 ≡ m % 2 → odd_after n bits ≡ odd_after m bits
odd_step n m bits same =
    let sums : (n + ones bits) % 2 ≡ (m + ones bits) % 2 = omega (arith, same) in
    ap (λ (k : ℕ). cond (all_defined bits) (bit_of (k == 1)) Error) sums

odd_cons : (n : ℕ) (bits : List Bit) → odd_after n (One ∷ bits) ≡ odd_after (n + 1) bits
odd_cons n bits =
    let sums : (n + ones (One ∷ bits)) % 2 ≡ (n + 1 + ones bits) % 2 = omega (arith, counts One bits) in
    ap (λ (k : ℕ). cond (all_defined bits) (bit_of (k == 1)) Error) sums

odd_zero : (n : ℕ) (bits : List Bit) → odd_after n (Zero ∷ bits) ≡ odd_after n bits
odd_zero n bits =
    let sums : (n + ones (Zero ∷ bits)) % 2 ≡ (n + ones bits) % 2 = omega (arith, counts Zero bits) in
    ap (λ (k : ℕ). cond (all_defined bits) (bit_of (k == 1)) Error) sums

-- XOR of bits, in the same way
xor_in_turn : (bits : List Bit) → (fold xor_bits Error bits ≡ Error) × (fold xor_bits Zero bits ≡ odd_after 0 bits) × (fold xor_bits One bits ≡ odd_after 1 bits)
xor_in_turn [] = (refl, refl, refl)
xor_in_turn (Zero ∷ bits) = let h = xor_in_turn bits in (h.0, h.1 ∙ sym (odd_zero 0 bits), h.2 ∙ sym (odd_zero 1 bits))
xor_in_turn (One ∷ bits) =
    let h = xor_in_turn bits in
    (h.0, h.2 ∙ sym (odd_cons 0 bits), h.1 ∙ odd_step 0 2 bits (omega arith) ∙ sym (odd_cons 1 bits))
xor_in_turn (Unknown ∷ bits) = let h = xor_in_turn bits in (h.0, h.0, h.0)
xor_in_turn (Error ∷ bits) = let h = xor_in_turn bits in (h.0, h.0, h.0)

pub fold_xor : (bits : List Bit) → fold xor_bits Zero bits ≡ odd_bit bits
fold_xor bits =
    (xor_in_turn bits).1 ∙ ap (λ (k : ℕ). cond (all_defined bits) (bit_of (k % 2 == 1)) Error) (omega arith)

-- where some bits are defined, whether more than one of them is 1
abbrev pub TellsMany : Bit → List Bit → Type 0
TellsMany many bits = all_defined bits ≡ true → many ≡ bit_of (ltb 1 (ones bits))

both : (p q : Bool) → (p && q) ≡ true → (p ≡ true) × (q ≡ true)
both true true h = (refl, refl)
both true false h = (refl, h)
both false q h = absurd (cc h)

many_zero : (n : ℕ) → or_bits (bit_of (ltb 1 n)) (and_bits (bit_of (n % 2 == 1)) Zero) ≡ bit_of (ltb 1 (n + 0))
many_zero n =
    let same : n + 0 ≡ n = omega arith in
    rw same (elim (n % 2 == 1) as (λ p. or_bits (bit_of (ltb 1 n)) (and_bits (bit_of p) Zero) ≡ bit_of (ltb 1 n)) [
      | true ↦ elim (ltb 1 n) as (λ q. or_bits (bit_of q) Zero ≡ bit_of q) [ true ↦ refl | false ↦ refl ]
      | false ↦ elim (ltb 1 n) as (λ q. or_bits (bit_of q) Zero ≡ bit_of q) [ true ↦ refl | false ↦ refl ]
    ])

many_one : (n : ℕ) → or_bits (bit_of (ltb 1 n)) (and_bits (bit_of (n % 2 == 1)) One) ≡ bit_of (ltb 1 (n + 1))
many_one zero = refl
many_one (suc zero) = refl
many_one (suc (suc n)) =
    let before : ltb 1 (suc (suc n)) ≡ true = lt-ltb 1 (suc (suc n)) (omega arith) in
    let after : ltb 1 (suc (suc n) + 1) ≡ true = lt-ltb 1 (suc (suc n) + 1) (omega arith) in
    rw (before, after) refl

many_step : (n : ℕ) (b : Bit) → is_defined_bit b ≡ true → or_bits (bit_of (ltb 1 n)) (and_bits (bit_of (n % 2 == 1)) b) ≡ bit_of (ltb 1 (n + cond (same_bit One b) 1 0))
many_step n Zero h = many_zero n
many_step n One h = many_one n
many_step n Unknown h = absurd (cc h)
many_step n Error h = absurd (cc h)

-- one bit more: there are many where there were, or where there was an odd number and it is 1
pub many_more : (many b : Bit) (bits : List Bit) → TellsMany many bits → TellsMany (or_bits many (and_bits (fold xor_bits Zero bits) b)) (bits ++ b ∷ [])
many_more many b bits told defined =
    let parts = both (all_defined bits) (all_defined (b ∷ [])) (sym (list_all-append is_defined_bit bits (b ∷ [])) ∙ defined) in
    let own : is_defined_bit b ≡ true = (both (is_defined_bit b) true parts.1).0 in
    let odd : fold xor_bits Zero bits ≡ bit_of (ones bits % 2 == 1) =
    fold_xor bits ∙ ap (λ (d : Bool). cond d (bit_of (ones bits % 2 == 1)) Error) parts.0 in
    rw (told parts.0, odd, sum_by_push (λ (x : Bit). cond (same_bit One x) 1 0) bits b) (many_step (ones bits) b own)

one_unless_many : (n : ℕ) → xor_bits (bit_of (n % 2 == 1)) (and_bits (bit_of (n % 2 == 1)) (bit_of (ltb 1 n))) ≡ bit_of (n == 1)
one_unless_many zero = refl
one_unless_many (suc zero) = refl
one_unless_many (suc (suc n)) =
    let many : ltb 1 (suc (suc n)) ≡ true = lt-ltb 1 (suc (suc n)) (omega arith) in
    let apart : suc (suc n) ≢ 1 = omega arith in
    let other : (suc (suc n) == 1) ≡ false = search (rules, apart) in
    rw (many, other) (elim (suc (suc n) % 2 == 1) as (λ p. xor_bits (bit_of p) (and_bits (bit_of p) One) ≡ Zero) [ true ↦ refl | false ↦ refl ])

-- an odd number of bits is exactly one, unless it is many
pub exactly_one-odd_many : (many : Bit) (bits : List Bit) → TellsMany many bits → xor_bits (fold xor_bits Zero bits) (and_bits (fold xor_bits Zero bits) many) ≡ exactly_one_bit bits
exactly_one-odd_many many bits told =
    rw (fold_xor bits)
    (elim (all_defined bits) as (λ d. (d ≡ true → many ≡ bit_of (ltb 1 (ones bits))) → xor_bits (cond d (bit_of (ones bits % 2 == 1)) Error) (and_bits (cond d (bit_of (ones bits % 2 == 1)) Error) many) ≡ cond d (bit_of (ones bits == 1)) Error) [
      | true ↦ λ h. rw (h refl) (one_unless_many (ones bits))
      | false ↦ λ h. refl
    ] told)

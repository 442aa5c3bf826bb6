-- Operands, and the outputs that their numbers give.
use Rattle.std.proofs.Common.{◌≡◌, ℕ, ◌+◌, ◌%◌, ◌^◌, ◌-◌, ◌≤◌, Bool, true, false, cond, ◌⊎◌, List, [], ◌∷◌, length, get_or, replicate, sym, refl, ap, ◌∙◌, inl, inr, arith}
use Rattle.std.proofs.lemmas.List.{length-replicate}
use Rattle.std.specs.Prelude.{◌&&◌}
use Rattle.std.specs.Bool.{Decides}
use Rattle.std.proofs.Math.Pow.{mod-mod-pow}
use Rattle.std.proofs.lemmas.List.Sums.{AllPass-from_list_all, list_all-from_AllPass}
use Rattle.lg_value.specs.declared.bit.Bit.{Bit}
use Rattle.lg_value.specs.declared.bit.Bit.TheVariants.{Zero, One, Unknown, Error}
use Rattle.lg_value.specs.Bit.{is_defined_bit}
use Rattle.lg_value.specs.Word.{IsDefined, word_of_number}
use Rattle.lg_value.proofs.WordLemmas.{length-word_of_number, IsDefined-word_of_number, number_of-word_of_number, word_of_number-number_of}
use Rattle.lg_arith.specs.Operands.{is_defined_word, are_defined, word_output, bit_output, bit_of_test}

pub digit_from_test : (b : Bit) → is_defined_bit b ≡ true → (b ≡ Zero) ⊎ (b ≡ One)
digit_from_test Zero h = inl refl
digit_from_test One h = inr refl
digit_from_test Unknown h = absurd (cc h)
digit_from_test Error h = absurd (cc h)

test_from_digit : (b : Bit) → (b ≡ Zero) ⊎ (b ≡ One) → is_defined_bit b ≡ true
test_from_digit Zero h = refl
test_from_digit One h = refl
test_from_digit Unknown h = elim h [ inl e ↦ cc | inr e ↦ cc ]
test_from_digit Error h = elim h [ inl e ↦ cc | inr e ↦ cc ]

-- the test for being defined decides it
pub Decides-is_defined_word : (word : List Bit) → Decides (is_defined_word word) (IsDefined word)
unfolding is_defined_word
Decides-is_defined_word word = (
  λ h k d inside. digit_from_test (get_or word k d) (AllPass-from_list_all is_defined_bit word h k d inside),
  λ h. list_all-from_AllPass is_defined_bit word (λ k d inside. test_from_digit (get_or word k d) (h k d inside)),
)

both : (p q : Bool) → (p && q) ≡ true → (p ≡ true) × (q ≡ true)
both true true h = (refl, refl)
both true false h = (refl, h)
both false q h = absurd (cc h)

-- operands are defined where each of them is
pub are_defined_nil : are_defined [] ≡ true
unfolding are_defined
are_defined_nil = refl

pub are_defined_cons : (word : List Bit) (more : List (List Bit)) → IsDefined word → are_defined more ≡ true → are_defined (word ∷ more) ≡ true
unfolding are_defined
are_defined_cons word more h k =
    let own : is_defined_word word ≡ true = (Decides-is_defined_word word).1 h in
    rw (own, k) refl

first_defined : (word : List Bit) (more : List (List Bit)) → are_defined (word ∷ more) ≡ true → IsDefined word × (are_defined more ≡ true)
unfolding are_defined
first_defined word more h =
    let parts = both (is_defined_word word) (are_defined more) h in
    ((Decides-is_defined_word word).0 parts.0, parts.1)

pub one_defined : (a : List Bit) → are_defined (a ∷ []) ≡ true → IsDefined a
one_defined a h = (first_defined a [] h).0

pub two_defined : (a b : List Bit) → are_defined (a ∷ b ∷ []) ≡ true → IsDefined a × IsDefined b
two_defined a b h =
    let first = first_defined a (b ∷ []) h in
    (first.0, one_defined b first.1)

pub three_defined : (a b c : List Bit) → are_defined (a ∷ b ∷ c ∷ []) ≡ true → IsDefined a × IsDefined b × IsDefined c
three_defined a b c h =
    let first = first_defined a (b ∷ c ∷ []) h in
    let others = two_defined b c first.1 in
    (first.0, others.0, others.1)

-- outputs of operands that are not defined, and of those that are
pub word_output_undefined : (operands : List (List Bit)) (width n : ℕ) → are_defined operands ≡ false → word_output operands width n ≡ replicate width Error
word_output_undefined operands width n h = rw h refl

pub word_output_defined : (operands : List (List Bit)) (width n : ℕ) → are_defined operands ≡ true → word_output operands width n ≡ word_of_number width n
word_output_defined operands width n h = rw h refl

pub bit_output_undefined : (operands : List (List Bit)) (test : Bool) → are_defined operands ≡ false → bit_output operands test ≡ Error
bit_output_undefined operands test h = rw h refl

pub bit_output_defined : (operands : List (List Bit)) (test : Bool) → are_defined operands ≡ true → bit_output operands test ≡ bit_of_test test
bit_output_defined operands test h = rw h refl

-- a number's word has the digits of its rest by two to the width
pub word_of_number-rest : (width n : ℕ) → word_of_number width (n % 2 ^ width) ≡ word_of_number width n
word_of_number-rest width n =
    let again = word_of_number-number_of (word_of_number width n) (IsDefined-word_of_number width n) in
    rw (length-word_of_number width n, number_of-word_of_number width n) at again

-- and of its rest by any greater power of two
pub word_of_number-mod : (width places n : ℕ) → width ≤ places → word_of_number width (n % 2 ^ places) ≡ word_of_number width n
word_of_number-mod width places n low =
    let more : (places - width) + width ≡ places = omega arith in
    let twice : n % 2 ^ places % 2 ^ width ≡ n % 2 ^ width =
    rw more at (mod-mod-pow n (places - width) width) in
    sym (word_of_number-rest width (n % 2 ^ places)) ∙ ap (word_of_number width) twice ∙ word_of_number-rest width n

pub length-word_output : (operands : List (List Bit)) (width n : ℕ) → length (word_output operands width n) ≡ width
length-word_output operands width n =
    elim (are_defined operands) as (λ b. length (cond b (word_of_number width n) (replicate width Error)) ≡ width) [
      | true ↦ length-word_of_number width n
      | false ↦ length-replicate width Error
    ]

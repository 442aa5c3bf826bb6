-- Defined operands give defined outputs.
use Rattle.std.proofs.Common.{◌≡◌, ℕ, ◌-◌, Bool, true, false, ◌⊎◌, List, [], ◌∷◌, ◌++◌, length, get_or, take, drop, replicate, refl, inl, inr, arith}
use Rattle.std.specs.Prelude.{◌≢◌, int_lt, ◌%◌}
use Rattle.std.specs.List.{All}
use Rattle.std.proofs.lemmas.List.Elements.{All-nil, All-cons, All-append, All-take, All-drop, All-replicate, All-map}
use Rattle.std.proofs.lemmas.List.Sums.{list_all-from_AllPass}
use Rattle.lg_value.specs.declared.bit.Bit.{Bit}
use Rattle.lg_value.specs.declared.bit.Bit.TheVariants.{Zero, One, Unknown, Error}
use Rattle.lg_value.specs.Bit.{is_defined_bit}
use Rattle.lg_value.specs.Word.{IsDefined, number_of, same_word}
use Rattle.lg_value.proofs.WordLemmas.{IsDefined-word_of_number}
use Rattle.lg_arith.specs.declared.extension.Extend.{Extend}
use Rattle.lg_arith.specs.declared.shifter.ShiftKind.{ShiftKind}
use Rattle.lg_arith.specs.declared.shifter.ShiftKind.TheVariants.{Left, Right, Arith, RollLeft, RollRight}
use Rattle.lg_arith.specs.Count.{count_of}
use Rattle.lg_arith.specs.Extend.{added_bit, extended}
use Rattle.lg_arith.specs.Operands.{HasNoError, is_defined_word, are_defined, counted_bit, counted_word, bit_of_test, top_bit}
use Rattle.lg_arith.specs.Order.{compared_number, greater_of, equal_of, less_of}
use Rattle.lg_arith.specs.Product.{low_product_of, high_product_of}
use Rattle.lg_arith.specs.Quotient.{quotient_of, remainder_of}
use Rattle.lg_arith.specs.Shift.{moved, shift_of, turned}
use Rattle.lg_arith.specs.Sum.{sum_operands, sum_of, carry_of, difference_of, borrow_of, negation_of}
use Rattle.lg_arith.proofs.OperandLemmas.{Decides-is_defined_word, digit_from_test, are_defined_nil, are_defined_cons}
use Rattle.lg_arith.proofs.CountLemmas.{count_defined}
use Rattle.lg_arith.proofs.OrderLemmas.{greater_defined, equal_defined, less_defined}
use Rattle.lg_arith.proofs.ProductLemmas.{low_product_defined, high_product_defined}
use Rattle.lg_arith.proofs.QuotientLemmas.{quotient_defined, remainder_defined}
use Rattle.lg_arith.proofs.ShiftLemmas.{shift_defined}
use Rattle.lg_arith.proofs.SumLemmas.{sum_defined, carry_defined, difference_defined, borrow_defined, negation_defined}

-- a bit that is 0 or 1
abbrev IsDigit : Bit → Type 0
IsDigit bit = (bit ≡ Zero) ⊎ (bit ≡ One)

counted_digit : (bit : Bit) → bit ≢ Error → IsDigit (counted_bit bit)
counted_digit Zero h = inl refl
counted_digit One h = inr refl
counted_digit Unknown h = inl refl
counted_digit Error h = absurd (h refl)

-- an operand that may float is defined, as it counts, where it has no error
pub IsDefined-counted_bit : (bit : Bit) → bit ≢ Error → IsDefined (counted_bit bit ∷ [])
IsDefined-counted_bit bit h = All-cons IsDigit (counted_bit bit) [] (counted_digit bit h) (All-nil IsDigit)

pub IsDefined-counted_word : (word : List Bit) → HasNoError word → IsDefined (counted_word word)
IsDefined-counted_word word h =
    All-map IsDigit counted_bit word (λ k d inside. counted_digit (get_or word k d) (h k d inside))

-- a defined operand has no error, and counts as it is
digit_not_error : (bit : Bit) → IsDigit bit → bit ≢ Error
digit_not_error Zero h e = cc
digit_not_error One h e = cc
digit_not_error Unknown h e = cc
digit_not_error Error h e = elim h [ inl z ↦ cc | inr o ↦ cc ]

pub HasNoError-defined : (word : List Bit) → IsDefined word → HasNoError word
HasNoError-defined word h k d inside = digit_not_error (get_or word k d) (h k d inside)

pub defined_summands : (a b : List Bit) (carry : Bit) → IsDefined a → IsDefined b → carry ≢ Error → are_defined (sum_operands a b carry) ≡ true
defined_summands a b carry h k l =
    are_defined_cons a (b ∷ (counted_bit carry ∷ []) ∷ []) h (are_defined_cons b ((counted_bit carry ∷ []) ∷ []) k
    (are_defined_cons (counted_bit carry ∷ []) [] (IsDefined-counted_bit carry l) are_defined_nil))

pub defined_three : (a b c : List Bit) → IsDefined a → IsDefined b → HasNoError c → are_defined (a ∷ b ∷ counted_word c ∷ []) ≡ true
defined_three a b c h k l =
    are_defined_cons a (b ∷ counted_word c ∷ []) h (are_defined_cons b (counted_word c ∷ []) k
    (are_defined_cons (counted_word c) [] (IsDefined-counted_word c l) are_defined_nil))

pub defined_two : (a b : List Bit) → IsDefined a → IsDefined b → are_defined (a ∷ b ∷ []) ≡ true
defined_two a b h k = are_defined_cons a (b ∷ []) h (are_defined_cons b [] k are_defined_nil)

pub defined_one : (a : List Bit) → IsDefined a → are_defined (a ∷ []) ≡ true
defined_one a h = are_defined_cons a [] h are_defined_nil

pub defined_all : (inputs : List (List Bit)) → All IsDefined inputs → are_defined inputs ≡ true
unfolding are_defined
defined_all inputs h =
    list_all-from_AllPass is_defined_word inputs (λ k d inside. (Decides-is_defined_word (get_or inputs k d)).1 (h k d inside))

test_digit : (test : Bool) → IsDigit (bit_of_test test)
test_digit test = elim test as (λ b. IsDigit (bit_of_test b)) [ true ↦ inr refl | false ↦ inl refl ]

test_defined : (test : Bool) → is_defined_bit (bit_of_test test) ≡ true
test_defined test = elim test as (λ b. is_defined_bit (bit_of_test b) ≡ true) [ true ↦ refl | false ↦ refl ]

pub sum_in_out : (a b : List Bit) (carry : Bit) → IsDefined a → IsDefined b → carry ≢ Error → IsDefined (sum_of a b carry) × (is_defined_bit (carry_of a b carry) ≡ true)
sum_in_out a b carry h k l =
    let defined = defined_summands a b carry h k l in
    (rw (sum_defined a b carry defined) (IsDefined-word_of_number _ _), rw (carry_defined a b carry defined) (test_defined _))

pub difference_in_out : (a b : List Bit) (borrow : Bit) → IsDefined a → IsDefined b → borrow ≢ Error → IsDefined (difference_of a b borrow) × (is_defined_bit (borrow_of a b borrow) ≡ true)
difference_in_out a b borrow h k l =
    let defined = defined_summands a b borrow h k l in
    (rw (difference_defined a b borrow defined) (IsDefined-word_of_number _ _), rw (borrow_defined a b borrow defined) (test_defined _))

pub negation_in_out : (a : List Bit) → IsDefined a → IsDefined (negation_of a)
negation_in_out a h = rw (negation_defined a (defined_one a h)) (IsDefined-word_of_number _ _)

pub product_in_out : (a b c : List Bit) → IsDefined a → IsDefined b → HasNoError c → IsDefined (low_product_of a b c) × IsDefined (high_product_of a b c)
product_in_out a b c h k l =
    let defined = defined_three a b c h k l in
    (rw (low_product_defined a b c defined) (IsDefined-word_of_number _ _), rw (high_product_defined a b c defined) (IsDefined-word_of_number _ _))

pub quotient_in_out : (a b upper : List Bit) → IsDefined a → IsDefined b → HasNoError upper → IsDefined (quotient_of a b upper) × IsDefined (remainder_of a b upper)
quotient_in_out a b upper h k l =
    let defined = defined_three a b upper h k l in
    (rw (quotient_defined a b upper defined) (IsDefined-word_of_number _ _), rw (remainder_defined a b upper defined) (IsDefined-word_of_number _ _))

three_digits : (x y z : Bit) → IsDigit x → IsDigit y → IsDigit z → IsDefined (x ∷ y ∷ z ∷ [])
three_digits x y z h k l =
    All-cons IsDigit x (y ∷ z ∷ []) h (All-cons IsDigit y (z ∷ []) k (All-cons IsDigit z [] l (All-nil IsDigit)))

pub order_in_out : (a b : List Bit) (signed : Bool) → IsDefined a → IsDefined b → IsDefined (greater_of a b signed ∷ equal_of a b ∷ less_of a b signed ∷ [])
order_in_out a b signed h k =
    let defined = defined_two a b h k in
    three_digits (greater_of a b signed) (equal_of a b) (less_of a b signed)
    (rw (greater_defined a b signed defined) (test_digit (int_lt (compared_number signed b) (compared_number signed a))))
    (rw (equal_defined a b defined) (test_digit (same_word a b)))
    (rw (less_defined a b signed defined) (test_digit (int_lt (compared_number signed a) (compared_number signed b))))

top_digit : (a : List Bit) → IsDefined a → IsDigit (top_bit a)
top_digit [] h = inl refl
top_digit (bit ∷ rest) h = h (length (bit ∷ rest) - 1) Zero (omega arith)

turned_in_out : (a : List Bit) (place : ℕ) → IsDefined a → IsDefined (turned a place)
turned_in_out a place h =
    All-append IsDigit (drop place a) (take place a) (All-drop IsDigit place a h) (All-take IsDigit place a h)

moved_in_out : (kind : ShiftKind) (a : List Bit) (distance : ℕ) → IsDefined a → IsDefined (moved kind a distance)
moved_in_out Left a distance h =
    All-take IsDigit (length a) (replicate distance Zero ++ a) (All-append IsDigit (replicate distance Zero) a (All-replicate IsDigit distance Zero (inl refl)) h)
moved_in_out Right a distance h =
    All-take IsDigit (length a) (drop distance a ++ replicate (length a) Zero) (All-append IsDigit (drop distance a) (replicate (length a) Zero) (All-drop IsDigit distance a h) (All-replicate IsDigit (length a) Zero (inl refl)))
moved_in_out Arith a distance h =
    All-take IsDigit (length a) (drop distance a ++ replicate (length a) (top_bit a)) (All-append IsDigit (drop distance a) (replicate (length a) (top_bit a)) (All-drop IsDigit distance a h) (All-replicate IsDigit (length a) (top_bit a) (top_digit a h)))
moved_in_out RollLeft a distance h = turned_in_out a (length a - distance % length a) h
moved_in_out RollRight a distance h = turned_in_out a (distance % length a) h

pub shift_in_out : (kind : ShiftKind) (a distance : List Bit) → IsDefined a → IsDefined distance → IsDefined (shift_of kind a distance)
shift_in_out kind a distance h k =
    rw (shift_defined kind a distance (defined_two a distance h k)) (moved_in_out kind a (number_of distance) h)

pub count_in_out : (inputs : List (List Bit)) → All IsDefined inputs → IsDefined (count_of inputs)
count_in_out inputs h = rw (count_defined inputs (defined_all inputs h)) (IsDefined-word_of_number _ _)

pub extended_in_out : (a : List Bit) (width : ℕ) (how : Extend) → IsDefined a → is_defined_bit (added_bit how a) ≡ true → IsDefined (extended a width how)
extended_in_out a width how h k =
    All-append IsDigit (take width a) (replicate (width - length a) (added_bit how a)) (All-take IsDigit width a h) (All-replicate IsDigit (width - length a) (added_bit how a) (digit_from_test (added_bit how a) k))

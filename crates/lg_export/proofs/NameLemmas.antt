-- The names of the layout are names of the subset.
use Rattle.std.proofs.Common.{◌⊎◌, inl, inr, ◌≡◌, ℕ, ◌+◌, ◌^◌, ◌<◌, ◌≤◌, true, ◌&&◌, ◌||◌, List, [], ◌∷◌, ◌++◌, length, refl, ◌∙◌, arith, length-append, ◌%◌, lit<}
use Rattle.std.specs.Prelude.{codes, nat_le, ◌==◌}
use Rattle.std.specs.List.{list_all}
use Rattle.std.specs.Char.{is_ascii_alphabetic, is_ascii_digit, is_ascii_alphanumeric}
use Rattle.std.specs.Fmt.{decimal}
use Rattle.std.specs.Int.{is_in_range}
use Rattle.std.proofs.lemmas.Bool.{le-leb, leb-true, and_from, and_parts, or_left, or_right, or_cases}
use Rattle.std.proofs.lemmas.Fmt.{decimal_by_steps, length-decimal-le}
use Rattle.std.proofs.lemmas.List.Folds.{list_all-append}
use Rattle.lg_names.specs.Names.{name_of_label, is_pin_name}
use Rattle.lg_names.proofs.SpelledLemmas.{IsShortName-of_label}
use Rattle.lg_vtree.specs.Token.{is_digit_or_score, is_name}
use Rattle.lg_text.specs.NameByte.{is_name_byte}

-- a letter, a digit or `_`, and at most 298 letters, digits and `_`
is_name-from_parts : (c d : ℕ) (rest : List ℕ) → is_ascii_alphabetic c ≡ true → is_digit_or_score d ≡ true → list_all is_name_byte rest ≡ true → length rest ≤ 298 → is_name (c ∷ d ∷ rest) ≡ true
is_name-from_parts c d rest letter digit words short =
    or_right _ _
    (and_from (is_ascii_alphabetic c && is_digit_or_score d && list_all is_name_byte rest) (nat_le (length rest) 298)
    (and_from (is_ascii_alphabetic c && is_digit_or_score d) (list_all is_name_byte rest) (and_from (is_ascii_alphabetic c) (is_digit_or_score d) letter digit) words) (le-leb (length rest) 298 short))

-- a pin's name after `i_` or `o_`
pub is_name-pin : (c : ℕ) (name : List ℕ) → is_ascii_alphabetic c ≡ true → is_pin_name name ≡ true → is_name (c ∷ 95 ∷ name) ≡ true
is_name-pin c name letter h =
    let whole = and_parts (nat_le 1 (length name) && nat_le (length name) 290) (list_all is_name_byte name) h in
    let short : length name ≤ 290 = leb-true (length name) 290 (and_parts (nat_le 1 (length name)) (nat_le (length name) 290) whole.0).1 in
    is_name-from_parts c 95 name letter refl (whole.1) (omega arith)

is_digit-of : (n : ℕ) → n < 10 → is_digit_or_score (48 + n) ≡ true
is_digit-of n h = or_left (is_in_range 48 57 (48 + n)) ((48 + n) == 95) (and_from (nat_le 48 (48 + n)) (nat_le (48 + n) 57) (le-leb 48 (48 + n) (omega arith)) (le-leb (48 + n) 57 (omega arith)))

-- a number is written in digits
digits-decimal : (n : ℕ) → n < 2 ^ 64 → list_all is_digit_or_score (decimal n) ≡ true
digits-decimal n h =
    decimal_by_steps (λ m ds. list_all is_digit_or_score ds ≡ true) (λ m small. and_from (is_digit_or_score (48 + m)) true (is_digit-of m small) refl)
    (λ m ds big before. list_all-append is_digit_or_score ds ((48 + m % 10) ∷ []) ∙ and_from (list_all is_digit_or_score ds) (is_digit_or_score (48 + m % 10) && true) before (and_from (is_digit_or_score (48 + m % 10)) true (is_digit-of (m % 10) (omega arith)) refl)) n h

digit_is_name_byte : (d : ℕ) → is_digit_or_score d ≡ true → is_name_byte d ≡ true
digit_is_name_byte d h = by_case (or_cases (is_ascii_digit d) (d == 95) h)
  where
    by_case : (is_ascii_digit d ≡ true) ⊎ ((d == 95) ≡ true) → is_name_byte d ≡ true
    by_case (inl e) = or_left (is_ascii_alphanumeric d) (d == 95) (or_left (is_in_range 48 57 d || is_in_range 65 90 d) (is_in_range 97 122 d) (or_left (is_in_range 48 57 d) (is_in_range 65 90 d) e))
    by_case (inr e) = or_right (is_ascii_alphanumeric d) (d == 95) e

digits_are_name_bytes : (ds : List ℕ) → list_all is_digit_or_score ds ≡ true → list_all is_name_byte ds ≡ true
digits_are_name_bytes [] h = refl
digits_are_name_bytes (d ∷ ds) h =
    let p = and_parts (is_digit_or_score d) (list_all is_digit_or_score ds) h in
    and_from (is_name_byte d) (list_all is_name_byte ds) (digit_is_name_byte d p.0) (digits_are_name_bytes ds p.1)

-- a letter, then digits or `_`, of which there is one and not too many
is_name-digits : (c : ℕ) (ds : List ℕ) → is_ascii_alphabetic c ≡ true → list_all is_digit_or_score ds ≡ true → 0 < length ds → length ds ≤ 298 → is_name (c ∷ ds) ≡ true
is_name-digits c [] letter digits some short = absurd (omega arith)
is_name-digits c (d ∷ ds) letter digits some short =
    is_name-from_parts c d ds letter (and_parts (is_digit_or_score d) (list_all is_digit_or_score ds) digits).0 (digits_are_name_bytes ds (and_parts (is_digit_or_score d) (list_all is_digit_or_score ds) digits).1) (omega arith)

length-decimal : (n : ℕ) → n < 2 ^ 64 → length (decimal n) ≤ 20
length-decimal n h = length-decimal-le 20 n (lit< tt) (omega arith) h

two_numbers : (m n : ℕ) → m < 2 ^ 64 → n < 2 ^ 64 → list_all is_digit_or_score (decimal m ++ 95 ∷ decimal n) ≡ true
two_numbers m n fits_m fits_n =
    list_all-append is_digit_or_score (decimal m) (95 ∷ decimal n) ∙ and_from (list_all is_digit_or_score (decimal m)) (list_all is_digit_or_score (95 ∷ decimal n)) (digits-decimal m fits_m) (digits-decimal n fits_n)

-- two numbers after `x` or `w`
pub is_name-wire : (c m n : ℕ) → is_ascii_alphabetic c ≡ true → m < 2 ^ 64 → n < 2 ^ 64 → is_name (c ∷ (decimal m ++ 95 ∷ decimal n)) ≡ true
is_name-wire c m n letter fits_m fits_n =
    is_name-digits c (decimal m ++ 95 ∷ decimal n) letter (two_numbers m n fits_m fits_n)
    (omega (arith, length-append (decimal m) (95 ∷ decimal n))) (omega (arith, length-append (decimal m) (95 ∷ decimal n), length-decimal m fits_m, length-decimal n fits_n))

-- the name of a circuit after `c_`
pub is_name-circuit : (label : List ℕ) → is_name (codes "c_" ++ name_of_label label) ≡ true
is_name-circuit label =
    let s = IsShortName-of_label label in
    is_name-from_parts 99 95 (name_of_label label) refl refl s.name_bytes (omega (arith, s.short))

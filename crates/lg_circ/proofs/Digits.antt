-- Numbers in digits, which stand still above all that are used.
use Rattle.std.proofs.Common.{◌≡◌, ℕ, ◌+◌, ◌-◌, ◌*◌, ◌<◌, ◌≤◌, Bool, true, false, cond, ◌&&◌, List, [], ◌∷◌, length, get_or, drop, Option, Some, None, refl, sym, ap, ◌∙◌, arith, inl, inr, ◌⊎◌, add-one, drop-cons}
use Rattle.std.specs.Prelude.{fold, min}
use Rattle.std.specs.List.{list_all}
use Rattle.std.specs.Char.{is_ascii_digit, IsScalar, InScalarRange, OutOfScalarRange}
use Rattle.std.specs.Option.{SomeIff, MatchOption}
use Rattle.std.proofs.Math.Nat.{mul-le-mul_right}
use Rattle.std.proofs.lemmas.Bool.{cases_lt, and_parts, cond-true, cond-false}
use Rattle.std.proofs.lemmas.Bool.Decides.{nat_tests}
use Rattle.lg_circ.specs.Grammar.{hex_digit, number_in, is_scalar, are_digits, numbered}
use Rattle.lg_circ.specs.Meaning.{number_of}

abbrev past : ℕ
past = 1114112

-- the number that more digits make of one
abbrev pub more_of : ℕ → ℕ → List ℕ → ℕ
more_of base n digits = fold (λ m c. base * m + hex_digit c) n digits

grows : (base n : ℕ) (digits : List ℕ) → 1 ≤ base → past ≤ n → past ≤ more_of base n digits
grows base n [] some h = h
grows base n (c ∷ cs) some h = let k = mul-le-mul_right {m = 1} {n = base} n some in grows base (base * n + hex_digit c) cs some (omega (arith, h, k))

saturates : (base n : ℕ) (digits : List ℕ) → 1 ≤ base → min (more_of base (min past n) digits) past ≡ min (more_of base n digits) past
saturates base n digits some = by_size (cases_lt n past)
  where
    by_size : (n < past) ⊎ (past ≤ n) → min (more_of base (min past n) digits) past ≡ min (more_of base n digits) past
    by_size (inl lt) = let same : min past n ≡ n = omega (arith, lt) in ap (λ (m : ℕ). min (more_of base m digits) past) same
    by_size (inr le) =
        let same : min past n ≡ past = omega (arith, le) in
        let a = grows base past digits some (omega arith) in
        let b = grows base n digits some le in
        ap (λ (m : ℕ). min (more_of base m digits) past) same ∙ omega (arith, a, b)

-- how far the digits were read
pub record ReadsDigits (base n i : ℕ) (digits : List ℕ) : Type 0 where
  pub value : min (more_of base n (drop i digits)) past ≡ min (number_in base digits) past
  pub small : n ≤ past

pub digits_start : (base : ℕ) (digits : List ℕ) → ReadsDigits base 0 0 digits
digits_start base digits = record { value = refl; small = omega arith }

pub digits_go_on : (base n i : ℕ) (digits : List ℕ) (next : ℕ) → 1 ≤ base → i < length digits → next ≡ min past (base * n + hex_digit (get_or digits i 0)) → ReadsDigits base n i digits → ReadsDigits base next (i + 1) digits
digits_go_on base n i digits next some lt e so_far =
    let c = get_or digits i 0 in
    let rest = drop (i + 1) digits in
    let step : drop i digits ≡ c ∷ rest = drop-cons digits i 0 lt ∙ ap (λ (k : ℕ). c ∷ drop k digits) (sym (add-one i)) in
    record {
      value = ap (λ (m : ℕ). min (more_of base m rest) past) e ∙ saturates base (base * n + hex_digit c) rest some ∙ ap (λ (ds : List ℕ). min (more_of base n ds) past) (sym step) ∙ so_far.value;
      small = omega (arith, e);
    }

pub digits_end : (base n i : ℕ) (digits : List ℕ) → drop i digits ≡ [] → ReadsDigits base n i digits → n ≡ min (number_in base digits) past
digits_end base n i digits none so_far =
    let here : min n past ≡ min (number_in base digits) past = ap (λ (ds : List ℕ). min (more_of base n ds) past) (sym none) ∙ so_far.value in
    omega (arith, here, so_far.small)

-- the product fits
pub fits_mul : (base n : ℕ) → base ≤ 16 → n ≤ past → base * n ≤ 17825792
fits_mul base n b h = let k = mul-le-mul_right {m = base} {n = 16} n b in omega (arith, k, h)

-- the character of a number
pub from_code : (n code : ℕ) (r : Option ℕ) → code ≡ min n past → SomeIff r (IsScalar code) code → MatchOption r (OutOfScalarRange code) (λ _. InScalarRange code) → r ≡ cond (is_scalar n) (Some n) None
from_code n code None e iff cases = sym (cond-false (is_scalar n) (Some n) None (outside n code e cases))
  where
    outside : (n code : ℕ) → code ≡ min n past → OutOfScalarRange code → is_scalar n ≡ false
    outside n code e h = grind (arith, nat_tests)
from_code n code (Some x) e iff cases =
    let same : x ≡ n = within n code x e iff.1 cases in
    ap (λ (y : ℕ). Some y) same ∙ sym (cond-true (is_scalar n) (Some n) None (inside n code e cases))
  where
    within : (n code x : ℕ) → code ≡ min n past → x ≡ code → InScalarRange code → x ≡ n
    within n code x e k h = grind arith

    inside : (n code : ℕ) → code ≡ min n past → InScalarRange code → is_scalar n ≡ true
    inside n code e h = grind (arith, nat_tests)

pub numbered_from : (p : ℕ → Bool) (base : ℕ) (digits : List ℕ) (code : ℕ) (r : Option ℕ) → are_digits p digits ≡ true → code ≡ min (number_in base digits) past → SomeIff r (IsScalar code) code → MatchOption r (OutOfScalarRange code) (λ _. InScalarRange code) → r ≡ numbered p base digits
numbered_from p base digits code r are e iff cases =
    from_code (number_in base digits) code r e iff cases ∙ ap (λ (b : Bool). cond (b && is_scalar (number_in base digits)) (Some (number_in base digits)) None) (sym are)

pub numbered_none : (p : ℕ → Bool) (base : ℕ) (digits : List ℕ) → are_digits p digits ≡ false → None ≡ numbered p base digits
numbered_none p base digits are = sym (ap (λ (b : Bool). cond (b && is_scalar (number_in base digits)) (Some (number_in base digits)) None) are)

-- decimal digits say the same number in both ways
pub number_same : (digits : List ℕ) → list_all is_ascii_digit digits ≡ true → number_in 10 digits ≡ number_of digits
number_same digits all = same_from 0 digits all
  where
    digit_same : (c : ℕ) → is_ascii_digit c ≡ true → hex_digit c ≡ c - 48
    digit_same c h = grind (arith, nat_tests)

    same_from : (n : ℕ) (ds : List ℕ) → list_all is_ascii_digit ds ≡ true → fold (λ m c. 10 * m + hex_digit c) n ds ≡ fold (λ m c. 10 * m + (c - 48)) n ds
    same_from n [] h = refl
    same_from n (c ∷ cs) h =
        let b = and_parts (is_ascii_digit c) (list_all is_ascii_digit cs) h in
        ap (λ (d : ℕ). fold (λ m e. 10 * m + hex_digit e) (10 * n + d) cs) (digit_same c b.0) ∙ same_from (10 * n + (c - 48)) cs b.1

-- Numbers in decimal digits.
use Rattle.std.proofs.Common.{◌≡◌, ◌≢◌, ℕ, ◌+◌, ◌-◌, ◌*◌, ◌^◌, ◌<◌, ◌≤◌, false, eqb, List, [], ◌∷◌, ◌++◌, length, drop, Option, Some, None, refl, sym, ap, ◌∙◌, arith, add-one}
use Rattle.std.specs.Prelude.{fold, codes, pos, neg_ℤ}
use Rattle.std.specs.List.{list_all, before_first}
use Rattle.std.specs.Char.{is_ascii_digit}
use Rattle.std.specs.Str.{bytes_eq}
use Rattle.std.proofs.Math.Nat.{pow-suc, pow-le-pow_right}
use Rattle.std.proofs.lemmas.Bool.{cond-true, cond-false, ne_eqb}
use Rattle.lg_circ.specs.Meaning.{◌>>=◌, number_of, size_of, coordinate_of, before_end, coordinates_of, point_of}
use Rattle.lg_circ.proofs.Marks.{bytes_same}

-- the number that more digits make of one
abbrev pub goes_to : ℕ → List ℕ → ℕ
goes_to n digits = fold (λ n c. 10 * n + (c - 48)) n digits

-- how far the digits were read
pub record ReadsNumber (n i : ℕ) (digits : List ℕ) : Type 0 where
  pub value : goes_to n (drop i digits) ≡ number_of digits
  pub digits_left : list_all is_ascii_digit (drop i digits) ≡ list_all is_ascii_digit digits
  pub small : n < 10 ^ i

pub number_start : (digits : List ℕ) → ReadsNumber 0 0 digits
number_start digits = record { value = refl; digits_left = refl; small = omega arith }

-- up to six digits say less than a million
pub below_million : (n i : ℕ) (digits : List ℕ) → i < length digits → length digits ≤ 7 → ReadsNumber n i digits → n < 1000000
below_million n i digits within short so_far =
    let most : 10 ^ i ≤ 10 ^ 6 = pow-le-pow_right {n = 10} (omega arith) {i = i} {j = 6} (omega (arith, within, short)) in
    omega (arith, so_far.small, most)

-- one more digit
pub one_digit_more : (n i c : ℕ) → n < 10 ^ i → c - 48 ≤ 9 → 10 * n + (c - 48) < 10 ^ (i + 1)
one_digit_more n i c small digit = let more : 10 ^ (i + 1) ≡ 10 ^ i * 10 = rw add-one (pow-suc 10 i) in omega (arith, small, digit, more)

-- seven digits
pub seven_digits : (n i : ℕ) → i ≤ 7 → n < 10 ^ i → n < 10000000
seven_digits n i short small =
    let most : 10 ^ i ≤ 10 ^ 7 = pow-le-pow_right {n = 10} (omega arith) {i = i} {j = 7} short in
    omega (arith, small, most)

pub no_sign : (text : List ℕ) → ((rest : List ℕ) → text ≢ 45 ∷ rest) → size_of text ≡ None → coordinate_of text ≡ None
no_sign [] h none = refl
no_sign (c ∷ cs) h none =
    let other : eqb c 45 ≡ false = ne_eqb c 45 (λ e. h cs (ap (λ (d : ℕ). d ∷ cs) e)) in
    cond-false (eqb c 45) (size_of cs >>= λ n. Some (neg_ℤ (pos n))) (size_of (c ∷ cs) >>= λ n. Some (pos n)) other
    ∙ ap (λ (o : Option ℕ). o >>= λ n. Some (pos n)) none

pub no_point : (text : List ℕ) → ((rest : List ℕ) → text ≢ 40 ∷ rest) → point_of text ≡ None
no_point [] h = refl
no_point (c ∷ cs) h = cond-false (eqb c 40) (coordinates_of cs) None (ne_eqb c 40 (λ e. h cs (ap (λ (d : ℕ). d ∷ cs) e)))

pub ends_there : (text front end : List ℕ) → front ≡ before_first (λ c. eqb c 41) text → text ≡ front ++ (41 ∷ end) → end ≡ [] → before_end text ≡ Some front
ends_there text front end first parts last =
    let whole : text ≡ before_first (λ c. eqb c 41) text ++ codes ")" = parts ∙ ap (λ (e : List ℕ). front ++ (41 ∷ e)) last ∙ ap (λ (f : List ℕ). f ++ codes ")") first in
    cond-true (bytes_eq text (before_first (λ c. eqb c 41) text ++ codes ")")) (Some (before_first (λ c. eqb c 41) text)) None (bytes_same text (before_first (λ c. eqb c 41) text ++ codes ")") whole)
    ∙ ap (λ (f : List ℕ). Some f) (sym first)

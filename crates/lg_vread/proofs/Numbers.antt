-- Numbers and constants as they are written.
use Rattle.std.proofs.Common.{◌≡◌, ℕ, zero, suc, ◌+◌, ◌*◌, ◌/◌, ◌%◌, ◌^◌, ◌<◌, ◌≤◌, Bool, true, false, cond, ◌&&◌, eqb, List, [], ◌∷◌, ◌++◌, length, get_or, Option, Some, None, refl, sym, ap, ◌∙◌, append_assoc, subst, arith, rules, inl, inr}
use Rattle.std.specs.Prelude.{codes}
use Rattle.std.specs.Char.{is_ascii_digit, digit_value}
use Rattle.std.specs.Fmt.{decimal}
use Rattle.std.specs.Str.{bytes_eq, all_ascii_digits}
use Rattle.std.specs.Str.Parse.{AllDigits, digits_value, digits_value_after}
use Rattle.std.proofs.lemmas.Bool.{cond-true, cond-false, and_parts, and_from, leb-true, le-leb}
use Rattle.std.proofs.lemmas.Bool.Decides.{nat_tests}
use Rattle.std.specs.Prelude.{Result, Ok, Err}
use Rattle.std.specs.Result.{result_ok}
use Rattle.std.specs.Str.{IsUtf8}
use Rattle.std.specs.Str.Parse.{ParsesUnsigned}
use Rattle.std.proofs.lemmas.Fmt.{decimal_is_IsNumeral_wide, decimal_digit, decimal_step_wide, decimal_by_steps_wide, IsAscii-from_digits}
use Rattle.std.proofs.lemmas.Str.{IsUtf8-from_ascii}
use Rattle.std.proofs.lemmas.List.{append-nil, length-append}
use Rattle.std.proofs.Math.ListN.{get_or-append}
use Rattle.std.proofs.lemmas.Option.{same_Some}
use Rattle.std.proofs.lemmas.Str.{digit_value_digit}
use Rattle.std.proofs.lemmas.Str.Parse.{IsNumeralModel, numerals_by_value, tells_all_ascii_digits, digit_from_value, parse_digits}
use Rattle.lg_vtree.specs.declared.expr.Constant.{Constant}
use Rattle.lg_vtree.specs.Token.{is_number}
use Rattle.lg_vtree.specs.Printed.{constant_text}
use Rattle.lg_vread.specs.Lexing.{number_of, before_quote, after_quote, after_d, constant_from, constant_of}
use Rattle.lg_vread.proofs.Steps.{guarded, chosen, same_bytes, bytes_again}

pub own : IsNumeralModel (λ ds. all_ascii_digits ds ≡ true) (digits_value 10)
own = numerals_by_value _ tells_all_ascii_digits

number_fits : (n : ℕ) → is_number n ≡ true → n < 10 ^ 64
number_fits n h = omega (arith, leb-true n 340282366920938463463374607431768211455 h)

pub digits_decimal : (n : ℕ) → is_number n ≡ true → all_ascii_digits (decimal n) ≡ true
digits_decimal n h = own.from (decimal n) (decimal_is_IsNumeral_wide n (number_fits n h)).0.1

pub decimal_some : (n : ℕ) → is_number n ≡ true → 0 < length (decimal n)
decimal_some n h = (decimal_is_IsNumeral_wide n (number_fits n h)).0.0

pub value_decimal : (n : ℕ) → is_number n ≡ true → digits_value 10 (decimal n) ≡ n
value_decimal n h = (decimal_is_IsNumeral_wide n (number_fits n h)).1

pub number_again : (n : ℕ) → is_number n ≡ true → number_of (decimal n) ≡ Some n
number_again n h =
    let v = value_decimal n h in
    let fits : is_number (digits_value 10 (decimal n)) ≡ true = ap is_number v ∙ h in
    let same : bytes_eq (decimal (digits_value 10 (decimal n))) (decimal n) ≡ true = ap (λ m. bytes_eq (decimal m) (decimal n)) v ∙ bytes_again (decimal n) in
    cond-true (all_ascii_digits (decimal n) && (is_number (digits_value 10 (decimal n)) && bytes_eq (decimal (digits_value 10 (decimal n))) (decimal n))) (Some (digits_value 10 (decimal n))) None
    (and_from (all_ascii_digits (decimal n)) (is_number (digits_value 10 (decimal n)) && bytes_eq (decimal (digits_value 10 (decimal n))) (decimal n)) (digits_decimal n h) (and_from (is_number (digits_value 10 (decimal n))) (bytes_eq (decimal (digits_value 10 (decimal n))) (decimal n)) fits same))
    ∙ ap (λ m. Some m) v

-- what is read as a number
pub record ReadsNumber (word : List ℕ) (n : ℕ) : Type 0 where
  pub spelled : decimal n ≡ word
  pub fits : is_number n ≡ true

pub number_takes : (word : List ℕ) (n : ℕ) → number_of word ≡ Some n → ReadsNumber word n
number_takes word n e =
    let v = digits_value 10 word in
    let g = guarded (all_ascii_digits word && (is_number v && bytes_eq (decimal v) word)) v n e in
    let a = and_parts (all_ascii_digits word) (is_number v && bytes_eq (decimal v) word) g.0 in
    let b = and_parts (is_number v) (bytes_eq (decimal v) word) a.1 in
    subst (ReadsNumber word) g.1 (record { spelled = same_bytes (decimal v) word b.1; fits = b.0 })

-- what is no number
pub no_number : (word : List ℕ) → all_ascii_digits word ≡ false → number_of word ≡ None
no_number word e = ap (λ b. cond (b && (is_number (digits_value 10 word) && bytes_eq (decimal (digits_value 10 word)) word)) (Some (digits_value 10 word)) None) e

-- digits without a leading zero are the text of their value

le_value_after : (n : ℕ) (ds : List ℕ) → n ≤ digits_value_after 10 n ds
le_value_after n [] = omega arith
le_value_after n (c ∷ cs) = omega (arith, le_value_after (n * 10 + digit_value c) cs)

value_after : (n : ℕ) (ds : List ℕ) → 0 < n → AllDigits 10 ds → digits_value_after 10 n ds < 10 ^ 64 → decimal (digits_value_after 10 n ds) ≡ decimal n ++ ds
value_after n [] some d small = sym (append-nil (decimal n))
value_after n (c ∷ cs) some d small =
    let m : ℕ = n * 10 + digit_value c in
    let k = digit_value_digit c (digit_from_value c d.0) in
    let front : m / 10 ≡ n = omega (arith, d.0) in
    let end : 48 + m % 10 ≡ c = omega (arith, d.0) in
    value_after m cs (omega arith) d.1 small
    ∙ ap (λ x. x ++ cs) (decimal_step_wide m (omega arith) (omega (arith, le_value_after m cs)) ∙ ap (λ f. decimal f ++ ((48 + m % 10) ∷ [])) front ∙ ap (λ e. decimal n ++ (e ∷ [])) end)
    ∙ append_assoc (decimal n) (c ∷ []) cs

pub value_spelled : (ds : List ℕ) → AllDigits 10 ds → 0 < length ds → (get_or ds 0 0 ≡ 48 → length ds ≡ 1) → digits_value 10 ds < 10 ^ 64 → decimal (digits_value 10 ds) ≡ ds
value_spelled [] d some lead small = absurd (omega arith)
value_spelled (c ∷ []) d some lead small =
    let k = digit_value_digit c (digit_from_value c d.0) in
    decimal_digit (0 * 10 + digit_value c) (omega (arith, d.0)) ∙ ap (λ x. x ∷ []) (omega arith)
value_spelled (c ∷ e ∷ cs) d some lead small =
    let k = digit_value_digit c (digit_from_value c d.0) in
    let no : c ≡ 48 → ⊥ = λ z. omega (arith, lead z) in
    let is : 48 + (0 * 10 + digit_value c) ≡ c = omega arith in
    value_after (0 * 10 + digit_value c) (e ∷ cs) (omega arith) d.1 small
    ∙ ap (λ x. x ++ (e ∷ cs)) (decimal_digit (0 * 10 + digit_value c) (omega (arith, d.0)) ∙ ap (λ x. x ∷ []) is)

-- what the code reads

first_decimal : (n : ℕ) → 0 < n → n < 10 ^ 64 → 48 < get_or (decimal n) 0 0
first_decimal n some small = (decimal_by_steps_wide (λ m ds. (0 < length ds) × (0 < m → 48 < get_or ds 0 0)) (λ m l. (omega arith, λ a. omega arith))
    (λ m ds l h. (omega (arith, length-append ds ((48 + m % 10) ∷ [])), λ a. omega (arith, get_or-append ds ((48 + m % 10) ∷ []) 0 0 h.0, h.1 (omega arith)))) n small).1 some

no_leading : (n : ℕ) → is_number n ≡ true → get_or (decimal n) 0 0 ≡ 48 → 1 < length (decimal n) → ⊥
no_leading zero h z long = omega (arith, long, ap length (decimal_digit 0 (omega arith)))
no_leading (suc n) h z long = omega (arith, z, first_decimal (suc n) (omega arith) (number_fits (suc n) h))

none_or_some : (o : Option ℕ) → ((n : ℕ) → o ≡ Some n → ⊥) → o ≡ None
none_or_some None h = refl
none_or_some (Some n) h = absurd (h n refl)

pub number_empty : number_of [] ≡ None
number_empty = none_or_some (number_of []) (λ n e. let r = number_takes [] n e in omega (arith, ap length r.spelled, decimal_some n r.fits))

pub leading_zero : (word : List ℕ) → get_or word 0 0 ≡ 48 → 1 < length word → number_of word ≡ None
leading_zero word z long = none_or_some (number_of word) (λ n e.
    let r = number_takes word n e in
    no_leading n r.fits (ap (λ w. get_or w 0 0) r.spelled ∙ z) (rw r.spelled long))

number_of_value : (word : List ℕ) → all_ascii_digits word ≡ true → is_number (digits_value 10 word) ≡ true → decimal (digits_value 10 word) ≡ word → number_of word ≡ Some (digits_value 10 word)
number_of_value word d h e =
    let v = digits_value 10 word in
    cond-true (all_ascii_digits word && (is_number v && bytes_eq (decimal v) word)) (Some v) None
    (and_from (all_ascii_digits word) (is_number v && bytes_eq (decimal v) word) d (and_from (is_number v) (bytes_eq (decimal v) word) h (ap (λ w. bytes_eq w word) e ∙ bytes_again word)))

pub parsed : {E : Type 0} (word : List ℕ) (r : Result ℕ E) → ParsesUnsigned 128 10 word r → all_ascii_digits word ≡ true → (get_or word 0 0 ≡ 48 → 1 < length word → ⊥) → result_ok r ≡ number_of word
parsed {E} word (Ok x) h d lead =
    let p = parse_digits own {E = E} 128 word (Ok x) h d in
    let v = digits_value 10 word in
    let small : is_number v ≡ true = le-leb v 340282366920938463463374607431768211455 (omega (arith, p.0.1)) in
    ap (λ n. Some n) p.1 ∙ sym (number_of_value word d small (value_spelled word (own.to word d) p.0.0 (λ z. omega (arith, p.0.0, lead z)) (omega (arith, p.0.1))))
parsed {E} word (Err e) h d lead =
    let p = parse_digits own {E = E} 128 word (Err e) h d in
    sym (none_or_some (number_of word) (λ n q.
    let r = number_takes word n q in
    let v : digits_value 10 word ≡ n = ap (digits_value 10) (sym r.spelled) ∙ value_decimal n r.fits in
    p (rw (← r.spelled) (decimal_some n r.fits), omega (arith, v, leb-true n 340282366920938463463374607431768211455 r.fits))))

pub digits_utf8 : (word : List ℕ) → all_ascii_digits word ≡ true → IsUtf8 word
digits_utf8 word d = IsUtf8-from_ascii word (IsAscii-from_digits word (own.to word d))

-- constants

no_quote : (c : ℕ) → is_ascii_digit c ≡ true → eqb c 39 ≡ false
no_quote c h = grind (arith, nat_tests)

before_digits : (ds rest : List ℕ) → all_ascii_digits ds ≡ true → before_quote (ds ++ 39 ∷ rest) ≡ ds
before_digits [] rest h = refl
before_digits (c ∷ ds) rest h =
    let p = and_parts (is_ascii_digit c) (all_ascii_digits ds) h in
    cond-false (eqb c 39) [] (c ∷ before_quote (ds ++ 39 ∷ rest)) (no_quote c p.0) ∙ ap (λ r. c ∷ r) (before_digits ds rest p.1)

after_digits : (ds rest : List ℕ) → all_ascii_digits ds ≡ true → after_quote (ds ++ 39 ∷ rest) ≡ rest
after_digits [] rest h = refl
after_digits (c ∷ ds) rest h =
    let p = and_parts (is_ascii_digit c) (all_ascii_digits ds) h in
    cond-false (eqb c 39) (ds ++ 39 ∷ rest) (after_quote (ds ++ 39 ∷ rest)) (no_quote c p.0) ∙ after_digits ds rest p.1

pub constant_spelled : (c : Constant) → constant_text c ≡ decimal c.width ++ 39 ∷ 100 ∷ decimal c.value
constant_spelled c = append_assoc (decimal c.width) (codes "'d") (decimal c.value)

pub constant_again : (c : Constant) → is_number c.width ≡ true → is_number c.value ≡ true → constant_of (constant_text c) ≡ Some c
constant_again c w v =
    let digits = digits_decimal c.width w in
    let rest : List ℕ = 100 ∷ decimal c.value in
    ap constant_of (constant_spelled c)
    ∙ ap (λ b. constant_from (number_of b) (after_d (after_quote (decimal c.width ++ 39 ∷ rest)))) (before_digits (decimal c.width) rest digits)
    ∙ ap (λ a. constant_from (number_of (decimal c.width)) (after_d a)) (after_digits (decimal c.width) rest digits)
    ∙ ap (λ o. constant_from o (number_of (decimal c.value))) (number_again c.width w)
    ∙ ap (λ o. constant_from (Some c.width) o) (number_again c.value v)

-- what is read as a constant
pub record ReadsConstant (word : List ℕ) (c : Constant) : Type 0 where
  pub spelled : constant_text c ≡ word
  pub width : is_number c.width ≡ true
  pub value : is_number c.value ≡ true

quote_splits : (word : List ℕ) (c : ℕ) (cs : List ℕ) → after_quote word ≡ c ∷ cs → word ≡ before_quote word ++ 39 ∷ c ∷ cs
quote_splits [] c cs e = absurd cc
quote_splits (d ∷ word) c cs e = step (quote_splits word c cs) (eqb d 39) refl
  where
    step : (after_quote word ≡ c ∷ cs → word ≡ before_quote word ++ 39 ∷ c ∷ cs) → (b : Bool) → eqb d 39 ≡ b → d ∷ word ≡ before_quote (d ∷ word) ++ 39 ∷ c ∷ cs
    step splits true h =
        let is : d ≡ 39 = search rules in
        let rest : word ≡ c ∷ cs = sym (cond-true (eqb d 39) word (after_quote word) h) ∙ e in
        ap (λ x. x ∷ word) is ∙ ap (λ r. 39 ∷ r) rest ∙ ap (λ b. b ++ 39 ∷ c ∷ cs) (sym (cond-true (eqb d 39) [] (d ∷ before_quote word) h))
    step splits false h =
        let rest : after_quote word ≡ c ∷ cs = sym (cond-false (eqb d 39) word (after_quote word) h) ∙ e in
        ap (λ r. d ∷ r) (splits rest) ∙ ap (λ b. b ++ 39 ∷ c ∷ cs) (sym (cond-false (eqb d 39) [] (d ∷ before_quote word) h))

-- what stands after the quote is a `d` and a number
record ReadsValue (rest : List ℕ) (n : ℕ) : Type 0 where
  spelled : rest ≡ 100 ∷ decimal n
  fits : is_number n ≡ true

value_takes : (rest : List ℕ) (n : ℕ) → after_d rest ≡ Some n → ReadsValue rest n
value_takes [] n e = absurd cc
value_takes (c ∷ digits) n e = elim (chosen (eqb c 100) (number_of digits) None (Some n) e) as (λ _. ReadsValue (c ∷ digits) n) [
  | inl w ↦
      let is : c ≡ 100 = search rules in
      let r = number_takes digits n w.1 in
      record { spelled = ap (λ x. x ∷ digits) is ∙ ap (λ ds. 100 ∷ ds) (sym r.spelled); fits = r.fits }
  | inr w ↦ absurd cc
]

from_both : (w v : Option ℕ) (c : Constant) → constant_from w v ≡ Some c → (w ≡ Some c.width) × (v ≡ Some c.value)
from_both None v c e = absurd cc
from_both (Some w) None c e = absurd cc
from_both (Some w) (Some v) c e =
    let p = same_Some (record { width = w; value = v }) c e in
    (ap (λ (x : Constant). Some x.width) p, ap (λ (x : Constant). Some x.value) p)

pub constant_takes : (word : List ℕ) (c : Constant) → constant_of word ≡ Some c → ReadsConstant word c
constant_takes word c e =
    let p = from_both (number_of (before_quote word)) (after_d (after_quote word)) c e in
    let width = number_takes (before_quote word) c.width p.0 in
    let value = value_takes (after_quote word) c.value p.1 in
    record {
      spelled = constant_spelled c ∙ ap (λ b. b ++ 39 ∷ 100 ∷ decimal c.value) width.spelled ∙ sym (quote_splits word 100 (decimal c.value) value.spelled);
      width = width.fits;
      value = value.fits;
    }

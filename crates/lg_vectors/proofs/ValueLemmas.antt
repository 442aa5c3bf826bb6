-- The forms of values, one against the other.
use Rattle.std.proofs.Common.{◌≡◌, ℕ, suc, ◌+◌, ◌-◌, ◌*◌, ◌%◌, ◌^◌, ◌<◌, ◌≤◌, inl, inr, List, ◌++◌, length, get_or, Option, Some, None, refl, sym, ap, subst, ◌∙◌, arith}
use Rattle.std.specs.Prelude.{MatchOption, codes}
use Rattle.std.specs.List.{All}
use Rattle.std.proofs.Math.Nat.{pow-succ'}
use Rattle.std.proofs.lemmas.Nat.{pow_pos}
use Rattle.std.proofs.lemmas.List.{append_cancel_left}
use Rattle.std.proofs.lemmas.List.Elements.{All-head}
use Rattle.lg_value.proofs.WordLemmas.{length-word_of_number}
use Rattle.lg_vectors.specs.CaredBits.{CaredBits}
use Rattle.lg_vectors.specs.Values.{digit_value, AreCounted, IsPrefixed, IsBinary, AreDecimals, IsPositive, IsSubtracted, IsDecimal, IsValue, Lacks, cared_but, number_from}
use Rattle.lg_vectors.proofs.BitLemmas.{word_of_number-wrapped}

-- whether a reader's answer fits a form
abbrev pub Answers : (CaredBits → Type 0) → Option CaredBits → Type 0
Answers Form read = MatchOption read ((value : CaredBits) → Form value → ⊥) Form

pub not_octal : (text more : List ℕ) → codes "0x" ++ text ≡ codes "0o" ++ more → ⊥
not_octal text more e = let second : 120 ≡ 111 = ap (λ (t : List ℕ). get_or t 1 0) e in omega (arith, second)

-- behind `0x` there are hexadecimal digits or the word has not the first form
pub hexadecimal : (width : ℕ) (word text : List ℕ) (read : Option CaredBits) → word ≡ codes "0x" ++ text → Answers (AreCounted 4 width text) read → Answers (IsPrefixed width word) read
hexadecimal width word text (Some value) e h = inl (text, e, h)
hexadecimal width word text None e h = λ value form. elim form [
  | inl m ↦
      let same : m.0 ≡ text = append_cancel_left (codes "0x") m.0 text (sym m.1 ∙ e) in
      h value (subst (λ (t : List ℕ). AreCounted 4 width t value) same m.2)
  | inr m ↦ not_octal text m.0 (sym e ∙ m.1)
]

-- and so it is behind `0o`
pub octal : (width : ℕ) (word text : List ℕ) (read : Option CaredBits) → word ≡ codes "0o" ++ text → Answers (AreCounted 3 width text) read → Answers (IsPrefixed width word) read
octal width word text (Some value) e h = inr (text, e, h)
octal width word text None e h = λ value form. elim form [
  | inl m ↦ not_octal m.0 text (sym m.1 ∙ e)
  | inr m ↦
      let same : m.0 ≡ text = append_cancel_left (codes "0o") m.0 text (sym m.1 ∙ e) in
      h value (subst (λ (t : List ℕ). AreCounted 3 width t value) same m.2)
]

pub no_sign : (width number : ℕ) (word text : List ℕ) → word ≡ codes "-" ++ text → AreDecimals width word number → ⊥
no_sign width number word text e d =
    let digits : All (λ c. digit_value c < 10) (codes "-" ++ text) = rw e at d.digits in
    let first : digit_value 45 < 10 = All-head (λ c. digit_value c < 10) 45 text digits in
    omega (arith, first)

-- behind `-` there is a number to be subtracted
pub negative : (width : ℕ) (word text : List ℕ) (read : Option CaredBits) → word ≡ codes "-" ++ text → Answers (IsSubtracted width text) read → Answers (IsDecimal width word) read
negative width word text (Some value) e h = inr (text, e, h)
negative width word text None e h = λ value form. elim form [
  | inl p ↦ no_sign width p.number word text e p.decimals
  | inr m ↦
      let same : m.0 ≡ text = append_cancel_left (codes "-") m.0 text (sym m.1 ∙ e) in
      h value (subst (λ (t : List ℕ). IsSubtracted width t value) same m.2)
]

-- without `-` there is a number
pub unsigned : (width : ℕ) (word : List ℕ) (read : Option CaredBits) → ((text : List ℕ) → word ≡ codes "-" ++ text → ⊥) → Answers (IsPositive width word) read → Answers (IsDecimal width word) read
unsigned width word (Some value) none h = inl h
unsigned width word None none h = λ value form. elim form [
  | inl p ↦ h value p
  | inr m ↦ none m.0 m.1
]

-- the third form, where the word has none of the others
pub last_form : (width : ℕ) (word : List ℕ) (read : Option CaredBits) → Lacks (IsPrefixed width) word → Lacks (IsBinary width) word → Answers (IsDecimal width word) read → Answers (IsValue width word) read
last_form width word (Some value) a b h = inr (inr (a, b, h))
last_form width word None a b h = λ value form. elim form [
  | inl p ↦ a value p
  | inr others ↦ elim others [ inl m ↦ b value m.1 | inr d ↦ h value d.2 ]
]

-- a number below 0 in two's complement
pub is_subtracted : (width : ℕ) (text : List ℕ) (number rest bits : ℕ) (value : CaredBits) → width ≤ 64 → AreDecimals width text number → number ≤ 2 ^ (width - 1) → rest + number + 1 ≡ 2 ^ width → bits ≡ (rest + 1) % 18446744073709551616 → value ≡ cared_but width bits 0
    → IsSubtracted width text value
is_subtracted width text number rest bits value short d fits below wraps e = record {
  number = number;
  decimals = d;
  fits = fits;
  same =
      let all : rest + 1 ≡ 2 ^ width - number = omega arith in
      e ∙ rw (wraps, word_of_number-wrapped width (rest + 1) short, all) refl;
}

-- half of a width's numbers are fewer than all
pub half_fits : (width : ℕ) → 1 ≤ width → 2 ^ (width - 1) + 1 ≤ 2 ^ width
half_fits width some =
    let more : suc (width - 1) ≡ width = omega arith in
    let twice : 2 ^ suc (width - 1) ≡ 2 * 2 ^ (width - 1) = pow-succ' 2 (width - 1) in
    let all : 2 ^ width ≡ 2 * 2 ^ (width - 1) = rw more at twice in
    omega (arith, all, pow_pos (width - 1))

-- a value has the width of its column
pub value_width : (width : ℕ) (word : List ℕ) (value : CaredBits) → IsValue width word value → length value.bits ≡ width
value_width width word value (inl (inl m)) = rw m.2.are_digits.same (length-word_of_number width (number_from (2 ^ 4) 0 m.0))
value_width width word value (inl (inr m)) = rw m.2.are_digits.same (length-word_of_number width (number_from (2 ^ 3) 0 m.0))
value_width width word value (inr (inl b)) = rw b.1.are_digits.same (length-word_of_number width (number_from (2 ^ 1) 0 word))
value_width width word value (inr (inr d)) = decimal_width width word value d.2
  where
    decimal_width : (width : ℕ) (word : List ℕ) (value : CaredBits) → IsDecimal width word value → length value.bits ≡ width
    decimal_width width word value (inl p) = rw p.same (length-word_of_number width p.number)
    decimal_width width word value (inr m) = rw m.2.same (length-word_of_number width (2 ^ width - m.2.number))

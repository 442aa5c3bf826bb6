-- The names of ports and wires are apart: by their first character, and by their numbers.
use Rattle.std.proofs.Common.{◌≡◌, ℕ, ◌%◌, ◌+◌, ◌^◌, ◌<◌, Bool, true, false, ◌&&◌, List, [], ◌∷◌, ◌++◌, refl, sym, ap, subst, ◌∙◌, arith, append_assoc, eq-eqb}
use Rattle.std.specs.Prelude.{codes, ◌==◌, nat_le}
use Rattle.std.specs.List.{list_all}
use Rattle.std.specs.Fmt.{decimal}
use Rattle.std.proofs.lemmas.Bool.{false≢true, le-leb, and_from}
use Rattle.std.proofs.lemmas.Fmt.{decimal_injective, decimal_by_steps}
use Rattle.std.proofs.lemmas.List.{append_cancel_left}
use Rattle.std.proofs.lemmas.List.Folds.{list_all-append}
use Rattle.lg_netlist.specs.declared.netlist.PinUse.{PinUse}
use Rattle.lg_export.specs.Layout.{input_name, output_name, input_wire, output_wire}

first_is : (a b : ℕ) (xs ys : List ℕ) → a ∷ xs ≡ b ∷ ys → a ≡ b
first_is a b xs ys e = cc

rest_is : (a b : ℕ) (xs ys : List ℕ) → a ∷ xs ≡ b ∷ ys → xs ≡ ys
rest_is a b xs ys e = cc

-- a digit is no `_`
abbrev is_digit : ℕ → Bool
is_digit c = nat_le 48 c && nat_le c 57

left_holds : (a b : Bool) → (a && b) ≡ true → a ≡ true
left_holds true b h = refl
left_holds false b h = h

right_holds : (a b : Bool) → (a && b) ≡ true → b ≡ true
right_holds true b h = h
right_holds false true h = refl
right_holds false false h = h

digit_of : (n : ℕ) → n < 10 → is_digit (48 + n) ≡ true
digit_of n h = and_from (nat_le 48 (48 + n)) (nat_le (48 + n) 57) (le-leb 48 (48 + n) (omega arith)) (le-leb (48 + n) 57 (omega arith))

digits_of : (n : ℕ) → n < 2 ^ 64 → list_all is_digit (decimal n) ≡ true
digits_of n h =
    decimal_by_steps (λ m ds. list_all is_digit ds ≡ true) (λ m small. and_from (is_digit (48 + m)) true (digit_of m small) refl)
    (λ m ds big before. list_all-append is_digit ds ((48 + m % 10) ∷ []) ∙ and_from (list_all is_digit ds) (is_digit (48 + m % 10) && true) before (and_from (is_digit (48 + m % 10)) true (digit_of (m % 10) (omega arith)) refl)) n h

score_is_none : is_digit 95 ≡ true → ⊥
score_is_none e = false≢true e

-- digits before the first `_` are the same, and so is what stands after it
same_halves : (a b c d : List ℕ) → list_all is_digit a ≡ true → list_all is_digit b ≡ true → a ++ 95 ∷ c ≡ b ++ 95 ∷ d → (a ≡ b) × (c ≡ d)
same_halves [] [] c d ha hb e = (refl, rest_is 95 95 c d e)
same_halves [] (y ∷ b) c d ha hb e = absurd (score_is_none (subst (λ (k : ℕ). is_digit k ≡ true) (sym (first_is 95 y c (b ++ 95 ∷ d) e)) (left_holds (is_digit y) (list_all is_digit b) hb)))
same_halves (x ∷ a) [] c d ha hb e = absurd (score_is_none (subst (λ (k : ℕ). is_digit k ≡ true) (first_is x 95 (a ++ 95 ∷ c) d e) (left_holds (is_digit x) (list_all is_digit a) ha)))
same_halves (x ∷ a) (y ∷ b) c d ha hb e =
    let rest = same_halves a b c d (right_holds (is_digit x) (list_all is_digit a) ha) (right_holds (is_digit y) (list_all is_digit b) hb) (rest_is x y (a ++ 95 ∷ c) (b ++ 95 ∷ d) e) in
    (cons_eq x y a b (first_is x y (a ++ 95 ∷ c) (b ++ 95 ∷ d) e) rest.0, rest.1)
  where
    cons_eq : (x y : ℕ) (a b : List ℕ) → x ≡ y → a ≡ b → x ∷ a ≡ y ∷ b
    cons_eq x y a b e f = cc

-- a character, two numbers with `_` between
wire_parts : (c m n p q : ℕ) → m < 2 ^ 64 → n < 2 ^ 64 → p < 2 ^ 64 → q < 2 ^ 64 → c ∷ (decimal m ++ 95 ∷ decimal n) ≡ c ∷ (decimal p ++ 95 ∷ decimal q) → (m ≡ p) × (n ≡ q)
wire_parts c m n p q hm hn hp hq e =
    let halves = same_halves (decimal m) (decimal p) (decimal n) (decimal q) (digits_of m hm) (digits_of p hp) (rest_is c c (decimal m ++ 95 ∷ decimal n) (decimal p ++ 95 ∷ decimal q) e) in
    (decimal_injective m p hm hp halves.0, decimal_injective n q hn hq halves.1)

input_wire-is : (p i : ℕ) → input_wire p i ≡ 120 ∷ (decimal p ++ 95 ∷ decimal i)
input_wire-is p i = append_assoc (120 ∷ decimal p) (codes "_") (decimal i)

output_wire-is : (p o : ℕ) → output_wire p o ≡ 119 ∷ (decimal p ++ 95 ∷ decimal o)
output_wire-is p o = append_assoc (119 ∷ decimal p) (codes "_") (decimal o)

-- wires at inputs differ by part and input
pub input_wire_same : (p i q j : ℕ) → p < 2 ^ 64 → i < 2 ^ 64 → q < 2 ^ 64 → j < 2 ^ 64 → input_wire p i ≡ input_wire q j → (p ≡ q) × (i ≡ j)
input_wire_same p i q j hp hi hq hj e = wire_parts 120 p i q j hp hi hq hj (sym (input_wire-is p i) ∙ (e ∙ input_wire-is q j))

-- wires at outputs differ by part
pub output_wire_same : (p q : ℕ) → p < 2 ^ 64 → q < 2 ^ 64 → output_wire p 0 ≡ output_wire q 0 → p ≡ q
output_wire_same p q hp hq e = (wire_parts 119 p 0 q 0 hp (omega arith) hq (omega arith) (sym (output_wire-is p 0) ∙ (e ∙ output_wire-is q 0))).0

-- the first character, or 0
abbrev pub initial : List ℕ → ℕ
initial [] = 0
initial (c ∷ name) = c

pub initial-input_wire : (p i : ℕ) → initial (input_wire p i) ≡ 120
initial-input_wire p i = ap initial (input_wire-is p i)

pub initial-output_wire : (p o : ℕ) → initial (output_wire p o) ≡ 119
initial-output_wire p o = ap initial (output_wire-is p o)

pub initial-input_name : (p : PinUse) → initial (input_name p) ≡ 105
initial-input_name p = refl

pub initial-output_name : (p : PinUse) → initial (output_name p) ≡ 111
initial-output_name p = refl

-- names with other first characters are apart
pub apart : (a b : List ℕ) (c d : ℕ) → initial a ≡ c → initial b ≡ d → (c == d) ≡ false → a ≡ b → ⊥
apart a b c d ha hb differ e =
    let same : c ≡ d = sym ha ∙ (ap initial e ∙ hb) in
    false≢true (sym differ ∙ eq-eqb c d same)

-- ports of one direction differ as their pins do
pub input_name_same : (p q : PinUse) → input_name p ≡ input_name q → p.name ≡ q.name
input_name_same p q e = append_cancel_left (codes "i_") p.name q.name e

pub output_name_same : (p q : PinUse) → output_name p ≡ output_name q → p.name ≡ q.name
output_name_same p q e = append_cancel_left (codes "o_") p.name q.name e

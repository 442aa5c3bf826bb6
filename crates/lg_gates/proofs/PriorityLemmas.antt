-- The greatest place that holds a 1, and what a priority encoder answers in each case.
use Rattle.std.proofs.Common.{◌≡◌, ◌≢◌, ℕ, zero, suc, ◌+◌, ◌^◌, ◌<◌, Bool, true, false, cond, ◌⊎◌, List, [], ◌∷◌, ◌++◌, Option, None, Some, length, get_or, take, replicate, refl, inl, inr, ap, ◌∙◌, subst, arith}
use Rattle.std.specs.Prelude.{if◌then◌else◌, ◌||◌}
use Rattle.std.specs.List.{slice_get}
use Rattle.std.proofs.Math.Bool.{or-true, or-false}
use Rattle.std.proofs.lemmas.Bool.{cases_Bool}
use Rattle.std.proofs.lemmas.Option.{cond_some, slice_get_within}
use Rattle.std.proofs.Math.Nat.{mod-eq_of_lt}
use Rattle.std.proofs.lemmas.List.{take_more, length-take-le}
use Rattle.std.proofs.lemmas.List.Folds.{list_any-append}
use Rattle.lg_value.specs.declared.bit.Bit.{Bit}
use Rattle.lg_value.specs.declared.bit.Bit.TheVariants.{Zero, One, Unknown, Error}
use Rattle.lg_value.specs.Bit.{same_bit}
use Rattle.lg_value.specs.Word.{number_of, word_of_number}
use Rattle.lg_value.proofs.WordLemmas.{number_of-word_of_number}
use Rattle.lg_gates.specs.Gate.{some_one, all_defined}
use Rattle.lg_gates.specs.Priority.{greatest_one, IsGreatestOne, priority_of}

-- what is found among some bits
abbrev pub found : List Bit → Option ℕ
found bits = if some_one bits then Some (greatest_one bits) else None

some_one_push : (bits : List Bit) (b : Bit) → some_one (bits ++ b ∷ []) ≡ (some_one bits || some_one (b ∷ []))
some_one_push bits b = list_any-append (same_bit One) bits (b ∷ [])

cond_same : {A : Type 0} (b : Bool) (x y : A) → b ≡ true → cond b x y ≡ x
cond_same b x y h = rw h refl

-- a 1 above all others is the greatest
greatest_one_push : (bits : List Bit) → greatest_one (bits ++ One ∷ []) ≡ length bits
greatest_one_push [] = refl
greatest_one_push (b ∷ bits) =
    let yes : some_one (bits ++ One ∷ []) ≡ true = some_one_push bits One ∙ or-true (some_one bits) in
    cond_same (some_one (bits ++ One ∷ [])) (greatest_one (bits ++ One ∷ []) + 1) 0 yes ∙ rw (greatest_one_push bits) (omega arith)

some_one_same : (bits : List Bit) (b : Bit) → same_bit One b ≡ false → some_one (bits ++ b ∷ []) ≡ some_one bits
some_one_same bits b h = some_one_push bits b ∙ rw h (or-false (some_one bits))

-- no 1 above changes nothing
greatest_one_same : (bits : List Bit) (b : Bit) → same_bit One b ≡ false → greatest_one (bits ++ b ∷ []) ≡ greatest_one bits
greatest_one_same [] b h = refl
greatest_one_same (x ∷ bits) b h =
    ap (λ (s : Bool). cond s (greatest_one (bits ++ b ∷ []) + 1) 0) (some_one_same bits b h)
    ∙ ap (λ (n : ℕ). cond (some_one bits) (n + 1) 0) (greatest_one_same bits b h)

found_push_one : (bits : List Bit) → found (bits ++ One ∷ []) ≡ Some (length bits)
found_push_one bits =
    cond_same (some_one (bits ++ One ∷ [])) (Some (greatest_one (bits ++ One ∷ []))) None (some_one_push bits One ∙ or-true (some_one bits))
    ∙ ap (λ (n : ℕ). Some n) (greatest_one_push bits)

found_push_other : (bits : List Bit) (b : Bit) → same_bit One b ≡ false → found (bits ++ b ∷ []) ≡ found bits
found_push_other bits b h =
    ap (λ (s : Bool). cond s (Some (greatest_one (bits ++ b ∷ []))) None) (some_one_same bits b h)
    ∙ ap (λ (n : ℕ). cond (some_one bits) (Some n) None) (greatest_one_same bits b h)

-- one bit more, as at a step of a loop
pub found_more_one : (bits : List Bit) (i : ℕ) → i < length bits → get_or bits i Zero ≡ One → found (take (i + 1) bits) ≡ Some i
found_more_one bits i inside is =
    ap found (take_more bits i Zero inside ∙ ap (λ (b : Bit). take i bits ++ b ∷ []) is)
    ∙ found_push_one (take i bits) ∙ ap (λ (n : ℕ). Some n) (length-take-le i bits (omega arith))

pub found_more_other : (bits : List Bit) (i : ℕ) (b : Bit) → i < length bits → get_or bits i Zero ≡ b → same_bit One b ≡ false → found (take (i + 1) bits) ≡ found (take i bits)
found_more_other bits i b inside is other =
    ap found (take_more bits i Zero inside ∙ ap (λ (b : Bit). take i bits ++ b ∷ []) is) ∙ found_push_other (take i bits) b other

pub not_one : (b : Bit) → (b ≡ One → ⊥) → same_bit One b ≡ false
not_one One h = absurd (h refl)
not_one Zero h = refl
not_one Unknown h = refl
not_one Error h = refl

pub priority_of-undefined : (inputs : List Bit) (enable : Bit) (width : ℕ) (off : Bit) → all_defined inputs ≡ false → priority_of inputs enable width off ≡ (replicate width Error, Error, Error)
unfolding priority_of
priority_of-undefined inputs enable width off h = rw h refl

pub priority_of-error : (inputs : List Bit) (width : ℕ) (off : Bit) → all_defined inputs ≡ true → priority_of inputs Error width off ≡ (replicate width Error, Error, Error)
unfolding priority_of
priority_of-error inputs width off h = rw h refl

pub priority_of-disabled : (inputs : List Bit) (width : ℕ) (off : Bit) → all_defined inputs ≡ true → priority_of inputs Zero width off ≡ (replicate width off, Zero, Zero)
unfolding priority_of
priority_of-disabled inputs width off h = rw h refl

none_is : (b : Bool) (n : ℕ) → cond b (Some n) None ≡ None → b ≡ false
none_is true n h = absurd (cc h)
none_is false n h = refl

-- an enable of 1, or a floating one
pub priority_of-found : (inputs : List Bit) (enable : Bit) (width : ℕ) (off : Bit) (place : ℕ) → all_defined inputs ≡ true → (enable ≡ One) ⊎ (enable ≡ Unknown) → found inputs ≡ Some place → priority_of inputs enable width off ≡ (word_of_number width place, One, Zero)
unfolding priority_of
priority_of-found inputs enable width off place h on is =
    let parts = cond_some (some_one inputs) (greatest_one inputs) place is in
    let yes = parts.0 in
    let greatest = parts.1 in
    elim on [ inl e ↦ rw (h, e, yes, greatest) refl | inr e ↦ rw (h, e, yes, greatest) refl ]

pub priority_of-none : (inputs : List Bit) (enable : Bit) (width : ℕ) (off : Bit) → all_defined inputs ≡ true → (enable ≡ One) ⊎ (enable ≡ Unknown) → found inputs ≡ None → priority_of inputs enable width off ≡ (replicate width off, Zero, One)
unfolding priority_of
priority_of-none inputs enable width off h on is =
    let no = none_is (some_one inputs) (greatest_one inputs) is in
    elim on [ inl e ↦ rw (h, e, no) refl | inr e ↦ rw (h, e, no) refl ]

above_shift : (b : Bit) (higher : List Bit) (p k : ℕ) → ((m : ℕ) → p < m → slice_get higher m ≢ Some One) → suc p < k → slice_get (b ∷ higher) k ≢ Some One
above_shift b higher p zero above h = absurd (omega (arith, h))
above_shift b higher p (suc m) above h = above m (omega (arith, h))

greatest_shift : (b : Bit) (higher : List Bit) (p : ℕ) → IsGreatestOne higher p → IsGreatestOne (b ∷ higher) (suc p)
greatest_shift b higher p greatest = record {
  holds = greatest.holds;
  above = λ k h. above_shift b higher p k greatest.above h;
}

holds_no_one : (bits : List Bit) (k : ℕ) → some_one bits ≡ false → slice_get bits k ≢ Some One
holds_no_one [] k none_is_one is = absurd (cc is)
holds_no_one (One ∷ bits) k none_is_one is = absurd (cc none_is_one)
holds_no_one (Zero ∷ bits) zero none_is_one is = absurd (cc is)
holds_no_one (Unknown ∷ bits) zero none_is_one is = absurd (cc is)
holds_no_one (Error ∷ bits) zero none_is_one is = absurd (cc is)
holds_no_one (Zero ∷ bits) (suc k) none_is_one is = holds_no_one bits k none_is_one is
holds_no_one (Unknown ∷ bits) (suc k) none_is_one is = holds_no_one bits k none_is_one is
holds_no_one (Error ∷ bits) (suc k) none_is_one is = holds_no_one bits k none_is_one is

above_first : (b : Bit) (higher : List Bit) (k : ℕ) → some_one higher ≡ false → 0 < k → slice_get (b ∷ higher) k ≢ Some One
above_first b higher zero none_is_one h = absurd (omega (arith, h))
above_first b higher (suc k) none_is_one h = holds_no_one higher k none_is_one

first_is_one : (b : Bit) (higher : List Bit) → some_one (b ∷ higher) ≡ true → some_one higher ≡ false → b ≡ One
first_is_one One higher h none_is_one = refl
first_is_one Zero higher h none_is_one = absurd (cc (h, none_is_one))
first_is_one Unknown higher h none_is_one = absurd (cc (h, none_is_one))
first_is_one Error higher h none_is_one = absurd (cc (h, none_is_one))

-- where some bit is 1, the greatest place that holds a 1 is one
pub greatest_one-is : (bits : List Bit) → some_one bits ≡ true → IsGreatestOne bits (greatest_one bits)
greatest_one-is [] h = absurd (cc h)
greatest_one-is (b ∷ higher) h =
    elim (cases_Bool (some_one higher)) [
      | inl some_above ↦
          let place : suc (greatest_one higher) ≡ greatest_one (b ∷ higher) = rw some_above (omega arith) in
          subst (IsGreatestOne (b ∷ higher)) place (greatest_shift b higher (greatest_one higher) (greatest_one-is higher some_above))
      | inr none_is_one ↦
          let place : 0 ≡ greatest_one (b ∷ higher) = rw none_is_one refl in
          subst (IsGreatestOne (b ∷ higher)) place (record {
            holds = ap (λ (x : Bit). Some x) (first_is_one b higher h none_is_one);
            above = λ k up. above_first b higher k none_is_one up;
          })
    ]

-- the address is the number of that place
pub address-greatest_one : (inputs : List Bit) (width : ℕ) → some_one inputs ≡ true → length inputs ≡ 2 ^ width → number_of (word_of_number width (greatest_one inputs)) ≡ greatest_one inputs
address-greatest_one inputs width some count =
    let greatest = greatest_one-is inputs some in
    let inside : greatest_one inputs < 2 ^ width = omega (arith, slice_get_within inputs (greatest_one inputs) One greatest.holds) in
    number_of-word_of_number width (greatest_one inputs) ∙ mod-eq_of_lt inside

-- Numbers that are read digit by digit.
use Rattle.std.proofs.Common.{◌≡◌, ℕ, ◌+◌, ◌*◌, ◌<◌, ◌≤◌, List, [], ◌∷◌, ◌++◌, length, get_or, take, drop, arith, take-append-drop}
use Rattle.std.specs.List.{All, fold}
use Rattle.std.proofs.Math.Nat.{mul-le-mul_right}
use Rattle.std.proofs.lemmas.List.{take_more}
use Rattle.std.proofs.lemmas.List.Sums.{fold-append}
use Rattle.std.proofs.lemmas.List.Elements.{All-nil, All-cons, All-append}
use Rattle.lg_memory.specs.Image.{digit_value, number_in, Spells}

-- a number with the value of one more digit
abbrev with_digit : ℕ → ℕ → ℕ → ℕ
with_digit base n c = base * n + digit_value c

-- one more digit, as at a step of a loop
pub number_in_more : (base : ℕ) (text : List ℕ) (i : ℕ) → i < length text → number_in base (take (i + 1) text) ≡ base * number_in base (take i text) + digit_value (get_or text i 0)
number_in_more base text i inside =
    rw (take_more text i 0 inside) (fold-append (with_digit base) 0 (take i text) (get_or text i 0 ∷ []))

grows_once : (base n d : ℕ) → 1 ≤ base → n ≤ base * n + d
grows_once base n d some = omega (arith, mul-le-mul_right n some)

-- more digits make no smaller number
grows : (base : ℕ) (n : ℕ) (text : List ℕ) → 1 ≤ base → n ≤ fold (with_digit base) n text
grows base n [] some = omega arith
grows base n (c ∷ text) some =
    omega (arith, grows_once base n (digit_value c) some, grows base (with_digit base n c) text some)

-- what is read is no greater than the whole
pub number_in-le : (base : ℕ) (text : List ℕ) (i : ℕ) → 1 ≤ base → number_in base (take i text) ≤ number_in base text
number_in-le base text i some =
    let whole : number_in base (take i text ++ drop i text) ≡ fold (with_digit base) (number_in base (take i text)) (drop i text) = fold-append (with_digit base) 0 (take i text) (drop i text) in
    let same : number_in base text ≡ fold (with_digit base) (number_in base (take i text)) (drop i text) = rw take-append-drop at whole in
    rw same (grows base (number_in base (take i text)) (drop i text) some)

-- a digit past the base is in no number
pub no_digit : (base : ℕ) (text : List ℕ) (i most : ℕ) → i < length text → base ≤ digit_value (get_or text i 0) → (n : ℕ) → Spells base text n → most < n
no_digit base text i most inside past n s = absurd (omega (arith, s.digits i 0 inside, past))

-- nor is a number at most `most` that is past it already
pub past_most : (base : ℕ) (text : List ℕ) (i number most : ℕ) → 1 ≤ base → i < length text → number ≡ number_in base (take i text) → most < base * number + digit_value (get_or text i 0) → (n : ℕ) → Spells base text n → most < n
past_most base text i number most some inside so_far past n s =
    let more = number_in_more base text i inside in
    let below : number_in base (take (i + 1) text) ≤ number_in base text = number_in-le base text (i + 1) some in
    let over : most < number_in base (take (i + 1) text) = rw (more, ← so_far) past in
    omega (arith, s.value, below, over)

pub digits_more : (base : ℕ) (text : List ℕ) (i : ℕ) → i < length text → All (λ c. digit_value c < base) (take i text) → digit_value (get_or text i 0) < base → All (λ c. digit_value c < base) (take (i + 1) text)
digits_more base text i inside so_far next =
    rw (take_more text i 0 inside)
    (All-append (λ c. digit_value c < base) (take i text) (get_or text i 0 ∷ []) so_far
    (All-cons (λ c. digit_value c < base) (get_or text i 0) [] next (All-nil (λ c. digit_value c < base))))

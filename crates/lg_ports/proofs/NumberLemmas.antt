-- Numbers that texts say.
use Rattle.std.proofs.Common.{◌≡◌, ◌∙◌, ap, ℕ, ◌^◌, ◌<◌, ◌≤◌, Bool, true, false, cond, ◌&&◌, List, length, Some, None, refl, arith}
use Rattle.std.specs.Prelude.{nat_le, nat_lt}
use Rattle.std.specs.List.{All, list_all}
use Rattle.std.proofs.Math.Pow.{pow_mono}
use Rattle.std.proofs.lemmas.Bool.{ltb-true, leb-true, le-leb, lt-ltb}
use Rattle.std.proofs.lemmas.List.Sums.{AllPass-from_list_all, list_all-from_AllPass}
use Rattle.lg_memory.specs.Image.{digit_value, number_in, Spells}
use Rattle.lg_ports.specs.Given.{number_of}

-- a select of 5 bits at most numbers 32 things at most
pub pow_small : (n : ℕ) → n ≤ 5 → 2 ^ n ≤ 32
pow_small n h = pow_mono h

chosen : {T : Type 0} (a b d : Bool) (x y : T) → a ≡ true → b ≡ true → d ≡ true → cond ((a && b) && d) x y ≡ x
chosen true true true x y _ _ _ = refl
chosen true true false x y _ _ h = cc
chosen true false d x y _ h _ = cc
chosen false b d x y h _ _ = cc

refused : {T : Type 0} (a b d : Bool) (x y : T) → (a ≡ true → b ≡ true → d ≡ true → ⊥) → cond ((a && b) && d) x y ≡ y
refused true true true x y never = absurd (never refl refl refl)
refused true true false x y never = refl
refused true false d x y never = refl
refused false b d x y never = refl

each : (P Q : ℕ → Type 0) → ((x : ℕ) → P x → Q x) → (xs : List ℕ) → All P xs → All Q xs
each P Q f xs h = λ k d inside. f _ (h k d inside)

all_digits : (text : List ℕ) → All (λ c. digit_value c < 10) text → list_all (λ c. nat_lt (digit_value c) 10) text ≡ true
all_digits text h = list_all-from_AllPass (λ c. nat_lt (digit_value c) 10) text (each (λ c. digit_value c < 10) (λ c. nat_lt (digit_value c) 10 ≡ true) (λ c k. lt-ltb _ _ k) text h)

digits_all : (text : List ℕ) → list_all (λ c. nat_lt (digit_value c) 10) text ≡ true → All (λ c. digit_value c < 10) text
digits_all text h = each (λ c. nat_lt (digit_value c) 10 ≡ true) (λ c. digit_value c < 10) (λ c k. ltb-true _ _ k) text (AllPass-from_list_all (λ c. nat_lt (digit_value c) 10) text h)

pub number_of-spelled : (text : List ℕ) (n : ℕ) → Spells 10 text n → n ≤ 99 → number_of text ≡ Some n
number_of-spelled text n s small =
    chosen (nat_le 1 (length text)) (list_all (λ c. nat_lt (digit_value c) 10) text) (nat_le (number_in 10 text) 99) (Some (number_in 10 text)) None (le-leb _ _ s.some) (all_digits text s.digits) (le-leb _ _ (omega (arith, s.value))) ∙ ap Some s.value

pub number_of-none : (text : List ℕ) → ((n : ℕ) → Spells 10 text n → 99 < n) → number_of text ≡ None
number_of-none text none =
    refused (nat_le 1 (length text)) (list_all (λ c. nat_lt (digit_value c) 10) text) (nat_le (number_in 10 text) 99) (Some (number_in 10 text)) None
    (λ a b d. let past : 99 < number_in 10 text = none (number_in 10 text) (record { some = leb-true _ _ a; digits = digits_all text b; value = refl }) in let most : number_in 10 text ≤ 99 = leb-true _ _ d in omega arith)

-- Numbers in decimal digits, and in hexadecimal ones behind `0x`.
use Rattle.std.proofs.Common.{◌≡◌, sym, ◌∙◌, subst, ℕ, ◌^◌, ◌<◌, ◌≤◌, List, ◌++◌, inl, inr, arith, Option, None, Some}
use Rattle.std.specs.Prelude.{codes, MatchOption}
use Rattle.std.proofs.lemmas.List.{append_cancel_left}
use Rattle.lg_memory.specs.Image.{digit_value, Spells}
use Rattle.lg_ports.specs.Ranges.{Says}

marked_is_no_decimal : (digits : List ℕ) (n : ℕ) → Spells 10 (codes "0x" ++ digits) n → ⊥
marked_is_no_decimal digits n s = let small : digit_value 120 < 10 = s.digits 1 0 (omega arith) in omega (arith, small)

marked : (text digits : List ℕ) (n : ℕ) → text ≡ codes "0x" ++ digits → Says text n → Spells 16 digits n
marked text digits n e (inl s) = absurd (marked_is_no_decimal digits n (subst (λ t. Spells 10 t n) e s))
marked text digits n e (inr s) = subst (λ t. Spells 16 t n) (append_cancel_left (codes "0x") s.0 digits (sym s.1 ∙ e)) s.2

-- behind the mark there are hexadecimal digits
pub literal_marked : (text digits : List ℕ) (o : Option ℕ) → text ≡ codes "0x" ++ digits → MatchOption o ((n : ℕ) → Spells 16 digits n → 18446744073709551615 < n) (λ n. Spells 16 digits n × (n ≤ 18446744073709551615)) → MatchOption o ((n : ℕ) → Says text n → 2 ^ 64 ≤ n) (λ n. Says text n × (n < 2 ^ 64))
literal_marked text digits None e h = λ n s. let past : 18446744073709551615 < n = h n (marked text digits n e s) in omega arith
literal_marked text digits (Some n) e h = (inr (digits, e, h.0), omega arith)

unmarked : (text : List ℕ) (n : ℕ) → ((digits : List ℕ) → text ≡ codes "0x" ++ digits → ⊥) → Says text n → Spells 10 text n
unmarked text n none (inl s) = s
unmarked text n none (inr s) = absurd (none s.0 s.1)

-- without the mark there are decimal digits
pub literal_unmarked : (text : List ℕ) (o : Option ℕ) → ((digits : List ℕ) → text ≡ codes "0x" ++ digits → ⊥) → MatchOption o ((n : ℕ) → Spells 10 text n → 18446744073709551615 < n) (λ n. Spells 10 text n × (n ≤ 18446744073709551615)) → MatchOption o ((n : ℕ) → Says text n → 2 ^ 64 ≤ n) (λ n. Says text n × (n < 2 ^ 64))
literal_unmarked text None none h = λ n s. let past : 18446744073709551615 < n = h n (unmarked text n none s) in omega arith
literal_unmarked text (Some n) none h = (inl h.0, omega arith)

-- What a reader has before it.
use Rattle.std.proofs.Common.{◌≡◌, ℕ, zero, suc, ◌<◌, Bool, true, false, cond, ◌&&◌, leb, inl, inr, List, [], ◌∷◌, length, get_or, map, Option, Some, None, refl, sym, ap, ◌∙◌, subst, arith}
use Rattle.std.specs.Prelude.{codes}
use Rattle.std.specs.Char.{is_ascii_alphabetic}
use Rattle.std.specs.List.{list_all}
use Rattle.std.specs.Str.{bytes_eq, IsAscii}
use Rattle.std.proofs.lemmas.Bool.{cond-true, cond-false, and_parts, false≢true, or_cases, false_from_ne_true}
use Rattle.std.proofs.lemmas.Bool.Decides.{nat_tests}
use Rattle.std.proofs.lemmas.Option.{none-some}
use Rattle.lg_text.specs.NameByte.{is_name_byte}
use Rattle.lg_vtree.specs.declared.expr.Constant.{Constant}
use Rattle.lg_vread.specs.declared.reader.Reader.{Reader}
use Rattle.lg_vtree.specs.Token.{is_name, is_long_name, is_digit_or_score}
use Rattle.lg_vtree.specs.Grammar.{Token, Fixed, Named, Number, Sized, token_text}
use Rattle.lg_vread.specs.Lexing.{lexemes, is_fixed, number_of, constant_from, after_d, constant_of, number_or, sized_or, token_of, tokens_of, first_word, left, behind}
use Rattle.lg_vread.specs.Reading.{is_at, tail, name_at, number_at, constant_at}
use Rattle.lg_vread.proofs.Steps.{same_bytes}
use Rattle.lg_vread.proofs.Numbers.{number_takes, constant_takes, number_empty}
use Rattle.lg_vread.proofs.Lexemes.{text_token, valid_fixed, valid_number, valid_constant}

fixed_some : (text : List ℕ) → is_fixed text ≡ true → bytes_eq [] text ≡ false
fixed_some [] h = absurd (false≢true h)
fixed_some (c ∷ cs) h = refl

-- a token is a text exactly where it is that reserved word or sign
same_word : (text word : List ℕ) (ts : List Token) → is_fixed text ≡ true → (t : Token) → token_of word ≡ t → token_text t ≡ word → bytes_eq word text ≡ is_at text (t ∷ ts)
same_word text word ts h (Fixed own) e s = ap (λ w. bytes_eq w text) (sym s)
same_word text word ts h (Named name) e s = false_from_ne_true (bytes_eq word text) (λ q. let p : Fixed text ≡ Named name = sym (valid_fixed text h).again ∙ ap token_of (sym (same_bytes word text q)) ∙ e in cc)
same_word text word ts h (Number n) e s = false_from_ne_true (bytes_eq word text) (λ q. let p : Fixed text ≡ Number n = sym (valid_fixed text h).again ∙ ap token_of (sym (same_bytes word text q)) ∙ e in cc)
same_word text word ts h (Sized c) e s = false_from_ne_true (bytes_eq word text) (λ q. let p : Fixed text ≡ Sized c = sym (valid_fixed text h).again ∙ ap token_of (sym (same_bytes word text q)) ∙ e in cc)

at_word : (text word : List ℕ) (words : List (List ℕ)) → is_fixed text ≡ true → bytes_eq word text ≡ is_at text (map token_of (first_word word words))
at_word text [] words h = fixed_some text h
at_word text (c ∷ cs) words h = same_word text (c ∷ cs) (map token_of words) h (token_of (c ∷ cs)) refl (text_token (c ∷ cs)).0

pub at_is : (text : List ℕ) (r : Reader) → is_fixed text ≡ true → bytes_eq r.token.now text ≡ is_at text (left r)
unfolding left
at_is text r h = at_word text r.token.now (lexemes r.rest.now) h

tail_word : (text word : List ℕ) (words : List (List ℕ)) → is_at text (map token_of (first_word word words)) ≡ true → tail (map token_of (first_word word words)) ≡ map token_of words
tail_word text [] words h = absurd (false≢true h)
tail_word text (c ∷ cs) words h = refl

pub tail_is : (text : List ℕ) (r : Reader) → is_at text (left r) ≡ true → tail (left r) ≡ behind r
unfolding left behind tokens_of
tail_is text r h = tail_word text r.token.now (lexemes r.rest.now) h

name_word : (word : List ℕ) (words : List (List ℕ)) → is_name word ≡ true → map token_of (first_word word words) ≡ Named word ∷ map token_of words
unfolding token_of
name_word [] words h = absurd (false≢true h)
name_word (c ∷ cs) words h = ap (λ t. t ∷ map token_of words) (cond-true (is_name (c ∷ cs)) (Named (c ∷ cs)) (number_or (c ∷ cs) (number_of (c ∷ cs))) h)

pub name_comes : (r : Reader) → is_name r.token.now ≡ true → name_at (left r) ≡ Some (r.token.now, behind r)
unfolding left behind tokens_of
name_comes r h = ap name_at (name_word r.token.now (lexemes r.rest.now) h)

no_name_sized : (word : List ℕ) (o : Option Constant) (ts : List Token) → name_at (sized_or word o ∷ ts) ≡ None
no_name_sized word None ts = refl
no_name_sized word (Some c) ts = refl

no_name_number : (word : List ℕ) (o : Option ℕ) (ts : List Token) → name_at (number_or word o ∷ ts) ≡ None
no_name_number word None ts = no_name_sized word (constant_of word) ts
no_name_number word (Some n) ts = refl

no_name_word : (word : List ℕ) (words : List (List ℕ)) → is_name word ≡ false → name_at (map token_of (first_word word words)) ≡ None
unfolding token_of
no_name_word [] words h = refl
no_name_word (c ∷ cs) words h = ap (λ t. name_at (t ∷ map token_of words)) (cond-false (is_name (c ∷ cs)) (Named (c ∷ cs)) (number_or (c ∷ cs) (number_of (c ∷ cs))) h) ∙ no_name_number (c ∷ cs) (number_of (c ∷ cs)) (map token_of words)

pub no_name : (r : Reader) → is_name r.token.now ≡ false → name_at (left r) ≡ None
unfolding left
no_name r h = no_name_word r.token.now (lexemes r.rest.now) h

number_word : (word : List ℕ) (words : List (List ℕ)) (n : ℕ) → number_of word ≡ Some n → number_at (map token_of (first_word word words)) ≡ Some (n, map token_of words)
number_word [] words n h = absurd (none-some n (sym number_empty ∙ h))
number_word (c ∷ cs) words n h =
    let r = number_takes (c ∷ cs) n h in
    let t : token_of (c ∷ cs) ≡ Number n = ap token_of (sym r.spelled) ∙ (valid_number n r.fits).again in
    ap (λ t. number_at (t ∷ map token_of words)) t

pub number_comes : (r : Reader) (n : ℕ) → number_of r.token.now ≡ Some n → number_at (left r) ≡ Some (n, behind r)
unfolding left behind tokens_of
number_comes r n h = number_word r.token.now (lexemes r.rest.now) n h

no_number_sized : (word : List ℕ) (o : Option Constant) (ts : List Token) → number_at (sized_or word o ∷ ts) ≡ None
no_number_sized word None ts = refl
no_number_sized word (Some c) ts = refl

no_number_name : (word : List ℕ) (ts : List Token) → number_of word ≡ None → (b : Bool) → number_at (cond b (Named word) (number_or word (number_of word)) ∷ ts) ≡ None
no_number_name word ts h true = refl
no_number_name word ts h false = ap (λ o. number_at (number_or word o ∷ ts)) h ∙ no_number_sized word (constant_of word) ts

no_number_word : (word : List ℕ) (words : List (List ℕ)) → number_of word ≡ None → number_at (map token_of (first_word word words)) ≡ None
unfolding token_of
no_number_word [] words h = refl
no_number_word (c ∷ cs) words h = no_number_name (c ∷ cs) (map token_of words) h (is_name (c ∷ cs))

pub no_number_comes : (r : Reader) → number_of r.token.now ≡ None → number_at (left r) ≡ None
unfolding left
no_number_comes r h = no_number_word r.token.now (lexemes r.rest.now) h

constant_word : (word : List ℕ) (words : List (List ℕ)) (k : Constant) → constant_of word ≡ Some k → constant_at (map token_of (first_word word words)) ≡ Some (k, map token_of words)
constant_word [] words k h = absurd (none-some k (sym (ap (λ o. constant_from o (after_d [])) number_empty) ∙ h))
constant_word (c ∷ cs) words k h =
    let r = constant_takes (c ∷ cs) k h in
    let t : token_of (c ∷ cs) ≡ Sized k = ap token_of (sym r.spelled) ∙ (valid_constant k r.width r.value).again in
    ap (λ t. constant_at (t ∷ map token_of words)) t

pub constant_comes : (r : Reader) (k : Constant) → constant_of r.token.now ≡ Some k → constant_at (left r) ≡ Some (k, behind r)
unfolding left behind tokens_of
constant_comes r k h = constant_word r.token.now (lexemes r.rest.now) k h

no_constant_number : (word : List ℕ) (ts : List Token) → constant_of word ≡ None → (o : Option ℕ) → constant_at (number_or word o ∷ ts) ≡ None
no_constant_number word ts h None = ap (λ o. constant_at (sized_or word o ∷ ts)) h
no_constant_number word ts h (Some n) = refl

no_constant_name : (word : List ℕ) (ts : List Token) → constant_of word ≡ None → (b : Bool) → constant_at (cond b (Named word) (number_or word (number_of word)) ∷ ts) ≡ None
no_constant_name word ts h true = refl
no_constant_name word ts h false = no_constant_number word ts h (number_of word)

no_constant_word : (word : List ℕ) (words : List (List ℕ)) → constant_of word ≡ None → constant_at (map token_of (first_word word words)) ≡ None
unfolding token_of
no_constant_word [] words h = refl
no_constant_word (c ∷ cs) words h = no_constant_name (c ∷ cs) (map token_of words) h (is_name (c ∷ cs))

pub no_constant_comes : (r : Reader) → constant_of r.token.now ≡ None → constant_at (left r) ≡ None
unfolding left
no_constant_comes r h = no_constant_word r.token.now (lexemes r.rest.now) h

-- names are ASCII

name_byte_small : (c : ℕ) → is_name_byte c ≡ true → c < 128
name_byte_small c h = grind (arith, nat_tests)

letter_small : (c : ℕ) → is_ascii_alphabetic c ≡ true → c < 128
letter_small c h = grind (arith, nat_tests)

score_small : (c : ℕ) → is_digit_or_score c ≡ true → c < 128
score_small c h = grind (arith, nat_tests)

all_small : (cs : List ℕ) → list_all is_name_byte cs ≡ true → IsAscii cs
all_small [] h i = omega arith
all_small (c ∷ cs) h zero = name_byte_small c (and_parts (is_name_byte c) (list_all is_name_byte cs) h).0
all_small (c ∷ cs) h (suc i) = all_small cs (and_parts (is_name_byte c) (list_all is_name_byte cs) h).1 i

long_small : (name : List ℕ) → is_long_name name ≡ true → IsAscii name
long_small [] h = absurd (false≢true h)
long_small (c ∷ []) h = absurd (false≢true h)
long_small (c ∷ d ∷ rest) h =
    let p = and_parts (is_ascii_alphabetic c && is_digit_or_score d && list_all is_name_byte rest) (leb (length rest) 298) h in
    let q = and_parts (is_ascii_alphabetic c && is_digit_or_score d) (list_all is_name_byte rest) p.0 in
    let r = and_parts (is_ascii_alphabetic c) (is_digit_or_score d) q.0 in
    pieces (letter_small c r.0) (score_small d r.1) (all_small rest q.1)
  where
    pieces : c < 128 → d < 128 → IsAscii rest → (i : ℕ) → get_or (c ∷ d ∷ rest) i 0 < 128
    pieces a b e zero = a
    pieces a b e (suc zero) = b
    pieces a b e (suc (suc i)) = e i

pub name_small : (name : List ℕ) → is_name name ≡ true → IsAscii name
name_small name h = elim (or_cases (bytes_eq name (codes "clk")) (is_long_name name) h) as (λ _. IsAscii name) [
  | inl e ↦ subst IsAscii (sym (same_bytes name (codes "clk") e)) (all_small (codes "clk") refl)
  | inr l ↦ long_small name l
]

-- Bytes and their tokens: bytes that spell tokens are cut into them, and what bytes are cut into they spell.
use Rattle.std.proofs.Common.{◌≡◌, ℕ, suc, ◌<◌, Bool, true, false, cond, ◌&&◌, ◌||◌, eqb, leb, List, [], ◌∷◌, ◌++◌, length, map, Option, Some, None, refl, sym, ap, ◌∙◌, subst, arith, inl, inr}
use Rattle.std.specs.Prelude.{codes, not, is_none}
use Rattle.std.specs.Char.{is_ascii_digit, is_ascii_alphabetic}
use Rattle.std.specs.Fmt.{decimal}
use Rattle.std.specs.List.{list_all}
use Rattle.std.specs.Str.{bytes_eq, all_ascii_digits}
use Rattle.std.proofs.lemmas.Bool.{cond-true, cond-false, and_parts, and_from, and_left, or_cases, or_parts, or_from, or_left, false≢true}
use Rattle.std.proofs.lemmas.Bool.Decides.{nat_tests}
use Rattle.std.proofs.lemmas.List.{append-nil}
use Rattle.lg_text.specs.NameByte.{is_name_byte}
use Rattle.lg_vtree.specs.declared.expr.Constant.{Constant}
use Rattle.lg_vtree.specs.Token.{is_name, is_long_name, is_digit_or_score, is_number}
use Rattle.lg_vtree.specs.Printed.{constant_text}
use Rattle.lg_vtree.specs.Grammar.{Token, Fixed, Named, Number, Sized, token_text, is_token, is_white, begins_word, Spells}
use Rattle.lg_vread.specs.Lexing.{is_word_byte, is_angle, begins, runs_on, glue, lexemes, number_of, constant_of, sized_or, number_or, token_of, tokens_of, is_lexeme, is_fixed}
use Rattle.lg_vread.proofs.Steps.{same_bytes}
use Rattle.lg_vread.proofs.Numbers.{digits_decimal, decimal_some, number_again, number_takes, no_number, constant_spelled, constant_again, constant_takes}
use Rattle.lg_vread.proofs.Safe.{is_plain, angles, first_angles, is_safe}

-- classes of bytes

-- bytes of a class run on as long as they are of it
pub record IsClass (p : ℕ → Bool) : Type 0 where
  pub white : (c : ℕ) → p c ≡ true → is_white c ≡ false
  pub runs : (c : ℕ) (cs : List ℕ) → p c ≡ true → runs_on c cs ≡ begins p cs

word_white : (c : ℕ) → is_word_byte c ≡ true → is_white c ≡ false
word_white c h = grind (arith, nat_tests)

angle_white : (c : ℕ) → is_angle c ≡ true → is_white c ≡ false
angle_white c h = grind (arith, nat_tests)

word_no_angle : (c : ℕ) → is_word_byte c ≡ true → is_angle c ≡ false
word_no_angle c h = grind (arith, nat_tests)

angle_no_word : (c : ℕ) → is_angle c ≡ true → is_word_byte c ≡ false
angle_no_word c h = grind (arith, nat_tests)

white_no_word : (c : ℕ) → is_white c ≡ true → is_word_byte c ≡ false
white_no_word c h = grind (arith, nat_tests)

white_no_angle : (c : ℕ) → is_white c ≡ true → is_angle c ≡ false
white_no_angle c h = grind (arith, nat_tests)

white_no_quote : (c : ℕ) → is_white c ≡ true → eqb c 39 ≡ false
white_no_quote c h = grind (arith, nat_tests)

name_no_quote : (c : ℕ) → is_name_byte c ≡ true → eqb c 39 ≡ false
name_no_quote c h = grind (arith, nat_tests)

angle_no_quote : (c : ℕ) → is_angle c ≡ true → eqb c 39 ≡ false
angle_no_quote c h = grind (arith, nat_tests)

digit_name : (c : ℕ) → is_ascii_digit c ≡ true → is_name_byte c ≡ true
digit_name c h = grind (arith, nat_tests)

letter_name : (c : ℕ) → is_ascii_alphabetic c ≡ true → is_name_byte c ≡ true
letter_name c h = grind (arith, nat_tests)

score_name : (c : ℕ) → is_digit_or_score c ≡ true → is_name_byte c ≡ true
score_name c h = grind (arith, nat_tests)

letter_no_digit : (c : ℕ) → is_ascii_digit c ≡ true → is_ascii_alphabetic c ≡ false
letter_no_digit c h = grind (arith, nat_tests)

digit_no_c : (c : ℕ) → is_ascii_digit c ≡ true → eqb c 99 ≡ false
digit_no_c c h = grind (arith, nat_tests)

pub words : IsClass is_word_byte
words = record {
  white = word_white;
  runs = λ c cs h. ap (λ b. (b && begins is_word_byte cs) || (is_angle c && begins is_angle cs)) h ∙ ap (λ b. begins is_word_byte cs || (b && begins is_angle cs)) (word_no_angle c h) ∙ or_false (begins is_word_byte cs);
}
  where
    or_false : (b : Bool) → (b || false) ≡ b
    or_false true = refl
    or_false false = refl

pub angled : IsClass is_angle
angled = record {
  white = angle_white;
  runs = λ c cs h. ap (λ b. (b && begins is_word_byte cs) || (is_angle c && begins is_angle cs)) (angle_no_word c h) ∙ ap (λ b. b && begins is_angle cs) h;
}

-- cutting

at_white : (c : ℕ) (cs : List ℕ) → is_white c ≡ true → lexemes (c ∷ cs) ≡ lexemes cs
unfolding lexemes
at_white c cs h = cond-true (is_white c) (lexemes cs) (cond (runs_on c cs) (glue c (lexemes cs)) ((c ∷ []) ∷ lexemes cs)) h

at_last : (c : ℕ) (cs : List ℕ) → is_white c ≡ false → runs_on c cs ≡ false → lexemes (c ∷ cs) ≡ (c ∷ []) ∷ lexemes cs
unfolding lexemes
at_last c cs h r = cond-false (is_white c) (lexemes cs) (cond (runs_on c cs) (glue c (lexemes cs)) ((c ∷ []) ∷ lexemes cs)) h ∙ cond-false (runs_on c cs) (glue c (lexemes cs)) ((c ∷ []) ∷ lexemes cs) r

at_more : (c : ℕ) (cs : List ℕ) → is_white c ≡ false → runs_on c cs ≡ true → lexemes (c ∷ cs) ≡ glue c (lexemes cs)
unfolding lexemes
at_more c cs h r = cond-false (is_white c) (lexemes cs) (cond (runs_on c cs) (glue c (lexemes cs)) ((c ∷ []) ∷ lexemes cs)) h ∙ cond-true (runs_on c cs) (glue c (lexemes cs)) ((c ∷ []) ∷ lexemes cs) r

pub white_cut : (white rest : List ℕ) → list_all is_white white ≡ true → lexemes (white ++ rest) ≡ lexemes rest
white_cut [] rest h = refl
white_cut (c ∷ white) rest h = let p = and_parts (is_white c) (list_all is_white white) h in at_white c (white ++ rest) p.0 ∙ white_cut white rest p.1

pub class_cut : (p : ℕ → Bool) → IsClass p → (c : ℕ) (cs rest : List ℕ) → p c ≡ true → list_all p cs ≡ true → begins p rest ≡ false → lexemes (c ∷ (cs ++ rest)) ≡ (c ∷ cs) ∷ lexemes rest
class_cut p is c [] rest h all stop = at_last c rest (is.white c h) (is.runs c rest h ∙ stop)
class_cut p is c (d ∷ cs) rest h all stop =
    let a = and_parts (p d) (list_all p cs) all in
    at_more c (d ∷ (cs ++ rest)) (is.white c h) (is.runs c (d ∷ (cs ++ rest)) h ∙ a.0) ∙ ap (glue c) (class_cut p is d cs rest a.0 a.1 stop)

pub other_cut : (c : ℕ) (rest : List ℕ) → (is_white c || (is_word_byte c || is_angle c)) ≡ false → lexemes (c ∷ rest) ≡ (c ∷ []) ∷ lexemes rest
other_cut c rest h =
    let a = or_parts (is_white c) (is_word_byte c || is_angle c) h in
    let b = or_parts (is_word_byte c) (is_angle c) a.1 in
    at_last c rest a.0 (or_from (is_word_byte c && begins is_word_byte rest) (is_angle c && begins is_angle rest) (and_left (is_word_byte c) (begins is_word_byte rest) b.0) (and_left (is_angle c) (begins is_angle rest) b.1))

-- how a token goes on

pub data Shape (word : List ℕ) : Type 0 where
  Word : (c : ℕ) (cs : List ℕ) → word ≡ c ∷ cs → is_name_byte c ≡ true → list_all is_word_byte cs ≡ true → Shape word
  Angle : (c : ℕ) (cs : List ℕ) → word ≡ c ∷ cs → is_angle c ≡ true → list_all is_angle cs ≡ true → Shape word
  Other : (c : ℕ) → word ≡ c ∷ [] → (is_white c || (is_word_byte c || is_angle c)) ≡ false → Shape word

from_not : (b : Bool) → not b ≡ true → b ≡ false
from_not true h = absurd (false≢true h)
from_not false h = refl

no_more : (cs : List ℕ) → eqb (length cs) 0 ≡ true → cs ≡ []
no_more [] h = refl
no_more (c ∷ cs) h = absurd (ne (length cs) h)
  where
    ne : (n : ℕ) → eqb (suc n) 0 ≡ true → ⊥
    ne n h = grind (arith, nat_tests)

pub shape_of : (word : List ℕ) → is_lexeme word ≡ true → Shape word
shape_of [] h = absurd (false≢true h)
shape_of (c ∷ cs) h = elim (or_cases (is_name_byte c && list_all is_word_byte cs) ((is_angle c && list_all is_angle cs) || (not (is_white c || (is_word_byte c || is_angle c)) && eqb (length cs) 0)) h) [
  | inl w ↦ let p = and_parts (is_name_byte c) (list_all is_word_byte cs) w in Word c cs refl p.0 p.1
  | inr w ↦ elim (or_cases (is_angle c && list_all is_angle cs) (not (is_white c || (is_word_byte c || is_angle c)) && eqb (length cs) 0) w) [
    | inl v ↦ let p = and_parts (is_angle c) (list_all is_angle cs) v in Angle c cs refl p.0 p.1
    | inr v ↦
        let p = and_parts (not (is_white c || (is_word_byte c || is_angle c))) (eqb (length cs) 0) v in
        Other c (ap (λ r. c ∷ r) (no_more cs p.1)) (from_not (is_white c || (is_word_byte c || is_angle c)) p.0)
  ]
]

other_no_quote : (c : ℕ) → (is_white c || (is_word_byte c || is_angle c)) ≡ false → eqb c 39 ≡ false
other_no_quote c h =
    let a = or_parts (is_white c) (is_word_byte c || is_angle c) h in
    let b = or_parts (is_word_byte c) (is_angle c) a.1 in
    (or_parts (is_name_byte c) (eqb c 39) b.0).1

-- no token begins with `'`
lexeme_no_quote : (word : List ℕ) → Shape word → begins (λ c. eqb c 39) word ≡ false
lexeme_no_quote word (Word c cs e n a) = ap (begins (λ c. eqb c 39)) e ∙ name_no_quote c n
lexeme_no_quote word (Angle c cs e n a) = ap (begins (λ c. eqb c 39)) e ∙ angle_no_quote c n
lexeme_no_quote word (Other c e n) = ap (begins (λ c. eqb c 39)) e ∙ other_no_quote c n

-- tokens that are written as they are read
pub record IsValid (t : Token) : Type 0 where
  pub shape : Shape (token_text t)
  pub again : token_of (token_text t) ≡ t
  pub angle : begins is_angle (token_text t) ≡ angles t

all_words : (cs : List ℕ) → list_all is_name_byte cs ≡ true → list_all is_word_byte cs ≡ true
all_words [] h = refl
all_words (c ∷ cs) h = let p = and_parts (is_name_byte c) (list_all is_name_byte cs) h in and_from (is_word_byte c) (list_all is_word_byte cs) (or_left (is_name_byte c) (eqb c 39) p.0) (all_words cs p.1)

digit_words : (cs : List ℕ) → all_ascii_digits cs ≡ true → list_all is_word_byte cs ≡ true
digit_words [] h = refl
digit_words (c ∷ cs) h = let p = and_parts (is_ascii_digit c) (all_ascii_digits cs) h in and_from (is_word_byte c) (list_all is_word_byte cs) (or_left (is_name_byte c) (eqb c 39) (digit_name c p.0)) (digit_words cs p.1)

all_append : (p : ℕ → Bool) (xs ys : List ℕ) → list_all p xs ≡ true → list_all p ys ≡ true → list_all p (xs ++ ys) ≡ true
all_append p [] ys h g = g
all_append p (x ∷ xs) ys h g = let a = and_parts (p x) (list_all p xs) h in and_from (p x) (list_all p (xs ++ ys)) a.0 (all_append p xs ys a.1 g)

-- a word, and how it begins
record IsWord (word : List ℕ) : Type 0 where
  c : ℕ
  cs : List ℕ
  is : word ≡ c ∷ cs
  first : is_name_byte c ≡ true
  rest : list_all is_word_byte cs ≡ true

word_shape : (word : List ℕ) → IsWord word → Shape word
word_shape word w = Word w.c w.cs w.is w.first w.rest

word_angle : (word : List ℕ) → IsWord word → begins is_angle word ≡ false
word_angle word w = ap (begins is_angle) w.is ∙ word_no_angle w.c (or_left (is_name_byte w.c) (eqb w.c 39) w.first)

long_word : (name : List ℕ) → is_long_name name ≡ true → IsWord name
long_word [] h = absurd (false≢true h)
long_word (c ∷ []) h = absurd (false≢true h)
long_word (c ∷ d ∷ rest) h =
    let p = and_parts (is_ascii_alphabetic c && is_digit_or_score d && list_all is_name_byte rest) (leb (length rest) 298) h in
    let q = and_parts (is_ascii_alphabetic c && is_digit_or_score d) (list_all is_name_byte rest) p.0 in
    let r = and_parts (is_ascii_alphabetic c) (is_digit_or_score d) q.0 in
    record {
      c = c;
      cs = d ∷ rest;
      is = refl;
      first = letter_name c r.0;
      rest = and_from (is_word_byte d) (list_all is_word_byte rest) (or_left (is_name_byte d) (eqb d 39) (score_name d r.1)) (all_words rest q.1);
    }

name_word : (name : List ℕ) → is_name name ≡ true → IsWord name
name_word name h = elim (or_cases (bytes_eq name (codes "clk")) (is_long_name name) h) [
  | inl e ↦ record { c = 99; cs = codes "lk"; is = same_bytes name (codes "clk") e; first = refl; rest = refl }
  | inr l ↦ long_word name l
]

digits_word : (ds : List ℕ) → all_ascii_digits ds ≡ true → 0 < length ds → IsWord ds
digits_word [] h some = absurd (omega arith)
digits_word (c ∷ ds) h some = let p = and_parts (is_ascii_digit c) (all_ascii_digits ds) h in record { c = c; cs = ds; is = refl; first = digit_name c p.0; rest = digit_words ds p.1 }

long_no_digit : (c : ℕ) (cs : List ℕ) → is_ascii_digit c ≡ true → is_long_name (c ∷ cs) ≡ false
long_no_digit c [] h = refl
long_no_digit c (d ∷ rest) h =
    and_left (is_ascii_alphabetic c && is_digit_or_score d && list_all is_name_byte rest) (leb (length rest) 298)
    (and_left (is_ascii_alphabetic c && is_digit_or_score d) (list_all is_name_byte rest) (and_left (is_ascii_alphabetic c) (is_digit_or_score d) (letter_no_digit c h)))

-- what begins with a digit is no name
digit_no_name : (c : ℕ) (cs : List ℕ) → is_ascii_digit c ≡ true → is_name (c ∷ cs) ≡ false
digit_no_name c cs h = or_from (bytes_eq (c ∷ cs) (codes "clk")) (is_long_name (c ∷ cs)) (and_left (eqb c 99) (bytes_eq cs (codes "lk")) (digit_no_c c h)) (long_no_digit c cs h)

-- digits, and whatever follows them
digits_no_name : (ds rest : List ℕ) → all_ascii_digits ds ≡ true → 0 < length ds → is_name (ds ++ rest) ≡ false
digits_no_name [] rest h some = absurd (omega arith)
digits_no_name (c ∷ ds) rest h some = digit_no_name c (ds ++ rest) (and_parts (is_ascii_digit c) (all_ascii_digits ds) h).0

quote_no_digits : (ds rest : List ℕ) → all_ascii_digits ds ≡ true → all_ascii_digits (ds ++ 39 ∷ rest) ≡ false
quote_no_digits [] rest h = refl
quote_no_digits (c ∷ ds) rest h =
    let p = and_parts (is_ascii_digit c) (all_ascii_digits ds) h in
    ap (λ b. b && all_ascii_digits (ds ++ 39 ∷ rest)) p.0 ∙ quote_no_digits ds rest p.1

by_number : (word : List ℕ) → is_name word ≡ false → token_of word ≡ number_or word (number_of word)
unfolding token_of
by_number word h = cond-false (is_name word) (Named word) (number_or word (number_of word)) h

by_name : (word : List ℕ) → is_name word ≡ true → token_of word ≡ Named word
unfolding token_of
by_name word h = cond-true (is_name word) (Named word) (number_or word (number_of word)) h

pub valid_number : (n : ℕ) → is_number n ≡ true → IsValid (Number n)
valid_number n h =
    let word = digits_word (decimal n) (digits_decimal n h) (decimal_some n h) in
    record {
      shape = word_shape (decimal n) word;
      again = by_number (decimal n) (subst (λ w. is_name w ≡ false) (append-nil (decimal n)) (digits_no_name (decimal n) [] (digits_decimal n h) (decimal_some n h))) ∙ ap (number_or (decimal n)) (number_again n h);
      angle = word_angle (decimal n) word;
    }

constant_word : (c : Constant) → is_number c.width ≡ true → is_number c.value ≡ true → IsWord (constant_text c)
constant_word c w v =
    let start = digits_word (decimal c.width) (digits_decimal c.width w) (decimal_some c.width w) in
    record {
      c = start.c;
      cs = start.cs ++ 39 ∷ 100 ∷ decimal c.value;
      is = constant_spelled c ∙ ap (λ d. d ++ 39 ∷ 100 ∷ decimal c.value) start.is;
      first = start.first;
      rest = all_append is_word_byte start.cs (39 ∷ 100 ∷ decimal c.value) start.rest (digit_words (decimal c.value) (digits_decimal c.value v));
    }

pub valid_constant : (c : Constant) → is_number c.width ≡ true → is_number c.value ≡ true → IsValid (Sized c)
valid_constant c w v =
    let word = constant_word c w v in
    let digits = digits_decimal c.width w in
    let rest : List ℕ = 100 ∷ decimal c.value in
    let no_name : is_name (constant_text c) ≡ false = ap is_name (constant_spelled c) ∙ digits_no_name (decimal c.width) (39 ∷ rest) digits (decimal_some c.width w) in
    let none : number_of (constant_text c) ≡ None = no_number (constant_text c) (ap all_ascii_digits (constant_spelled c) ∙ quote_no_digits (decimal c.width) rest digits) in
    record {
      shape = word_shape (constant_text c) word;
      again = by_number (constant_text c) no_name ∙ ap (number_or (constant_text c)) none ∙ ap (sized_or (constant_text c)) (constant_again c w v);
      angle = word_angle (constant_text c) word;
    }

none_is : {A : Type 0} (o : Option A) → is_none o ≡ true → o ≡ None
none_is None h = refl
none_is (Some x) h = absurd (false≢true h)

pub valid_fixed : (word : List ℕ) → is_fixed word ≡ true → IsValid (Fixed word)
valid_fixed word h =
    let p = and_parts (is_lexeme word) (not (is_name word) && (is_none (number_of word) && is_none (constant_of word))) h in
    let q = and_parts (not (is_name word)) (is_none (number_of word) && is_none (constant_of word)) p.1 in
    let r = and_parts (is_none (number_of word)) (is_none (constant_of word)) q.1 in
    record {
      shape = shape_of word p.0;
      again = by_number word (from_not (is_name word) q.0) ∙ ap (number_or word) (none_is (number_of word) r.0) ∙ ap (sized_or word) (none_is (constant_of word) r.1);
      angle = refl;
    }

pub valid : (t : Token) → is_token t ≡ true → is_plain t ≡ true → IsValid t
valid (Fixed word) h p = valid_fixed word p
valid (Named name) h p = let word = name_word name h in record { shape = word_shape name word; again = by_name name h; angle = word_angle name word }
valid (Number n) h p = valid_number n h
valid (Sized c) h p = let a = and_parts (is_number c.width) (is_number c.value) h in valid_constant c a.0 a.1

-- from spelled tokens to the bytes that begin

abbrev first_passes : (ℕ → Bool) → List Token → Bool
first_passes q [] = false
first_passes q (t ∷ ts) = begins q (token_text t)

begins_behind : (q : ℕ → Bool) (white more : List ℕ) → ((c : ℕ) → is_white c ≡ true → q c ≡ false) → list_all is_white white ≡ true → begins q more ≡ false → begins q (white ++ more) ≡ false
begins_behind q [] more never h e = e
begins_behind q (c ∷ white) more never h e = never c (and_parts (is_white c) (list_all is_white white) h).0

begins_all : (q : ℕ → Bool) (white : List ℕ) → ((c : ℕ) → is_white c ≡ true → q c ≡ false) → list_all is_white white ≡ true → begins q white ≡ false
begins_all q [] never h = refl
begins_all q (c ∷ white) never h = never c (and_parts (is_white c) (list_all is_white white) h).0

shape_begins : (q : ℕ → Bool) (word rest : List ℕ) → Shape word → begins q (word ++ rest) ≡ begins q word
shape_begins q word rest (Word c cs e n a) = ap (λ w. begins q (w ++ rest)) e ∙ sym (ap (begins q) e)
shape_begins q word rest (Angle c cs e n a) = ap (λ w. begins q (w ++ rest)) e ∙ sym (ap (begins q) e)
shape_begins q word rest (Other c e n) = ap (λ w. begins q (w ++ rest)) e ∙ sym (ap (begins q) e)

spelled_first : (q : ℕ → Bool) (ts : List Token) (bytes : List ℕ) → ((c : ℕ) → is_white c ≡ true → q c ≡ false) → list_all is_token ts ≡ true → is_safe ts ≡ true → Spells (map token_text ts) bytes → first_passes q ts ≡ false → begins q bytes ≡ false
spelled_first q [] bytes never valids safe s e = begins_all q bytes never s
spelled_first q (t ∷ ts) bytes never valids safe s e =
    let v = valid t (and_parts (is_token t) (list_all is_token ts) valids).0 (and_parts (is_plain t) (not (angles t && first_angles ts) && is_safe ts) safe).0 in
    let start = s.1 in
    ap (begins q) start.spelled ∙ begins_behind q start.white (token_text t ++ s.0) never start.is_white (shape_begins q (token_text t) s.0 v.shape ∙ e)

-- the first byte of the tokens is none of these

first_no_quote : (ts : List Token) → list_all is_token ts ≡ true → is_safe ts ≡ true → first_passes (λ c. eqb c 39) ts ≡ false
first_no_quote [] valids safe = refl
first_no_quote (t ∷ ts) valids safe =
    let v = valid t (and_parts (is_token t) (list_all is_token ts) valids).0 (and_parts (is_plain t) (not (angles t && first_angles ts) && is_safe ts) safe).0 in
    lexeme_no_quote (token_text t) v.shape

first_no_angle : (ts : List Token) → list_all is_token ts ≡ true → is_safe ts ≡ true → first_angles ts ≡ false → first_passes is_angle ts ≡ false
first_no_angle [] valids safe e = refl
first_no_angle (t ∷ ts) valids safe e =
    let v = valid t (and_parts (is_token t) (list_all is_token ts) valids).0 (and_parts (is_plain t) (not (angles t && first_angles ts) && is_safe ts) safe).0 in
    v.angle ∙ e

word_or_quote : (bytes : List ℕ) → begins_word bytes ≡ false → begins (λ c. eqb c 39) bytes ≡ false → begins is_word_byte bytes ≡ false
word_or_quote [] h e = refl
word_or_quote (c ∷ cs) h e = or_from (is_name_byte c) (eqb c 39) h e

-- a token is cut off
cut_token : (word rest : List ℕ) → Shape word → (begins_word word && begins_word rest) ≡ false → begins (λ c. eqb c 39) rest ≡ false → (begins is_angle word ≡ true → begins is_angle rest ≡ false) → lexemes (word ++ rest) ≡ word ∷ lexemes rest
cut_token word rest (Word c cs e n a) apart quote angle =
    let first : begins_word word ≡ true = ap begins_word e ∙ n in
    let none : begins_word rest ≡ false = ap (λ b. b && begins_word rest) (sym first) ∙ apart in
    ap (λ w. lexemes (w ++ rest)) e ∙ class_cut is_word_byte words c cs rest (or_left (is_name_byte c) (eqb c 39) n) a (word_or_quote rest none quote) ∙ ap (λ w. w ∷ lexemes rest) (sym e)
cut_token word rest (Angle c cs e n a) apart quote angle =
    ap (λ w. lexemes (w ++ rest)) e ∙ class_cut is_angle angled c cs rest n a (angle (ap (begins is_angle) e ∙ n)) ∙ ap (λ w. w ∷ lexemes rest) (sym e)
cut_token word rest (Other c e n) apart quote angle = ap (λ w. lexemes (w ++ rest)) e ∙ other_cut c rest n ∙ ap (λ w. w ∷ lexemes rest) (sym e)

not_both : (a b : Bool) → not (a && b) ≡ true → a ≡ true → b ≡ false
not_both true b h e = from_not b h
not_both false b h e = absurd (false≢true e)

white_only : (white : List ℕ) → list_all is_white white ≡ true → lexemes white ≡ []
unfolding lexemes
white_only [] h = refl
white_only (c ∷ white) h = let p = and_parts (is_white c) (list_all is_white white) h in at_white c white p.0 ∙ white_only white p.1

-- bytes that spell tokens are cut into them
pub tokens_again : (ts : List Token) (bytes : List ℕ) → list_all is_token ts ≡ true → is_safe ts ≡ true → Spells (map token_text ts) bytes → tokens_of bytes ≡ ts
unfolding tokens_of
tokens_again [] bytes valids safe s = ap (map token_of) (white_only bytes s)
tokens_again (t ∷ ts) bytes valids safe s =
    let p = and_parts (is_token t) (list_all is_token ts) valids in
    let q = and_parts (is_plain t) (not (angles t && first_angles ts) && is_safe ts) safe in
    let r = and_parts (not (angles t && first_angles ts)) (is_safe ts) q.1 in
    let v = valid t p.0 q.0 in
    let rest = s.0 in
    let start = s.1 in
    let quote = spelled_first (λ c. eqb c 39) ts rest white_no_quote p.1 r.1 s.2 (first_no_quote ts p.1 r.1) in
    let angle : begins is_angle (token_text t) ≡ true → begins is_angle rest ≡ false = λ e. spelled_first is_angle ts rest white_no_angle p.1 r.1 s.2 (first_no_angle ts p.1 r.1 (not_both (angles t) (first_angles ts) r.0 (sym v.angle ∙ e))) in
    ap (λ b. map token_of (lexemes b)) start.spelled
    ∙ ap (map token_of) (white_cut start.white (token_text t ++ rest) start.is_white ∙ cut_token (token_text t) rest v.shape start.apart quote angle)
    ∙ ap (λ x. x ∷ map token_of (lexemes rest)) v.again
    ∙ ap (λ r. t ∷ r) (tokens_again ts rest p.1 r.1 s.2)

-- what bytes are cut into, they spell

-- a token is cut off bytes, and goes no further
record Cuts (word bytes rest : List ℕ) : Type 0 where
  white : List ℕ
  is_white_all : list_all is_white white ≡ true
  spelled : bytes ≡ white ++ (word ++ rest)
  apart : (begins is_word_byte word && begins is_word_byte rest) ≡ false
  c : ℕ
  cs : List ℕ
  some : word ≡ c ∷ cs

abbrev CutsAll : List (List ℕ) → List ℕ → Type 0
CutsAll [] bytes = list_all is_white bytes ≡ true
CutsAll (word ∷ more) bytes = (rest : List ℕ) × Cuts word bytes rest × CutsAll more rest

more_white : (c : ℕ) (words : List (List ℕ)) (cs : List ℕ) → is_white c ≡ true → CutsAll words cs → CutsAll words (c ∷ cs)
more_white c [] cs h s = and_from (is_white c) (list_all is_white cs) h s
more_white c (word ∷ more) cs h s =
    let k = s.1 in
    (s.0, record { white = c ∷ k.white; is_white_all = and_from (is_white c) (list_all is_white k.white) h k.is_white_all; spelled = ap (λ r. c ∷ r) k.spelled; apart = k.apart; c = k.c; cs = k.cs; some = k.some }, s.2)

-- nothing white stands before a byte that is not
no_white : (white more : List ℕ) (d : ℕ) (ds : List ℕ) → is_white d ≡ false → d ∷ ds ≡ white ++ more → list_all is_white white ≡ true → white ≡ []
no_white [] more d ds h e w = refl
no_white (c ∷ white) more d ds h e w =
    let same : d ≡ c = cc e in
    let is : is_white c ≡ true = (and_parts (is_white c) (list_all is_white white) w).0 in
    absurd (false≢true (sym h ∙ ap is_white same ∙ is))

runs_class : (c d : ℕ) (ds : List ℕ) → runs_on c (d ∷ ds) ≡ true → (is_white d ≡ false) × (is_word_byte c ≡ true → is_word_byte d ≡ true)
runs_class c d ds h = elim (or_cases (is_word_byte c && is_word_byte d) (is_angle c && is_angle d) h) [
  | inl w ↦ let p = and_parts (is_word_byte c) (is_word_byte d) w in (word_white d p.1, λ e. p.1)
  | inr w ↦ let p = and_parts (is_angle c) (is_angle d) w in (angle_white d p.1, λ e. absurd (false≢true (sym (angle_no_word c p.0) ∙ e)))
]

glued : (c d : ℕ) (ds : List ℕ) (found : List (List ℕ)) → runs_on c (d ∷ ds) ≡ true → CutsAll found (d ∷ ds) → CutsAll (glue c found) (c ∷ d ∷ ds)
glued c d ds [] h s = let k = runs_class c d ds h in absurd (false≢true (sym k.0 ∙ (and_parts (is_white d) (list_all is_white ds) s).0))
glued c d ds (word ∷ more) h s =
    let k = runs_class c d ds h in
    let t = s.1 in
    let none : t.white ≡ [] = no_white t.white (word ++ s.0) d ds k.0 t.spelled t.is_white_all in
    let whole : d ∷ ds ≡ word ++ s.0 = t.spelled ∙ ap (λ w. w ++ (word ++ s.0)) none in
    let front : d ∷ ds ≡ t.c ∷ (t.cs ++ s.0) = whole ∙ ap (λ w. w ++ s.0) t.some in
    let same : d ≡ t.c = cc front in
    let begins_too : is_word_byte c ≡ true → begins is_word_byte word ≡ true = λ e. ap (begins is_word_byte) t.some ∙ ap is_word_byte (sym same) ∙ k.1 e in
    (s.0, record { white = []; is_white_all = refl; spelled = ap (λ r. c ∷ r) whole; apart = follows (is_word_byte c) (begins is_word_byte word) (begins is_word_byte s.0) begins_too t.apart; c = c; cs = word; some = refl }, s.2)
  where
    follows : (a b r : Bool) → (a ≡ true → b ≡ true) → (b && r) ≡ false → (a && r) ≡ false
    follows true b r h e = ap (λ x. x && r) (sym (h refl)) ∙ e
    follows false b r h e = refl

last_apart : (c : ℕ) (cs : List ℕ) → runs_on c cs ≡ false → (is_word_byte c && begins is_word_byte cs) ≡ false
last_apart c cs h = (or_parts (is_word_byte c && begins is_word_byte cs) (is_angle c && begins is_angle cs) h).0

runs_on-nil : (c : ℕ) → runs_on c [] ≡ false
runs_on-nil c = or_from (is_word_byte c && false) (is_angle c && false) (nothing (is_word_byte c)) (nothing (is_angle c))
  where
    nothing : (b : Bool) → (b && false) ≡ false
    nothing true = refl
    nothing false = refl

cut_step : (c : ℕ) (cs : List ℕ) (found : List (List ℕ)) → CutsAll found cs → (white runs : Bool) → is_white c ≡ white → runs_on c cs ≡ runs → CutsAll (cond white found (cond runs (glue c found) ((c ∷ []) ∷ found))) (c ∷ cs)
cut_step c cs found s true runs h r = more_white c found cs h s
cut_step c [] found s false true h r = absurd (false≢true (sym (runs_on-nil c) ∙ r))
cut_step c (d ∷ ds) found s false true h r = glued c d ds found r s
cut_step c cs found s false false h r = (cs, record { white = []; is_white_all = refl; spelled = refl; apart = last_apart c cs r; c = c; cs = []; some = refl }, s)

cuts_all : (bytes : List ℕ) → CutsAll (lexemes bytes) bytes
unfolding lexemes
cuts_all [] = refl
cuts_all (c ∷ cs) = cut_step c cs (lexemes cs) (cuts_all cs) (is_white c) (runs_on c cs) refl refl

word_begins : (bytes : List ℕ) → begins_word bytes ≡ true → begins is_word_byte bytes ≡ true
word_begins [] h = absurd (false≢true h)
word_begins (c ∷ cs) h = or_left (is_name_byte c) (eqb c 39) h

weaker : (word rest : List ℕ) → (begins is_word_byte word && begins is_word_byte rest) ≡ false → (b d : Bool) → begins_word word ≡ b → begins_word rest ≡ d → (b && d) ≡ false
weaker word rest h true true p q = absurd (false≢true (sym h ∙ and_from (begins is_word_byte word) (begins is_word_byte rest) (word_begins word p) (word_begins rest q)))
weaker word rest h true false p q = refl
weaker word rest h false d p q = refl

cuts_spell : (found : List (List ℕ)) (bytes : List ℕ) → CutsAll found bytes → Spells found bytes
cuts_spell [] bytes s = s
cuts_spell (word ∷ more) bytes s =
    let k = s.1 in
    (s.0, record { white = k.white; is_white = k.is_white_all; spelled = k.spelled; apart = weaker word s.0 k.apart (begins_word word) (begins_word s.0) refl refl }, cuts_spell more s.0 s.2)

-- a token is written as it was read

text_sized : (word : List ℕ) (o : Option Constant) → constant_of word ≡ o → (token_text (sized_or word o) ≡ word) × (is_token (sized_or word o) ≡ true)
text_sized word None e = (refl, refl)
text_sized word (Some c) e = let r = constant_takes word c e in (r.spelled, and_from (is_number c.width) (is_number c.value) r.width r.value)

text_number : (word : List ℕ) (o : Option ℕ) → number_of word ≡ o → (token_text (number_or word o) ≡ word) × (is_token (number_or word o) ≡ true)
text_number word None e = text_sized word (constant_of word) refl
text_number word (Some n) e = let r = number_takes word n e in (r.spelled, r.fits)

pub text_token : (word : List ℕ) → (token_text (token_of word) ≡ word) × (is_token (token_of word) ≡ true)
unfolding token_of
text_token word = by (is_name word) refl
  where
    by : (b : Bool) → is_name word ≡ b → (token_text (cond b (Named word) (number_or word (number_of word))) ≡ word) × (is_token (cond b (Named word) (number_or word (number_of word))) ≡ true)
    by true h = (refl, h)
    by false h = text_number word (number_of word) refl

texts : (found : List (List ℕ)) → (map token_text (map token_of found) ≡ found) × (list_all is_token (map token_of found) ≡ true)
texts [] = (refl, refl)
texts (word ∷ found) =
    let a = text_token word in
    let b = texts found in
    (ap (λ w. w ∷ map token_text (map token_of found)) a.0 ∙ ap (λ r. word ∷ r) b.0, and_from (is_token (token_of word)) (list_all is_token (map token_of found)) a.1 b.1)

-- the tokens of bytes are of the subset, and the bytes spell them
pub tokens_spelled : (bytes : List ℕ) → (list_all is_token (tokens_of bytes) ≡ true) × Spells (map token_text (tokens_of bytes)) bytes
unfolding tokens_of
tokens_spelled bytes =
    let t = texts (lexemes bytes) in
    (t.1, subst (λ found. Spells found bytes) (sym t.0) (cuts_spell (lexemes bytes) bytes (cuts_all bytes)))

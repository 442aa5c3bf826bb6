-- Tokens cut off the front of bytes.
use Rattle.std.proofs.Common.{◌≡◌, ℕ, suc, ◌+◌, Bool, true, false, cond, ◌||◌, List, [], ◌∷◌, take, drop, refl, sym, ap, ◌∙◌, arith, take-append-drop}
use Rattle.std.specs.List.{list_all, prefix_len}
use Rattle.std.proofs.lemmas.Bool.{cond-true, and_from, or_from}
use Rattle.lg_vtree.specs.Grammar.{is_white}
use Rattle.lg_vread.specs.Lexing.{is_word_byte, is_angle, begins, lexemes, first_word, token_len}
use Rattle.lg_vread.proofs.Lexemes.{IsClass, words, angled, white_cut, class_cut, other_cut}

one_more : (n : ℕ) → 1 + n ≡ suc n
one_more n = omega arith

all_step : (p : ℕ → Bool) (x : ℕ) (xs : List ℕ) (n : ℕ) → list_all p (take n xs) ≡ true → (b : Bool) → p x ≡ b → list_all p (take (cond b (1 + n) 0) (x ∷ xs)) ≡ true
all_step p x xs n h true e = rw (one_more n) (and_from (p x) (list_all p (take n xs)) e h)
all_step p x xs n h false e = refl

pub prefix_all : (p : ℕ → Bool) (xs : List ℕ) → list_all p (take (prefix_len p xs) xs) ≡ true
prefix_all p [] = refl
prefix_all p (x ∷ xs) = all_step p x xs (prefix_len p xs) (prefix_all p xs) (p x) refl

stop_step : (p : ℕ → Bool) (x : ℕ) (xs : List ℕ) (n : ℕ) → begins p (drop n xs) ≡ false → (b : Bool) → p x ≡ b → begins p (drop (cond b (1 + n) 0) (x ∷ xs)) ≡ false
stop_step p x xs n h true e = rw (one_more n) h
stop_step p x xs n h false e = e

pub prefix_stop : (p : ℕ → Bool) (xs : List ℕ) → begins p (drop (prefix_len p xs) xs) ≡ false
prefix_stop p [] = refl
prefix_stop p (x ∷ xs) = stop_step p x xs (prefix_len p xs) (prefix_stop p xs) (p x) refl

class_token : (p : ℕ → Bool) → IsClass p → (c : ℕ) (cs : List ℕ) → p c ≡ true → lexemes (c ∷ cs) ≡ first_word (take (prefix_len p (c ∷ cs)) (c ∷ cs)) (lexemes (drop (prefix_len p (c ∷ cs)) (c ∷ cs)))
class_token p is c cs h =
    let n = prefix_len p cs in
    let len : prefix_len p (c ∷ cs) ≡ suc n = cond-true (p c) (1 + n) 0 h ∙ one_more n in
    ap (λ r. lexemes (c ∷ r)) (sym (take-append-drop n cs))
    ∙ class_cut p is c (take n cs) (drop n cs) h (prefix_all p cs) (prefix_stop p cs)
    ∙ ap (λ k. first_word (take k (c ∷ cs)) (lexemes (drop k (c ∷ cs)))) (sym len)

token_step : (c : ℕ) (cs : List ℕ) → is_white c ≡ false → (w a : Bool) → is_word_byte c ≡ w → is_angle c ≡ a
    → lexemes (c ∷ cs) ≡ first_word (take (cond w (prefix_len is_word_byte (c ∷ cs)) (cond a (prefix_len is_angle (c ∷ cs)) 1)) (c ∷ cs)) (lexemes (drop (cond w (prefix_len is_word_byte (c ∷ cs)) (cond a (prefix_len is_angle (c ∷ cs)) 1)) (c ∷ cs)))
token_step c cs white true a hw ha = class_token is_word_byte words c cs hw
token_step c cs white false true hw ha = class_token is_angle angled c cs ha
token_step c cs white false false hw ha = other_cut c cs (or_from (is_white c) (is_word_byte c || is_angle c) white (or_from (is_word_byte c) (is_angle c) hw ha))

token_cut : (bytes : List ℕ) → begins is_white bytes ≡ false → lexemes bytes ≡ first_word (take (token_len bytes) bytes) (lexemes (drop (token_len bytes) bytes))
unfolding lexemes
token_cut [] h = refl
token_cut (c ∷ cs) h = token_step c cs h (is_word_byte c) (is_angle c) refl refl

pub split_cut : (bytes : List ℕ) → let text = drop (prefix_len is_white bytes) bytes in lexemes bytes ≡ first_word (take (token_len text) text) (lexemes (drop (token_len text) text))
split_cut bytes =
    let n = prefix_len is_white bytes in
    ap lexemes (sym (take-append-drop n bytes)) ∙ white_cut (take n bytes) (drop n bytes) (prefix_all is_white bytes) ∙ token_cut (drop n bytes) (prefix_stop is_white bytes)

-- Bytes cut into tokens. No contract of the crate's surface speaks of this.
use Rattle.std.specs.Prelude.{ℕ, ◌==◌, Bool, false, not, ◌&&◌, ◌||◌, List, [], ◌∷◌, length, map, Option, Some, None, is_none, if◌then◌else◌}
use Rattle.std.specs.Fmt.{decimal}
use Rattle.std.specs.List.{list_all, prefix_len}
use Rattle.std.specs.Str.{bytes_eq, all_ascii_digits}
use Rattle.std.specs.Str.Parse.{digits_value}
use Rattle.lg_text.specs.NameByte.{is_name_byte}
use Rattle.lg_vtree.specs.declared.expr.Constant.{Constant}
use Rattle.lg_vread.specs.declared.class.Class.{Class}
use Rattle.lg_vread.specs.declared.class.Class.TheVariants.{White, Word, Angle}
use Rattle.lg_vread.specs.declared.reader.Reader.{Reader}
use Rattle.lg_vtree.specs.Token.{is_name, is_number}
use Rattle.lg_vtree.specs.Grammar.{Token, Fixed, Named, Number, Sized, is_white}

-- a byte of a name, a number or a constant
abbrev pub is_word_byte : ℕ → Bool
is_word_byte c = is_name_byte c || c == 39

-- `<`, `=` or `>`
abbrev pub is_angle : ℕ → Bool
is_angle c = c == 60 || c == 61 || c == 62

-- the first byte passes
abbrev pub begins : (ℕ → Bool) → List ℕ → Bool
begins p [] = false
begins p (c ∷ cs) = p c

-- the byte and the next are of one token
abbrev pub runs_on : ℕ → List ℕ → Bool
runs_on c cs = (is_word_byte c && begins is_word_byte cs) || (is_angle c && begins is_angle cs)

-- a byte put before the first token
abbrev pub glue : ℕ → List (List ℕ) → List (List ℕ)
glue c [] = (c ∷ []) ∷ []
glue c (word ∷ words) = (c ∷ word) ∷ words

-- the bytes of each token, without the white space
unfoldable pub lexemes : List ℕ → List (List ℕ)
lexemes [] = []
lexemes (c ∷ cs) = if is_white c then lexemes cs else (if runs_on c cs then glue c (lexemes cs) else (c ∷ []) ∷ lexemes cs)

-- the number that is written so
abbrev pub number_of : List ℕ → Option ℕ
number_of word =
    if all_ascii_digits word && (is_number (digits_value 10 word) && bytes_eq (decimal (digits_value 10 word)) word) then Some (digits_value 10 word) else None

-- what stands before the first `'`, or all where there is none
abbrev pub before_quote : List ℕ → List ℕ
before_quote [] = []
before_quote (c ∷ cs) = if c == 39 then [] else c ∷ before_quote cs

-- what stands after the first `'`, or nothing where there is none
abbrev pub after_quote : List ℕ → List ℕ
after_quote [] = []
after_quote (c ∷ cs) = if c == 39 then cs else after_quote cs

-- the number after a `d`
abbrev pub after_d : List ℕ → Option ℕ
after_d [] = None
after_d (c ∷ digits) = if c == 100 then number_of digits else None

-- a constant of a width, where there are both numbers
abbrev pub constant_from : Option ℕ → Option ℕ → Option Constant
constant_from None value = None
constant_from (Some width) None = None
constant_from (Some width) (Some value) = Some (record { width = width; value = value })

-- the constant that is written so
abbrev pub constant_of : List ℕ → Option Constant
constant_of word = constant_from (number_of (before_quote word)) (after_d (after_quote word))

abbrev pub sized_or : List ℕ → Option Constant → Token
sized_or word None = Fixed word
sized_or word (Some constant) = Sized constant

abbrev pub number_or : List ℕ → Option ℕ → Token
number_or word None = sized_or word (constant_of word)
number_or word (Some number) = Number number

-- the token that is written so
unfoldable pub token_of : List ℕ → Token
token_of word = if is_name word then Named word else number_or word (number_of word)

-- the tokens of bytes
unfoldable pub tokens_of : List ℕ → List Token
tokens_of bytes = map token_of (lexemes bytes)

-- bytes that make one token: a word, signs that join, or another sign
abbrev pub is_lexeme : List ℕ → Bool
is_lexeme [] = false
is_lexeme (c ∷ cs) =
    (is_name_byte c && list_all is_word_byte cs) || ((is_angle c && list_all is_angle cs) || (not (is_white c || (is_word_byte c || is_angle c)) && length cs == 0))

-- a reserved word or a sign: one token, and neither a name nor a number nor a constant
abbrev pub is_fixed : List ℕ → Bool
is_fixed word = is_lexeme word && (not (is_name word) && (is_none (number_of word) && is_none (constant_of word)))

-- a first token, where it has a byte, and others
abbrev pub first_word : List ℕ → List (List ℕ) → List (List ℕ)
first_word [] words = []
first_word (c ∷ cs) words = (c ∷ cs) ∷ words

-- the bytes of a class
abbrev pub passes : Class → ℕ → Bool
passes White = is_white
passes Word = is_word_byte
passes Angle = is_angle

-- how many bytes the token has that bytes begin with
abbrev pub token_len : List ℕ → ℕ
token_len [] = 0
token_len (c ∷ cs) = if is_word_byte c then prefix_len is_word_byte (c ∷ cs) else (if is_angle c then prefix_len is_angle (c ∷ cs) else 1)

-- the tokens that a reader has before it
unfoldable pub left : Reader → List Token
left reader = map token_of (first_word reader.token.now (lexemes reader.rest.now))

-- those behind its first
unfoldable pub behind : Reader → List Token
behind reader = tokens_of reader.rest.now

-- The tokens of the subset. Source: IEEE 1364-2005, 3.2 (white space), 3.5 (numbers), 3.7 (identifiers), in a narrower form.
use Rattle.std.specs.Prelude.{ℕ, ◌==◌, nat_le, Bool, true, false, ◌&&◌, ◌||◌, List, [], ◌∷◌, length, Option, Some, None, codes}
use Rattle.std.specs.Char.{is_ascii_alphabetic, is_ascii_digit}
use Rattle.std.specs.List.{list_all}
use Rattle.std.specs.Str.{bytes_eq}
use Rattle.lg_text.specs.NameByte.{is_name_byte}

-- a digit or `_`
abbrev pub is_digit_or_score : ℕ → Bool
is_digit_or_score c = is_ascii_digit c || c == 95

-- a letter with a digit or `_` behind it, and then up to 298 of these three
abbrev pub is_long_name : List ℕ → Bool
is_long_name [] = false
is_long_name (c ∷ []) = false
is_long_name (c ∷ d ∷ rest) = is_ascii_alphabetic c && is_digit_or_score d && list_all is_name_byte rest && nat_le (length rest) 298

abbrev pub is_name : List ℕ → Bool
is_name text = bytes_eq text (codes "clk") || is_long_name text

-- a number that can be written: below 2 to the 128
abbrev pub is_number : ℕ → Bool
is_number n = nat_le n 340282366920938463463374607431768211455

-- a range has a high index of at least 1, and a name of one bit has no range
abbrev pub is_range : Option ℕ → Bool
is_range None = true
is_range (Some high) = nat_le 1 high && is_number high

-- How pins are named: after their labels, each name once in a circuit.
use Rattle.std.specs.Prelude.{◌≡◌, ℕ, nat_le, ◌<◌, ◌≤◌, ◌==◌, Bool, true, false, ◌&&◌, List, [], ◌∷◌, ◌++◌, length, take, reverse, MatchBool, if◌then◌else◌, codes}
use Rattle.std.specs.List.{list_all, list_any, flat_map}
use Rattle.std.specs.Fmt.{decimal}
use Rattle.std.specs.Int.{is_in_range}
use Rattle.std.specs.Str.{bytes_eq}
use Rattle.lg_text.specs.NameByte.{is_name_byte}

-- how many characters a name has at most before it is numbered
abbrev pub longest_name : ℕ
longest_name = 256

-- 1 to 290 ASCII letters, digits and `_`
abbrev pub is_pin_name : List ℕ → Bool
is_pin_name name = nat_le 1 (length name) && nat_le (length name) 290 && list_all is_name_byte name

-- a byte of UTF-8 that goes on with a character and begins none
abbrev pub is_continuation : ℕ → Bool
is_continuation c = is_in_range 128 191 c

-- what stands in a name for a byte of the label: so each other character becomes one `_`
abbrev pub cleaned_byte : ℕ → List ℕ
cleaned_byte c = if is_name_byte c then c ∷ [] else (if is_continuation c then [] else 95 ∷ [])

-- without the spaces at the front
abbrev pub without_spaces : List ℕ → List ℕ
without_spaces [] = []
without_spaces (c ∷ cs) = if c == 32 then without_spaces cs else c ∷ cs

-- without the spaces at both ends
abbrev pub trimmed : List ℕ → List ℕ
trimmed label = reverse (without_spaces (reverse (without_spaces label)))

-- `pin` in the place of the empty name
abbrev pub or_pin : List ℕ → List ℕ
or_pin [] = codes "pin"
or_pin (c ∷ cs) = c ∷ cs

-- the name that a label gives where no other pin has it
abbrev pub name_of_label : List ℕ → List ℕ
name_of_label label = or_pin (take longest_name (flat_map cleaned_byte (trimmed label)))

-- the name is among those
abbrev pub is_taken : List (List ℕ) → List ℕ → Bool
is_taken taken name = list_any (bytes_eq name) taken

abbrev pub numbered_name : List ℕ → ℕ → List ℕ
numbered_name name n = name ++ codes "_" ++ decimal n

-- the first of `name_2`, `name_3` and so on that is free
pub record IsFirstFree (taken : List (List ℕ)) (name found : List ℕ) : Type 0 where
  pub number : ℕ
  pub from_two : 2 ≤ number
  pub numbered : found ≡ numbered_name name number
  pub free : is_taken taken found ≡ false
  pub first : (n : ℕ) → 2 ≤ n → n < number → is_taken taken (numbered_name name n) ≡ true

-- the name itself where it is free, and else the first numbered one
abbrev pub IsFreeName : List (List ℕ) → List ℕ → List ℕ → Type 0
IsFreeName taken name found = MatchBool (is_taken taken name) (IsFirstFree taken name found) (found ≡ name)

-- the names of pins with these labels, in order, where those are taken
abbrev pub AreNames : List (List ℕ) → List (List ℕ) → List (List ℕ) → Type 0
AreNames taken [] [] = Unit {0}
AreNames taken (label ∷ labels) (name ∷ names) = IsFreeName taken (name_of_label label) name × AreNames (taken ++ name ∷ []) labels names
AreNames taken [] (name ∷ names) = ⊥
AreNames taken (label ∷ labels) [] = ⊥

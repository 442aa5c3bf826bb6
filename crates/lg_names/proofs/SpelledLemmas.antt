-- Names of pins differ, and a module can spell them.
use Rattle.std.proofs.Common.{◌≡◌, ℕ, zero, suc, ◌+◌, ◌%◌, ◌^◌, ◌<◌, ◌≤◌, Bool, true, false, ◌&&◌, ◌||◌, if◌then◌else◌, List, [], ◌∷◌, ◌++◌, length, take, MatchBool, refl, sym, ap, subst, ◌∙◌, arith, append_assoc, inl, inr, ◌⊎◌, lit≤}
use Rattle.std.specs.Prelude.{codes, nat_le, ◌==◌, IsTrue, All}
use Rattle.std.specs.List.{list_all, flat_map, IsDistinct}
use Rattle.std.specs.Char.{is_ascii_alphanumeric}
use Rattle.std.specs.Fmt.{decimal}
use Rattle.std.specs.Int.{is_in_range}
use Rattle.std.specs.Str.{bytes_eq}
use Rattle.std.specs.Cmp.Lexicographic.{nat_list_eq_equiv}
use Rattle.std.proofs.lemmas.Bool.{cases_lt, le-leb, and_from, and_parts, or_left}
use Rattle.std.proofs.lemmas.Fmt.{decimal_by_steps, length-decimal-le}
use Rattle.std.proofs.lemmas.List.{length-append, length-take, append-nil}
use Rattle.std.proofs.lemmas.List.Elements.{All-nil, All-cons}
use Rattle.std.proofs.lemmas.List.Folds.{list_all-append}
use Rattle.std.proofs.lemmas.Map.Keys.{IsDistinct-push}
use Rattle.lg_text.specs.NameByte.{is_name_byte}
use Rattle.lg_names.specs.Names.{is_continuation, cleaned_byte, trimmed, or_pin, name_of_label, is_taken, numbered_name, IsFirstFree, AreNames, is_pin_name}
use Rattle.lg_names.proofs.NameLemmas.{one_is_free}

-- the name of a label is made of letters, digits and `_`
cleaned_name_bytes : (c : ℕ) (w k : Bool) → is_name_byte c ≡ w → list_all is_name_byte (if w then c ∷ [] else (if k then [] else 95 ∷ [])) ≡ true
cleaned_name_bytes c true k e = and_from (is_name_byte c) true e refl
cleaned_name_bytes c false true e = refl
cleaned_name_bytes c false false e = refl

all_cleaned : (label : List ℕ) → list_all is_name_byte (flat_map cleaned_byte label) ≡ true
all_cleaned [] = refl
all_cleaned (c ∷ label) =
    list_all-append is_name_byte (cleaned_byte c) (flat_map cleaned_byte label)
    ∙ and_from (list_all is_name_byte (cleaned_byte c)) (list_all is_name_byte (flat_map cleaned_byte label)) (cleaned_name_bytes c (is_name_byte c) (is_continuation c) refl) (all_cleaned label)

all_taken : (n : ℕ) (text : List ℕ) → list_all is_name_byte text ≡ true → list_all is_name_byte (take n text) ≡ true
all_taken zero text h = refl
all_taken (suc n) [] h = refl
all_taken (suc n) (c ∷ text) h =
    let parts = and_parts (is_name_byte c) (list_all is_name_byte text) h in
    and_from (is_name_byte c) (list_all is_name_byte (take n text)) parts.0 (all_taken n text parts.1)

name_bytes_or_pin : (text : List ℕ) → list_all is_name_byte text ≡ true → list_all is_name_byte (or_pin text) ≡ true
name_bytes_or_pin [] h = refl
name_bytes_or_pin (c ∷ text) h = h

length-or_pin : (text : List ℕ) → length text ≤ 256 → (1 ≤ length (or_pin text)) × (length (or_pin text) ≤ 256)
length-or_pin [] h = (lit≤ tt, lit≤ tt)
length-or_pin (c ∷ text) h = (omega arith, h)

-- bytes of names, as many as a name may have before it is numbered
pub record IsShortName (name : List ℕ) : Type 0 where
  pub name_bytes : list_all is_name_byte name ≡ true
  pub some : 1 ≤ length name
  pub short : length name ≤ 256

pub IsShortName-of_label : (label : List ℕ) → IsShortName (name_of_label label)
IsShortName-of_label label =
    let cleaned = flat_map cleaned_byte (trimmed label) in
    let sized = length-or_pin (take 256 cleaned) (omega (arith, length-take 256 cleaned)) in record {
      name_bytes = name_bytes_or_pin (take 256 cleaned) (all_taken 256 cleaned (all_cleaned (trimmed label)));
      some = sized.0;
      short = sized.1;
    }

pub is_pin_name-from_parts : (name : List ℕ) → list_all is_name_byte name ≡ true → 1 ≤ length name → length name ≤ 290 → is_pin_name name ≡ true
is_pin_name-from_parts name words some short =
    and_from (nat_le 1 (length name) && nat_le (length name) 290) (list_all is_name_byte name)
    (and_from (nat_le 1 (length name)) (nat_le (length name) 290) (le-leb 1 (length name) some) (le-leb (length name) 290 short)) words

is_name_byte-digit : (n : ℕ) → n < 10 → is_name_byte (48 + n) ≡ true
is_name_byte-digit n h =
    or_left (is_ascii_alphanumeric (48 + n)) ((48 + n) == 95)
    (or_left (is_in_range 48 57 (48 + n) || is_in_range 65 90 (48 + n)) (is_in_range 97 122 (48 + n))
    (or_left (is_in_range 48 57 (48 + n)) (is_in_range 65 90 (48 + n))
    (and_from (nat_le 48 (48 + n)) (nat_le (48 + n) 57) (le-leb 48 (48 + n) (omega arith)) (le-leb (48 + n) 57 (omega arith)))))

name_bytes-decimal : (n : ℕ) → n < 2 ^ 64 → list_all is_name_byte (decimal n) ≡ true
name_bytes-decimal =
    decimal_by_steps (λ n ds. list_all is_name_byte ds ≡ true) (λ n small. and_from (is_name_byte (48 + n)) true (is_name_byte-digit n small) refl)
    (λ n ds ten h.
    list_all-append is_name_byte ds ((48 + n % 10) ∷ [])
    ∙ and_from (list_all is_name_byte ds) (list_all is_name_byte ((48 + n % 10) ∷ [])) h (and_from (is_name_byte (48 + n % 10)) true (is_name_byte-digit (n % 10) (omega arith)) refl))

-- a name with its number
is_pin_name-numbered : (name : List ℕ) (n : ℕ) → IsShortName name → n < 2 ^ 64 → is_pin_name (numbered_name name n) ≡ true
is_pin_name-numbered name n s fits =
    let front = name ++ codes "_" in
    let digits : length (decimal n) ≤ 20 = length-decimal-le 20 n (omega arith) (omega arith) fits in
    let words : list_all is_name_byte (front ++ decimal n) ≡ true =
    list_all-append is_name_byte front (decimal n)
    ∙ and_from (list_all is_name_byte front) (list_all is_name_byte (decimal n)) (list_all-append is_name_byte name (codes "_") ∙ and_from (list_all is_name_byte name) true s.name_bytes refl) (name_bytes-decimal n fits) in
    let sized : length front ≡ length name + 1 = length-append name (codes "_") in
    is_pin_name-from_parts (front ++ decimal n) words (omega (arith, length-append front (decimal n), s.some)) (omega (arith, length-append front (decimal n), s.short))

-- the number of a name is at most two more than how many names are taken
few_tried : (taken : List (List ℕ)) (name found : List ℕ) → length taken < 2 ^ 63 → (f : IsFirstFree taken name found) → (f.number < length taken + 3) ⊎ (length taken + 3 ≤ f.number) → f.number < length taken + 3
few_tried taken name found small f (inl less) = less
few_tried taken name found small f (inr more) = absurd (one_is_free taken name small (λ n low high. f.first n low (omega arith)))

is_pin_name-free : (taken : List (List ℕ)) (label found : List ℕ) → length taken < 2 ^ 63 → (b : Bool) → MatchBool b (IsFirstFree taken (name_of_label label) found) (found ≡ name_of_label label)
    → is_pin_name found ≡ true
is_pin_name-free taken label found small true f =
    let few : f.number < length taken + 3 = few_tried taken (name_of_label label) found small f (cases_lt f.number (length taken + 3)) in
    ap is_pin_name f.numbered ∙ is_pin_name-numbered (name_of_label label) f.number (IsShortName-of_label label) (omega arith)
is_pin_name-free taken label found small false e =
    let s = IsShortName-of_label label in
    ap is_pin_name e ∙ is_pin_name-from_parts (name_of_label label) s.name_bytes s.some (omega (arith, s.short))

-- names of pins are made of letters, digits and `_`, and short
pub all_spelled : (taken labels names : List (List ℕ)) → length taken + length labels < 2 ^ 63 → AreNames taken labels names → All (λ name. IsTrue (is_pin_name name)) names
all_spelled taken [] [] small h = All-nil (λ (name : List ℕ). IsTrue (is_pin_name name))
all_spelled taken [] (name ∷ names) small h = absurd h
all_spelled taken (label ∷ labels) [] small h = absurd h
all_spelled taken (label ∷ labels) (name ∷ names) small h =
    All-cons (λ (name : List ℕ). IsTrue (is_pin_name name)) name names (is_pin_name-free taken label name (omega arith) (is_taken taken (name_of_label label)) h.0)
    (all_spelled (taken ++ name ∷ []) labels names (omega (arith, length-append taken (name ∷ []))) h.1)

is_new : (taken : List (List ℕ)) (name found : List ℕ) (b : Bool) → is_taken taken name ≡ b → MatchBool b (IsFirstFree taken name found) (found ≡ name) → is_taken taken found ≡ false
is_new taken name found true e f = f.free
is_new taken name found false e f = ap (is_taken taken) f ∙ e

-- names of pins differ
pub all_differ : (taken labels names : List (List ℕ)) → IsDistinct bytes_eq taken → AreNames taken labels names → IsDistinct bytes_eq (taken ++ names)
all_differ taken [] [] d h = subst (λ (t : List (List ℕ)). IsDistinct bytes_eq t) (sym (append-nil taken)) d
all_differ taken [] (name ∷ names) d h = absurd h
all_differ taken (label ∷ labels) [] d h = absurd h
all_differ taken (label ∷ labels) (name ∷ names) d h =
    let new : is_taken taken name ≡ false = is_new taken (name_of_label label) name (is_taken taken (name_of_label label)) refl h.0 in
    subst (λ (t : List (List ℕ)). IsDistinct bytes_eq t) (append_assoc taken (name ∷ []) names)
    (all_differ (taken ++ name ∷ []) labels names (IsDistinct-push nat_list_eq_equiv taken name d new) h.1)

pub none_differ : IsDistinct bytes_eq []
unfolding IsDistinct
none_differ = tt

-- The words of columns.
use Rattle.std.proofs.Common.{◌≡◌, ℕ, suc, ◌+◌, ◌-◌, ◌/◌, ◌%◌, ◌<◌, ◌≤◌, Bool, true, false, cond, eqb, inl, inr, List, [], ◌∷◌, ◌++◌, length, take, drop, Some, None, refl, sym, ap, subst, ◌∙◌, arith, take-append-drop, length-drop}
use Rattle.std.specs.Prelude.{not, codes}
use Rattle.std.specs.Fmt.{decimal}
use Rattle.std.specs.List.{All, AllZip, position, position_or_len}
use Rattle.std.proofs.lemmas.Bool.Decides.{eqb_tells}
use Rattle.std.proofs.lemmas.Fmt.{decimal_digit, decimal_step, decimal_is_IsNumeral}
use Rattle.std.proofs.lemmas.List.{take_all, append-nil, append_cancel_left, append_cancel_right, append_assoc}
use Rattle.std.proofs.lemmas.Slice.Zip.{all_zipped_more}
use Rattle.std.proofs.lemmas.List.Elements.{All-nil, All-cons, All-head, All-tail}
use Rattle.lg_value.specs.Word.{IsWidth}
use Rattle.lg_vectors.specs.declared.column.Column.{Column}
use Rattle.lg_vectors.specs.Heading.{IsBracketed, IsSpelled, ReadsName}
use Rattle.lg_vectors.specs.VectorText.{is_mark, IsName, IsColumn, AreNames, dash}
use Rattle.lg_vectors.proofs.LineLemmas.{place_found, none_found, tail_slice}

-- a text ends, or goes on with a byte that passes a test
abbrev pub EndsOrStarts : (ℕ → Bool) → List ℕ → Type 0
EndsOrStarts test [] = Unit {0}
EndsOrStarts test (c ∷ rest) = test c ≡ true

-- two texts that are cut at the first byte that passes a test are cut alike
pub cut_alike : (test : ℕ → Bool) (u v x y : List ℕ) → All (λ c. test c ≡ false) u → All (λ c. test c ≡ false) v → EndsOrStarts test x → EndsOrStarts test y → u ++ x ≡ v ++ y → (u ≡ v) × (x ≡ y)
cut_alike test [] [] x y hu hv sx sy e = (refl, e)
cut_alike test [] (d ∷ v) [] y hu hv sx sy e = absurd (cc e)
cut_alike test [] (d ∷ v) (c ∷ x) y hu hv sx sy e =
    let same : c ≡ d = cc e in
    let no : test d ≡ false = All-head (λ c. test c ≡ false) d v hv in
    absurd (cc (same, no, sx))
cut_alike test (c ∷ u) [] x [] hu hv sx sy e = absurd (cc e)
cut_alike test (c ∷ u) [] x (d ∷ y) hu hv sx sy e =
    let same : c ≡ d = cc e in
    let no : test c ≡ false = All-head (λ c. test c ≡ false) c u hu in
    absurd (cc (same, no, sy))
cut_alike test (c ∷ u) (d ∷ v) x y hu hv sx sy e =
    let same : c ≡ d = cc e in
    let others : u ++ x ≡ v ++ y = cc e in
    let rest = cut_alike test u v x y (All-tail (λ c. test c ≡ false) c u hu) (All-tail (λ c. test c ≡ false) d v hv) sx sy others in
    let first : u ≡ v = rest.0 in
    (cc (same, first), rest.1)

one_more : (n : ℕ) → 1 + n ≡ suc n
one_more n = omega arith

abbrev pub opens : ℕ → Bool
opens c = eqb c 91

before_open : (text : List ℕ) → All (λ c. opens c ≡ false) (take (position_or_len opens text) text)
before_open [] = All-nil (λ c. opens c ≡ false)
before_open (c ∷ cs) = step c cs (opens c) refl (before_open cs)
  where
    step : (c : ℕ) (cs : List ℕ) (at : Bool) → opens c ≡ at → All (λ c. opens c ≡ false) (take (position_or_len opens cs) cs) → All (λ c. opens c ≡ false) (take (cond (not at) (1 + position_or_len opens cs) 0) (c ∷ cs))
    step c cs true h more = All-nil (λ c. opens c ≡ false)
    step c cs false h more = rw (one_more (position_or_len opens cs)) (All-cons (λ c. opens c ≡ false) c (take (position_or_len opens cs) cs) h more)

at_open : (text : List ℕ) → EndsOrStarts opens (drop (position_or_len opens text) text)
at_open [] = tt
at_open (c ∷ cs) = step c cs (opens c) refl (at_open cs)
  where
    step : (c : ℕ) (cs : List ℕ) (at : Bool) → opens c ≡ at → EndsOrStarts opens (drop (position_or_len opens cs) cs) → EndsOrStarts opens (drop (cond (not at) (1 + position_or_len opens cs) 0) (c ∷ cs))
    step c cs true h more = h
    step c cs false h more = rw (one_more (position_or_len opens cs)) more

no_mark : (c : ℕ) → is_mark c ≡ false → opens c ≡ false
no_mark c h = elim (eqb_tells c 91) as (λ _. opens c ≡ false) [
  | inl e ↦ let marked : is_mark 91 ≡ false = subst (λ (x : ℕ). is_mark x ≡ false) e.1 h in absurd (cc marked)
  | inr e ↦ e.0
]

pub plain_closed : (name : List ℕ) → All (λ c. is_mark c ≡ false) name → All (λ c. opens c ≡ false) name
plain_closed name h = λ k d inside. no_mark _ (h k d inside)

value_same : (m n : ℕ) → m < 65 → n < 65 → decimal m ≡ decimal n → m ≡ n
value_same m n hm hn e =
    let a = (decimal_is_IsNumeral m (omega arith)).1 in
    let b = (decimal_is_IsNumeral n (omega arith)).1 in
    sym (rw e at a) ∙ b

-- a text has one width in brackets
pub bracketed_same : (m n : ℕ) → IsWidth m → IsWidth n → codes "[" ++ (decimal m ++ codes "]") ≡ codes "[" ++ (decimal n ++ codes "]") → m ≡ n
bracketed_same m n hm hn e =
    value_same m n (omega arith) (omega arith) (append_cancel_right (decimal m) (decimal n) (codes "]") (append_cancel_left (codes "[") (decimal m ++ codes "]") (decimal n ++ codes "]") e))

-- how a width below 65 is written in brackets
pub one_digit : (width : ℕ) → width < 10 → codes "[" ++ (decimal width ++ codes "]") ≡ 91 ∷ (48 + width % 10) ∷ 93 ∷ []
one_digit width h =
    let low : width % 10 ≡ width = omega arith in
    rw (decimal_digit width h, low) refl

pub two_digits : (width : ℕ) → 10 ≤ width → width < 65 → codes "[" ++ (decimal width ++ codes "]") ≡ 91 ∷ (48 + width / 10) ∷ (48 + width % 10) ∷ 93 ∷ []
two_digits width some few =
    let high : width / 10 < 10 = omega arith in
    rw (decimal_step width some (omega arith), decimal_digit (width / 10) high) refl

-- a word without `[` is a name
pub name_alone : (word : List ℕ) → position (λ c. eqb c 91) word ≡ None → ReadsName word word 1
name_alone word none =
    let whole : take (position_or_len opens word) word ≡ word = take_all (position_or_len opens word) word (none_found opens word none) in
    let closed : All (λ c. opens c ≡ false) word = subst (λ (t : List ℕ). All (λ c. opens c ≡ false) t) whole (before_open word) in
    record {
      in_range = (omega arith, omega arith);
      spelled = inl (refl, refl);
      only = λ other wide plain spelled. elim spelled [
        | inl e ↦ (sym e.0, e.1)
        | inr e ↦
            let joined : word ++ [] ≡ other ++ (codes "[" ++ (decimal wide ++ codes "]")) = append-nil word ∙ e.1 in
            let cut = cut_alike opens word other [] (codes "[" ++ (decimal wide ++ codes "]")) closed (plain_closed other plain) tt refl joined in
            let none : [] ≡ codes "[" ++ (decimal wide ++ codes "]") = cut.1 in
            absurd (cc none)
      ];
    }

not_alone : (word other : List ℕ) (k : ℕ) → position (λ c. eqb c 91) word ≡ Some k → All (λ c. is_mark c ≡ false) other → word ≡ other → ⊥
not_alone word other k found plain e =
    let place = place_found opens word k found in
    let front : All (λ c. opens c ≡ false) (take k word) = subst (λ (n : ℕ). All (λ c. opens c ≡ false) (take n word)) place.0 (before_open word) in
    let behind : EndsOrStarts opens (drop k word) = subst (λ (n : ℕ). EndsOrStarts opens (drop n word)) place.0 (at_open word) in
    let joined : take k word ++ drop k word ≡ other ++ [] = take-append-drop k word ∙ e ∙ sym (append-nil other) in
    let cut = cut_alike opens (take k word) other (drop k word) [] front (plain_closed other plain) behind tt joined in
    let none : length (drop k word) ≡ 0 = ap length cut.1 in
    omega (arith, none, length-drop k word, place.1)

named_before : (word other : List ℕ) (k wide : ℕ) → position (λ c. eqb c 91) word ≡ Some k → All (λ c. is_mark c ≡ false) other → word ≡ other ++ (codes "[" ++ (decimal wide ++ codes "]")) → (other ≡ take k word) × (codes "[" ++ (decimal wide ++ codes "]") ≡ drop k word)
named_before word other k wide found plain e =
    let place = place_found opens word k found in
    let front : All (λ c. opens c ≡ false) (take k word) = subst (λ (n : ℕ). All (λ c. opens c ≡ false) (take n word)) place.0 (before_open word) in
    let behind : EndsOrStarts opens (drop k word) = subst (λ (n : ℕ). EndsOrStarts opens (drop n word)) place.0 (at_open word) in
    let joined : other ++ (codes "[" ++ (decimal wide ++ codes "]")) ≡ take k word ++ drop k word = sym e ∙ sym (take-append-drop k word) in
    cut_alike opens other (take k word) (codes "[" ++ (decimal wide ++ codes "]")) (drop k word) (plain_closed other plain) front refl behind joined

-- a word with `[` is what stands before it, where a width stands behind
pub name_before : (word : List ℕ) (k width : ℕ) → position (λ c. eqb c 91) word ≡ Some k → IsBracketed (take (length word - k) (drop k word)) width → ReadsName word (take k word) width
name_before word k width found is =
    let text : drop k word ≡ codes "[" ++ (decimal width ++ codes "]") = sym (tail_slice k word) ∙ is.1 in
    record {
      in_range = is.0;
      spelled = inr (is.0, sym (take-append-drop k word) ∙ ap (λ rest. take k word ++ rest) text);
      only = λ other wide plain spelled. elim spelled [
        | inl e ↦ absurd (not_alone word other k found plain e.0)
        | inr e ↦
            let cut = named_before word other k wide found plain e.1 in
            (cut.0, bracketed_same wide width e.0 is.0 (cut.1 ∙ text))
      ];
    }

-- and is no column where none does
pub no_width : (word : List ℕ) (k : ℕ) → position (λ c. eqb c 91) word ≡ Some k → ((width : ℕ) → IsBracketed (take (length word - k) (drop k word)) width → ⊥)
    → (name : List ℕ) (width : ℕ) → All (λ c. is_mark c ≡ false) name → IsSpelled word name width → ⊥
no_width word k found none name width plain spelled = elim spelled [
  | inl e ↦ not_alone word name k found plain e.0
  | inr e ↦
      let cut = named_before word name k width found plain e.1 in
      none width (e.0, tail_slice k word ∙ sym cut.1)
]

is_spelled : (word : List ℕ) (column : Column) → IsColumn word column → IsSpelled word column.name column.width
is_spelled word column h = elim h.spelled as (λ _. IsSpelled word column.name column.width) [ inl e ↦ inl e | inr e ↦ inr (h.in_range, e) ]

-- a word that gives no name is no column
pub no_column : (word : List ℕ) → ((name : List ℕ) (width : ℕ) → All (λ c. is_mark c ≡ false) name → IsSpelled word name width → ⊥) → (column : Column) → IsColumn word column → ⊥
no_column word none column h = none column.name column.width h.named.plain (is_spelled word column h)

-- nor is one whose name is no text
pub no_name : (word name : List ℕ) (width : ℕ) → ReadsName word name width → (IsName name → ⊥) → (column : Column) → IsColumn word column → ⊥
no_name word name width reads none column h =
    let same = (reads.only column.name column.width h.named.plain (is_spelled word column h)).0 in
    none (subst IsName same h.named)

-- a word whose name is a text is a column
pub is_column : (word name own : List ℕ) (width : ℕ) → ReadsName word name width → IsName name → own ≡ name → IsColumn word (record { name = own; width = width })
is_column word name own width reads named e = rw e record {
  named = named;
  in_range = reads.in_range;
  spelled = elim reads.spelled [ inl s ↦ inl s | inr s ↦ inr s.1 ];
}

-- The words so far name columns, and these words are left.
pub record NamesSoFar (all rest : List (List ℕ)) (columns : List Column) : Type 0 where
  pub names : List (List ℕ)
  pub split : all ≡ names ++ rest
  pub are : AllZip IsColumn names columns

pub names_begin : (all : List (List ℕ)) (columns : List Column) → columns ≡ [] → NamesSoFar all all columns
names_begin all columns none = rw none record { names = []; split = refl; are = tt }

pub names_more : (all rest after : List (List ℕ)) (word : List ℕ) (columns more : List Column) (column : Column) → NamesSoFar all rest columns → rest ≡ word ∷ after → IsColumn word column → more ≡ columns ++ column ∷ [] → NamesSoFar all after more
names_more all rest after word columns more column so_far next is grown = rw grown record {
  names = so_far.names ++ word ∷ [];
  split = so_far.split ∙ ap (λ t. so_far.names ++ t) next ∙ sym (append_assoc so_far.names (word ∷ []) after);
  are = all_zipped_more IsColumn so_far.names columns word column so_far.are is;
}

zip_at : (names after : List (List ℕ)) (word : List ℕ) (columns : List Column) → AllZip IsColumn (names ++ word ∷ after) columns → (column : Column) × IsColumn word column
zip_at [] after word [] h = absurd h
zip_at [] after word (column ∷ columns) h = (column, h.0)
zip_at (name ∷ names) after word [] h = absurd h
zip_at (name ∷ names) after word (column ∷ columns) h = zip_at names after word columns h.1

-- a word that is no column
pub names_fail : (all rest after : List (List ℕ)) (word : List ℕ) (columns : List Column) → NamesSoFar all rest columns → rest ≡ word ∷ after → ((column : Column) → IsColumn word column → ⊥) → (all ≡ dash → ⊥) → (others : List Column) → AreNames all others → ⊥
names_fail all rest after word columns so_far next none more others are = elim are [
  | inl d ↦ more d.0
  | inr named ↦
      let zipped : AllZip IsColumn (so_far.names ++ word ∷ after) others = subst (λ (t : List (List ℕ)). AllZip IsColumn t others) (so_far.split ∙ ap (λ t. so_far.names ++ t) next) named.2 in
      let at = zip_at so_far.names after word others zipped in
      none at.0 at.1
]

-- no word is left
pub names_end : (all rest : List (List ℕ)) (columns : List Column) → NamesSoFar all rest columns → rest ≡ [] → (all ≡ dash → ⊥) → 1 ≤ length all → AreNames all columns
names_end all rest columns so_far none more some =
    let same : all ≡ so_far.names = so_far.split ∙ ap (λ t. so_far.names ++ t) none ∙ append-nil so_far.names in
    inr (more, some, subst (λ (t : List (List ℕ)). AllZip IsColumn t columns) (sym same) so_far.are)

-- `-` alone, and nothing else
pub dash_alone : (all rest : List (List ℕ)) (word : List ℕ) → all ≡ word ∷ rest → word ≡ codes "-" → rest ≡ [] → all ≡ dash
dash_alone all rest word e w r = e ∙ ap (λ t. t ∷ rest) w ∙ ap (λ t. codes "-" ∷ t) r

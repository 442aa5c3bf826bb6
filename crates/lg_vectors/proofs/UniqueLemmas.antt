-- A text says one thing at most.
use Rattle.std.proofs.Common.{◌≡◌, ℕ, ◌-◌, ◌^◌, inl, inr, List, [], ◌∷◌, ◌++◌, refl, sym, ap, ◌∙◌, false}
use Rattle.std.specs.Prelude.{codes}
use Rattle.std.specs.Fmt.{decimal}
use Rattle.std.specs.List.{All, AllZip}
use Rattle.std.proofs.lemmas.List.{append-nil, append_cancel_left}
use Rattle.lg_vectors.specs.declared.column.Column.{Column}
use Rattle.lg_vectors.specs.CaredBits.{CaredBits}
use Rattle.lg_vectors.specs.Values.{AreDigits, IsPrefixed, AreDecimals, IsDecimal, IsValue, number_from, free_from, cared_but}
use Rattle.lg_vectors.specs.VectorText.{IsColumn, AreNames, AreValues, AreRow}
use Rattle.lg_vectors.proofs.ValueLemmas.{not_octal, no_sign}
use Rattle.lg_vectors.proofs.HeadingLemmas.{opens, cut_alike, plain_closed, bracketed_same}

digits_same : (size width : ℕ) (t u : List ℕ) (a b : CaredBits) → t ≡ u → AreDigits size width t a → AreDigits size width u b → a ≡ b
digits_same size width t u a b e h k =
    h.same ∙ ap (λ (x : List ℕ). cared_but width (number_from (2 ^ size) 0 x) (free_from size 0 x)) e ∙ sym k.same

prefixed_same : (width : ℕ) (word : List ℕ) (a b : CaredBits) → IsPrefixed width word a → IsPrefixed width word b → a ≡ b
prefixed_same width word a b (inl m) (inl n) = digits_same 4 width m.0 n.0 a b (append_cancel_left (codes "0x") m.0 n.0 (sym m.1 ∙ n.1)) m.2.are_digits n.2.are_digits
prefixed_same width word a b (inl m) (inr n) = absurd (not_octal m.0 n.0 (sym m.1 ∙ n.1))
prefixed_same width word a b (inr m) (inl n) = absurd (not_octal n.0 m.0 (sym n.1 ∙ m.1))
prefixed_same width word a b (inr m) (inr n) = digits_same 3 width m.0 n.0 a b (append_cancel_left (codes "0o") m.0 n.0 (sym m.1 ∙ n.1)) m.2.are_digits n.2.are_digits

numbers_same : (width : ℕ) (t u : List ℕ) (m n : ℕ) → t ≡ u → AreDecimals width t m → AreDecimals width u n → m ≡ n
numbers_same width t u m n e h k = h.same ∙ ap (λ (x : List ℕ). number_from 10 0 x) e ∙ sym k.same

decimal_same : (width : ℕ) (word : List ℕ) (a b : CaredBits) → IsDecimal width word a → IsDecimal width word b → a ≡ b
decimal_same width word a b (inl p) (inl q) = p.same ∙ ap (λ (n : ℕ). cared_but width n 0) (numbers_same width word word p.number q.number refl p.decimals q.decimals) ∙ sym q.same
decimal_same width word a b (inl p) (inr n) = absurd (no_sign width p.number word n.0 n.1 p.decimals)
decimal_same width word a b (inr m) (inl q) = absurd (no_sign width q.number word m.0 m.1 q.decimals)
decimal_same width word a b (inr m) (inr n) =
    let text : m.0 ≡ n.0 = append_cancel_left (codes "-") m.0 n.0 (sym m.1 ∙ n.1) in
    m.2.same ∙ ap (λ (k : ℕ). cared_but width (2 ^ width - k) 0) (numbers_same width m.0 n.0 m.2.number n.2.number text m.2.decimals n.2.decimals) ∙ sym n.2.same

-- a word is one value of a width at most
value_same : (width : ℕ) (word : List ℕ) (a b : CaredBits) → IsValue width word a → IsValue width word b → a ≡ b
value_same width word a b (inl p) (inl q) = prefixed_same width word a b p q
value_same width word a b (inl p) (inr (inl q)) = absurd (q.0 a p)
value_same width word a b (inl p) (inr (inr q)) = absurd (q.0 a p)
value_same width word a b (inr (inl p)) (inl q) = absurd (p.0 b q)
value_same width word a b (inr (inl p)) (inr (inl q)) = digits_same 1 width word word a b refl p.1.are_digits q.1.are_digits
value_same width word a b (inr (inl p)) (inr (inr q)) = absurd (q.1 a p.1)
value_same width word a b (inr (inr p)) (inl q) = absurd (p.0 b q)
value_same width word a b (inr (inr p)) (inr (inl q)) = absurd (p.1 b q.1)
value_same width word a b (inr (inr p)) (inr (inr q)) = decimal_same width word a b p.2 q.2

values_same : (columns : List Column) (all : List (List ℕ)) (a b : List CaredBits) → AreValues columns all a → AreValues columns all b → a ≡ b
values_same [] [] [] [] h k = refl
values_same [] [] [] (v ∷ b) h k = absurd k
values_same [] [] (v ∷ a) b h k = absurd h
values_same [] (w ∷ all) a b h k = absurd h
values_same (c ∷ columns) [] a b h k = absurd h
values_same (c ∷ columns) (w ∷ all) [] b h k = absurd h
values_same (c ∷ columns) (w ∷ all) (v ∷ a) [] h k = absurd k
values_same (c ∷ columns) (w ∷ all) (v ∷ a) (u ∷ b) h k =
    let first : v ≡ u = value_same c.width w v u h.0 k.0 in
    let more : a ≡ b = values_same columns all a b h.1 k.1 in
    cc (first, more)

-- words are one row of some columns at most
pub row_same : (columns : List Column) (all : List (List ℕ)) (a b : List CaredBits) → AreRow columns all a → AreRow columns all b → a ≡ b
row_same [] all a b h k = h.1 ∙ sym k.1
row_same (c ∷ columns) all a b h k = values_same (c ∷ columns) all a b h k

same_column : (a b : Column) → a.name ≡ b.name → a.width ≡ b.width → a ≡ b
same_column a b name width =
    let named : a ≡ record a { name = b.name } = ap (λ (n : List ℕ). record a { name = n }) name in
    named ∙ ap (λ (w : ℕ). record b { width = w }) width

closed_end : (word name other : List ℕ) (wide : ℕ) → All (λ c. opens c ≡ false) name → All (λ c. opens c ≡ false) other → word ≡ name → word ≡ other ++ (codes "[" ++ (decimal wide ++ codes "]")) → ⊥
closed_end word name other wide h k e f =
    let joined : name ++ [] ≡ other ++ (codes "[" ++ (decimal wide ++ codes "]")) = append-nil name ∙ sym e ∙ f in
    let cut = cut_alike opens name other [] (codes "[" ++ (decimal wide ++ codes "]")) h k tt refl joined in
    let none : [] ≡ codes "[" ++ (decimal wide ++ codes "]") = cut.1 in
    cc none

-- a word is one column at most
column_same : (word : List ℕ) (a b : Column) → IsColumn word a → IsColumn word b → a ≡ b
column_same word a b h k = elim h.spelled as (λ _. a ≡ b) [
  | inl e ↦ elim k.spelled as (λ _. a ≡ b) [
    | inl f ↦ same_column a b (sym e.0 ∙ f.0) (e.1 ∙ sym f.1)
    | inr f ↦ absurd (closed_end word a.name b.name b.width (plain_closed a.name h.named.plain) (plain_closed b.name k.named.plain) e.0 f)
  ]
  | inr e ↦ elim k.spelled as (λ _. a ≡ b) [
    | inl f ↦ absurd (closed_end word b.name a.name a.width (plain_closed b.name k.named.plain) (plain_closed a.name h.named.plain) f.0 e)
    | inr f ↦
        let cut = cut_alike opens a.name b.name (codes "[" ++ (decimal a.width ++ codes "]")) (codes "[" ++ (decimal b.width ++ codes "]")) (plain_closed a.name h.named.plain) (plain_closed b.name k.named.plain) refl refl (sym e ∙ f) in
        same_column a b cut.0 (bracketed_same a.width b.width h.in_range k.in_range cut.1)
  ]
]

zip_same : (names : List (List ℕ)) (a b : List Column) → AllZip IsColumn names a → AllZip IsColumn names b → a ≡ b
zip_same [] [] [] h k = refl
zip_same [] [] (d ∷ b) h k = absurd k
zip_same [] (c ∷ a) b h k = absurd h
zip_same (n ∷ names) [] b h k = absurd h
zip_same (n ∷ names) (c ∷ a) [] h k = absurd k
zip_same (n ∷ names) (c ∷ a) (d ∷ b) h k =
    let first : c ≡ d = column_same n c d h.0 k.0 in
    let more : a ≡ b = zip_same names a b h.1 k.1 in
    cc (first, more)

-- words name one list of columns at most
pub names_same : (names : List (List ℕ)) (a b : List Column) → AreNames names a → AreNames names b → a ≡ b
names_same names a b (inl h) (inl k) = h.1 ∙ sym k.1
names_same names a b (inl h) (inr k) = absurd (k.0 h.0)
names_same names a b (inr h) (inl k) = absurd (h.0 k.0)
names_same names a b (inr h) (inr k) = zip_same names a b h.2 k.2

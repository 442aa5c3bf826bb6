-- Bytes are one table, or have one first record out of form.
use Rattle.std.proofs.Common.{◌≡◌, ◌≢◌, ◌∙◌, ap, sym, subst, ℕ, ◌-◌, ◌^◌, ◌≤◌, min, ◌⊎◌, inl, inr, List, [], ◌∷◌, ◌++◌, length, refl, arith}
use Rattle.std.specs.List.{AllZip}
use Rattle.csv.specs.Reading.{default_config, strip_bom}
use Rattle.csv.specs.declared.parser.State.TheVariants as st
use Rattle.lg_kinds.specs.declared.fault.PartFault.{PartFault}
use Rattle.lg_kinds.specs.declared.fault.PartFault.TheVariants.{UnknownKind, BadAttr, BadTable, OutsideLibrary, Memory}
use Rattle.lg_kinds.specs.declared.record.Record.{Record}
use Rattle.lg_kinds.specs.TableFile.{AreRows, AreFirstRows, IsBadRow, IsOutOfForm, IsTableFile, RefusesTable, SayRecords, Says}
use Rattle.lg_kinds.proofs.RowsReached.{Row, all_rows, all_same, first_of_all}
use Rattle.lg_kinds.proofs.SameRecords.{said_same}

rows_alike : (bytes : List ℕ) (a b : List Row) → AreRows bytes a → AreRows bytes b → a ≡ b
rows_alike bytes a b h k = all_same default_config st.StartRecord (strip_bom bytes) a b h k

front_alike : (bytes : List ℕ) (front all : List Row) → AreFirstRows bytes front → AreRows bytes all → (rest : List Row) × (all ≡ front ++ rest)
front_alike bytes front all h k =
    first_of_all default_config st.StartRecord (strip_bom bytes) front h.0 h.1 all k.0 k.1 h.2 k.2 k.3

-- bytes are one table
pub one_table : (bytes : List ℕ) (records others : List Record) → IsTableFile bytes records → IsTableFile bytes others → records ≡ others
one_table bytes records others h k =
    let same : h.0 ≡ k.0 = rows_alike bytes h.0 k.0 h.1 k.1 in
    said_same k.0 records others (subst (λ (rows : List Row). SayRecords rows records) same h.3) k.3

-- each of some rows says a record
row_says : (rows : List Row) (bad : Row) (rest : List Row) (records : List Record) → AllZip Says ((rows ++ bad ∷ []) ++ rest) records → (said : Record) × Says bad said
row_says [] bad rest [] h = absurd h
row_says [] bad rest (r ∷ records) h = (r, h.0)
row_says (row ∷ rows) bad rest [] h = absurd h
row_says (row ∷ rows) bad rest (r ∷ records) h = row_says rows bad rest records h.1

-- rows that say records have none out of form among them
in_form : (rows : List Row) (bad : Row) (rest : List Row) (records : List Record) → SayRecords ((rows ++ bad ∷ []) ++ rest) records → IsOutOfForm rows bad → ⊥
in_form [] bad rest records h out = out h.0
in_form (header ∷ rows) bad rest records h out = let says = row_says rows bad rest records h.1 in out says.0 says.1

some_rows : (rows : List Row) (bad : Row) (rest : List Row) → [] ≡ (rows ++ bad ∷ []) ++ rest → ⊥
some_rows [] bad rest e = cc e
some_rows (row ∷ rows) bad rest e = cc e

no_rows : (all : List Row) → [] ≡ all → 1 ≤ length all → ⊥
no_rows [] e some = omega (arith, some)
no_rows (row ∷ all) e some = cc e

-- a bad record excludes a table
not_both : (bytes : List ℕ) (number : ℕ) (records : List Record) → RefusesTable bytes (BadTable number) → IsTableFile bytes records → ⊥
not_both bytes number records (inl none) h = no_rows h.0 (rows_alike bytes [] h.0 none.0 h.1) h.2
not_both bytes number records (inr bad) h =
    let front = front_alike bytes (bad.rows ++ bad.bad ∷ []) h.0 bad.first h.1 in
    in_form bad.rows bad.bad front.0 records (subst (λ (rows : List Row). SayRecords rows records) front.1 h.3) bad.out

pub apart : (bytes : List ℕ) (records : List Record) (fault : PartFault) → fault ≢ Memory → RefusesTable bytes fault → IsTableFile bytes records → ⊥
apart bytes records (BadTable number) some refused h = not_both bytes number records refused h
apart bytes records Memory some refused h = some refl
apart bytes records (UnknownKind name) some refused h = refused
apart bytes records (BadAttr name value) some refused h = refused
apart bytes records (OutsideLibrary lib) some refused h = refused

-- of two places among the same rows, both are one, or one stands before the other
abbrev Compared : List Row → Row → List Row → Row → Type 0
Compared a x b y =
    (a ≡ b) ⊎ (((rest : List Row) × (b ≡ (a ++ x ∷ []) ++ rest)) ⊎ ((rest : List Row) × (a ≡ (b ++ y ∷ []) ++ rest)))

behind_same : (row one : Row) (a : List Row) (x : Row) (b : List Row) (y : Row) → row ≡ one → Compared a x b y → Compared (row ∷ a) x (one ∷ b) y
behind_same row one a x b y e (inl same) = inl (cc (e, same))
behind_same row one a x b y e (inr (inl before)) = let rest = before.1 in inr (inl (before.0, cc (e, rest)))
behind_same row one a x b y e (inr (inr after)) = let rest = after.1 in inr (inr (after.0, cc (e, rest)))

compared : (a : List Row) (x : Row) (p : List Row) (b : List Row) (y : Row) (q : List Row) → (a ++ x ∷ []) ++ p ≡ (b ++ y ∷ []) ++ q → Compared a x b y
compared [] x p [] y q e = inl refl
compared [] x p (one ∷ b) y q e = let first : one ≡ x = cc e in inr (inl (b, cc first))
compared (row ∷ a) x p [] y q e = let first : row ≡ y = cc e in inr (inr (a, cc first))
compared (row ∷ a) x p (one ∷ b) y q e =
    let first : row ≡ one = cc e in
    let rest : (a ++ x ∷ []) ++ p ≡ (b ++ y ∷ []) ++ q = cc e in
    behind_same row one a x b y first (compared a x p b y q rest)

-- no row behind the first one out of form is the first
not_later : (a : List Row) (x : Row) (b : List Row) (records : List Record) → (rest : List Row) × (b ≡ (a ++ x ∷ []) ++ rest) → IsOutOfForm a x → SayRecords b records → ⊥
not_later a x b records before out said =
    in_form a x before.0 records (subst (λ (rows : List Row). SayRecords rows records) before.1 said) out

one_bad_row : (bytes : List ℕ) (number other : ℕ) → IsBadRow bytes number → IsBadRow bytes other → number ≡ other
one_bad_row bytes number other h k =
    let all = all_rows default_config st.StartRecord (strip_bom bytes) in
    let one = front_alike bytes (h.rows ++ h.bad ∷ []) all.0 h.first all.1 in
    let two = front_alike bytes (k.rows ++ k.bad ∷ []) all.0 k.first all.1 in
    by (compared h.rows h.bad one.0 k.rows k.bad two.0 (sym one.1 ∙ two.1))
  where
    by : Compared h.rows h.bad k.rows k.bad → number ≡ other
    by (inl same) = h.numbered ∙ (ap (λ (rows : List Row). min (length rows) (2 ^ 32 - 1)) same ∙ sym k.numbered)
    by (inr (inl before)) = absurd (not_later h.rows h.bad k.rows k.records before h.out k.said)
    by (inr (inr after)) = absurd (not_later k.rows k.bad h.rows h.records after k.out h.said)

none_or_bad : (bytes : List ℕ) (number : ℕ) → AreRows bytes [] → IsBadRow bytes number → ⊥
none_or_bad bytes number none h =
    let front = front_alike bytes (h.rows ++ h.bad ∷ []) [] h.first none in
    some_rows h.rows h.bad front.0 front.1

one_number : (bytes : List ℕ) (number other : ℕ) → RefusesTable bytes (BadTable number) → RefusesTable bytes (BadTable other) → number ≡ other
one_number bytes number other (inl h) (inl k) = h.1 ∙ sym k.1
one_number bytes number other (inl h) (inr k) = absurd (none_or_bad bytes other h.0 k)
one_number bytes number other (inr h) (inl k) = absurd (none_or_bad bytes number k.0 h)
one_number bytes number other (inr h) (inr k) = one_bad_row bytes number other h k

-- bytes have one first record out of form
pub one_fault : (bytes : List ℕ) (fault other : PartFault) → fault ≢ Memory → other ≢ Memory → RefusesTable bytes fault → RefusesTable bytes other → fault ≡ other
one_fault bytes (BadTable number) (BadTable other) some there h k = ap BadTable (one_number bytes number other h k)
one_fault bytes (BadTable number) Memory some there h k = absurd (there refl)
one_fault bytes (BadTable number) (UnknownKind name) some there h k = absurd k
one_fault bytes (BadTable number) (BadAttr name value) some there h k = absurd k
one_fault bytes (BadTable number) (OutsideLibrary lib) some there h k = absurd k
one_fault bytes Memory other some there h k = absurd (some refl)
one_fault bytes (UnknownKind name) other some there h k = absurd h
one_fault bytes (BadAttr name value) other some there h k = absurd h
one_fault bytes (OutsideLibrary lib) other some there h k = absurd h

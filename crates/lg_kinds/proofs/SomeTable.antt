-- Bytes are a table, or have a first record out of form.
use Rattle.std.proofs.Common.{◌≡◌, ◌≢◌, ◌∙◌, ap, sym, subst, ℕ, ◌-◌, ◌^◌, min, ◌⊎◌, inl, inr, List, [], ◌∷◌, ◌++◌, length, refl, arith}
use Rattle.std.specs.List.{All, AllZip}
use Rattle.std.proofs.lemmas.List.{append_assoc}
use Rattle.std.proofs.lemmas.List.Elements.{All-head, All-tail}
use Rattle.csv.specs.Reading.{default_config, strip_bom}
use Rattle.csv.specs.declared.parser.State.TheVariants as st
use Rattle.lg_text.proofs.Deciding.{Decided, SomeOrNone, FirstLacking, all_or_first, same_list, same_text}
use Rattle.lg_kinds.specs.declared.fault.PartFault.{PartFault}
use Rattle.lg_kinds.specs.declared.fault.PartFault.TheVariants.{BadTable, Memory}
use Rattle.lg_kinds.specs.declared.record.Record.{Record}
use Rattle.lg_kinds.specs.TableFile.{AreRows, AreFirstRows, IsTableFile, RefusesTable, Says, heading}
use Rattle.lg_kinds.proofs.RowsReached.{Row, all_rows, reached_front}
use Rattle.lg_kinds.proofs.SomeRecords.{says_or_not}

-- a row says a record
abbrev SaysOne : Row → Type 0
SaysOne row = (said : Record) × Says row said

says_one : (row : Row) → Decided (SaysOne row)
says_one row = by (says_or_not row)
  where
    by : SomeOrNone (Says row) → Decided (SaysOne row)
    by (inl h) = inl h
    by (inr never) = inr (λ h. never h.0 h.1)

-- rows that say a record each say those records
all_said : (rows : List Row) → All SaysOne rows → (records : List Record) × AllZip Says rows records
all_said [] h = ([], tt)
all_said (row ∷ rows) h =
    let first = All-head SaysOne row rows h in
    let more = all_said rows (All-tail SaysOne row rows h) in
    (first.0 ∷ more.0, (first.1, more.1))

front : (bytes : List ℕ) (rows more : List Row) → AreRows bytes (rows ++ more) → AreFirstRows bytes rows
front bytes rows more h = reached_front default_config st.StartRecord (strip_bom bytes) rows more h.0 h.1 h.2

abbrev Answer : List ℕ → Type 0
Answer bytes = ((records : List Record) × IsTableFile bytes records) ⊎ ((fault : PartFault) × (fault ≢ Memory) × RefusesTable bytes fault)

refused : (bytes : List ℕ) (number : ℕ) → RefusesTable bytes (BadTable number) → Answer bytes
refused bytes number h = inr (BadTable number, (λ e. cc e), h)

-- the rows behind the header
behind_header : (bytes : List ℕ) (header : Row) (rows : List Row) → AreRows bytes (header ∷ rows) → header ≡ heading → All SaysOne rows ⊎ FirstLacking SaysOne rows → Answer bytes
behind_header bytes header rows h e (inl all) =
    let said = all_said rows all in
    inl (said.0, (header ∷ rows, h, omega arith, (e, said.1)))
behind_header bytes header rows h e (inr bad) =
    let said = all_said bad.before bad.have in
    let split : header ∷ rows ≡ ((header ∷ bad.before) ++ bad.here ∷ []) ++ bad.after =
    ap (λ (l : List Row). header ∷ l) (bad.parts ∙ sym (append_assoc bad.before (bad.here ∷ []) bad.after)) in
    refused bytes (min (length (header ∷ bad.before)) (2 ^ 32 - 1)) (inr (record {
      rows = header ∷ bad.before;
      bad = bad.here;
      records = said.0;
      first = front bytes ((header ∷ bad.before) ++ bad.here ∷ []) bad.after (subst (AreRows bytes) split h);
      said = (e, said.1);
      out = λ one says. bad.lacks (one, says);
      numbered = refl;
    }))

with_rows : (bytes : List ℕ) (rows : List Row) → AreRows bytes rows → Answer bytes
with_rows bytes [] h = refused bytes 0 (inl (h, refl))
with_rows bytes (header ∷ rows) h = by (same_list same_text header heading)
  where
    by : Decided (header ≡ heading) → Answer bytes
    by (inl e) = behind_header bytes header rows h e (all_or_first SaysOne says_one rows)
    by (inr other) =
        refused bytes 0 (inr (record {
          rows = [];
          bad = header;
          records = [];
          first = front bytes (header ∷ []) rows h;
          said = refl;
          out = other;
          numbered = refl;
        }))

-- bytes are a table, or have a fault
pub table_or_fault : (bytes : List ℕ) → ((records : List Record) × IsTableFile bytes records) ⊎ ((fault : PartFault) × (fault ≢ Memory) × RefusesTable bytes fault)
table_or_fault bytes =
    let all = all_rows default_config st.StartRecord (strip_bom bytes) in
    with_rows bytes all.0 all.1

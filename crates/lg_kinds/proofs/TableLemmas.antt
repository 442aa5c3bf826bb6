-- The rows of a port table, read one after the other.
use Rattle.std.proofs.Common.{arith, rules, inl, inr, true≢false, ◌≡◌, ◌≢◌, ◌∙◌, sym, ℕ, ◌+◌, ◌-◌, ◌^◌, ◌<◌, ◌≤◌, min, true, false, List, [], ◌∷◌, ◌++◌, length, Option, Some, None, refl, Bor}
use Rattle.std.specs.Prelude.{codes}
use Rattle.std.proofs.lemmas.List.{length-append}
use Rattle.std.specs.List.{AllZip}
use Rattle.std.proofs.lemmas.Str.{IsUtf8-from_ascii}
use Rattle.csv.specs.Machine.{Read, next_record}
use Rattle.csv.specs.Reading.{ExplainsRead, Reached, ReadRecord, ReadsNext, Ready, default_config, pending_of, source_of, strip_bom}
use Rattle.csv.specs.Records.{AllText}
use Rattle.csv.specs.declared.parser.Config.{Config}
use Rattle.csv.specs.declared.parser.State.{State}
use Rattle.csv.specs.declared.parser.State.TheVariants as st
use Rattle.csv.specs.declared.reader.Reader.{Reader}
use Rattle.csv.specs.declared.reader.Trim.TheVariants as trim
use Rattle.csv.specs.declared.error.ErrorKind.{ErrorKind}
use Rattle.csv.specs.declared.error.ErrorKind.TheVariants as kind
use Rattle.csv.proofs.ReadFacts.{rows-end, rows-more}
use Rattle.lg_kinds.specs.declared.fault.PartFault.TheVariants.{BadTable}
use Rattle.lg_kinds.specs.declared.record.Record.{Record}
use Rattle.lg_kinds.specs.TableFile.{HasForm, IsBadRow, IsOutOfForm, IsTableFile, RefusesTable, SayRecords, Says, fault_at, heading}

-- what the bytes of a slice are to a reader
abbrev pub slice_bytes : Bor (List ℕ) → Option (List ℕ)
slice_bytes s = Some s.now

-- so many rows of the bytes were read, they say these records, and the reader stands behind them
pub record IsReading (bytes : List ℕ) (number : ℕ) (records : List Record) (reader : Reader (Bor (List ℕ))) (left : ℕ) : Type 0 where
  pub trims : reader.trim ≡ trim.None
  pub ready : Ready reader
  pub some : 0 < left
  pub config : reader.config ≡ default_config
  pub ahead : List ℕ
  pub source : source_of slice_bytes reader ≡ Some ahead
  pub rows : List (List (List ℕ))
  pub reached : Reached default_config st.StartRecord (strip_bom bytes) rows reader.state ahead
  pub numbered : number ≡ min (length rows) (2 ^ 32 - 1)
  pub said : SayRecords rows records

-- one row more was reached
reached-more : (cfg : Config) (s0 : State) (xs : List ℕ) (rows : List (List (List ℕ))) (s : State) (y : List ℕ) (p : Read) → Reached cfg s0 xs rows s y → next_record cfg s [] [] y ≡ Some p → Reached cfg s0 xs (rows ++ p.0 ∷ []) p.1 p.2
unfolding Reached
reached-more cfg s0 xs [] s y p h e = (p, rw (h.0, h.1) e, refl, (refl, refl))
reached-more cfg s0 xs (row ∷ rows) s y p h e = (h.0, h.1, h.2, reached-more cfg h.0.1 h.0.2 rows s y p h.3 e)

-- a row that was taken is the next one
taken : (cfg : Config) (s0 : State) (xs : List ℕ) (rows : List (List (List ℕ))) (s s2 : State) (y : List ℕ) (after : Option (List ℕ)) (fields : List (List ℕ)) (o : Option Read) → o ≡ next_record cfg s [] [] y → Reached cfg s0 xs rows s y → ReadsNext cfg s (Some y) after true fields s2 → (t : State) × (rest : List ℕ) × Reached cfg s0 xs (rows ++ fields ∷ []) t rest
taken cfg s0 xs rows s s2 y None fields o e h r = absurd r
taken cfg s0 xs rows s s2 y (Some z) fields None e h r = let none : true ≡ false = rw (sym e) at r in absurd (true≢false none)
taken cfg s0 xs rows s s2 y (Some z) fields (Some p) e h r =
    let next = rw (sym e) at r in
    (p.1, p.2, rw next.1 (reached-more cfg s0 xs rows s y p h (sym e)))

-- the header is text
heading-text : AllText heading
unfolding AllText
heading-text = (IsUtf8-from_ascii (codes "row") (search rules), (IsUtf8-from_ascii (codes "name") (search rules), (IsUtf8-from_ascii (codes "item") (search rules), (IsUtf8-from_ascii (codes "a") (search rules), (IsUtf8-from_ascii (codes "b") (search rules), tt)))))

-- what is no text is out of form
no-text : (rows : List (List (List ℕ))) (fields : List (List ℕ)) → (AllText fields → ⊥) → IsOutOfForm rows fields
no-text [] fields none = λ e. none (rw e heading-text)
no-text (row ∷ rows) fields none = λ said h. none h.0

-- a row that could not be read
pub unread : (bytes : List ℕ) (number : ℕ) (records : List Record) (reader after : Reader (Bor (List ℕ))) (left : ℕ) (why : ErrorKind) → IsReading bytes number records reader left → ExplainsRead slice_bytes reader after true why → RefusesTable bytes (fault_at why number)
unread bytes number records reader after left (kind.Utf8 place err) i h =
    let first = taken default_config st.StartRecord (strip_bom bytes) i.rows reader.state after.state i.ahead (pending_of (slice_bytes after.rdr) after) h.1 _ refl i.reached (rw (i.config, i.source) at h.2) in
    inr (record { rows = i.rows; bad = h.1; records = records; first = first; said = i.said; out = no-text i.rows h.1 h.3; numbered = i.numbered })
unread bytes number records reader after left (kind.Io e) i h = tt
unread bytes number records reader after left (kind.UnequalLengths place expected len) i h = tt
unread bytes number records reader after left (kind.Serialize text) i h = tt
unread bytes number records reader after left (kind.Deserialize place err) i h = tt
unread bytes number records reader after left kind.OutOfMemory i h = tt

-- a first row that is the header
header-said : (rows : List (List (List ℕ))) (records : List Record) (fields : List (List ℕ)) → min (length rows) (2 ^ 32 - 1) ≡ 0 → SayRecords rows records → fields ≡ heading → SayRecords (rows ++ fields ∷ []) records
header-said [] records fields none said e = rw said (e, tt)
header-said (row ∷ rows) records fields none said e = let no : ⊥ = omega arith in absurd no

-- one row and one record more
zip-more : (rows : List (List (List ℕ))) (records : List Record) (fields : List (List ℕ)) (more : Record) → AllZip Says rows records → Says fields more → AllZip Says (rows ++ fields ∷ []) (records ++ more ∷ [])
zip-more [] [] fields more h s = (s, tt)
zip-more [] (r ∷ rs) fields more h s = absurd h
zip-more (row ∷ rows) [] fields more h s = absurd h
zip-more (row ∷ rows) (r ∷ rs) fields more h s = (h.0, zip-more rows rs fields more h.1 s)

row-said : (rows : List (List (List ℕ))) (records : List Record) (fields : List (List ℕ)) (more : Record) → min (length rows) (2 ^ 32 - 1) ≢ 0 → SayRecords rows records → Says fields more → SayRecords (rows ++ fields ∷ []) (records ++ more ∷ [])
row-said [] records fields more some said s = absurd (some refl)
row-said (row ∷ rows) records fields more some said s = (said.0, zip-more rows records fields more said.1 s)

header-out : (rows : List (List (List ℕ))) (fields : List (List ℕ)) → min (length rows) (2 ^ 32 - 1) ≡ 0 → fields ≢ heading → IsOutOfForm rows fields
header-out [] fields none other = other
header-out (row ∷ rows) fields none other = let no : ⊥ = omega arith in absurd no

row-out : (rows : List (List (List ℕ))) (fields : List (List ℕ)) → min (length rows) (2 ^ 32 - 1) ≢ 0 → ((said : Record) → HasForm fields said → ⊥) → IsOutOfForm rows fields
row-out [] fields some none = absurd (some refl)
row-out (row ∷ rows) fields some none = λ said h. none said h.1

-- a row that was read and is out of form
bad : (bytes : List ℕ) (number : ℕ) (records : List Record) (reader after : Reader (Bor (List ℕ))) (left : ℕ) (fields : List (List ℕ)) → (i : IsReading bytes number records reader left) → ReadRecord slice_bytes reader after true fields → IsOutOfForm i.rows fields → IsBadRow bytes number
bad bytes number records reader after left fields i r out =
    let more = rows-more slice_bytes reader after fields default_config st.StartRecord (strip_bom bytes) i.ahead i.rows i.config i.source i.reached r in
    record { rows = i.rows; bad = fields; records = records; first = (after.state, more.0, more.2); said = i.said; out = out; numbered = i.numbered }

-- a first row that is no header is refused
pub header-bad : (bytes : List ℕ) (number : ℕ) (records : List Record) (reader after : Reader (Bor (List ℕ))) (left : ℕ) (fields : List (List ℕ)) → IsReading bytes number records reader left → ReadRecord slice_bytes reader after true fields → number ≡ 0 → fields ≢ heading → RefusesTable bytes (BadTable 0)
header-bad bytes number records reader after left fields i r none other =
    inr (rw none at (bad bytes number records reader after left fields i r (header-out i.rows fields (sym i.numbered ∙ none) other)))

-- a later row that says nothing is refused
pub row-bad : (bytes : List ℕ) (number : ℕ) (records : List Record) (reader after : Reader (Bor (List ℕ))) (left : ℕ) (fields : List (List ℕ)) → IsReading bytes number records reader left → ReadRecord slice_bytes reader after true fields → number ≢ 0 → ((said : Record) → HasForm fields said → ⊥) → RefusesTable bytes (BadTable number)
row-bad bytes number records reader after left fields i r some none =
    inr (bad bytes number records reader after left fields i r (row-out i.rows fields (λ e. some (i.numbered ∙ e)) none))

-- a row more was read
more : (bytes : List ℕ) (number : ℕ) (records : List Record) (reader after : Reader (Bor (List ℕ))) (left : ℕ) (fields : List (List ℕ)) (next : ℕ) (grown : List Record) (remaining : ℕ) → (i : IsReading bytes number records reader left) → ReadRecord slice_bytes reader after true fields → after.first ≡ true → 0 < remaining → next ≡ min (number + 1) (2 ^ 32 - 1) → SayRecords (i.rows ++ fields ∷ []) grown → IsReading bytes next grown after remaining
more bytes number records reader after left fields next grown remaining i r first some counted said =
    let there = rows-more slice_bytes reader after fields default_config st.StartRecord (strip_bom bytes) i.ahead i.rows i.config i.source i.reached r in
    let long : length (i.rows ++ fields ∷ []) ≡ length i.rows + 1 = length-append i.rows (fields ∷ []) in
    let n = i.numbered in
    record { trims = r.3 ∙ i.trims; ready = inl first; some = some; config = r.2 ∙ i.config; ahead = there.0; source = there.1; rows = i.rows ++ fields ∷ []; reached = there.2; numbered = omega arith; said = said }

-- the header was read
pub header-more : (bytes : List ℕ) (number : ℕ) (records : List Record) (reader after : Reader (Bor (List ℕ))) (left : ℕ) (fields : List (List ℕ)) (next : ℕ) (remaining : ℕ) → IsReading bytes number records reader left → ReadRecord slice_bytes reader after true fields → after.first ≡ true → 0 < remaining → next ≡ min (number + 1) (2 ^ 32 - 1) → number ≡ 0 → fields ≡ heading → IsReading bytes next records after remaining
header-more bytes number records reader after left fields next remaining i r first some counted none e =
    more bytes number records reader after left fields next records remaining i r first some counted (header-said i.rows records fields (sym i.numbered ∙ none) i.said e)

-- a row that says something was read
pub row-more : (bytes : List ℕ) (number : ℕ) (records : List Record) (reader after : Reader (Bor (List ℕ))) (left : ℕ) (fields : List (List ℕ)) (next : ℕ) (one : Record) (remaining : ℕ) → IsReading bytes number records reader left → ReadRecord slice_bytes reader after true fields → after.first ≡ true → 0 < remaining → next ≡ min (number + 1) (2 ^ 32 - 1) → number ≢ 0 → AllText fields → HasForm fields one → IsReading bytes next (records ++ one ∷ []) after remaining
row-more bytes number records reader after left fields next one remaining i r first some counted there text form =
    more bytes number records reader after left fields next (records ++ one ∷ []) remaining i r first some counted (row-said i.rows records fields one (λ e. there (i.numbered ∙ e)) i.said (text, form))

-- no row is left
pub read-all : (bytes : List ℕ) (number : ℕ) (records : List Record) (reader after : Reader (Bor (List ℕ))) (left : ℕ) → IsReading bytes number records reader left → ReadRecord slice_bytes reader after false [] → number ≢ 0 → IsTableFile bytes records
read-all bytes number records reader after left i r some =
    let n = i.numbered in
    let first : 1 ≤ length i.rows = omega arith in
    (i.rows, (reader.state, i.ahead, i.reached, rows-end slice_bytes reader after [] default_config i.ahead i.config i.source r), first, i.said)

-- there was none
pub read-none : (bytes : List ℕ) (number : ℕ) (records : List Record) (reader after : Reader (Bor (List ℕ))) (left : ℕ) → IsReading bytes number records reader left → ReadRecord slice_bytes reader after false [] → number ≡ 0 → RefusesTable bytes (BadTable 0)
read-none bytes number records reader after left i r none =
    inl ((reader.state, i.ahead, no-rows i.rows (sym i.numbered ∙ none) i.reached, rows-end slice_bytes reader after [] default_config i.ahead i.config i.source r), refl)
  where
    no-rows : (rows : List (List (List ℕ))) → min (length rows) (2 ^ 32 - 1) ≡ 0 → Reached default_config st.StartRecord (strip_bom bytes) rows reader.state i.ahead → Reached default_config st.StartRecord (strip_bom bytes) [] reader.state i.ahead
    no-rows [] e h = h
    no-rows (row ∷ rows) e h = let no : ⊥ = omega arith in absurd no

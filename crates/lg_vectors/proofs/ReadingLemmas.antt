-- Lines, taken one by one.
use Rattle.std.proofs.Common.{◌≡◌, ℕ, suc, ◌+◌, ◌-◌, ◌<◌, ◌≤◌, Bool, true, false, ◌⊎◌, inl, inr, List, [], ◌∷◌, ◌++◌, length, take, Option, Some, None, refl, sym, ap, subst, ◌∙◌, arith, append_assoc, min}
use Rattle.std.specs.Prelude.{unwrap_or, MatchResult, IfOk, IfErr, Result, Ok, Err}
use Rattle.std.specs.Str.{IsUtf8}
use Rattle.std.specs.Str.Lines.{lines}
use Rattle.std.proofs.lemmas.List.{append-nil, take_all}
use Rattle.lg_vectors.specs.declared.column.Column.{Column}
use Rattle.lg_vectors.specs.declared.fault.VectorFault.{VectorFault}
use Rattle.lg_vectors.specs.declared.fault.VectorFault.TheVariants.{TooManyRows, Memory}
use Rattle.lg_vectors.specs.declared.vector.Vector.{Vector}
use Rattle.lg_vectors.specs.Reading.{Row, Continues, Keeps, BeginsEmpty, Stands, GoesOn, Stops}
use Rattle.lg_vectors.specs.ReadFault.{HasMoreRows, IsReadFault}
use Rattle.lg_vectors.specs.VectorText.{words, uncommented, words_of, IsBlank, AreNames, AreRow, AreRows, AreVector, IsVectorText, IsFirstOutside}
use Rattle.lg_vectors.proofs.UniqueLemmas.{row_same, names_same}

not_blank : (line : List ℕ) → 1 ≤ length (words_of line) → IsBlank line → ⊥
not_blank line some blank = let none : length (words_of line) ≡ 0 = ap length blank.no_words in omega (arith, some, none)

-- a line that names the columns
pub on_names : (line : List ℕ) (rows : List Row) (own : List Column) → IsUtf8 line → 1 ≤ length (words_of line) → AreNames (words_of line) own → GoesOn None rows line (Some own) []
on_names line rows own text some are = record {
  on = λ more named all h. elim h [
    | inl b ↦ absurd (not_blank line some b.0)
    | inr n ↦
        let same : named ≡ own = names_same (words_of line) named own n.0.are_names are in
        (same, (all, subst (λ (cs : List Column). AreRows cs more all) same n.1, refl))
  ];
  back = λ more named all h.
      let rows : AreRows named more all = subst (λ (cs : List Column). AreRows cs more all) (sym h.0) (subst (λ (rs : List Row). AreRows own more rs) (sym h.1.2) h.1.1) in
      inr (record { is_utf8 = text; are_names = subst (λ (cs : List Column). AreNames (words_of line) cs) (sym h.0) are }, rows);
}

pub stop_names : (line : List ℕ) → 1 ≤ length (words_of line) → ((named : List Column) → AreNames (words_of line) named → ⊥) → Stops None line
stop_names line some none rows more named all h = elim h [
  | inl b ↦ not_blank line some b.0
  | inr n ↦ none named n.0.are_names
]

-- a line that is a row
pub on_row : (line : List ℕ) (rows : List Row) (own : List Column) (row : Row) → IsUtf8 line → 1 ≤ length (words_of line) → AreRow own (words_of line) row → GoesOn (Some own) rows line (Some own) (rows ++ row ∷ [])
on_row line rows own row text some are = record {
  on = λ more named all h. elim h.1.1 [
    | inl b ↦ absurd (not_blank line some b.0)
    | inr r ↦
        let same : r.0 ≡ row = row_same own (words_of line) r.0 row r.2.are_row are in
        let grown : h.1.0 ≡ row ∷ r.1 = r.4 ∙ ap (λ (x : Row). x ∷ r.1) same in
        (h.0, (r.1, r.3, h.1.2 ∙ ap (λ t. rows ++ t) grown ∙ sym (append_assoc rows (row ∷ []) r.1)))
  ];
  back = λ more named all h. (h.0, (row ∷ h.1.0, inr (row, h.1.0, record { is_utf8 = text; are_row = are }, h.1.1, refl), h.1.2 ∙ append_assoc rows (row ∷ []) h.1.0));
}

-- what a line leaves, as the code has it
abbrev Left : Option (List Column) → List Row → List ℕ → Option (List Column) → List Row → Bool → Type 0
Left columns rows line after kept over = (more : List Row) × Stands after kept over more × GoesOn columns rows line after more

-- the columns are named
pub take_names : (columns : Option (List Column)) (kept : List Row) (over : Bool) (rows : List Row) (line text : List ℕ) (own : List Column) → columns ≡ None → text ≡ uncommented line → IsUtf8 line → 1 ≤ length (words text) → AreNames (words text) own → Stands columns kept over rows
    → Left columns rows line (Some own) kept over
take_names columns kept over rows line text own unnamed is utf8 some are stands =
    subst (λ (cs : Option (List Column)). Left cs rows line (Some own) kept over) (sym unnamed)
    (named kept over rows (subst (λ (cs : Option (List Column)). Stands cs kept over rows) unnamed stands))
  where
    named : (kept : List Row) (over : Bool) (rows : List Row) → Stands None kept over rows → Left None rows line (Some own) kept over
    named kept over rows st =
        let is_some : 1 ≤ length (words_of line) = subst (λ (t : List ℕ). 1 ≤ length (words t)) is some in
        let is_names : AreNames (words_of line) own = subst (λ (t : List ℕ). AreNames (words t) own) is are in
        let on = on_names line rows own utf8 is_some is_names in
        ([], record { keeps = subst (λ (rs : List Row). Keeps kept over rs) st.empty st.keeps; empty = tt }, on)

pub no_names : (columns : Option (List Column)) (line text : List ℕ) → columns ≡ None → text ≡ uncommented line → 1 ≤ length (words text) → ((named : List Column) → AreNames (words text) named → ⊥) → Stops columns line
no_names columns line text unnamed is some none =
    let is_some : 1 ≤ length (words_of line) = subst (λ (t : List ℕ). 1 ≤ length (words t)) is some in
    let no : (named : List Column) → AreNames (words_of line) named → ⊥ = subst (λ (t : List ℕ). (named : List Column) → AreNames (words t) named → ⊥) is none in
    subst (λ (cs : Option (List Column)). Stops cs line) (sym unnamed) (stop_names line is_some no)

-- a row is read
pub take_row : (columns : Option (List Column)) (kept grown : List Row) (over passed : Bool) (rows : List Row) (line text : List ℕ) (own slice : List Column) (row : Row) → columns ≡ Some own → slice ≡ own → text ≡ uncommented line → IsUtf8 line → 1 ≤ length (words text) → AreRow slice (words text) row
    → Stands columns kept over rows → Keeps grown passed (rows ++ row ∷ []) → Left columns rows line columns grown passed
take_row columns kept grown over passed rows line text own slice row named same is utf8 some are stands keeps =
    let is_some : 1 ≤ length (words_of line) = subst (λ (t : List ℕ). 1 ≤ length (words t)) is some in
    let is_row : AreRow own (words_of line) row = subst (λ (t : List ℕ). AreRow own (words t) row) is (subst (λ (cs : List Column). AreRow cs (words text) row) same are) in
    subst (λ (cs : Option (List Column)). Left cs rows line cs grown passed) (sym named)
    (rows ++ row ∷ [], record { keeps = keeps; empty = tt }, on_row line rows own row utf8 is_some is_row)

-- What a reader knows at a rest: how many lines are done, and what they leave to the others.
pub record IsReading (bytes : List ℕ) (columns : Option (List Column)) (kept : List Row) (over : Bool) (rest : List ℕ) (number : ℕ) : Type 0 where
  pub done : ℕ
  pub rows : List Row
  pub counted : number ≡ min done 4294967295
  pub stands : Stands columns kept over rows
  pub left : length (lines bytes) ≡ done + length (lines rest)
  pub on : (k : ℕ) (named : List Column) (all : List Row) → AreVector (take (done + k) (lines bytes)) named all → Continues columns rows (take k (lines rest)) named all
  pub back : (k : ℕ) (named : List Column) (all : List Row) → Continues columns rows (take k (lines rest)) named all → AreVector (take (done + k) (lines bytes)) named all

none_done : (k : ℕ) → 0 + k ≡ k
none_done k = omega arith

pub reading_begins : (bytes : List ℕ) (columns : Option (List Column)) (kept : List Row) → columns ≡ None → kept ≡ [] → IsReading bytes columns kept false bytes 0
reading_begins bytes columns kept unnamed none = rw (unnamed, none) record {
  done = 0;
  rows = [];
  counted = refl;
  stands = record { keeps = (refl, omega arith); empty = refl };
  left = omega arith;
  on = λ k named all h. subst (λ (n : ℕ). AreVector (take n (lines bytes)) named all) (none_done k) h;
  back = λ k named all h. subst (λ (n : ℕ). AreVector (take n (lines bytes)) named all) (sym (none_done k)) h;
}

one_more_done : (done k : ℕ) → done + 1 + k ≡ done + suc k
one_more_done done k = omega arith

-- a line is taken
pub reading_goes_on : (bytes line rest after : List ℕ) (columns new : Option (List Column)) (kept grown : List Row) (over passed : Bool) (number next : ℕ) (so_far : IsReading bytes columns kept over rest number) → lines rest ≡ line ∷ lines after → next ≡ min (number + 1) 4294967295
    → (more : List Row) × Stands new grown passed more × GoesOn columns so_far.rows line new more → IsReading bytes new grown passed after next
reading_goes_on bytes line rest after columns new kept grown over passed number next so_far first counts step = record {
  done = so_far.done + 1;
  rows = step.0;
  counted = omega (arith, counts, so_far.counted);
  stands = step.1;
  left = let one : length (lines rest) ≡ 1 + length (lines after) = ap length first ∙ omega arith in omega (arith, so_far.left, one);
  on = λ k named all h.
      let whole = so_far.on (suc k) named all (subst (λ (n : ℕ). AreVector (take n (lines bytes)) named all) (one_more_done so_far.done k) h) in
      let cut : Continues columns so_far.rows (line ∷ take k (lines after)) named all = subst (λ (t : List (List ℕ)). Continues columns so_far.rows (take (suc k) t) named all) first whole in
      step.2.on (take k (lines after)) named all cut;
  back = λ k named all h.
      let cut = step.2.back (take k (lines after)) named all h in
      let whole : Continues columns so_far.rows (take (suc k) (lines rest)) named all = subst (λ (t : List (List ℕ)). Continues columns so_far.rows (take (suc k) t) named all) (sym first) cut in
      subst (λ (n : ℕ). AreVector (take n (lines bytes)) named all) (sym (one_more_done so_far.done k)) (so_far.back (suc k) named all whole);
}

so_far_said : (columns : Option (List Column)) (rows : List Row) → (named : List Column) × (all : List Row) × Continues columns rows [] named all
so_far_said None rows = ([], [], (refl, refl))
so_far_said (Some own) rows = (own, rows, (refl, ([], refl, sym (append-nil rows))))

-- the first line outside the form
pub reading_stops : (bytes line rest after : List ℕ) (columns : Option (List Column)) (kept : List Row) (over : Bool) (number next : ℕ) → IsReading bytes columns kept over rest number → lines rest ≡ line ∷ lines after → next ≡ min (number + 1) 4294967295 → Stops columns line
    → (n : ℕ) × IsFirstOutside bytes n × (next ≡ min n 4294967295)
reading_stops bytes line rest after columns kept over number next so_far first counts stops =
    let one : length (lines rest) ≡ 1 + length (lines after) = ap length first ∙ omega arith in
    let said = so_far_said columns so_far.rows in
    let before = so_far.back 0 said.0 said.1 said.2 in
    let back : so_far.done + 0 ≡ so_far.done + 1 - 1 = omega arith in (
      so_far.done + 1,
      record {
        some = omega arith;
        within = omega (arith, so_far.left, one);
        before = (said.0, said.1, subst (λ (n : ℕ). AreVector (take n (lines bytes)) said.0 said.1) back before);
        outside = λ named all h.
            let whole = so_far.on 1 named all h in
            let cut : Continues columns so_far.rows (line ∷ []) named all = subst (λ (t : List (List ℕ)). Continues columns so_far.rows (take 1 t) named all) first whole in
            stops so_far.rows [] named all cut;
      },
      omega (arith, counts, so_far.counted),
    )

-- all lines are taken
all_said : (bytes rest : List ℕ) (columns : Option (List Column)) (kept : List Row) (over : Bool) (number : ℕ) (so_far : IsReading bytes columns kept over rest number) → rest ≡ []
    → ((named : List Column) (all : List Row) → IsVectorText bytes named all → (named ≡ unwrap_or columns []) × (all ≡ so_far.rows)) × IsVectorText bytes (unwrap_or columns []) so_far.rows
all_said bytes rest columns kept over number so_far none =
    let ended : lines rest ≡ [] = ap lines none in
    let size : length (lines rest) ≡ 0 = ap length ended in
    let whole : take (so_far.done + 0) (lines bytes) ≡ lines bytes = take_all (so_far.done + 0) (lines bytes) (omega (arith, so_far.left, size)) in (
      λ named all h.
          let on = so_far.on 0 named all (subst (λ (t : List (List ℕ)). AreVector t named all) (sym whole) h) in
          left_over columns so_far.rows named all so_far.stands.empty on,
      subst (λ (t : List (List ℕ)). AreVector t (unwrap_or columns []) so_far.rows) whole (so_far.back 0 (unwrap_or columns []) so_far.rows (is_left columns so_far.rows so_far.stands.empty)),
    )
  where
    left_over : (columns : Option (List Column)) (rows : List Row) (named : List Column) (all : List Row) → BeginsEmpty columns rows → Continues columns rows [] named all → (named ≡ unwrap_or columns []) × (all ≡ rows)
    left_over None rows named all empty h = (h.0, h.1 ∙ sym empty)
    left_over (Some own) rows named all empty h = (h.0, h.1.2 ∙ ap (λ t. rows ++ t) h.1.1 ∙ append-nil rows)

    is_left : (columns : Option (List Column)) (rows : List Row) → BeginsEmpty columns rows → Continues columns rows [] (unwrap_or columns []) rows
    is_left None rows empty = (refl, empty)
    is_left (Some own) rows empty = (refl, ([], refl, sym (append-nil rows)))

-- the vector that is kept
pub reading_kept : (bytes rest : List ℕ) (columns : Option (List Column)) (kept : List Row) (over : Bool) (number : ℕ) → IsReading bytes columns kept over rest number → rest ≡ [] → over ≡ false
    → IsVectorText bytes (unwrap_or columns []) kept × ((named : List Column) (all : List Row) → IsVectorText bytes named all → (unwrap_or columns [] ≡ named) × (kept ≡ all))
reading_kept bytes rest columns kept over number so_far none all_kept =
    let said = all_said bytes rest columns kept over number so_far none in
    let keeps : Keeps kept false so_far.rows = subst (λ (b : Bool). Keeps kept b so_far.rows) all_kept so_far.stands.keeps in (
      subst (λ (rs : List Row). IsVectorText bytes (unwrap_or columns []) rs) (sym keeps.0) said.1,
      λ named all h. let same = said.0 named all h in (sym same.0, keeps.0 ∙ sym same.1),
    )

-- too many rows
pub reading_over : (bytes rest : List ℕ) (columns : Option (List Column)) (kept : List Row) (over : Bool) (number : ℕ) → IsReading bytes columns kept over rest number → rest ≡ [] → over ≡ true
    → HasMoreRows 65536 bytes × ((named : List Column) (all : List Row) → IsVectorText bytes named all → 65536 < length all)
reading_over bytes rest columns kept over number so_far none passed =
    let said = all_said bytes rest columns kept over number so_far none in
    let keeps : 65536 < length so_far.rows = subst (λ (b : Bool). Keeps kept b so_far.rows) passed so_far.stands.keeps in (
      (unwrap_or columns [], so_far.rows, said.1, keeps),
      λ named all h. let same = (said.0 named all h).1 in rw same keeps,
    )

-- with a line outside the form the bytes are no vector
pub reading_no : (bytes line rest after : List ℕ) (columns : Option (List Column)) (kept : List Row) (over : Bool) (number : ℕ) → IsReading bytes columns kept over rest number → lines rest ≡ line ∷ lines after → Stops columns line → (named : List Column) (all : List Row) → IsVectorText bytes named all → ⊥
reading_no bytes line rest after columns kept over number so_far first stops named all h =
    let whole : take (so_far.done + length (lines rest)) (lines bytes) ≡ lines bytes = take_all (so_far.done + length (lines rest)) (lines bytes) (omega (arith, so_far.left)) in
    let on = so_far.on (length (lines rest)) named all (subst (λ (t : List (List ℕ)). AreVector t named all) (sym whole) h) in
    let rest_all : take (length (lines rest)) (lines rest) ≡ line ∷ lines after = take_all (length (lines rest)) (lines rest) (omega arith) ∙ first in
    stops so_far.rows (lines after) named all (subst (λ (t : List (List ℕ)). Continues columns so_far.rows t named all) rest_all on)

-- what is made of it all
pub finish_found : (bytes rest : List ℕ) (columns : Option (List Column)) (kept : List Row) (over : Bool) (number : ℕ) → IsReading bytes columns kept over rest number → rest ≡ [] → (r : Result Vector VectorFault) → IfOk r (λ v. (over ≡ false) × (v.columns ≡ unwrap_or columns []) × (v.rows ≡ kept))
    → IfOk r (λ v. IsVectorText bytes v.columns v.rows)
finish_found bytes rest columns kept over number so_far none (Ok v) w =
    let said = reading_kept bytes rest columns kept over number so_far none w.0 in
    rw (w.1, w.2) said.0
finish_found bytes rest columns kept over number so_far none (Err e) w = w

pub finish_only : (bytes rest : List ℕ) (columns : Option (List Column)) (kept : List Row) (over : Bool) (number : ℕ) → IsReading bytes columns kept over rest number → rest ≡ [] → (r : Result Vector VectorFault) → IfOk r (λ v. (over ≡ false) × (v.columns ≡ unwrap_or columns []) × (v.rows ≡ kept))
    → IfErr r (λ e. (over ≡ true) × (e ≡ TooManyRows)) → (named : List Column) (all : List Row) → IsVectorText bytes named all → MatchResult r (λ v. (v.columns ≡ named) × (v.rows ≡ all)) (λ e. (e ≡ Memory) ⊎ ((e ≡ TooManyRows) × (65536 < length all)))
finish_only bytes rest columns kept over number so_far none (Ok v) w f named all h =
    let said = (reading_kept bytes rest columns kept over number so_far none w.0).1 named all h in
    (w.1 ∙ said.0, w.2 ∙ said.1)
finish_only bytes rest columns kept over number so_far none (Err e) w f named all h =
    inr (f.1, (reading_over bytes rest columns kept over number so_far none f.0).1 named all h)

pub finish_fault : (bytes rest : List ℕ) (columns : Option (List Column)) (kept : List Row) (over : Bool) (number : ℕ) → IsReading bytes columns kept over rest number → rest ≡ [] → (r : Result Vector VectorFault) → IfErr r (λ e. (over ≡ true) × (e ≡ TooManyRows))
    → IfErr r (IsReadFault 65536 bytes)
finish_fault bytes rest columns kept over number so_far none (Ok v) f = f
finish_fault bytes rest columns kept over number so_far none (Err e) f =
    rw f.1 (reading_over bytes rest columns kept over number so_far none f.0).0

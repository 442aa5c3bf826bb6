-- The numbers of inputs, column by column: they fit the inputs' widths, and are the only ones.
use Rattle.std.proofs.Common.{◌≡◌, ℕ, zero, suc, ◌+◌, ◌<◌, ◌^◌, List, [], ◌∷◌, length, map, Option, Some, None, refl, sym, ap, subst, ◌∙◌, inl, inr, ◌⊎◌, arith}
use Rattle.std.specs.Prelude.{All, slice_get, option_map, slice_set, replicate}
use Rattle.std.specs.List.{AllZip, IsDistinct}
use Rattle.std.specs.Str.{bytes_eq}
use Rattle.std.proofs.lemmas.Bool.{cases_lt}
use Rattle.std.proofs.lemmas.List.{length-map}
use Rattle.std.proofs.lemmas.List.Elements.{All-head, All-tail, All-cons, All-nil}
use Rattle.std.proofs.lemmas.Option.{same_Some, slice_get_within, slice_get-map}
use Rattle.lg_value.specs.declared.bit.Bit.{Bit}
use Rattle.lg_value.specs.declared.bit.Bit.TheVariants.{One}
use Rattle.lg_value.specs.Word.{number_of}
use Rattle.lg_value.proofs.WordLemmas.{number_of-lt}
use Rattle.lg_vectors.specs.declared.column.Column.{Column}
use Rattle.lg_vectors.specs.declared.pin.PinShape.{PinShape}
use Rattle.lg_vectors.specs.Binding.{AreBound, HaveColumns, pin_names}
use Rattle.lg_vectors.specs.CaredBits.{CaredBits}
use Rattle.lg_vectors.specs.Rows.{IsRowOf}
use Rattle.lg_vmeaning.specs.Solution.{AreNumbers}
use Rattle.lg_vrows.specs.Rows.{AreInputs, input_pin}
use Rattle.lg_vrows.specs.Steps.{AreIndexes}
use Rattle.lg_vrows.proofs.BoundLemmas.{column_of}
use Rattle.lg_vrows.proofs.PortLemmas.{Line}

-- a word of ones
pub all_ones : (word : List Bit) → All (λ (bit : Bit). bit ≡ One) word → word ≡ replicate (length word) One
all_ones [] all = refl
all_ones (b ∷ word) all =
    let first : b ≡ One = All-head (λ (bit : Bit). bit ≡ One) b word all in
    let rest = all_ones word (All-tail (λ (bit : Bit). bit ≡ One) b word all) in
    λ i. first i ∷ rest i

pub ones_all : (width : ℕ) → All (λ (bit : Bit). bit ≡ One) (replicate width One)
ones_all zero = All-nil (λ (bit : Bit). bit ≡ One)
ones_all (suc width) = All-cons (λ (bit : Bit). bit ≡ One) One (replicate width One) refl (ones_all width)

-- so many columns have given their numbers
pub record AreInputsTo (done inputs : ℕ) (indexes : List ℕ) (row : List CaredBits) (numbers : List ℕ) : Type 0 where
  pub count : length numbers ≡ inputs
  pub each : (column index : ℕ) (value : CaredBits) → column < done → slice_get indexes column ≡ Some index → slice_get row column ≡ Some value → slice_get numbers index ≡ Some (number_of value.bits)

pub none_done : (inputs : ℕ) (indexes : List ℕ) (row : List CaredBits) (numbers : List ℕ) → length numbers ≡ inputs → AreInputsTo 0 inputs indexes row numbers
none_done inputs indexes row numbers count = record { count = count; each = λ column index value lt e f. absurd (omega (arith, lt)) }

-- an item that is set, and the others
set_here : {X : Type 0} (xs : List X) (i : ℕ) (x : X) → i < length xs → slice_get (slice_set xs i x) i ≡ Some x
set_here [] i x lt = absurd (omega (arith, lt))
set_here (y ∷ xs) zero x lt = refl
set_here (y ∷ xs) (suc i) x lt = set_here xs i x (omega (arith, lt))

set_elsewhere : {X : Type 0} (xs : List X) (i j : ℕ) (x : X) → (i ≡ j → ⊥) → slice_get (slice_set xs i x) j ≡ slice_get xs j
set_elsewhere [] i j x apart = refl
set_elsewhere (y ∷ xs) zero zero x apart = absurd (apart refl)
set_elsewhere (y ∷ xs) zero (suc j) x apart = refl
set_elsewhere (y ∷ xs) (suc i) zero x apart = refl
set_elsewhere (y ∷ xs) (suc i) (suc j) x apart = set_elsewhere xs i j x (λ e. apart (ap suc e))

set_length : {X : Type 0} (xs : List X) (i : ℕ) (x : X) → length (slice_set xs i x) ≡ length xs
set_length [] i x = refl
set_length (y ∷ xs) zero x = refl
set_length (y ∷ xs) (suc i) x = ap suc (set_length xs i x)

-- one column more gives its number
pub one_done : (done inputs : ℕ) (indexes : List ℕ) (row : List CaredBits) (numbers : List ℕ) (index : ℕ) (value : CaredBits) → AreIndexes inputs indexes → slice_get indexes done ≡ Some index → slice_get row done ≡ Some value
    → AreInputsTo done inputs indexes row numbers → AreInputsTo (done + 1) inputs indexes row (slice_set numbers index (number_of value.bits))
one_done done inputs indexes row numbers index value are e f so = record {
  count = set_length numbers index (number_of value.bits) ∙ so.count;
  each = λ column other wanted lt g h. step column other wanted lt g h (cases column lt);
}
  where
    cases : (column : ℕ) → column < done + 1 → (column < done) ⊎ (column ≡ done)
    cases column lt = elim (cases_lt column done) [
      | inl before ↦ inl before
      | inr past ↦ inr (omega (arith, lt, past))
    ]

    step : (column other : ℕ) (wanted : CaredBits) → column < done + 1 → slice_get indexes column ≡ Some other → slice_get row column ≡ Some wanted → (column < done) ⊎ (column ≡ done)
        → slice_get (slice_set numbers index (number_of value.bits)) other ≡ Some (number_of wanted.bits)
    step column other wanted lt g h (inl before) =
        let apart : index ≡ other → ⊥ = λ same. let here : column ≡ done = are.apart column done other g (e ∙ ap Some same) in absurd (omega (arith, here, before)) in
        set_elsewhere numbers index other (number_of value.bits) apart ∙ so.each column other wanted before g h
    step column other wanted lt g h (inr here) =
        let same : index ≡ other = same_Some index other (sym e ∙ (ap (slice_get indexes) (sym here) ∙ g)) in
        let values : value ≡ wanted = same_Some value wanted (sym f ∙ (ap (slice_get row) (sym here) ∙ h)) in
        let below : index < length numbers = subst (λ (n : ℕ). index < n) (sym so.count) (are.below done index e) in
        ap (slice_get (slice_set numbers index (number_of value.bits))) (sym same)
        ∙ (set_here numbers index (number_of value.bits) below ∙ ap (λ (v : CaredBits). Some (number_of v.bits)) values)

-- all columns have
pub all_done : (done inputs : ℕ) (indexes : List ℕ) (row : List CaredBits) (numbers : List ℕ) → ((column : ℕ) → column < length indexes → column < length row → column < done) → AreInputsTo done inputs indexes row numbers → AreInputs inputs indexes row numbers
all_done done inputs indexes row numbers end so = record {
  count = so.count;
  each = λ column index value e f. so.each column index value (end column (slice_get_within indexes column index e) (slice_get_within row column value f)) e f;
}

pub item_at : {X : Type 0} (xs : List X) (i : ℕ) → i < length xs → (x : X) × (slice_get xs i ≡ Some x)
item_at [] i lt = absurd (omega (arith, lt))
item_at (x ∷ xs) zero lt = (x, refl)
item_at (x ∷ xs) (suc i) lt = item_at xs i (omega (arith, lt))

-- a value of a row has its column's width
value_of : (columns : List Column) (row : List CaredBits) → IsRowOf columns row → (k : ℕ) (column : Column) → slice_get columns k ≡ Some column → (value : CaredBits) × (slice_get row k ≡ Some value) × (length value.bits ≡ column.width)
value_of columns row is k column e = step (slice_get row k) refl
  where
    widths : option_map (λ (v : CaredBits). length v.bits) (slice_get row k) ≡ Some column.width
    widths = sym (slice_get-map (λ (v : CaredBits). length v.bits) row k) ∙ (ap (λ (ws : List ℕ). slice_get ws k) is ∙ (slice_get-map (λ (c : Column). c.width) columns k ∙ ap (option_map (λ (c : Column). c.width)) e))

    step : (o : Option CaredBits) → slice_get row k ≡ o → (value : CaredBits) × (slice_get row k ≡ Some value) × (length value.bits ≡ column.width)
    step (Some v) f = (v, f, same_Some (length v.bits) column.width (sym (ap (option_map (λ (v : CaredBits). length v.bits)) f) ∙ widths))
    step None f = absurd (cc (sym (ap (option_map (λ (v : CaredBits). length v.bits)) f) ∙ widths))

-- the only list of items with these lookups
pub same_lists : {X : Type 0} (xs ys : List X) → length xs ≡ length ys → ((i : ℕ) → i < length xs → slice_get xs i ≡ slice_get ys i) → xs ≡ ys
same_lists [] [] count same = refl
same_lists [] (y ∷ ys) count same = absurd (omega (arith, count))
same_lists (x ∷ xs) [] count same = absurd (omega (arith, count))
same_lists (x ∷ xs) (y ∷ ys) count same =
    let first : x ≡ y = same_Some x y (same 0 (omega arith)) in
    let rest = same_lists xs ys (omega (arith, count)) (λ i lt. same (suc i) (omega (arith, lt))) in
    λ i. first i ∷ rest i

-- numbers that fit one by one fit
fit_each : (all : List Line) (numbers : List ℕ) → length numbers ≡ length all → ((i : ℕ) (l : Line) → slice_get all i ≡ Some l → (n : ℕ) × (slice_get numbers i ≡ Some n) × (n < 2 ^ l.1)) → AreNumbers all numbers
fit_each [] [] count each = tt
fit_each [] (n ∷ numbers) count each = absurd (omega (arith, count))
fit_each (l ∷ all) [] count each = absurd (omega (arith, count))
fit_each (l ∷ all) (n ∷ numbers) count each =
    let first = each 0 l refl in
    (subst (λ (k : ℕ). k < 2 ^ l.1) (sym (same_Some n first.0 first.1)) first.2, fit_each all numbers (omega (arith, count)) (λ i other e. each (suc i) other e))

module _ (pins : List PinShape) (columns : List Column) (indexes : List ℕ) (differ : IsDistinct bytes_eq (pin_names pins)) (bound : AreBound [] pins columns indexes) (whole : HaveColumns columns pins) where
  -- the number of a pin
  number_at : (row : List CaredBits) (numbers : List ℕ) → IsRowOf columns row → AreInputs (length pins) indexes row numbers → (i : ℕ) (pin : PinShape) → slice_get pins i ≡ Some pin
      → (k : ℕ) × (value : CaredBits) × (slice_get indexes k ≡ Some i) × (slice_get row k ≡ Some value) × (length value.bits ≡ pin.width)
  number_at row numbers is are i pin e =
      let c = column_of pins columns indexes differ bound whole i pin e in
      let v = value_of columns row is c.0 c.1 c.2 in
      (c.0, v.0, c.3, v.1, v.2 ∙ c.4)

  -- the numbers that a row gives are the only ones
  one_row : (row : List CaredBits) (numbers others : List ℕ) → IsRowOf columns row → AreInputs (length pins) indexes row numbers → AreInputs (length pins) indexes row others → numbers ≡ others
  one_row row numbers others is are again = same_lists numbers others (are.count ∙ sym again.count) each
    where
      each : (i : ℕ) → i < length numbers → slice_get numbers i ≡ slice_get others i
      each i lt =
          let pin = item_at pins i (subst (λ (n : ℕ). i < n) are.count lt) in
          let v = number_at row numbers is are i pin.0 pin.1 in
          are.each v.0 i v.1 v.2 v.3 ∙ sym (again.each v.0 i v.1 v.2 v.3)

  pub one_rows : (rows : List (List CaredBits)) (inputs others : List (List ℕ)) → All (IsRowOf columns) rows → AllZip (AreInputs (length pins) indexes) rows inputs → AllZip (AreInputs (length pins) indexes) rows others → inputs ≡ others
  one_rows [] [] [] all are again = refl
  one_rows [] [] (o ∷ others) all are again = absurd again
  one_rows [] (n ∷ inputs) others all are again = absurd are
  one_rows (row ∷ rows) [] others all are again = absurd are
  one_rows (row ∷ rows) (n ∷ inputs) [] all are again = absurd again
  one_rows (row ∷ rows) (n ∷ inputs) (o ∷ others) all are again =
      let first = one_row row n o (All-head (IsRowOf columns) row rows all) are.0 again.0 in
      let rest = one_rows rows inputs others (All-tail (IsRowOf columns) row rows all) are.1 again.1 in
      λ i. first i ∷ rest i

-- the numbers that rows give to inputs fit their widths
module _ (ports : List Line) (columns : List Column) (indexes : List ℕ) (differ : IsDistinct bytes_eq (pin_names (map input_pin ports))) (bound : AreBound [] (map input_pin ports) columns indexes) (whole : HaveColumns columns (map input_pin ports)) where
  row_fits : (row : List CaredBits) (numbers : List ℕ) → IsRowOf columns row → AreInputs (length (map input_pin ports)) indexes row numbers → AreNumbers ports numbers
  row_fits row numbers is are = fit_each ports numbers (are.count ∙ length-map ports input_pin) each
    where
      each : (i : ℕ) (l : Line) → slice_get ports i ≡ Some l → (n : ℕ) × (slice_get numbers i ≡ Some n) × (n < 2 ^ l.1)
      each i l e =
          let v = number_at (map input_pin ports) columns indexes differ bound whole row numbers is are i (input_pin l) (slice_get-map input_pin ports i ∙ ap (option_map input_pin) e) in
          (number_of v.1.bits, are.each v.0 i v.1 v.2 v.3, subst (λ (w : ℕ). number_of v.1.bits < 2 ^ w) v.4 (number_of-lt v.1.bits))

  pub rows_fit : (rows : List (List CaredBits)) (inputs : List (List ℕ)) → All (IsRowOf columns) rows → AllZip (AreInputs (length (map input_pin ports)) indexes) rows inputs → All (AreNumbers ports) inputs
  rows_fit [] [] all are = All-nil (AreNumbers ports)
  rows_fit [] (n ∷ inputs) all are = absurd are
  rows_fit (row ∷ rows) [] all are = absurd are
  rows_fit (row ∷ rows) (n ∷ inputs) all are =
      All-cons (AreNumbers ports) n inputs (row_fits row n (All-head (IsRowOf columns) row rows all) are.0) (rows_fit rows inputs (All-tail (IsRowOf columns) row rows all) are.1)

-- Rows that are bound to the inputs of a valid module and defined have a text of outputs.
use Rattle.std.proofs.Common.{◌≡◌, ℕ, zero, suc, ◌+◌, ◌≤◌, List, [], ◌∷◌, ◌++◌, length, map, replicate, refl, sym, ap, subst, ◌∙◌, arith}
use Rattle.std.specs.Prelude.{All, slice_set}
use Rattle.std.specs.List.{AllZip}
use Rattle.std.proofs.lemmas.List.{length-map, length-replicate}
use Rattle.std.proofs.lemmas.List.Elements.{All-head, All-tail}
use Rattle.lg_value.specs.Word.{number_of}
use Rattle.lg_vectors.specs.declared.column.Column.{Column}
use Rattle.lg_vectors.specs.declared.pin.PinShape.{PinShape}
use Rattle.lg_vectors.specs.Binding.{AreBound}
use Rattle.lg_vectors.specs.CaredBits.{CaredBits}
use Rattle.lg_vectors.specs.Rows.{IsRowOf}
use Rattle.lg_vtree.specs.declared.module.Module.{Module}
use Rattle.lg_vrules.specs.Things.{lines_of, names_of, is_input, is_output}
use Rattle.lg_vrules.specs.Order.{IsOrder}
use Rattle.lg_vmachine.specs.Kept.{Kept}
use Rattle.lg_vmeaning.specs.Rows.{start, after_edge, AreRows}
use Rattle.lg_vmeaning.specs.Solution.{AreNumbers, IsOf}
use Rattle.lg_vmeaning.specs.Valid.{IsValid}
use Rattle.lg_vmeaning.proofs.ValidLemmas.{one_solution}
use Rattle.lg_vmeaning.proofs.EdgeLemmas.{after_is_of}
use Rattle.lg_vmeaning.proofs.StartLemmas.{start_is_of}
use Rattle.lg_vrows.specs.Rows.{AreBoundRows, AreInputs, AreOutputsOf, IsDefinedRow, input_pins}
use Rattle.lg_vrows.specs.Steps.{AreIndexes}
use Rattle.lg_vrows.specs.Text.{rows_text}
use Rattle.lg_vrows.specs.Due.{IsRowsText}
use Rattle.lg_vrows.proofs.BoundLemmas.{are_indexes}
use Rattle.lg_vrows.proofs.InputLemmas.{AreInputsTo, none_done, one_done, all_done, item_at, rows_fit}
use Rattle.lg_vrows.proofs.OneVector.{Row, vector_wide}
use Rattle.lg_vrows.proofs.PortLemmas.{pins_differ}
use Rattle.lg_vrows.proofs.SomeOrder.{some_order}

-- as many columns as indexes
as_many : (earlier : List (List ℕ)) (pins : List PinShape) (columns : List Column) (indexes : List ℕ) → AreBound earlier pins columns indexes → length indexes ≡ length columns
as_many earlier pins [] [] bound = refl
as_many earlier pins [] (p ∷ indexes) bound = absurd bound
as_many earlier pins (c ∷ columns) [] bound = absurd bound
as_many earlier pins (c ∷ columns) (p ∷ indexes) bound = ap suc (as_many (earlier ++ c.name ∷ []) pins columns indexes bound.2)

-- and as many values in a row
row_count : (columns : List Column) (row : Row) → IsRowOf columns row → length row ≡ length columns
row_count columns row is = sym (length-map row (λ (v : CaredBits). length v.bits)) ∙ (ap (λ (widths : List ℕ). length widths) is ∙ length-map columns (λ (c : Column). c.width))

-- a row gives its inputs numbers, column by column
module _ (inputs : ℕ) (indexes : List ℕ) (are : AreIndexes inputs indexes) where
  numbers_to : (row : Row) → length row ≡ length indexes → (done : ℕ) → done ≤ length indexes → (numbers : List ℕ) × AreInputsTo done inputs indexes row numbers
  numbers_to row count zero most = (replicate inputs 0, none_done inputs indexes row (replicate inputs 0) (length-replicate inputs 0))
  numbers_to row count (suc done) most =
      let so = numbers_to row count done (omega (arith, most)) in
      let index = item_at indexes done (omega (arith, most)) in
      let value = item_at row done (omega (arith, most, count)) in
      let next : done + 1 ≡ suc done = omega arith in
      let numbers = slice_set so.0 index.0 (number_of value.0.bits) in
      (numbers, subst (λ (n : ℕ). AreInputsTo n inputs indexes row numbers) next (one_done done inputs indexes row so.0 index.0 value.0 are index.1 value.1 so.1))

  some_numbers : (row : Row) → length row ≡ length indexes → (numbers : List ℕ) × AreInputs inputs indexes row numbers
  some_numbers row count =
      let so = numbers_to row count (length indexes) (omega arith) in
      (so.0, all_done (length indexes) inputs indexes row so.0 (λ column less short. less) so.1)

  some_inputs : (columns : List Column) → length indexes ≡ length columns → (rows : List Row) → All (IsRowOf columns) rows → (numbers : List (List ℕ)) × AllZip (AreInputs inputs indexes) rows numbers
  some_inputs columns count [] all = ([], tt)
  some_inputs columns count (row ∷ rows) all =
      let first = some_numbers row (row_count columns row (All-head (IsRowOf columns) row rows all) ∙ sym count) in
      let rest = some_inputs columns count rows (All-tail (IsRowOf columns) row rows all) in
      (first.0 ∷ rest.0, (first.1, rest.1))

-- row after row a valid module has outputs
some_outs : (m : Module) (order : List ℕ) → IsValid m → IsOrder m order → (kept : Kept) → IsOf m kept → (rows : List (List ℕ)) → All (AreNumbers (lines_of is_input m)) rows → (outs : List (List ℕ)) × AreRows m kept rows outs
some_outs m order valid is kept of [] all = ([], tt)
some_outs m order valid is kept of (row ∷ rows) all =
    let fit = All-head (AreNumbers (lines_of is_input m)) row rows all in
    let s = one_solution m order valid.rules is kept row of fit in
    let after = after_is_of m order valid.rules is kept of row fit s.0 s.1 in
    let rest = some_outs m order valid is (after_edge m kept s.0) after rows (All-tail (AreNumbers (lines_of is_input m)) row rows all) in
    (map s.0 (names_of is_output m) ∷ rest.0, (s.0, s.1, refl, rest.1))

-- bytes of bound, defined rows have a text
pub rows_exist : (m : Module) → IsValid m → (bytes : List ℕ) → (given : AreBoundRows m bytes) → All IsDefinedRow given.rows → (text : List ℕ) × IsRowsText m bytes text
rows_exist m valid bytes given defined =
    let pins = input_pins m in
    let wide = vector_wide bytes given.columns given.rows given.says in
    let indexes = are_indexes pins given.columns given.indexes given.bound in
    let inputs = some_inputs (length pins) given.indexes indexes given.columns (as_many [] pins given.columns given.indexes given.bound) given.rows wide in
    let fit = rows_fit (lines_of is_input m) given.columns given.indexes (pins_differ m valid) given.bound given.whole given.rows inputs.0 wide inputs.1 in
    let order = some_order m valid.acyclic in
    let outs = some_outs m order.0 valid order.1 (start m) (start_is_of m valid.rules) inputs.0 fit in
    let are : AreOutputsOf m bytes outs.0 = record { given = given; defined = defined; inputs = inputs.0; are_inputs = inputs.1; outputs = outs.1 } in
    (rows_text m outs.0, (outs.0, are, refl))

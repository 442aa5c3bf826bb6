use Rattle.std.proofs.Common.{◌≡◌, ℕ, ◌≤◌, List, [], length, map, sym, ap, subst, ◌∙◌}
use Rattle.std.specs.Prelude.{All}
use Rattle.std.specs.List.{AllZip, IsDistinct}
use Rattle.std.specs.Str.{bytes_eq}
use Rattle.std.proofs.lemmas.Option.{MatchOption-at_none}
use Rattle.std.proofs.lemmas.Result.{err_from_is_err_and}
use Rattle.lg_vectors.specs.declared.fault.VectorFault.{VectorFault}
use Rattle.lg_vectors.specs.declared.column.Column.{Column}
use Rattle.lg_vectors.specs.declared.pin.PinShape.{PinShape}
use Rattle.lg_vectors.specs.Binding.{pin_names, AreBound, HaveColumns}
use Rattle.lg_vectors.specs.CaredBits.{CaredBits}
use Rattle.lg_vectors.specs.VectorText.{IsVectorText}
use Rattle.lg_vtree.specs.declared.module.Module.{Module}
use Rattle.lg_vrules.specs.Things.{lines_of, is_input, is_output}
use Rattle.lg_vmeaning.specs.declared.ports.PortLine.{PortLine}
use Rattle.lg_vmeaning.specs.Ports.{port_lines}
use Rattle.lg_vmeaning.specs.Rows.{start, AreRows}
use Rattle.lg_vmeaning.specs.Solution.{AreNumbers}
use Rattle.lg_vrows.specs.Rows.{AreBoundRows, AreInputs, IsDefinedRow, IsFirstUndefined, input_pin, input_pins}
use Rattle.lg_vrows.specs.Steps.{IsMarked, IsPrinted, AreIndexes, lines}
use Rattle.lg_vrows.specs.Text.{table_text}
use Rattle.lg_vrows.proofs.BoundLemmas.{are_indexes}
use Rattle.lg_vrows.proofs.FaultLemmas.{unbound_fault}
use Rattle.lg_vrows.proofs.InputLemmas.{rows_fit}
use Rattle.lg_vrows.proofs.PortLemmas.{lines_same, inputs_marked, outputs_printed, pins_differ}
use Rattle.lg_vrows.proofs.rows.rows_text.Goals as goal

-- the pins are those of the module's inputs
pins_are : (m : Module) (pins shown : List PinShape) (ports : List PortLine) → shown ≡ pins → pins ≡ map input_pin (lines ports) → ports ≡ port_lines is_input m → shown ≡ input_pins m
pins_are m pins shown ports e f g = e ∙ (f ∙ (ap (λ (some : List PortLine). map input_pin (lines some)) g ∙ ap (map input_pin) (lines_same (lines_of is_input m))))

-- what is read and bound, as the rows for a module
abbrev bound_rows : (m : Module) (bytes : List ℕ) (columns : List Column) (rows : List (List CaredBits)) (indexes : List ℕ) (pins : List PinShape) → pins ≡ input_pins m → IsVectorText bytes columns rows → length rows ≤ 65536
    → AreBound [] pins columns indexes → HaveColumns columns pins → AreBoundRows m bytes
bound_rows m bytes columns rows indexes pins e says few bound whole = record {
  columns = columns;
  rows = rows;
  says = says;
  few = few;
  indexes = indexes;
  bound = subst (λ (some : List PinShape). AreBound [] some columns indexes) e bound;
  whole = subst (HaveColumns columns) e whole;
}

-- numbers of inputs, under other names for the same indexes and rows
moved : (n k : ℕ) (indexes others : List ℕ) (rows some : List (List CaredBits)) (inputs : List (List ℕ)) → n ≡ k → indexes ≡ others → rows ≡ some → AllZip (AreInputs n indexes) rows inputs → AllZip (AreInputs k others) some inputs
moved n k indexes others rows some inputs e f g are =
    subst (λ (rs : List (List CaredBits)). AllZip (AreInputs k others) rs inputs) g
    (subst (λ (ps : List ℕ). AllZip (AreInputs k ps) rows inputs) f (subst (λ (count : ℕ). AllZip (AreInputs count indexes) rows inputs) e are))

pub input_pins-requires : goal.input_pins-requires
input_pins-requires c = subst (All (λ (line : PortLine). IsMarked line.name)) (sym c.inputs.ensures.value) (inputs_marked c.args.«module».now c.inputs.ensures.is_valid)

pub bind_rows-requires : goal.bind_rows-requires
bind_rows-requires c =
    let m = c.args.«module».now in
    let pins : c.as_slice.result.now ≡ input_pins m = pins_are m c.in_ok-pins.pins c.as_slice.result.now c.inputs.result.now c.as_slice.ensures c.in_ok-pins.ensures c.inputs.ensures.value in
    subst (λ (some : List PinShape). IsDistinct bytes_eq (pin_names some)) (sym pins) (pins_differ m c.inputs.ensures.is_valid)

pub returns-in_err-indexes-clause-fault : goal.returns-in_err-indexes-clause-fault
returns-in_err-indexes-clause-fault c =
    let m = c.args.«module».now in
    let columns : List Column = c.in_ok-vector.vector.columns in
    let rows : List (List CaredBits) = c.in_ok-vector.vector.rows in
    let fault : VectorFault = c.in_err-indexes.field-0.0 in
    let pins : c.as_slice.result.now ≡ input_pins m = pins_are m c.in_ok-pins.pins c.as_slice.result.now c.inputs.result.now c.as_slice.ensures c.in_ok-pins.ensures c.inputs.ensures.value in
    let reason = rw pins at c.in_err-indexes.ensures.fault in
    let p = err_from_is_err_and c.from_residual-in_err-indexes.result c.from_residual-in_err-indexes.ensures.1 in
    rw (p.1, p.2) (unbound_fault m c.args.bytes.now columns rows fault c.in_ok-vector.ensures.found c.in_ok-vector.vector.rows_fit.few reason)

pub returns-in-Some-clause-fault : goal.returns-in-Some-clause-fault
returns-in-Some-clause-fault c =
    let m = c.args.«module».now in
    let columns : List Column = c.in_ok-vector.vector.columns in
    let rows : List (List CaredBits) = c.in_ok-vector.vector.rows in
    let indexes : List ℕ = c.in_ok-indexes.indexes in
    let pins : c.as_slice.result.now ≡ input_pins m = pins_are m c.in_ok-pins.pins c.as_slice.result.now c.inputs.result.now c.as_slice.ensures c.in_ok-pins.ensures c.inputs.ensures.value in
    let given = bound_rows m c.args.bytes.now columns rows indexes c.as_slice.result.now pins c.in_ok-vector.ensures.found c.in_ok-vector.vector.rows_fit.few c.in_ok-indexes.ensures.bound c.in_ok-indexes.ensures.whole in
    (given, subst (λ (some : List (List CaredBits)). IsFirstUndefined some c.in-Some.row) c.as_slice-2.ensures c.in-Some.ensures)

pub inputs_of-requires : goal.inputs_of-requires
inputs_of-requires c =
    let columns : List Column = c.in_ok-vector.vector.columns in
    let indexes : List ℕ = c.in_ok-indexes.indexes in
    let pins : List PinShape = c.as_slice.result.now in
    let count : length pins ≡ c.len.result = ap (λ (some : List PinShape). length some) c.as_slice.ensures ∙ sym c.len.ensures in
    subst (AreIndexes c.len.result) (sym c.as_slice-3.ensures) (subst (λ (n : ℕ). AreIndexes n indexes) count (are_indexes pins columns indexes c.in_ok-indexes.ensures.bound))

pub run_rows-requires : goal.run_rows-requires
run_rows-requires c =
    let m = c.args.«module».now in
    let columns : List Column = c.in_ok-vector.vector.columns in
    let rows : List (List CaredBits) = c.in_ok-vector.vector.rows in
    let indexes : List ℕ = c.in_ok-indexes.indexes in
    let pins : c.as_slice.result.now ≡ input_pins m = pins_are m c.in_ok-pins.pins c.as_slice.result.now c.inputs.result.now c.as_slice.ensures c.in_ok-pins.ensures c.inputs.ensures.value in
    let given = bound_rows m c.args.bytes.now columns rows indexes c.as_slice.result.now pins c.in_ok-vector.ensures.found c.in_ok-vector.vector.rows_fit.few c.in_ok-indexes.ensures.bound c.in_ok-indexes.ensures.whole in
    let count : c.len.result ≡ length (input_pins m) = c.len.ensures ∙ ap (λ (some : List PinShape). length some) (sym c.as_slice.ensures ∙ pins) in
    let are = moved c.len.result (length (input_pins m)) c.as_slice-3.result.now indexes c.as_slice-4.result.now rows c.in_ok-inputs.inputs.items count c.as_slice-3.ensures c.as_slice-4.ensures c.in_ok-inputs.ensures in
    let fit = rows_fit (lines_of is_input m) columns indexes (pins_differ m c.inputs.ensures.is_valid) given.bound given.whole rows c.in_ok-inputs.inputs.items c.in_ok-vector.vector.rows_fit.each are in
    subst (All (AreNumbers (lines_of is_input m))) (sym c.as_slice-5.ensures.value) fit

pub print-requires : goal.print-requires
print-requires c = subst (All IsPrinted) (sym c.outputs.ensures) (outputs_printed c.args.«module».now c.inputs.ensures.is_valid)

pub returns-clause-found : goal.returns-clause-found
returns-clause-found c =
    let m = c.args.«module».now in
    let columns : List Column = c.in_ok-vector.vector.columns in
    let rows : List (List CaredBits) = c.in_ok-vector.vector.rows in
    let indexes : List ℕ = c.in_ok-indexes.indexes in
    let outs : List (List ℕ) = c.in_ok-outs.outs.items in
    let pins : c.as_slice.result.now ≡ input_pins m = pins_are m c.in_ok-pins.pins c.as_slice.result.now c.inputs.result.now c.as_slice.ensures c.in_ok-pins.ensures c.inputs.ensures.value in
    let given = bound_rows m c.args.bytes.now columns rows indexes c.as_slice.result.now pins c.in_ok-vector.ensures.found c.in_ok-vector.vector.rows_fit.few c.in_ok-indexes.ensures.bound c.in_ok-indexes.ensures.whole in
    let count : c.len.result ≡ length (input_pins m) = c.len.ensures ∙ ap (λ (some : List PinShape). length some) (sym c.as_slice.ensures ∙ pins) in
    let are = moved c.len.result (length (input_pins m)) c.as_slice-3.result.now indexes c.as_slice-4.result.now rows c.in_ok-inputs.inputs.items count c.as_slice-3.ensures c.as_slice-4.ensures c.in_ok-inputs.ensures in
    let all : All IsDefinedRow c.as_slice-2.result.now = MatchOption-at_none (All IsDefinedRow c.as_slice-2.result.now) (IsFirstUndefined c.as_slice-2.result.now) c.in_default.is c.first_undefined.ensures in
    let ports : lines c.outputs.result.now ≡ lines_of is_output m = ap lines c.outputs.ensures ∙ lines_same (lines_of is_output m) in (
      outs,
      record {
        given = given;
        defined = subst (All IsDefinedRow) c.as_slice-2.ensures all;
        inputs = c.in_ok-inputs.inputs.items;
        are_inputs = are;
        outputs = subst (λ (some : List (List ℕ)). AreRows m (start m) some outs) c.as_slice-5.ensures.value c.in_ok-outs.ensures;
      },
      c.in_ok-print.ensures ∙ (λ i. table_text (ports i) (c.as_slice-6.ensures.value i)),
    )

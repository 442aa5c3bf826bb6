-- What a compiled module computes for a row is what the module means.
use Rattle.std.proofs.Common.{◌≡◌, ℕ, ◌+◌, ◌<◌, ◌≤◌, ◌^◌, List, [], ◌∷◌, ◌++◌, length, map, get_or, drop, slice_index_or, append_assoc, append-nil, sym, ap, subst, ◌∙◌}
use Rattle.std.specs.Prelude.{All}
use Rattle.std.proofs.lemmas.List.{drop_more, drop_all}
use Rattle.lg_vtree.specs.declared.module.Module.{Module}
use Rattle.lg_vrules.specs.Things.{lines_of, names_of, is_input, is_output}
use Rattle.lg_vmachine.specs.Kept.{Kept}
use Rattle.lg_vresolve.specs.Meaning.{Valuation}
use Rattle.lg_vmachine.specs.Machine.{run, stored_by}
use Rattle.lg_vmachine.specs.declared.machine.Machine.{Machine}
use Rattle.lg_vmeaning.specs.declared.ports.PortLine.{PortLine}
use Rattle.lg_vmeaning.specs.Solution.{AreNumbers, IsOf, IsTheSolution, HasOutputs}
use Rattle.lg_vmeaning.specs.Rows.{start, after_edge, IsAfterEdge, AreRows}
use Rattle.lg_vmeaning.specs.Compiled.{IsCompiled, IsStep}
use Rattle.lg_vmeaning.proofs.RunLemmas.{the_value, the_numbers, is_the_solution, term_is, run_is, outputs_are as machine_outputs_are, outputs_small as machine_outputs_small}
use Rattle.lg_vmeaning.proofs.EdgeLemmas.{after_is_of, stored_is}

-- the outputs among some numbers
abbrev pub read_outputs : List ℕ → Machine → List ℕ
read_outputs numbers machine = map (λ (index : ℕ). slice_index_or numbers index 0) machine.outputs

module _ (m : Module) (order : List ℕ) (ins outs : List PortLine) (machine : Machine) (c : IsCompiled m order ins outs machine)
    (kept : Kept) (of : IsOf m kept) (row : List ℕ) (fits : AreNumbers (lines_of is_input m) row)
    (numbers : List ℕ) (computed : numbers ≡ run kept.memories (row ++ kept.numbers) machine.equations) where
  abbrev value : Valuation
  value = the_value m order kept row

  numbers_are : numbers ≡ the_numbers m order kept row
  numbers_are =
      computed
      ∙ (ap (λ (x : Machine). run kept.memories (row ++ kept.numbers) x.equations) c.machine ∙ run_is m order c.valid.rules c.order kept of row fits)

  solution : IsTheSolution m kept row value
  solution = is_the_solution m order c.valid.rules c.order kept of row fits

  outputs_are : read_outputs numbers machine ≡ map value (names_of is_output m)
  outputs_are = (λ i. read_outputs (numbers_are i) (c.machine i)) ∙ machine_outputs_are m order c.valid.rules c.order kept of row fits

  stored_are : stored_by machine numbers kept ≡ after_edge m kept value
  stored_are =
      (λ i. stored_by (c.machine i) (numbers_are i) kept)
      ∙ stored_is m order c.valid.rules c.order kept of row fits value (the_numbers m order kept row) (term_is m order c.valid.rules c.order kept of row fits)

  pub outputs_small : All (λ (index : ℕ). slice_index_or numbers index 0 < 2 ^ 64) machine.outputs
  outputs_small =
      subst (λ (ns : List ℕ). All (λ (index : ℕ). slice_index_or ns index 0 < 2 ^ 64) machine.outputs) (sym numbers_are)
      (subst (λ (x : Machine). All (λ (index : ℕ). slice_index_or (the_numbers m order kept row) index 0 < 2 ^ 64) x.outputs) (sym c.machine)
      (machine_outputs_small m order c.valid.rules c.order kept of row fits))

  pub has_outputs : (outputs : List ℕ) → outputs ≡ read_outputs numbers machine → HasOutputs m kept row outputs
  has_outputs outputs e = record { value = value; solution = solution; gives = sym (e ∙ outputs_are) }

  pub is_after_edge : (after : Kept) → after ≡ stored_by machine numbers kept → IsAfterEdge m kept row after
  is_after_edge after e = record { value = value; solution = solution; stored = e ∙ stored_are }

  pub fits_again : (after : Kept) → after ≡ stored_by machine numbers kept → IsOf m after
  fits_again after e = subst (IsOf m) (sym (e ∙ stored_are)) (after_is_of m order c.valid.rules c.order kept of row fits value solution)

  pub is_step : (outputs : List ℕ) (after : Kept) → outputs ≡ read_outputs numbers machine → after ≡ stored_by machine numbers kept → IsStep m kept row outputs after
  is_step outputs after e f = record { value = value; solution = solution; gives = sym (e ∙ outputs_are); stored = f ∙ stored_are; fits = fits_again after f }

-- a row, and then the rows after it
pub row_first : (m : Module) (kept after : Kept) (row outputs : List ℕ) (rows more : List (List ℕ)) → IsStep m kept row outputs after → AreRows m after rows more → AreRows m kept (row ∷ rows) (outputs ∷ more)
row_first m kept after row outputs rows more s rest = (s.value, s.solution, s.gives, subst (λ (k : Kept). AreRows m k rows more) s.stored rest)

-- outputs of the rows that are left complete these outputs
abbrev pub Completes : Module → List (List ℕ) → ℕ → Kept → List (List ℕ) → Type 0
Completes m rows at kept outs = (more : List (List ℕ)) → AreRows m kept (drop at rows) more → AreRows m (start m) rows (outs ++ more)

-- they still do after one row more
pub one_row_more : (m : Module) (rows : List (List ℕ)) (at : ℕ) (kept after : Kept) (row default outputs : List ℕ) (outs : List (List ℕ)) → at < length rows → row ≡ get_or rows at default → IsStep m kept row outputs after
    → Completes m rows at kept outs → Completes m rows (at + 1) after (outs ++ outputs ∷ [])
one_row_more m rows at kept after row default outputs outs inside is s completes = λ more rest.
    let left : drop at rows ≡ row ∷ drop (at + 1) rows = drop_more rows at default inside ∙ ap (λ (one : List ℕ). one ∷ drop (at + 1) rows) (sym is) in
    let all = completes (outputs ∷ more) (subst (λ (some : List (List ℕ)). AreRows m kept some (outputs ∷ more)) (sym left) (row_first m kept after row outputs (drop (at + 1) rows) more s rest)) in
    subst (λ (some : List (List ℕ)). AreRows m (start m) rows some) (sym (append_assoc outs (outputs ∷ []) more)) all

-- where no row is left they are complete
pub no_row_left : (m : Module) (rows : List (List ℕ)) (at : ℕ) (kept : Kept) (outs : List (List ℕ)) → length rows ≤ at → Completes m rows at kept outs → AreRows m (start m) rows outs
no_row_left m rows at kept outs end completes =
    subst (λ (some : List (List ℕ)). AreRows m (start m) rows some) (append-nil outs) (completes [] (subst (λ (some : List (List ℕ)). AreRows m kept some []) (sym (drop_all at rows end)) tt))

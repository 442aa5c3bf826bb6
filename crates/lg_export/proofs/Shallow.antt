-- The expressions of the module of a netlist are within the reader's limit.
use Rattle.std.proofs.Common.{◌≡◌, ℕ, suc, ◌+◌, ◌≤◌, true, false, cond, not, List, [], ◌∷◌, length, map, filter, refl, sym, ap, subst, ◌∙◌, arith, inl, inr}
use Rattle.std.specs.Prelude.{◌==◌, Bool}
use Rattle.std.specs.List.{enumerate_from}
use Rattle.lg_netlist.specs.declared.netlist.Netlist.{Netlist}
use Rattle.lg_netlist.specs.Acceptance.{IsAccepted}
use Rattle.lg_netlist.specs.Static.{has_no_clock}
use Rattle.lg_vtree.specs.declared.expr.Expr.{Expr}
use Rattle.lg_vtree.specs.declared.module.Assign.{Assign}
use Rattle.lg_vtree.specs.Depth.{greatest, depth, module_depth}
use Rattle.lg_export.specs.Layout.{attached, equation, module_assigns, module_of}
use Rattle.lg_export.proofs.Equations.{wholes, equation_depth}
use Rattle.lg_export.proofs.Given.{Given, OfInput, OfPart, OfPin, given}
use Rattle.lg_export.proofs.Items.{IsItem}
use Rattle.lg_export.proofs.Named.{x_names, few_inputs}
use Rattle.lg_export.proofs.Pins.{part_fits}
use Rattle.lg_export.proofs.Runs.{bits_depth}
use Rattle.lg_export.proofs.Valid.{first_of_part, wholes-are}

few_attached : (k : ℕ) (ports : List (List ℕ)) → length (filter (λ (i : ℕ × List ℕ). not (length i.1 == 0)) (enumerate_from k ports)) ≤ length ports
few_attached k [] = omega arith
few_attached k (bits ∷ ports) = by (not (length bits == 0)) (few_attached (k + 1) ports)
  where
    by : (b : Bool) → length (filter (λ (i : ℕ × List ℕ). not (length i.1 == 0)) (enumerate_from (k + 1) ports)) ≤ length ports
        → length (cond b ((k, bits) ∷ filter (λ (i : ℕ × List ℕ). not (length i.1 == 0)) (enumerate_from (k + 1) ports)) (filter (λ (i : ℕ × List ℕ). not (length i.1 == 0)) (enumerate_from (k + 1) ports))) ≤ suc (length ports)
    by true rest = omega (arith, rest)
    by false rest = omega (arith, rest)

count_names : (k : ℕ) (is : List (ℕ × List ℕ)) → length (x_names k is) ≡ length is
count_names k [] = refl
count_names k (i ∷ is) = ap suc (count_names k is)

module _ (n : Netlist) (clockless : has_no_clock n ≡ true) (accepted : IsAccepted n) where
  each_shallow : (a : Assign) → Given n a → depth a.value ≤ 100
  each_shallow a (OfInput k p i at here) = omega (arith, bits_depth n i.1)
  each_shallow a (OfPin p here) = omega (arith, bits_depth n p.bits)
  each_shallow a (OfPart k p at) =
      let first = first_of_part n clockless accepted k p at in
      let written = wholes-are n clockless accepted k (attached p) ∙ ap wholes first.2 in
      let few = few_inputs p.cell (length p.inputs) (part_fits n k p at).takes in
      subst (λ (es : List Expr). depth (equation p.cell es) ≤ 100) (sym written)
      (omega (arith, equation_depth p.cell first.0 first.1, few, few_attached 0 p.inputs, count_names k (attached p), ap length first.2))

  all_shallow : (assigns : List Assign) → ((a : Assign) → IsItem assigns a → depth a.value ≤ 100) → greatest (map (λ (a : Assign). depth a.value) assigns) ≤ 100
  all_shallow [] each = omega arith
  all_shallow (a ∷ assigns) each = omega (arith, each a (inl refl), all_shallow assigns (λ b here. each b (inr here)))

  pub shallow : module_depth (module_of n) ≤ 100
  shallow = omega (arith, all_shallow (module_assigns n) (λ a here. each_shallow a (given n a here)))

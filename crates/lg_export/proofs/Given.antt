-- The equations of the module: one for each attached input of a part, one for each part, one for each output pin.
use Rattle.std.proofs.Common.{◌≡◌, ℕ, suc, ◌+◌, List, [], ◌∷◌, ◌++◌, map, Some, refl, sym, ap, subst, ◌∙◌, arith, inl, inr}
use Rattle.std.specs.Prelude.{slice_get}
use Rattle.std.specs.List.{flat_map, enumerate_from}
use Rattle.std.proofs.lemmas.List.{map-append}
use Rattle.lg_netlist.specs.declared.netlist.PartUse.{PartUse}
use Rattle.lg_netlist.specs.declared.netlist.PinUse.{PinUse}
use Rattle.lg_netlist.specs.declared.netlist.Netlist.{Netlist}
use Rattle.lg_netlist.specs.Static.{output_pins}
use Rattle.lg_netlist.specs.Valid.{IsFittingPart}
use Rattle.lg_vtree.specs.declared.expr.Expr.TheVariants as expr
use Rattle.lg_vtree.specs.declared.module.Assign.{Assign}
use Rattle.lg_export.specs.Layout.{numbered, output_name, input_wire, output_wire, attached, bits_value, equation, part_assigns, module_assigns}
use Rattle.lg_export.proofs.Items.{IsItem, item_either, item_of_map, item_of_flat, item_of_numbered}
use Rattle.lg_export.proofs.Named.{x_names, w_names, part_names, wire_names, one_output}
use Rattle.lg_export.proofs.Pins.{part_fits}

-- the equation of an attached input, of a part's output, of an output pin
abbrev pub x_assign : Netlist → ℕ → ℕ × List ℕ → Assign
x_assign n k i = record { name = input_wire k i.0; value = bits_value n i.1 }

abbrev pub w_assign : ℕ → PartUse → Assign
w_assign k p = record { name = output_wire k 0; value = equation p.cell (map (λ (i : ℕ × List ℕ). expr.Whole (input_wire k i.0)) (attached p)) }

abbrev pub o_assign : Netlist → PinUse → Assign
o_assign n p = record { name = output_name p; value = bits_value n p.bits }

pub data Given (n : Netlist) : Assign → Type 0 where
  OfInput : (k : ℕ) (p : PartUse) (i : ℕ × List ℕ) → slice_get n.parts k ≡ Some p → IsItem (attached p) i → Given n (x_assign n k i)
  OfPart : (k : ℕ) (p : PartUse) → slice_get n.parts k ≡ Some p → Given n (w_assign k p)
  OfPin : (p : PinUse) → IsItem (output_pins n) p → Given n (o_assign n p)

pub given : (n : Netlist) (a : Assign) → IsItem (module_assigns n) a → Given n a
given n a here = elim (item_either parts outs a here) [
  | inl w ↦ of_part (item_of_flat (part_assigns n) (numbered n.parts) a w)
  | inr o ↦ let r = item_of_map (o_assign n) (output_pins n) a o in subst (Given n) (sym r.2) (OfPin r.0 r.1)
]
  where
    parts : List Assign
    parts = flat_map (part_assigns n) (numbered n.parts)

    outs : List Assign
    outs = map (o_assign n) (output_pins n)

    of_part : (e : ℕ × PartUse) × IsItem (numbered n.parts) e × IsItem (part_assigns n e) a → Given n a
    of_part (e, listed, here) =
        let index = item_of_numbered 0 n.parts e listed in
        let at : slice_get n.parts e.0 ≡ Some e.1 = ap (slice_get n.parts) (omega (arith, index.1)) ∙ index.2 in
        elim (item_either (map (x_assign n e.0) (attached e.1)) (w_assign e.0 e.1 ∷ []) a here) [
          | inl x ↦ let r = item_of_map (x_assign n e.0) (attached e.1) a x in subst (Given n) (sym r.2) (OfInput e.0 e.1 r.0 at r.1)
          | inr w ↦ last e at w
        ]
      where
        last : (e : ℕ × PartUse) → slice_get n.parts e.0 ≡ Some e.1 → IsItem (w_assign e.0 e.1 ∷ []) a → Given n a
        last e at (inl f) = subst (Given n) (sym f) (OfPart e.0 e.1 at)
        last e at (inr h) = absurd h

-- ---- the names on the left

abbrev assigned : List Assign → List (List ℕ)
assigned assigns = map (λ (a : Assign). a.name) assigns

two_lists : (a a' b b' : List (List ℕ)) → a ≡ a' → b ≡ b' → a ++ b ≡ a' ++ b'
two_lists a a' b b' e f = cc

x_assigned : (n : Netlist) (k : ℕ) (is : List (ℕ × List ℕ)) → assigned (map (x_assign n k) is) ≡ x_names k is
x_assigned n k [] = refl
x_assigned n k (i ∷ is) = ap (λ (rest : List (List ℕ)). input_wire k i.0 ∷ rest) (x_assigned n k is)

part_assigned : (n : Netlist) (nets k : ℕ) (p : PartUse) → IsFittingPart nets p → assigned (part_assigns n (k, p)) ≡ part_names (k, p)
part_assigned n nets k p fits =
    map-append (λ (a : Assign). a.name) (map (x_assign n k) (attached p)) (w_assign k p ∷ [])
    ∙ two_lists (assigned (map (x_assign n k) (attached p))) (x_names k (attached p)) (output_wire k 0 ∷ []) (w_names k (numbered p.outputs)) (x_assigned n k (attached p)) (sym (one_output p.outputs fits.gives k))

parts_assigned : (n : Netlist) (nets k : ℕ) (parts : List PartUse) → ((i : ℕ) (p : PartUse) → slice_get parts i ≡ Some p → IsFittingPart nets p)
    → assigned (flat_map (part_assigns n) (enumerate_from k parts)) ≡ wire_names k parts
parts_assigned n nets k [] fits = refl
parts_assigned n nets k (p ∷ parts) fits =
    let here = part_assigns n (k, p) in
    let rest = flat_map (part_assigns n) (enumerate_from (k + 1) parts) in
    map-append (λ (a : Assign). a.name) here rest
    ∙ two_lists (assigned here) (part_names (k, p)) (assigned rest) (wire_names (k + 1) parts) (part_assigned n nets k p (fits 0 p refl)) (parts_assigned n nets (k + 1) parts (λ i. fits (suc i)))

outs_assigned : (n : Netlist) (pins : List PinUse) → assigned (map (o_assign n) pins) ≡ map output_name pins
outs_assigned n [] = refl
outs_assigned n (p ∷ pins) = ap (λ (rest : List (List ℕ)). output_name p ∷ rest) (outs_assigned n pins)

-- each wire and each output has one equation
pub assigned-are : (n : Netlist) → assigned (module_assigns n) ≡ wire_names 0 n.parts ++ map output_name (output_pins n)
assigned-are n =
    let parts = flat_map (part_assigns n) (numbered n.parts) in
    let outs = map (o_assign n) (output_pins n) in
    map-append (λ (a : Assign). a.name) parts outs
    ∙ two_lists (assigned parts) (wire_names 0 n.parts) (assigned outs) (map output_name (output_pins n)) (parts_assigned n n.nets 0 n.parts (part_fits n)) (outs_assigned n (output_pins n))

-- The names of the module's ports and wires differ, so what is said of each is found under its name.
use Rattle.std.proofs.Common.{◌≡◌, ℕ, zero, suc, ◌+◌, ◌^◌, ◌<◌, ◌≤◌, Bool, true, false, cond, not, List, [], ◌∷◌, ◌++◌, length, map, filter, Some, refl, sym, ap, subst, ◌∙◌, arith, inl, inr, ◌⊎◌}
use Rattle.std.specs.Prelude.{◌==◌, slice_get}
use Rattle.std.specs.List.{flat_map, enumerate_from}
use Rattle.std.specs.Map.{lookup}
use Rattle.std.specs.Str.{bytes_eq}
use Rattle.std.proofs.lemmas.Bool.{false≢true, and_from, ne_eqb}
use Rattle.std.proofs.lemmas.List.{map-append}
use Rattle.std.proofs.lemmas.Slice.Eq.{bytes_eq-Decides}
use Rattle.lg_netlist.specs.declared.netlist.Cell.{Cell}
use Rattle.lg_netlist.specs.declared.netlist.Cell.TheVariants.{Not, And, Or}
use Rattle.lg_netlist.specs.declared.netlist.PartUse.{PartUse}
use Rattle.lg_netlist.specs.declared.netlist.PinUse.{PinUse}
use Rattle.lg_netlist.specs.declared.netlist.Netlist.{Netlist}
use Rattle.lg_netlist.specs.Static.{input_pins, output_pins, has_no_clock}
use Rattle.lg_netlist.specs.Valid.{TakesInputs, IsFittingPart}
use Rattle.lg_vrules.specs.Rules.{is_among, all_differ}
use Rattle.lg_vmeaning.specs.InOrder.{IsIn, AllDiffer}
use Rattle.lg_vmeaning.proofs.InOrderLemmas.{in_either}
use Rattle.lg_vmeaning.proofs.NameLemmas.{in_among}
use Rattle.lg_vmeaning.proofs.ValidLemmas.{differ_both}
use Rattle.lg_export.specs.Layout.{numbered, input_name, output_name, input_wire, output_wire, attached}
use Rattle.lg_export.proofs.Items.{IsItem, item_left, item_right, map_item, flat_item, item_either, item_of_map, item_of_flat, numbered_at, filter_item, item_of_filter, item_of_numbered}
use Rattle.lg_export.proofs.Pins.{part_fits, input_names_differ, output_names_differ}
use Rattle.lg_export.proofs.WireNames.{initial, initial-input_wire, initial-output_wire, initial-input_name, initial-output_name, apart, input_wire_same, output_wire_same, input_name_same, output_name_same}

-- ---- lists of names

pub in_item : (names : List (List ℕ)) (name : List ℕ) → IsIn names name → IsItem names name
in_item [] name h = absurd h
in_item (other ∷ names) name (inl e) = inl e
in_item (other ∷ names) name (inr h) = inr (in_item names name h)

pub item_in : (names : List (List ℕ)) (name : List ℕ) → IsItem names name → IsIn names name
item_in [] name h = absurd h
item_in (other ∷ names) name (inl e) = inl e
item_in (other ∷ names) name (inr h) = inr (item_in names name h)

not_among : (names : List (List ℕ)) (name : List ℕ) → (IsIn names name → ⊥) → is_among name names ≡ false
not_among names name never = by (is_among name names) refl
  where
    by : (b : Bool) → is_among name names ≡ b → b ≡ false
    by true e = absurd (never (in_among names name e))
    by false e = refl

pub all_differ-from : (names : List (List ℕ)) → AllDiffer names → all_differ names ≡ true
all_differ-from [] differ = refl
all_differ-from (name ∷ names) differ = and_from (not (is_among name names)) (all_differ names) (ap not (not_among names name differ.0)) (all_differ-from names differ.1)

-- what stands under a name that stands once
pub found_item : {B : Type 0} (all : List (List ℕ × B)) (t : List ℕ × B) → AllDiffer (map (λ (u : List ℕ × B). u.0) all) → IsItem all t → lookup (λ other. bytes_eq other t.0) all ≡ Some t.1
found_item [] t differ here = absurd here
found_item {B = B} (u ∷ all) t differ (inl e) =
    let same : bytes_eq u.0 t.0 ≡ true = (bytes_eq-Decides u.0 t.0).1 (ap (λ (x : List ℕ × B). x.0) (sym e)) in
    rw same (ap (λ (x : List ℕ × B). Some x.1) (sym e))
found_item {B = B} (u ∷ all) t differ (inr here) = by (bytes_eq u.0 t.0) refl (found_item all t differ.1 here)
  where
    by : (b : Bool) → bytes_eq u.0 t.0 ≡ b → lookup (λ other. bytes_eq other t.0) all ≡ Some t.1 → lookup (λ other. bytes_eq other t.0) (u ∷ all) ≡ Some t.1
    by true e rest =
        absurd (differ.0 (subst (IsIn (map (λ (x : List ℕ × B). x.0) all)) (sym ((bytes_eq-Decides u.0 t.0).0 e)) (item_in (map (λ (x : List ℕ × B). x.0) all) t.0 (map_item (λ (x : List ℕ × B). x.0) all t here))))
    by false e rest = rw e rest

-- ---- the names

abbrev pub x_names : ℕ → List (ℕ × List ℕ) → List (List ℕ)
x_names k inputs = map (λ (i : ℕ × List ℕ). input_wire k i.0) inputs

abbrev pub w_names : ℕ → List (ℕ × List ℕ) → List (List ℕ)
w_names k outputs = map (λ (o : ℕ × List ℕ). output_wire k o.0) outputs

abbrev pub part_names : ℕ × PartUse → List (List ℕ)
part_names p = x_names p.0 (attached p.1) ++ w_names p.0 (numbered p.1.outputs)

abbrev pub wire_names : ℕ → List PartUse → List (List ℕ)
wire_names k parts = flat_map part_names (enumerate_from k parts)

abbrev pub all_names : Netlist → List (List ℕ)
all_names n = map input_name (input_pins n) ++ (map output_name (output_pins n) ++ wire_names 0 n.parts)

-- the name is that of a wire of the part
abbrev pub IsWireOf : ℕ → List ℕ → Type 0
IsWireOf k name = ((i : ℕ) × (i < 64) × (name ≡ input_wire k i)) ⊎ (name ≡ output_wire k 0)

pub few_inputs : (c : Cell) (count : ℕ) → TakesInputs c count → count ≤ 64
few_inputs Not count h = omega (arith, h.1)
few_inputs And count h = h.1
few_inputs Or count h = h.1

pub one_output : (ports : List (List ℕ)) → length ports ≡ 1 → (k : ℕ) → w_names k (numbered ports) ≡ output_wire k 0 ∷ []
one_output [] e k = absurd (omega (arith, e))
one_output (bits ∷ []) e k = refl
one_output (bits ∷ other ∷ more) e k = absurd (omega (arith, e))

x_is : (k j : ℕ) (ports : List (List ℕ)) (name : List ℕ) → IsIn (x_names k (filter (λ (i : ℕ × List ℕ). not (length i.1 == 0)) (enumerate_from j ports))) name → (i : ℕ) × (j ≤ i) × (i < j + length ports) × (name ≡ input_wire k i)
x_is k j [] name here = absurd here
x_is k j (bits ∷ ports) name here = by (not (length bits == 0)) here (λ there. x_is k (j + 1) ports name there)
  where
    by : (b : Bool) → IsIn (x_names k (cond b ((j, bits) ∷ filter (λ (i : ℕ × List ℕ). not (length i.1 == 0)) (enumerate_from (j + 1) ports)) (filter (λ (i : ℕ × List ℕ). not (length i.1 == 0)) (enumerate_from (j + 1) ports)))) name
        → (IsIn (x_names k (filter (λ (i : ℕ × List ℕ). not (length i.1 == 0)) (enumerate_from (j + 1) ports))) name → (i : ℕ) × (j + 1 ≤ i) × (i < (j + 1) + length ports) × (name ≡ input_wire k i))
        → (i : ℕ) × (j ≤ i) × (i < j + length (bits ∷ ports)) × (name ≡ input_wire k i)
    by true (inl e) rest = (j, omega arith, omega arith, e)
    by true (inr there) rest = let r = rest there in (r.0, omega (arith, r.1), omega (arith, r.2), r.3)
    by false there rest = let r = rest there in (r.0, omega (arith, r.1), omega (arith, r.2), r.3)

x_differ : (k j : ℕ) (ports : List (List ℕ)) → k < 2 ^ 32 → j + length ports ≤ 64 → AllDiffer (x_names k (filter (λ (i : ℕ × List ℕ). not (length i.1 == 0)) (enumerate_from j ports)))
x_differ k j [] few bound = tt
x_differ k j (bits ∷ ports) few bound = by (not (length bits == 0)) (x_differ k (j + 1) ports few (omega (arith, bound)))
  where
    new : IsIn (x_names k (filter (λ (i : ℕ × List ℕ). not (length i.1 == 0)) (enumerate_from (j + 1) ports))) (input_wire k j) → ⊥
    new here =
        let r = x_is k (j + 1) ports (input_wire k j) here in
        let same = (input_wire_same k j k r.0 (omega (arith, few)) (omega (arith, bound)) (omega (arith, few)) (omega (arith, bound, r.2)) r.3).1 in
        omega (arith, same, r.1)

    by : (b : Bool) → AllDiffer (x_names k (filter (λ (i : ℕ × List ℕ). not (length i.1 == 0)) (enumerate_from (j + 1) ports)))
        → AllDiffer (x_names k (cond b ((j, bits) ∷ filter (λ (i : ℕ × List ℕ). not (length i.1 == 0)) (enumerate_from (j + 1) ports)) (filter (λ (i : ℕ × List ℕ). not (length i.1 == 0)) (enumerate_from (j + 1) ports))))
    by true rest = (new, rest)
    by false rest = rest

-- the wires of one part
part_is : (nets k : ℕ) (p : PartUse) → IsFittingPart nets p → (name : List ℕ) → IsIn (part_names (k, p)) name → IsWireOf k name
part_is nets k p fits name here = elim (in_either (x_names k (attached p)) (w_names k (numbered p.outputs)) name here) [
  | inl x ↦ let r = x_is k 0 p.inputs name x in inl (r.0, omega (arith, r.2, few_inputs p.cell (length p.inputs) fits.takes), r.3)
  | inr w ↦ inr (first (subst (λ (names : List (List ℕ)). IsIn names name) (one_output p.outputs fits.gives k) w))
]
  where
    first : IsIn (output_wire k 0 ∷ []) name → name ≡ output_wire k 0
    first (inl e) = e
    first (inr h) = absurd h

not_x_and_w : (k i q : ℕ) → input_wire k i ≡ output_wire q 0 → ⊥
not_x_and_w k i q e = apart (input_wire k i) (output_wire q 0) 120 119 (initial-input_wire k i) (initial-output_wire q 0) refl e

part_differ : (nets k : ℕ) (p : PartUse) → IsFittingPart nets p → k < 2 ^ 32 → AllDiffer (part_names (k, p))
part_differ nets k p fits few =
    differ_both (x_names k (attached p)) (w_names k (numbered p.outputs)) (x_differ k 0 p.inputs few (omega (arith, few_inputs p.cell (length p.inputs) fits.takes)))
    (subst AllDiffer (sym (one_output p.outputs fits.gives k)) (λ h. h, tt))
    (λ name x w.
    let r = x_is k 0 p.inputs name x in
    not_x_and_w k r.0 k (sym r.3 ∙ first name (subst (λ (names : List (List ℕ)). IsIn names name) (one_output p.outputs fits.gives k) w)))
  where
    first : (name : List ℕ) → IsIn (output_wire k 0 ∷ []) name → name ≡ output_wire k 0
    first name (inl e) = e
    first name (inr h) = absurd h

-- wires of two parts are apart
parts_apart : (k q : ℕ) (name : List ℕ) → k < 2 ^ 32 → q < 2 ^ 32 → IsWireOf k name → IsWireOf q name → k ≡ q
parts_apart k q name hk hq (inl a) (inl b) = (input_wire_same k a.0 q b.0 (omega (arith, hk)) (omega (arith, a.1)) (omega (arith, hq)) (omega (arith, b.1)) (sym a.2 ∙ b.2)).0
parts_apart k q name hk hq (inl a) (inr b) = absurd (not_x_and_w k a.0 q (sym a.2 ∙ b))
parts_apart k q name hk hq (inr a) (inl b) = absurd (not_x_and_w q b.0 k (sym b.2 ∙ a))
parts_apart k q name hk hq (inr a) (inr b) = output_wire_same k q (omega (arith, hk)) (omega (arith, hq)) (sym a ∙ b)

abbrev Fit : ℕ → List PartUse → Type 0
Fit nets parts = (i : ℕ) (p : PartUse) → slice_get parts i ≡ Some p → IsFittingPart nets p

wire_is : (nets k : ℕ) (parts : List PartUse) → Fit nets parts → (name : List ℕ) → IsIn (wire_names k parts) name → (q : ℕ) × (k ≤ q) × (q < k + length parts) × IsWireOf q name
wire_is nets k [] fits name here = absurd here
wire_is nets k (p ∷ parts) fits name here = elim (in_either (part_names (k, p)) (wire_names (k + 1) parts) name here) [
  | inl h ↦ (k, omega arith, omega arith, part_is nets k p (fits 0 p refl) name h)
  | inr h ↦ let r = wire_is nets (k + 1) parts (λ i. fits (suc i)) name h in (r.0, omega (arith, r.1), omega (arith, r.2), r.3)
]

wires_differ : (nets k : ℕ) (parts : List PartUse) → Fit nets parts → k + length parts < 2 ^ 32 → AllDiffer (wire_names k parts)
wires_differ nets k [] fits few = tt
wires_differ nets k (p ∷ parts) fits few =
    differ_both (part_names (k, p)) (wire_names (k + 1) parts) (part_differ nets k p (fits 0 p refl) (omega (arith, few))) (wires_differ nets (k + 1) parts (λ i. fits (suc i)) (omega (arith, few)))
    (λ name here there.
    let r = wire_is nets (k + 1) parts (λ i. fits (suc i)) name there in
    let same = parts_apart k r.0 name (omega (arith, few)) (omega (arith, few, r.2)) (part_is nets k p (fits 0 p refl) name here) r.3 in
    omega (arith, same, r.1))

fit : (n : Netlist) → Fit n.nets n.parts
fit n i p at = part_fits n i p at

-- first characters
input_first : (pins : List PinUse) (name : List ℕ) → IsIn (map input_name pins) name → initial name ≡ 105
input_first [] name here = absurd here
input_first (p ∷ pins) name (inl e) = ap initial e ∙ initial-input_name p
input_first (p ∷ pins) name (inr here) = input_first pins name here

output_first : (pins : List PinUse) (name : List ℕ) → IsIn (map output_name pins) name → initial name ≡ 111
output_first [] name here = absurd here
output_first (p ∷ pins) name (inl e) = ap initial e ∙ initial-output_name p
output_first (p ∷ pins) name (inr here) = output_first pins name here

wire_first : (k : ℕ) (name : List ℕ) → IsWireOf k name → (initial name ≡ 120) ⊎ (initial name ≡ 119)
wire_first k name (inl x) = inl (ap initial x.2 ∙ initial-input_wire k x.0)
wire_first k name (inr w) = inr (ap initial w ∙ initial-output_wire k 0)

-- a wire is no port
pub no_port : (name : List ℕ) (c : ℕ) (k : ℕ) → initial name ≡ c → (c == 120) ≡ false → (c == 119) ≡ false → IsWireOf k name → ⊥
no_port name c k first x w is = elim (wire_first k name is) [
  | inl e ↦ apart name name c 120 first e x refl
  | inr e ↦ apart name name c 119 first e w refl
]

pub wires_apart : (n : Netlist) → AllDiffer (wire_names 0 n.parts)
wires_apart n = wires_differ n.nets 0 n.parts (fit n) (omega (arith, n.valid.few_parts))

pub output_is_no_wire : (n : Netlist) (name : List ℕ) → IsIn (map output_name (output_pins n)) name → IsIn (wire_names 0 n.parts) name → ⊥
output_is_no_wire n name out wire = let r = wire_is n.nets 0 n.parts (fit n) name wire in no_port name 111 r.0 (output_first (output_pins n) name out) refl refl r.3

-- all names differ
pub names_differ : (n : Netlist) → has_no_clock n ≡ true → AllDiffer (all_names n)
names_differ n clockless =
    differ_both (map input_name (input_pins n)) (map output_name (output_pins n) ++ wire_names 0 n.parts) (input_names_differ n clockless input_name input_name_same)
    (differ_both (map output_name (output_pins n)) (wire_names 0 n.parts) (output_names_differ n clockless output_name output_name_same) (wires_apart n)
    (output_is_no_wire n))
    (λ name input other. elim (in_either (map output_name (output_pins n)) (wire_names 0 n.parts) name other) [
      | inl out ↦ apart name name 105 111 (input_first (input_pins n) name input) (output_first (output_pins n) name out) refl refl
      | inr wire ↦ let r = wire_is n.nets 0 n.parts (fit n) name wire in no_port name 105 r.0 (input_first (input_pins n) name input) refl refl r.3
    ])

-- ---- something said of each name

-- what is said of the wires at a part's inputs and outputs
abbrev pub part_said : {B : Type 0} → (ℕ → PartUse → ℕ × List ℕ → B) → (ℕ → PartUse → ℕ × List ℕ → B) → ℕ × PartUse → List (List ℕ × B)
part_said fx fw p =
    map (λ (i : ℕ × List ℕ). (input_wire p.0 i.0, fx p.0 p.1 i)) (attached p.1) ++ map (λ (o : ℕ × List ℕ). (output_wire p.0 o.0, fw p.0 p.1 o)) (numbered p.1.outputs)

-- what is said of input pins, output pins and wires, each with its name
abbrev pub all_said : {B : Type 0} → (PinUse → B) → (PinUse → B) → (ℕ → PartUse → ℕ × List ℕ → B) → (ℕ → PartUse → ℕ × List ℕ → B) → Netlist → List (List ℕ × B)
all_said fin fout fx fw n =
    map (λ (p : PinUse). (input_name p, fin p)) (input_pins n) ++ (map (λ (p : PinUse). (output_name p, fout p)) (output_pins n) ++ flat_map (part_said fx fw) (numbered n.parts))

abbrev firsts : {B : Type 0} → List (List ℕ × B) → List (List ℕ)
firsts {B = B} all = map (λ (t : List ℕ × B). t.0) all

two_lists : (a a' b b' : List (List ℕ)) → a ≡ a' → b ≡ b' → a ++ b ≡ a' ++ b'
two_lists a a' b b' e f = cc

firsts-map : {A B : Type 0} (name : A → List ℕ) (f : A → B) (xs : List A) → firsts (map (λ (x : A). (name x, f x)) xs) ≡ map name xs
firsts-map name f [] = refl
firsts-map name f (x ∷ xs) = ap (λ (names : List (List ℕ)). name x ∷ names) (firsts-map name f xs)

firsts-append : {B : Type 0} (xs ys : List (List ℕ × B)) → firsts (xs ++ ys) ≡ firsts xs ++ firsts ys
firsts-append {B = B} xs ys = map-append (λ (t : List ℕ × B). t.0) xs ys

module _ {B : Type 0} (fin fout : PinUse → B) (fx fw : ℕ → PartUse → ℕ × List ℕ → B) where
  part_firsts : (k : ℕ) (p : PartUse) → firsts (part_said fx fw (k, p)) ≡ part_names (k, p)
  part_firsts k p =
      let xs = map (λ (i : ℕ × List ℕ). (input_wire k i.0, fx k p i)) (attached p) in
      let ws = map (λ (o : ℕ × List ℕ). (output_wire k o.0, fw k p o)) (numbered p.outputs) in
      firsts-append xs ws
      ∙ two_lists (firsts xs) (x_names k (attached p)) (firsts ws) (w_names k (numbered p.outputs)) (firsts-map (λ (i : ℕ × List ℕ). input_wire k i.0) (λ (i : ℕ × List ℕ). fx k p i) (attached p))
      (firsts-map (λ (o : ℕ × List ℕ). output_wire k o.0) (λ (o : ℕ × List ℕ). fw k p o) (numbered p.outputs))

  wire_firsts : (k : ℕ) (parts : List PartUse) → firsts (flat_map (part_said fx fw) (enumerate_from k parts)) ≡ wire_names k parts
  wire_firsts k [] = refl
  wire_firsts k (p ∷ parts) =
      let here = part_said fx fw (k, p) in
      let rest = flat_map (part_said fx fw) (enumerate_from (k + 1) parts) in
      firsts-append here rest ∙ two_lists (firsts here) (part_names (k, p)) (firsts rest) (wire_names (k + 1) parts) (part_firsts k p) (wire_firsts (k + 1) parts)

  pub said_names : (n : Netlist) → firsts (all_said fin fout fx fw n) ≡ all_names n
  said_names n =
      let ins = map (λ (p : PinUse). (input_name p, fin p)) (input_pins n) in
      let outs = map (λ (p : PinUse). (output_name p, fout p)) (output_pins n) in
      let wires = flat_map (part_said fx fw) (numbered n.parts) in
      firsts-append ins (outs ++ wires)
      ∙ two_lists (firsts ins) (map input_name (input_pins n)) (firsts (outs ++ wires)) (map output_name (output_pins n) ++ wire_names 0 n.parts) (firsts-map input_name fin (input_pins n))
      (firsts-append outs wires ∙ two_lists (firsts outs) (map output_name (output_pins n)) (firsts wires) (wire_names 0 n.parts) (firsts-map output_name fout (output_pins n)) (wire_firsts 0 n.parts))

  pub said_once : (n : Netlist) → has_no_clock n ≡ true → AllDiffer (firsts (all_said fin fout fx fw n))
  said_once n clockless = subst AllDiffer (sym (said_names n)) (names_differ n clockless)

  pub input_said : (n : Netlist) (p : PinUse) → IsItem (input_pins n) p → IsItem (all_said fin fout fx fw n) (input_name p, fin p)
  input_said n p here =
      item_left (map (λ (p : PinUse). (input_name p, fin p)) (input_pins n)) (map (λ (p : PinUse). (output_name p, fout p)) (output_pins n) ++ flat_map (part_said fx fw) (numbered n.parts)) (input_name p, fin p)
      (map_item (λ (p : PinUse). (input_name p, fin p)) (input_pins n) p here)

  pub output_said : (n : Netlist) (p : PinUse) → IsItem (output_pins n) p → IsItem (all_said fin fout fx fw n) (output_name p, fout p)
  output_said n p here =
      item_right (map (λ (p : PinUse). (input_name p, fin p)) (input_pins n)) (map (λ (p : PinUse). (output_name p, fout p)) (output_pins n) ++ flat_map (part_said fx fw) (numbered n.parts)) (output_name p, fout p)
      (item_left (map (λ (p : PinUse). (output_name p, fout p)) (output_pins n)) (flat_map (part_said fx fw) (numbered n.parts)) (output_name p, fout p)
      (map_item (λ (p : PinUse). (output_name p, fout p)) (output_pins n) p here))

  wire_said : (n : Netlist) (k : ℕ) (p : PartUse) (t : List ℕ × B) → slice_get n.parts k ≡ Some p → IsItem (part_said fx fw (k, p)) t → IsItem (all_said fin fout fx fw n) t
  wire_said n k p t at here =
      item_right (map (λ (p : PinUse). (input_name p, fin p)) (input_pins n)) (map (λ (p : PinUse). (output_name p, fout p)) (output_pins n) ++ flat_map (part_said fx fw) (numbered n.parts)) t
      (item_right (map (λ (p : PinUse). (output_name p, fout p)) (output_pins n)) (flat_map (part_said fx fw) (numbered n.parts)) t
      (flat_item (part_said fx fw) (numbered n.parts) (k, p) t (numbered_at n.parts k p at) here))

  pub x_said : (n : Netlist) (k : ℕ) (p : PartUse) (i : ℕ × List ℕ) → slice_get n.parts k ≡ Some p → IsItem (attached p) i → IsItem (all_said fin fout fx fw n) (input_wire k i.0, fx k p i)
  x_said n k p i at here =
      wire_said n k p (input_wire k i.0, fx k p i) at
      (item_left (map (λ (i : ℕ × List ℕ). (input_wire k i.0, fx k p i)) (attached p)) (map (λ (o : ℕ × List ℕ). (output_wire k o.0, fw k p o)) (numbered p.outputs)) (input_wire k i.0, fx k p i)
      (map_item (λ (i : ℕ × List ℕ). (input_wire k i.0, fx k p i)) (attached p) i here))

  pub w_said : (n : Netlist) (k : ℕ) (p : PartUse) (o : ℕ × List ℕ) → slice_get n.parts k ≡ Some p → IsItem (numbered p.outputs) o → IsItem (all_said fin fout fx fw n) (output_wire k o.0, fw k p o)
  w_said n k p o at here =
      wire_said n k p (output_wire k o.0, fw k p o) at
      (item_right (map (λ (i : ℕ × List ℕ). (input_wire k i.0, fx k p i)) (attached p)) (map (λ (o : ℕ × List ℕ). (output_wire k o.0, fw k p o)) (numbered p.outputs)) (output_wire k o.0, fw k p o)
      (map_item (λ (o : ℕ × List ℕ). (output_wire k o.0, fw k p o)) (numbered p.outputs) o here))

  -- each thing said is said of an input pin, an output pin, or a wire of a part
  pub data Origin (n : Netlist) : List ℕ × B → Type 0 where
    FromInput : (p : PinUse) → IsItem (input_pins n) p → Origin n (input_name p, fin p)
    FromOutput : (p : PinUse) → IsItem (output_pins n) p → Origin n (output_name p, fout p)
    FromX : (k : ℕ) (p : PartUse) (i : ℕ × List ℕ) → slice_get n.parts k ≡ Some p → IsItem (attached p) i → Origin n (input_wire k i.0, fx k p i)
    FromW : (k : ℕ) (p : PartUse) (o : ℕ × List ℕ) → slice_get n.parts k ≡ Some p → IsItem (numbered p.outputs) o → Origin n (output_wire k o.0, fw k p o)

  pub origin : (n : Netlist) (t : List ℕ × B) → IsItem (all_said fin fout fx fw n) t → Origin n t
  origin n t here = elim (item_either ins (outs ++ wires) t here) [
    | inl i ↦ let r = item_of_map (λ (p : PinUse). (input_name p, fin p)) (input_pins n) t i in subst (Origin n) (sym r.2) (FromInput r.0 r.1)
    | inr other ↦ elim (item_either outs wires t other) [
      | inl o ↦ let r = item_of_map (λ (p : PinUse). (output_name p, fout p)) (output_pins n) t o in subst (Origin n) (sym r.2) (FromOutput r.0 r.1)
      | inr w ↦ of_wire (item_of_flat (part_said fx fw) (numbered n.parts) t w)
    ]
  ]
    where
      ins : List (List ℕ × B)
      ins = map (λ (p : PinUse). (input_name p, fin p)) (input_pins n)

      outs : List (List ℕ × B)
      outs = map (λ (p : PinUse). (output_name p, fout p)) (output_pins n)

      wires : List (List ℕ × B)
      wires = flat_map (part_said fx fw) (numbered n.parts)

      of_wire : (e : ℕ × PartUse) × IsItem (numbered n.parts) e × IsItem (part_said fx fw e) t → Origin n t
      of_wire (e, listed, here) =
          let index = item_of_numbered 0 n.parts e listed in
          let at : slice_get n.parts e.0 ≡ Some e.1 = ap (slice_get n.parts) (omega (arith, index.1)) ∙ index.2 in
          elim (item_either (map (λ (i : ℕ × List ℕ). (input_wire e.0 i.0, fx e.0 e.1 i)) (attached e.1)) (map (λ (o : ℕ × List ℕ). (output_wire e.0 o.0, fw e.0 e.1 o)) (numbered e.1.outputs)) t here) [
            | inl x ↦ let r = item_of_map (λ (i : ℕ × List ℕ). (input_wire e.0 i.0, fx e.0 e.1 i)) (attached e.1) t x in subst (Origin n) (sym r.2) (FromX e.0 e.1 r.0 at r.1)
            | inr w ↦ let r = item_of_map (λ (o : ℕ × List ℕ). (output_wire e.0 o.0, fw e.0 e.1 o)) (numbered e.1.outputs) t w in subst (Origin n) (sym r.2) (FromW e.0 e.1 r.0 at r.1)
          ]

-- an attached input stands among the attached ones
pub attached_item : (p : PartUse) (i : ℕ) (bits : List ℕ) → slice_get p.inputs i ≡ Some bits → 0 < length bits → IsItem (attached p) (i, bits)
attached_item p i bits at some =
    filter_item (λ (i : ℕ × List ℕ). not (length i.1 == 0)) (numbered p.inputs) (i, bits) (numbered_at p.inputs i bits at) (ap not (ne_eqb (length bits) 0 (λ e. omega (arith, e, some))))

-- and each of these is an attached input
pub attached_is : (p : PartUse) (i : ℕ × List ℕ) → IsItem (attached p) i → (slice_get p.inputs i.0 ≡ Some i.1) × (0 < length i.1)
attached_is p i here =
    let r = item_of_filter (λ (i : ℕ × List ℕ). not (length i.1 == 0)) (numbered p.inputs) i here in
    let index = item_of_numbered 0 p.inputs i r.0 in
    (ap (slice_get p.inputs) (omega (arith, index.1)) ∙ index.2, some (length i.1) r.1)
  where
    some : (count : ℕ) → not (count == 0) ≡ true → 0 < count
    some zero h = absurd (false≢true h)
    some (suc count) h = omega arith

-- a part has one output
pub only_index : (ports : List (List ℕ)) (o : ℕ × List ℕ) → length ports ≡ 1 → IsItem (numbered ports) o → o.0 ≡ 0
only_index [] o e here = absurd here
only_index (bits ∷ []) o e (inl f) = ap (λ (o : ℕ × List ℕ). o.0) f
only_index (bits ∷ []) o e (inr h) = absurd h
only_index (a ∷ b ∷ more) o e here = absurd (omega (arith, e))

pub only_output : (ports : List (List ℕ)) → length ports ≡ 1 → (bits : List ℕ) × (slice_get ports 0 ≡ Some bits)
only_output [] e = absurd (omega (arith, e))
only_output (bits ∷ more) e = (bits, refl)

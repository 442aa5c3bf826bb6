-- Nothing in the module of an accepted netlist depends on itself: by the ranks of outputs, what an equation reads is given earlier.
use Rattle.std.proofs.Common.{◌≡◌, ℕ, zero, suc, ◌+◌, ◌*◌, ◌^◌, ◌<◌, true, List, [], ◌∷◌, length, map, Some, refl, sym, ap, subst, ◌∙◌, arith, inl, inr, ◌⊎◌}
use Rattle.std.specs.Prelude.{slice_get, Contains}
use Rattle.std.specs.List.{flat_map}
use Rattle.std.proofs.lemmas.Option.{slice_get_within, get_or_from_slice_get}
use Rattle.lg_netlist.specs.declared.netlist.Cell.{Cell}
use Rattle.lg_netlist.specs.declared.netlist.Cell.TheVariants.{Not, And, Or}
use Rattle.lg_netlist.specs.declared.netlist.PartUse.{PartUse}
use Rattle.lg_netlist.specs.declared.netlist.PinUse.{PinUse}
use Rattle.lg_netlist.specs.declared.netlist.Netlist.{Netlist}
use Rattle.lg_netlist.specs.Acceptance.{IsAccepted}
use Rattle.lg_netlist.specs.Cell.{reads}
use Rattle.lg_netlist.specs.Chain.{IsOutput, Follows}
use Rattle.lg_netlist.specs.Graph.{all_outputs}
use Rattle.lg_netlist.proofs.OutputLemmas.{output_listed}
use Rattle.lg_netlist.proofs.Ranks.{HasRanks}
use Rattle.lg_netlist.specs.Static.{input_pins, output_pins, has_no_clock}
use Rattle.lg_vtree.specs.declared.expr.Expr.{Expr}
use Rattle.lg_vtree.specs.declared.expr.Expr.TheVariants as expr
use Rattle.lg_vtree.specs.declared.module.Assign.{Assign}
use Rattle.lg_vrules.specs.Depends.{names_read, IsChain, DependsOn, IsAcyclic}
use Rattle.lg_vrules.specs.Depends as depends
use Rattle.lg_vmeaning.specs.InOrder.{IsIn}
use Rattle.lg_export.specs.Layout.{numbered, input_name, output_name, input_wire, output_wire, bit_on, attached, equation, part_assigns, module_assigns, module_of}
use Rattle.lg_export.proofs.Given.{x_assign, w_assign, o_assign, Given, OfInput, OfPart, OfPin, given}
use Rattle.lg_export.proofs.Items.{IsItem, item_at, item_of_map, map_item, item_left, item_right, flat_item, numbered_at}
use Rattle.lg_export.proofs.Equations.{wholes, equation_reads}
use Rattle.lg_export.proofs.Named.{x_names, in_item, item_in, attached_is, few_inputs}
use Rattle.lg_export.proofs.Pins.{output_pin, part_fits}
use Rattle.lg_export.proofs.Runs.{bits_read}
use Rattle.lg_export.proofs.Sources.{Source, FromPin, FromPart, input_source, pin_source}
use Rattle.lg_export.proofs.Valid.{first_of_part, wholes-are}
use Rattle.lg_export.proofs.WireNames.{initial-input_wire, initial-output_wire, initial-input_name, initial-output_name, apart, input_wire_same, output_wire_same}

cell_reads : (c : Cell) (output input : ℕ) → reads c output input ≡ true
cell_reads Not output input = refl
cell_reads And output input = refl
cell_reads Or output input = refl

-- where a name stands: a wire by the rank of its part's output, an output of the module behind all
pub record IsX (n : Netlist) (r : HasRanks n) (name : List ℕ) (rank : ℕ) : Type 0 where
  pub part : ℕ
  pub input : ℕ
  pub index : ℕ
  pub few : part < 2 ^ 32
  pub small : input < 64
  pub stands : slice_get (all_outputs n) index ≡ Some (part, 0)
  pub is : name ≡ input_wire part input
  pub ranks : rank ≡ 2 * r.rank index + 1

pub record IsW (n : Netlist) (r : HasRanks n) (name : List ℕ) (rank : ℕ) : Type 0 where
  pub part : ℕ
  pub index : ℕ
  pub few : part < 2 ^ 32
  pub stands : slice_get (all_outputs n) index ≡ Some (part, 0)
  pub is : name ≡ output_wire part 0
  pub ranks : rank ≡ 2 * r.rank index + 2

pub record IsO (n : Netlist) (r : HasRanks n) (name : List ℕ) (rank : ℕ) : Type 0 where
  pub pin : PinUse
  pub is : name ≡ output_name pin
  pub ranks : rank ≡ 2 * r.most + 3

abbrev pub Rank : (n : Netlist) → HasRanks n → List ℕ → ℕ → Type 0
Rank n r name rank = IsX n r name rank ⊎ (IsW n r name rank ⊎ IsO n r name rank)

module _ (n : Netlist) (clockless : has_no_clock n ≡ true) (accepted : IsAccepted n) (r : HasRanks n) where
  -- an equation gives the name
  abbrev pub IsMade : List ℕ → Type 0
  IsMade name = (a : Assign) × IsItem (module_assigns n) a × (a.name ≡ name)

  -- an input of the module, or a name that an equation gives and that stands earlier
  abbrev pub Earlier : ℕ → List ℕ → Type 0
  Earlier rank other = IsIn (map input_name (input_pins n)) other ⊎ ((lower : ℕ) × (lower < rank) × Rank n r other lower × IsMade other)

  abbrev parts_assigns : List Assign
  parts_assigns = flat_map (part_assigns n) (numbered n.parts)

  abbrev outs_assigns : List Assign
  outs_assigns = map (o_assign n) (output_pins n)

  pub x_made : (k : ℕ) (p : PartUse) (i : ℕ × List ℕ) → slice_get n.parts k ≡ Some p → IsItem (attached p) i → IsItem (module_assigns n) (x_assign n k i)
  x_made k p i at here =
      item_left parts_assigns outs_assigns (x_assign n k i) (flat_item (part_assigns n) (numbered n.parts) (k, p) (x_assign n k i) (numbered_at n.parts k p at)
      (item_left (map (x_assign n k) (attached p)) (w_assign k p ∷ []) (x_assign n k i) (map_item (x_assign n k) (attached p) i here)))

  pub w_made : (k : ℕ) (p : PartUse) → slice_get n.parts k ≡ Some p → IsItem (module_assigns n) (w_assign k p)
  w_made k p at =
      item_left parts_assigns outs_assigns (w_assign k p) (flat_item (part_assigns n) (numbered n.parts) (k, p) (w_assign k p) (numbered_at n.parts k p at)
      (item_right (map (x_assign n k) (attached p)) (w_assign k p ∷ []) (w_assign k p) (inl refl)))

  pub o_made : (p : PinUse) → IsItem (output_pins n) p → IsItem (module_assigns n) (o_assign n p)
  o_made p here = item_right parts_assigns outs_assigns (o_assign n p) (map_item (o_assign n) (output_pins n) p here)

  output_of : (k : ℕ) (p : PartUse) → slice_get n.parts k ≡ Some p → IsOutput n (k, 0)
  output_of k p at = (p, at, omega (arith, (part_fits n k p at).gives))

  few_part : (k : ℕ) (p : PartUse) → slice_get n.parts k ≡ Some p → k < 2 ^ 32
  few_part k p at = omega (arith, slice_get_within n.parts k p at, n.valid.few_parts)

  small_input : (k : ℕ) (p : PartUse) (i : ℕ × List ℕ) → slice_get n.parts k ≡ Some p → IsItem (attached p) i → i.0 < 64
  small_input k p i at here = let is = attached_is p i here in omega (arith, slice_get_within p.inputs i.0 i.1 is.0, few_inputs p.cell (length p.inputs) (part_fits n k p at).takes)

  from_input : (p : PinUse) (other : List ℕ) (rank : ℕ) → IsItem (input_pins n) p → other ≡ input_name p → Earlier rank other
  from_input p other rank here e = inl (subst (IsIn (map input_name (input_pins n))) (sym e) (item_in (map input_name (input_pins n)) (input_name p) (map_item input_name (input_pins n) p here)))

  -- what an input's equation reads is an input of the module, or an output that its part follows
  below_input : (k : ℕ) (p : PartUse) (i : ℕ × List ℕ) → slice_get n.parts k ≡ Some p → IsItem (attached p) i → (index : ℕ) → slice_get (all_outputs n) index ≡ Some (k, 0)
      → (net : ℕ) → Contains i.1 net → (other : List ℕ) → other ≡ (bit_on n net).name → Source n net → Earlier (2 * r.rank index + 1) other
  below_input k p i at here index stands net on other e (FromPin q bit listed pin_at is) = from_input q other (2 * r.rank index + 1) listed (e ∙ ap (λ b. b.name) is)
  below_input k p i at here index stands net on other e (FromPart q source bits bit part output bit_at is) =
      let attached = attached_is p i here in
      let follows : Follows n (q, 0) (k, 0) = record {
        is_earlier = output_of q source part;
        is_later = output_of k p at;
        net = net;
        driven = record { part = source; bits = bits; is_part = part; is_output = output; on = (bit, slice_get_within bits bit net bit_at, get_or_from_slice_get bits bit net net bit_at) };
        read = record { part = p; input = i.0; bits = i.1; is_part = at; is_input = attached.0; reads = cell_reads p.cell 0 i.0; on = on };
      } in
      let there = output_listed n (q, 0) (output_of q source part) in
      let lower = r.rises index there.0 (k, 0) (q, 0) stands there.1 follows in
      inr (2 * r.rank there.0 + 2, omega (arith, lower), inr (inl (record { part = q; index = there.0; few = few_part q source part; stands = there.1; is = e ∙ ap (λ b. b.name) is; ranks = refl })), (w_assign q source, w_made q source part, sym (e ∙ ap (λ b. b.name) is)))

  below_pin : (net : ℕ) (other : List ℕ) → other ≡ (bit_on n net).name → Source n net → Earlier (2 * r.most + 3) other
  below_pin net other e (FromPin q bit listed pin_at is) = from_input q other (2 * r.most + 3) listed (e ∙ ap (λ b. b.name) is)
  below_pin net other e (FromPart q source bits bit part output bit_at is) =
      let there = output_listed n (q, 0) (output_of q source part) in
      inr (2 * r.rank there.0 + 2, omega (arith, r.below there.0), inr (inl (record { part = q; index = there.0; few = few_part q source part; stands = there.1; is = e ∙ ap (λ b. b.name) is; ranks = refl })), (w_assign q source, w_made q source part, sym (e ∙ ap (λ b. b.name) is)))

  -- what an equation reads stands earlier than what it gives
  pub earlier : (a : Assign) → Given n a → (rank : ℕ) → Rank n r a.name rank → (other : List ℕ) → Contains (names_read a.value) other → Earlier rank other
  earlier a (OfInput k p i at here) rank (inl x) other read =
      let is = attached_is p i here in
      let few = few_part k p at in
      let same : k ≡ x.part = (input_wire_same k i.0 x.part x.input (omega (arith, few)) (omega (arith, small_input k p i at here)) (omega (arith, x.few)) (omega (arith, x.small)) x.is).0 in
      let stands : slice_get (all_outputs n) x.index ≡ Some (k, 0) = subst (λ (q : ℕ). slice_get (all_outputs n) x.index ≡ Some (q, 0)) (sym same) x.stands in
      let b = bits_read n i.1 is.1 other read in
      subst (λ (rank : ℕ). Earlier rank other) (sym x.ranks) (below_input k p i at here x.index stands b.0 b.1 other b.2 (input_source n clockless accepted k p i.0 i.1 at is.0 b.0 b.1))
  earlier a (OfInput k p i at here) rank (inr (inl w)) other read = absurd (apart (input_wire k i.0) (output_wire w.part 0) 120 119 (initial-input_wire k i.0) (initial-output_wire w.part 0) refl w.is)
  earlier a (OfInput k p i at here) rank (inr (inr o)) other read = absurd (apart (input_wire k i.0) (output_name o.pin) 120 111 (initial-input_wire k i.0) (initial-output_name o.pin) refl o.is)
  earlier a (OfPart k p at) rank (inl x) other read = absurd (apart (output_wire k 0) (input_wire x.part x.input) 119 120 (initial-output_wire k 0) (initial-input_wire x.part x.input) refl x.is)
  earlier a (OfPart k p at) rank (inr (inl w)) other read =
      let few = few_part k p at in
      let same : k ≡ w.part = output_wire_same k w.part (omega (arith, few)) (omega (arith, w.few)) w.is in
      let stands : slice_get (all_outputs n) w.index ≡ Some (k, 0) = subst (λ (q : ℕ). slice_get (all_outputs n) w.index ≡ Some (q, 0)) (sym same) w.stands in
      let first = first_of_part n clockless accepted k p at in
      let written : map (λ (i : ℕ × List ℕ). expr.Whole (input_wire k i.0)) (attached p) ≡ wholes (first.0 ∷ first.1) = wholes-are n clockless accepted k (attached p) ∙ ap wholes first.2 in
      let among = equation_reads p.cell first.0 first.1 other (subst (λ (es : List Expr). Contains (names_read (equation p.cell es)) other) written read) in
      let b = item_of_map (λ (i : ℕ × List ℕ). input_wire k i.0) (attached p) other (in_item (x_names k (attached p)) other (subst (λ (names : List (List ℕ)). IsIn names other) (sym first.2) among)) in
      inr (2 * r.rank w.index + 1, omega (arith, w.ranks), inl (record { part = k; input = b.0.0; index = w.index; few = few; small = small_input k p b.0 at b.1; stands = stands; is = b.2; ranks = refl }), (x_assign n k b.0, x_made k p b.0 at b.1, sym b.2))
  earlier a (OfPart k p at) rank (inr (inr o)) other read = absurd (apart (output_wire k 0) (output_name o.pin) 119 111 (initial-output_wire k 0) (initial-output_name o.pin) refl o.is)
  earlier a (OfPin p here) rank (inl x) other read = absurd (apart (output_name p) (input_wire x.part x.input) 111 120 (initial-output_name p) (initial-input_wire x.part x.input) refl x.is)
  earlier a (OfPin p here) rank (inr (inl w)) other read = absurd (apart (output_name p) (output_wire w.part 0) 111 119 (initial-output_name p) (initial-output_wire w.part 0) refl w.is)
  earlier a (OfPin p here) rank (inr (inr o)) other read =
      let pin = output_pin n clockless p here in
      let b = bits_read n p.bits (omega (arith, pin.fits.some_bits)) other read in
      subst (λ (rank : ℕ). Earlier rank other) (sym o.ranks) (below_pin b.0 other b.2 (pin_source n clockless accepted p here b.0 b.1))

  -- what an equation gives is no input of the module
  gives_no_input : (a : Assign) → Given n a → IsIn (map input_name (input_pins n)) a.name → ⊥
  gives_no_input a made here = by a made (item_of_map input_name (input_pins n) a.name (in_item (map input_name (input_pins n)) a.name here))
    where
      by : (a : Assign) → Given n a → (p : PinUse) × IsItem (input_pins n) p × (a.name ≡ input_name p) → ⊥
      by a (OfInput k p i at here) (q, listed, e) = apart (input_wire k i.0) (input_name q) 120 105 (initial-input_wire k i.0) (initial-input_name q) refl e
      by a (OfPart k p at) (q, listed, e) = apart (output_wire k 0) (input_name q) 119 105 (initial-output_wire k 0) (initial-input_name q) refl e
      by a (OfPin p here) (q, listed, e) = apart (output_name p) (input_name q) 111 105 (initial-output_name p) (initial-input_name q) refl e

  made_at : (at : ℕ) (a : Assign) → slice_get (module_of n).assigns at ≡ Some a → Given n a
  made_at at a stands = given n a (item_at (module_of n).assigns at a stands)

  step : (name other : List ℕ) → depends.Reads (module_of n) name other → (rank : ℕ) → Rank n r name rank → Earlier rank other
  step name other read rank ranked = earlier read.assign (made_at read.at read.assign read.stands) rank (subst (λ (name : List ℕ). Rank n r name rank) (sym read.gives) ranked) other read.reads

  reads_no_input : (name other : List ℕ) → depends.Reads (module_of n) name other → IsIn (map input_name (input_pins n)) name → ⊥
  reads_no_input name other read here = gives_no_input read.assign (made_at read.at read.assign read.stands) (subst (IsIn (map input_name (input_pins n))) (sym read.gives) here)

  first_reads : (name : List ℕ) (over : List (List ℕ)) (last : List ℕ) → IsChain (module_of n) name over last → (other : List ℕ) × depends.Reads (module_of n) name other
  first_reads name [] last chain = (last, chain)
  first_reads name (next ∷ more) last chain = (next, chain.0)

  along : (name : List ℕ) (over : List (List ℕ)) (last : List ℕ) → IsChain (module_of n) name over last → (rank : ℕ) → Rank n r name rank → Earlier rank last
  along name [] last chain rank ranked = step name last chain rank ranked
  along name (next ∷ more) last chain rank ranked = elim (step name next chain.0 rank ranked) [
    | inl input ↦ let b = first_reads next more last chain.1 in absurd (reads_no_input next b.0 b.1 input)
    | inr lower ↦ elim (along next more last chain.1 lower.0 lower.2) [
      | inl input ↦ inl input
      | inr lowest ↦ inr (lowest.0, omega (arith, lowest.1, lower.1), lowest.2, lowest.3)
    ]
  ]

  never : (bound rank : ℕ) → rank < bound → (name : List ℕ) → Rank n r name rank → (over : List (List ℕ)) → IsChain (module_of n) name over name → ⊥
  never zero rank less name ranked over chain = absurd (omega (arith, less))
  never (suc bound) rank less name ranked over chain = elim (along name over name chain rank ranked) [
    | inl input ↦ let b = first_reads name over name chain in reads_no_input name b.0 b.1 input
    | inr lower ↦ never bound lower.0 (omega (arith, lower.1, less)) name lower.2 over chain
  ]

  pub ranked : (a : Assign) → Given n a → (rank : ℕ) × Rank n r a.name rank
  ranked a (OfInput k p i at here) =
      let there = output_listed n (k, 0) (output_of k p at) in
      (2 * r.rank there.0 + 1, inl (record { part = k; input = i.0; index = there.0; few = few_part k p at; small = small_input k p i at here; stands = there.1; is = refl; ranks = refl }))
  ranked a (OfPart k p at) =
      let there = output_listed n (k, 0) (output_of k p at) in
      (2 * r.rank there.0 + 2, inr (inl (record { part = k; index = there.0; few = few_part k p at; stands = there.1; is = refl; ranks = refl })))
  ranked a (OfPin p here) = (2 * r.most + 3, inr (inr (record { pin = p; is = refl; ranks = refl })))

  pub acyclic : IsAcyclic (module_of n)
  acyclic at a stands chain = let b = ranked a (made_at at a stands) in never (suc b.0) b.0 (omega arith) a.name b.1 chain.0 chain.1

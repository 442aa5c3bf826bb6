-- An accepted netlist has what the layout asks for.
use Rattle.std.proofs.Common.{◌≡◌, ℕ, ◌+◌, ◌<◌, Bool, true, false, not, List, [], ◌∷◌, length, filter, get_or, refl, sym, ap, subst, arith, ◌⊎◌, inl, inr, Some, if◌then◌else◌}
use Rattle.std.specs.Prelude.{◌==◌, All, slice_get}
use Rattle.std.specs.List.{list_all, enumerate_from}
use Rattle.std.proofs.lemmas.Bool.{and_parts, both_ways, cases_Bool, cond-true, cond-false, false≢true, ne_eqb}
use Rattle.std.proofs.lemmas.List.Elements.{All-nil, All-cons, All-head, All-tail}
use Rattle.std.proofs.lemmas.Option.{slice_get-get_or}
use Rattle.lg_netlist.specs.declared.netlist.Cell.{Cell}
use Rattle.lg_netlist.specs.declared.netlist.Cell.TheVariants.{Not, And, Or}
use Rattle.lg_netlist.specs.declared.netlist.PartUse.{PartUse}
use Rattle.lg_netlist.specs.declared.netlist.PinUse.{PinUse}
use Rattle.lg_netlist.specs.declared.netlist.Netlist.{Netlist}
use Rattle.lg_netlist.specs.Acceptance.{is_loose, lacks_input, reads_undriven, IsAccepted}
use Rattle.lg_netlist.specs.Cell.{loose_of}
use Rattle.lg_netlist.specs.Static.{has_no_clock, data_pins}
use Rattle.lg_netlist.specs.Valid.{TakesInputs}
use Rattle.lg_netlist.proofs.AcceptedFacts.{input_is_right, part_at_fits, pin_at_fits, read_is_driven, shown_is_driven}
use Rattle.lg_export.specs.Readable.{IsReadable, IsFed, CanBeLaidOut}
use Rattle.lg_export.proofs.LayoutLemmas.{data_all}

-- ---- a part has an attached input

some_attached : (k : ℕ) (inputs : List (List ℕ)) → list_all is_loose inputs ≡ false → 0 < length (filter (λ (i : ℕ × List ℕ). not (length i.1 == 0)) (enumerate_from k inputs))
some_attached k [] e = absurd (false≢true (sym e))
some_attached k ([] ∷ inputs) e = some_attached (k + 1) inputs e
some_attached k ((net ∷ bits) ∷ inputs) e =
    subst (λ (b : Bool). 0 < length (if not b then (k, net ∷ bits) ∷ filter (λ (i : ℕ × List ℕ). not (length i.1 == 0)) (enumerate_from (k + 1) inputs)
    else filter (λ (i : ℕ × List ℕ). not (length i.1 == 0)) (enumerate_from (k + 1) inputs))) (sym (ne_eqb (length (net ∷ bits)) 0 (λ f. absurd (omega arith)))) (omega arith)

-- some input is attached, or the first one would be a fault
not_all_loose : (n : Netlist) (p : PartUse) → TakesInputs p.cell (length p.inputs) → ((bits : List ℕ) → slice_get p.inputs 0 ≡ Some bits → reads_undriven n p 0 bits ≡ false) → list_all is_loose p.inputs ≡ false
not_all_loose n p takes right = go p.inputs refl (cases_Bool (list_all is_loose p.inputs))
  where
    least : (cell : Cell) (count : ℕ) → TakesInputs cell count → 0 < count
    least Not count takes = let low = takes.0 in omega arith
    least And count takes = let low = takes.0 in omega arith
    least Or count takes = let low = takes.0 in omega arith

    lacks : (cell : Cell) → list_all is_loose p.inputs ≡ true → lacks_input (loose_of cell 0) p ≡ true
    lacks Not all = refl
    lacks And all = all
    lacks Or all = all

    go : (inputs : List (List ℕ)) → p.inputs ≡ inputs → (list_all is_loose p.inputs ≡ true) ⊎ (list_all is_loose p.inputs ≡ false) → list_all is_loose p.inputs ≡ false
    go inputs e (inr some) = some
    go [] e (inl all) = let none : length p.inputs ≡ 0 = ap length e in let some = least p.cell (length p.inputs) takes in absurd (omega arith)
    go ([] ∷ inputs) e (inl all) =
        absurd (both_ways (lacks_input (loose_of p.cell 0) p) (right [] (ap (λ (is : List (List ℕ)). slice_get is 0) e)) (lacks p.cell all))
    go ((net ∷ bits) ∷ inputs) e (inl all) =
        let first = and_parts (length (net ∷ bits) == 0) (list_all is_loose inputs) (subst (λ (is : List (List ℕ)). list_all is_loose is ≡ true) e all) in
        absurd (both_ways (length (net ∷ bits) == 0) (ne_eqb (length (net ∷ bits)) 0 (λ f. absurd (omega arith))) first.0)

-- ---- what is read is driven

fed : (n : Netlist) → IsAccepted n → All (IsFed n) n.parts
fed n accepted part d less =
    let p = get_or n.parts part d in
    let is_part : slice_get n.parts part ≡ Some p = slice_get-get_or n.parts part d less in
    record {
      has_input = some_attached 0 p.inputs (not_all_loose n p (part_at_fits n part p is_part).takes (λ bits is_input. input_is_right n accepted part 0 p bits is_part is_input));
      driven = λ input e inside some.
          let bits = get_or p.inputs input e in
          let is_input : slice_get p.inputs input ≡ Some bits = slice_get-get_or p.inputs input e inside in
          record {
            has_bit = some;
            driven = λ bit f within. (read_is_driven n accepted part input bit (get_or bits bit f) p bits is_part is_input (slice_get-get_or bits bit f within)).1;
            on_nets = λ bit f within. (read_is_driven n accepted part input bit (get_or bits bit f) p bits is_part is_input (slice_get-get_or bits bit f within)).0;
          };
    }

pins_read : (n : Netlist) → IsAccepted n → All (λ (p : PinUse). not p.input ≡ true → IsReadable n p.bits) n.pins
pins_read n accepted pin d less output =
    let p = get_or n.pins pin d in
    let is_pin : slice_get n.pins pin ≡ Some p = slice_get-get_or n.pins pin d less in
    let fits = pin_at_fits n pin p is_pin in
    record {
      has_bit = omega (arith, fits.some_bits);
      driven = λ bit f within. (shown_is_driven n accepted pin bit (get_or p.bits bit f) p is_pin (is_false p.input output) (slice_get-get_or p.bits bit f within)).1;
      on_nets = fits.on_nets;
    }
  where
    is_false : (b : Bool) → not b ≡ true → b ≡ false
    is_false true e = absurd (false≢true e)
    is_false false e = refl

-- what holds of each item that passes a test
all_passing : {A : Type 0} (test : A → Bool) (P : A → Type 0) (xs : List A) → All (λ (x : A). test x ≡ true → P x) xs → All P (filter test xs)
all_passing test P [] all = All-nil P
all_passing {A = A} test P (x ∷ xs) all = by (test x) refl (All-head (λ (y : A). test y ≡ true → P y) x xs all) (all_passing test P xs (All-tail (λ (y : A). test y ≡ true → P y) x xs all))
  where
    by : (b : Bool) → test x ≡ b → (test x ≡ true → P x) → All P (filter test xs) → All P (filter test (x ∷ xs))
    by true e first rest = subst (All P) (sym (cond-true (test x) (x ∷ filter test xs) (filter test xs) e)) (All-cons P x (filter test xs) (first e) rest)
    by false e first rest = subst (All P) (sym (cond-false (test x) (x ∷ filter test xs) (filter test xs) e)) rest

pub CanBeLaidOut-accepted : (n : Netlist) → has_no_clock n ≡ true → IsAccepted n → CanBeLaidOut n
CanBeLaidOut-accepted n clockless accepted = record {
  fed = fed n accepted;
  read = all_passing (λ (p : PinUse). not p.input) (λ (p : PinUse). IsReadable n p.bits) (data_pins n)
      (data_all (λ (p : PinUse). not p.input ≡ true → IsReadable n p.bits) n (pins_read n accepted));
}

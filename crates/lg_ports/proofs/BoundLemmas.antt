-- The ports of a component have their bounds.
use Rattle.std.proofs.Common.{◌≡◌, ◌≢◌, ◌∙◌, sym, subst, ℕ, zero, suc, ◌+◌, ◌<◌, ◌≤◌, Bool, true, false, cond, eqb, ◌⊎◌, inl, inr, List, [], ◌∷◌, ◌++◌, refl, arith}
use Rattle.std.specs.Prelude.{codes, ◌&&◌, not}
use Rattle.std.specs.List.{All, list_all, flat_map, range_with_len}
use Rattle.std.proofs.lemmas.Bool.{false≢true}
use Rattle.std.proofs.lemmas.Bool.Decides.{eqb_tells}
use Rattle.std.proofs.lemmas.List.{append_assoc}
use Rattle.std.proofs.lemmas.List.Elements.{All-nil, All-cons, All-head, All-tail, All-append, All-map}
use Rattle.lg_kinds.specs.declared.port.Port.{Port}
use Rattle.lg_kinds.specs.declared.port.Side.{Side}
use Rattle.lg_kinds.specs.declared.port.Side.TheVariants.{In, Out, Both}
use Rattle.lg_kinds.specs.PortTable.{is_near}
use Rattle.lg_kinds.specs.Rows.{PortForm}
use Rattle.lg_kinds.specs.Table.{entry}
use Rattle.lg_ports.specs.Bounds.{AreBounded, InputsFirst, IsBounded}
use Rattle.lg_ports.specs.Given.{Given, count_of, number, row_of}
use Rattle.lg_ports.specs.Judged.{AllFit}
use Rattle.lg_ports.specs.Ports.{port_at, ports_of, row_ports}
use Rattle.lg_ports.specs.SplitterEnds.{bits_of, end_port, end_ports, ports_of_end}
use Rattle.lg_ports.proofs.NearLemmas.{count_most, end_near, row_near}
use Rattle.lg_ports.proofs.SoundLemmas.{each_sound, in_order, is_in, is_out, is_placed, is_row, is_sized, is_wide_or_none}
use Rattle.lg_ports.proofs.WideLemmas.{both_pass, end_bits, number_most, size_bits}

-- what holds of each number below a bound
ranged : (P : ℕ → Type 0) (start n : ℕ) → ((k : ℕ) → k < start + n → P k) → All P (range_with_len start n)
ranged P start zero h = All-nil P
ranged P start (suc n) h = All-cons P start (range_with_len (start + 1) n) (h start (omega arith)) (ranged P (start + 1) n (λ k less. h k (omega (arith, less))))

flat_all : {X A : Type 0} (P : A → Type 0) (f : X → List A) (xs : List X) → All (λ x. All P (f x)) xs → All P (flat_map f xs)
flat_all P f [] h = All-nil P
flat_all {X} {A} P f (x ∷ xs) h = All-append P (f x) (flat_map f xs) (All-head (λ (y : X). All P (f y)) x xs h) (flat_all P f xs (All-tail (λ (y : X). All P (f y)) x xs h))

passing : {X : Type 0} (P : X → Type 0) (test : X → Bool) (xs : List X) → ((x : X) → test x ≡ true → P x) → list_all test xs ≡ true → All P xs
passing P test [] f h = All-nil P
passing P test (x ∷ xs) f h = let parts = both_pass (test x) (list_all test xs) h in All-cons P x xs (f x parts.0) (passing P test xs f parts.1)

row_bounded : (given : Given) (row : PortForm) → AllFit given → list_all is_near given.records ≡ true → is_row given.kind row ≡ true → All (IsBounded given.kind) (row_ports given row)
row_bounded given row fit near sound =
    All-map (IsBounded given.kind) (port_at given row) (range_with_len 0 (count_of given row.count))
    (ranged (λ k. IsBounded given.kind (port_at given row k)) 0 (count_of given row.count) one)
  where
    parts : (is_sized given.kind row.size ≡ true) × (is_placed row.place ≡ true)
    parts = both_pass (is_sized given.kind row.size) (is_placed row.place) sound

    one : (k : ℕ) → k < 0 + count_of given row.count → IsBounded given.kind (port_at given row k)
    one k less =
        let few = count_most given row.count in
        let at = row_near given row k near parts.1 (omega (arith, less, few)) in
        record { bits = size_bits given row.size parts.0 fit; across = at.0; down = at.1 }

end_bounded : (given : Given) (i : ℕ) → AllFit given → is_wide_or_none (row_of given.kind (codes "incoming")) ≡ true → i ≤ 99 → All (IsBounded given.kind) (ports_of_end given i)
end_bounded given i fit sound few = by (eqb (bits_of given i) 0) (some (eqb_tells (bits_of given i) 0))
  where
    some : ((eqb (bits_of given i) 0 ≡ true) × (bits_of given i ≡ 0)) ⊎ ((eqb (bits_of given i) 0 ≡ false) × (bits_of given i ≢ 0)) → eqb (bits_of given i) 0 ≡ false → 1 ≤ bits_of given i
    some h e = elim h [
      | inl none ↦ absurd (false≢true (sym e ∙ none.0))
      | inr more ↦ let other = more.1 in omega (arith, other)
    ]

    by : (b : Bool) → (b ≡ false → 1 ≤ bits_of given i) → All (IsBounded given.kind) (cond b [] (end_port given i ∷ []))
    by true h = All-nil (IsBounded given.kind)
    by false h =
        let at = end_near given i few in
        All-cons (IsBounded given.kind) (end_port given i) [] (record { bits = inl (h refl, end_bits given i sound fit); across = at.0; down = at.1 }) (All-nil (IsBounded given.kind))

ends_bounded : (given : Given) → AllFit given → is_wide_or_none (row_of given.kind (codes "incoming")) ≡ true → All (IsBounded given.kind) (end_ports given)
ends_bounded given fit sound =
    flat_all (IsBounded given.kind) (ports_of_end given) (range_with_len 0 (number given (codes "fanout")))
    (ranged (λ i. All (IsBounded given.kind) (ports_of_end given i)) 0 (number given (codes "fanout"))
    (λ i less. let few = number_most given (codes "fanout") in end_bounded given i fit sound (omega (arith, less, few))))

first_append : (some more : List Port) → All (λ (p : Port). p.side ≢ Out) some → InputsFirst more → InputsFirst (some ++ more)
first_append [] more none h = h
first_append (port ∷ some) more none h =
    ((λ e. absurd (All-head (λ (p : Port). p.side ≢ Out) port some none e)), first_append some more (All-tail (λ (p : Port). p.side ≢ Out) port some none) h)

first_without : (ports : List Port) → All (λ (p : Port). p.side ≢ In) ports → InputsFirst ports
first_without [] none = tt
first_without (port ∷ ports) none =
    let rest = All-tail (λ (p : Port). p.side ≢ In) port ports none in
    ((λ e. rest), first_without ports rest)

no_out : (side : Side) → is_out side ≡ false → side ≢ Out
no_out Out e = absurd (false≢true (sym e))
no_out In e = λ f. cc f
no_out Both e = λ f. cc f

no_in : (side : Side) → not (is_in side) ≡ true → side ≢ In
no_in In e = absurd (false≢true e)
no_in Out e = λ f. cc f
no_in Both e = λ f. cc f

out_no_in : (side : Side) → is_out side ≡ true → side ≢ In
out_no_in Out e = λ f. cc f
out_no_in In e = absurd (false≢true e)
out_no_in Both e = absurd (false≢true e)

row_sides : (given : Given) (row : PortForm) (other : Side) → row.side ≢ other → All (λ (p : Port). p.side ≢ other) (row_ports given row)
row_sides given row other h =
    All-map (λ (p : Port). p.side ≢ other) (port_at given row) (range_with_len 0 (count_of given row.count))
    (ranged (λ k. row.side ≢ other) 0 (count_of given row.count) (λ k less. h))

end_side : (given : Given) (i : ℕ) → All (λ (p : Port). p.side ≢ In) (ports_of_end given i)
end_side given i = by (eqb (bits_of given i) 0)
  where
    by : (b : Bool) → All (λ (p : Port). p.side ≢ In) (cond b [] (end_port given i ∷ []))
    by true = All-nil (λ (p : Port). p.side ≢ In)
    by false = All-cons (λ (p : Port). p.side ≢ In) (end_port given i) [] (λ f. cc f) (All-nil (λ (p : Port). p.side ≢ In))

ends_side : (given : Given) → All (λ (p : Port). p.side ≢ In) (end_ports given)
ends_side given =
    flat_all (λ (p : Port). p.side ≢ In) (ports_of_end given) (range_with_len 0 (number given (codes "fanout")))
    (ranged (λ i. All (λ (p : Port). p.side ≢ In) (ports_of_end given i)) 0 (number given (codes "fanout")) (λ i less. end_side given i))

-- rows in order give ports in order
rows_first : (given : Given) (rows : List PortForm) (ends : List Port) → in_order rows ≡ true → All (λ (p : Port). p.side ≢ In) ends → InputsFirst (flat_map (row_ports given) rows ++ ends)
rows_first given [] ends sound none = first_without ends none
rows_first given (row ∷ rows) ends sound none = subst InputsFirst (sym (append_assoc (row_ports given row) (flat_map (row_ports given) rows) ends)) (by (λ all. rows_first given rows ends all none) (is_out row.side) refl sound)
  where
    by : (in_order rows ≡ true → InputsFirst (flat_map (row_ports given) rows ++ ends)) → (b : Bool) → is_out row.side ≡ b → cond b (list_all (λ (r : PortForm). not (is_in r.side)) rows) (in_order rows) ≡ true → InputsFirst (row_ports given row ++ (flat_map (row_ports given) rows ++ ends))
    by later true out all =
        let later = flat_all (λ (p : Port). p.side ≢ In) (row_ports given) rows (passing (λ (r : PortForm). All (λ (p : Port). p.side ≢ In) (row_ports given r)) (λ (r : PortForm). not (is_in r.side)) rows (λ r e. row_sides given r In (no_in r.side e)) all) in
        first_without (row_ports given row ++ (flat_map (row_ports given) rows ++ ends))
        (All-append (λ (p : Port). p.side ≢ In) (row_ports given row) (flat_map (row_ports given) rows ++ ends) (row_sides given row In (out_no_in row.side out))
        (All-append (λ (p : Port). p.side ≢ In) (flat_map (row_ports given) rows) ends later none))
    by later false other all = first_append (row_ports given row) (flat_map (row_ports given) rows ++ ends) (row_sides given row Out (no_out row.side other)) (later all)

-- the ports of a component whose attributes fit
pub ports_bounded : (given : Given) → AllFit given → list_all is_near given.records ≡ true → AreBounded given.kind (ports_of given)
ports_bounded given fit near =
    let sound = both_pass (list_all (is_row given.kind) (entry given.kind).ports) (in_order (entry given.kind).ports && is_wide_or_none (row_of given.kind (codes "incoming"))) (each_sound given.kind) in
    let more = both_pass (in_order (entry given.kind).ports) (is_wide_or_none (row_of given.kind (codes "incoming"))) sound.1 in
    record {
      each =
          All-append (IsBounded given.kind) (flat_map (row_ports given) (entry given.kind).ports) (end_ports given)
          (flat_all (IsBounded given.kind) (row_ports given) (entry given.kind).ports (passing (λ (row : PortForm). All (IsBounded given.kind) (row_ports given row)) (is_row given.kind) (entry given.kind).ports (λ row e. row_bounded given row fit near e) sound.0))
          (ends_bounded given fit more.1);
      ordered = rows_first given (entry given.kind).ports (end_ports given) more.0 (ends_side given);
    }

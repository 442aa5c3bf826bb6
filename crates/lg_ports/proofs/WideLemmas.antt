-- Ports have 1 to 64 bits where the attributes of a component fit.
use Rattle.std.proofs.Common.{◌≡◌, sym, ap, subst, ℕ, ◌-◌, ◌*◌, ◌/◌, ◌^◌, ◌<◌, ◌≤◌, max, Bool, true, false, cond, ◌&&◌, inl, inr, List, [], ◌∷◌, length, Option, Some, None, refl, arith}
use Rattle.std.specs.Prelude.{codes, is_some, find, nat_le, nat_lt, IsSomeAnd}
use Rattle.std.specs.List.{All, list_all, range_with_len}
use Rattle.std.specs.Option.{option_or, option_and_then, option_map_or, ForSome}
use Rattle.std.specs.Str.{bytes_eq}
use Rattle.std.proofs.Math.Nat.{div-le_self, mul-pos}
use Rattle.std.proofs.lemmas.Bool.{false≢true, leb-true}
use Rattle.std.proofs.lemmas.List.Elements.{All-head, All-tail}
use Rattle.std.proofs.lemmas.List.FromFn.{length-range_with_len}
use Rattle.std.proofs.lemmas.List.Sums.{count_by-le-length}
use Rattle.std.proofs.lemmas.Nat.{mul-le}
use Rattle.std.proofs.lemmas.Slice.Eq.{bytes_eq-Decides}
use Rattle.lg_arith.specs.Count.{least_width, select_width}
use Rattle.lg_arith.proofs.CountLemmas.{IsWidth-least_width, least_width_least}
use Rattle.lg_memory.specs.Image.{digit_value, number_in}
use Rattle.lg_kinds.specs.declared.kind.Kind.{Kind}
use Rattle.lg_kinds.specs.declared.kind.Kind.TheVariants.{PullResistor}
use Rattle.lg_kinds.specs.declared.rows.Count.{Count}
use Rattle.lg_kinds.specs.declared.rows.Count.TheVariants.{Once}
use Rattle.lg_kinds.specs.declared.rows.Size.{Size}
use Rattle.lg_kinds.specs.declared.rows.Size.TheVariants as size
use Rattle.lg_kinds.specs.Rows.{Attribute, Range, Number, Group, name_at}
use Rattle.lg_kinds.specs.Table.{entry}
use Rattle.lg_ports.specs.Bounds.{HasBits}
use Rattle.lg_ports.specs.Given.{Given, count_of, number, number_of, row_of, value, value_of}
use Rattle.lg_ports.specs.Judged.{AllFit, RowFits}
use Rattle.lg_ports.specs.Places.{size_of}
use Rattle.lg_ports.specs.Ranges.{InRange, IsWithin}
use Rattle.lg_ports.specs.SplitterEnds.{bits_of, end_of, is_end}
use Rattle.lg_ports.proofs.SoundLemmas.{is_group_range, is_once, is_pull, is_ranged, is_sized, is_wide, is_wide_or_none, is_wide_range}

pub both_pass : (a b : Bool) → (a && b) ≡ true → (a ≡ true) × (b ≡ true)
both_pass true b h = (refl, h)
both_pass false b h = absurd (false≢true h)

-- what was found has a property of all, and passes the test
found_holds : {A : Type 0} (P : A → Type 0) (test : A → Bool) (xs : List A) (x : A) → find test xs ≡ Some x → All P xs → P x × (test x ≡ true)
found_holds P test [] x e all = absurd (cc e)
found_holds {A} P test (y ∷ ys) x e all = by (λ f. found_holds P test ys x f (All-tail P y ys all)) (test y) refl e
  where
    same : (u v : A) → Some u ≡ Some v → u ≡ v
    same u v h = cc h

    by : (find test ys ≡ Some x → P x × (test x ≡ true)) → (b : Bool) → test y ≡ b → cond b (Some y) (find test ys) ≡ Some x → P x × (test x ≡ true)
    by later true t f = let one = same y x f in (subst P one (All-head P y ys all), subst (λ z. test z ≡ true) one t)
    by later false t f = later f

number_most_of : (text : List ℕ) (low digits : Bool) → option_map_or (λ n. n) (cond ((low && digits) && nat_le (number_in 10 text) 99) (Some (number_in 10 text)) None) 0 ≤ 99
number_most_of text true true = by (nat_le (number_in 10 text) 99) refl
  where
    by : (b : Bool) → nat_le (number_in 10 text) 99 ≡ b → option_map_or (λ n. n) (cond b (Some (number_in 10 text)) None) 0 ≤ 99
    by true e = leb-true _ _ e
    by false e = omega arith
number_most_of text true false = omega arith
number_most_of text false digits = omega arith

number_most_in : (o : Option (List ℕ)) → option_map_or (λ n. n) (option_and_then number_of o) 0 ≤ 99
number_most_in None = omega arith
number_most_in (Some text) = number_most_of text (nat_le 1 (length text)) (list_all (λ c. nat_lt (digit_value c) 10) text)

-- a number that an attribute has is 99 at most
pub number_most : (given : Given) (name : List ℕ) → number given name ≤ 99
number_most given name = number_most_in (value given name)

valued : (a b usual : Option (List ℕ)) → is_some usual ≡ true → option_or a (option_or b usual) ≡ None → ⊥
valued (Some x) b usual some e = cc e
valued None (Some y) usual some e = cc e
valued None None (Some z) some e = cc e
valued None None None some e = false≢true some

within : (low high : ℕ) (o : Option ℕ) → IsSomeAnd o (λ n. (low ≤ n) × (n ≤ high)) → (low ≤ option_map_or (λ n. n) o 0) × (option_map_or (λ n. n) o 0 ≤ high)
within low high None h = absurd h
within low high (Some n) h = h

number_fits : (low high : ℕ) (o : Option (List ℕ)) → (o ≡ None → ⊥) → ForSome o (IsWithin low high) → (low ≤ option_map_or (λ n. n) (option_and_then number_of o) 0) × (option_map_or (λ n. n) (option_and_then number_of o) 0 ≤ high)
number_fits low high None there fits = absurd (there refl)
number_fits low high (Some text) there fits = within low high (number_of text) (fits text refl)

once : (count : Count) → is_once count ≡ true → count ≡ Once
once Once e = refl
once _ e = absurd (false≢true e)

-- the number of an attribute that stands once is in its range
ranged_number : (given : Given) (name : List ℕ) (row : Attribute) (low high : ℕ) → row_of given.kind name ≡ Some row → AllFit given → is_once row.count ≡ true → is_some row.usual ≡ true
    → ((text : List ℕ) → InRange given row.range text → IsWithin low high text) → (low ≤ number given name) × (number given name ≤ high)
ranged_number given name row low high e fit single some narrow =
    let found = found_holds (RowFits given) (λ (r : Attribute). bytes_eq r.name name) (entry given.kind).attributes row e fit in
    let named : row.name ≡ name = (bytes_eq-Decides row.name name).0 found.1 in
    let fits : (k : ℕ) → k < count_of given Once → ForSome (value_of given row (name_at row.name Once k)) (InRange given row.range) =
    subst (λ (c : Count). (k : ℕ) → k < count_of given c → ForSome (value_of given row (name_at row.name c k)) (InRange given row.range)) (once row.count single) found.0 in
    let here : ForSome (value_of given row name) (InRange given row.range) = subst (λ (n : List ℕ). ForSome (value_of given row n) (InRange given row.range)) named (fits 0 (omega arith)) in
    let is : value given name ≡ value_of given row name = ap (option_and_then (λ (r : Attribute). value_of given r name)) e in
    let inside = number_fits low high (value_of given row name) (valued _ _ row.usual some) (λ text valued. narrow text (here text valued)) in
    subst (λ (o : Option (List ℕ)). (low ≤ option_map_or (λ n. n) (option_and_then number_of o) 0) × (option_map_or (λ n. n) (option_and_then number_of o) 0 ≤ high)) (sym is) inside

abbrev IsWide : ℕ → Type 0
IsWide n = (1 ≤ n) × (n ≤ 64)

wide_range : (given : Given) (range : Range) → is_wide_range range ≡ true → (low : ℕ) × (high : ℕ) × (1 ≤ low) × (high ≤ 64) × ((text : List ℕ) → InRange given range text → IsWithin low high text)
wide_range given (Number low high) e =
    let parts = both_pass (nat_le 1 low) (nat_le high 64) e in
    (low, high, leb-true _ _ parts.0, leb-true _ _ parts.1, λ text h. h)
wide_range given _ e = absurd (false≢true e)

wide_of : (given : Given) (name : List ℕ) (o : Option Attribute) → row_of given.kind name ≡ o → is_ranged is_wide_range o ≡ true → AllFit given → IsWide (number given name)
wide_of given name None e sound fit = absurd (false≢true sound)
wide_of given name (Some row) e sound fit =
    let parts = both_pass (is_once row.count) (is_some row.usual && is_wide_range row.range) sound in
    let more = both_pass (is_some row.usual) (is_wide_range row.range) parts.1 in
    let range = wide_range given row.range more.1 in
    let inside = ranged_number given name row range.0 range.1 e fit parts.0 more.0 range.4 in
    let low = inside.0 in
    let high = inside.1 in
    let least = range.2 in
    let most = range.3 in
    (omega (arith, low, least), omega (arith, high, most))

wide : (given : Given) (name : List ℕ) → is_wide given.kind name ≡ true → AllFit given → IsWide (number given name)
wide given name sound fit = wide_of given name (row_of given.kind name) refl sound fit

group_range : (given : Given) (range : Range) → is_group_range range ≡ true → (text : List ℕ) → InRange given range text → IsWithin 1 (number given (codes "width")) text
group_range given Group e = λ text h. h
group_range given _ e = absurd (false≢true e)

group_of : (given : Given) (name : List ℕ) (o : Option Attribute) → row_of given.kind name ≡ o → is_ranged is_group_range o ≡ true → AllFit given → (1 ≤ number given name) × (number given name ≤ number given (codes "width"))
group_of given name None e sound fit = absurd (false≢true sound)
group_of given name (Some row) e sound fit =
    let parts = both_pass (is_once row.count) (is_some row.usual && is_group_range row.range) sound in
    let more = both_pass (is_some row.usual) (is_group_range row.range) parts.1 in
    ranged_number given name row 1 (number given (codes "width")) e fit parts.0 more.0 (group_range given row.range more.1)

select_wide : (group width : ℕ) → width ≤ 99 → IsWide (select_width group width)
select_wide group width small =
    let part : (width - 1) / max group 1 ≤ width - 1 = div-le_self (width - 1) (max group 1) in
    let fits : (width - 1) / max group 1 < 2 ^ 64 = omega (arith, part, small) in
    let most : least_width ((width - 1) / max group 1) ≤ 64 = least_width_least ((width - 1) / max group 1) 64 fits in
    (omega arith, omega (arith, most))

total_wide : (inputs width : ℕ) → IsWide inputs → IsWide width → IsWide (least_width (inputs * width))
total_wide inputs width few small =
    let some : 1 ≤ inputs * width = mul-pos few.0 small.0 in
    let most : inputs * width ≤ 64 * 64 = mul-le inputs width 64 64 few.1 small.1 in
    IsWidth-least_width (inputs * width) some (omega (arith, most))

pull : (kind : Kind) → is_pull kind ≡ true → kind ≡ PullResistor
pull PullResistor e = refl
pull _ e = absurd (false≢true e)

-- the bits of a port of a row
pub size_bits : (given : Given) (s : Size) → is_sized given.kind s ≡ true → AllFit given → HasBits given.kind (size_of given s)
size_bits given size.Any sound fit = inr (pull given.kind sound, refl)
size_bits given size.One sound fit = inl (omega arith, omega arith)
size_bits given size.Width sound fit = inl (wide given (codes "width") sound fit)
size_bits given size.InWidth sound fit = inl (wide given (codes "in_width") sound fit)
size_bits given size.OutWidth sound fit = inl (wide given (codes "out_width") sound fit)
size_bits given size.Incoming sound fit = inl (wide given (codes "incoming") sound fit)
size_bits given size.Group sound fit =
    let parts = both_pass (is_ranged is_group_range (row_of given.kind (codes "group"))) (is_wide given.kind (codes "width")) sound in
    let group = group_of given (codes "group") (row_of given.kind (codes "group")) refl parts.0 fit in
    let width = wide given (codes "width") parts.1 fit in
    let most = group.1 in
    let all = width.1 in
    inl (group.0, omega (arith, most, all))
size_bits given size.Select sound fit = inl (wide given (codes "select") sound fit)
size_bits given size.AddrWidth sound fit = inl (wide given (codes "addrWidth") sound fit)
size_bits given size.DataWidth sound fit = inl (wide given (codes "dataWidth") sound fit)
size_bits given size.GroupSelect sound fit = inl (select_wide (number given (codes "group")) (number given (codes "width")) (number_most given (codes "width")))
size_bits given size.Distance sound fit = inl (select_wide 1 (number given (codes "width")) (number_most given (codes "width")))
size_bits given size.Total sound fit =
    let parts = both_pass (is_wide given.kind (codes "inputs")) (is_wide given.kind (codes "width")) sound in
    inl (total_wide (number given (codes "inputs")) (number given (codes "width")) (wide given (codes "inputs") parts.0 fit) (wide given (codes "width") parts.1 fit))

few_of : (given : Given) (name : List ℕ) (o : Option Attribute) → row_of given.kind name ≡ o → is_wide_or_none o ≡ true → AllFit given → number given name ≤ 64
few_of given name None e sound fit =
    let none : value given name ≡ None = ap (option_and_then (λ (r : Attribute). value_of given r name)) e in
    subst (λ (o : Option (List ℕ)). option_map_or (λ n. n) (option_and_then number_of o) 0 ≤ 64) (sym none) (omega arith)
few_of given name (Some row) e sound fit = (wide_of given name (Some row) e sound fit).1

-- no more bits go to an end than come in
pub end_bits : (given : Given) (i : ℕ) → is_wide_or_none (row_of given.kind (codes "incoming")) ≡ true → AllFit given → bits_of given i ≤ 64
end_bits given i sound fit =
    let few : number given (codes "incoming") ≤ 64 = few_of given (codes "incoming") (row_of given.kind (codes "incoming")) refl sound fit in
    let some : bits_of given i ≤ length (range_with_len 0 (number given (codes "incoming"))) = count_by-le-length (λ k. is_end (end_of given k) i) (range_with_len 0 (number given (codes "incoming"))) in
    let long : length (range_with_len 0 (number given (codes "incoming"))) ≡ number given (codes "incoming") = length-range_with_len 0 (number given (codes "incoming")) in
    omega (arith, few, some, long)

-- Ports stand near their component.
use Rattle.std.proofs.Common.{◌≡◌, ◌∙◌, subst, ℕ, ℤ, pos, neg_ℤ, ◌+◌, ◌-◌, ◌*◌, ◌/◌, ◌≤◌, min, Bool, true, false, cond, List, [], ◌∷◌, Option, Some, None, refl, arith}
use Rattle.std.specs.Prelude.{codes, unwrap_or, int_le, nat_le, ◌&&◌, ◌||◌, ◌==◌, ◌+ℤ◌, ◌-ℤ◌}
use Rattle.std.specs.List.{list_all}
use Rattle.std.specs.Option.{option_or}
use Rattle.std.specs.Str.{bytes_eq}
use Rattle.std.proofs.Math.Nat.{div-le_self}
use Rattle.std.proofs.Math.Pow.{pow_mono}
use Rattle.std.proofs.lemmas.Bool.{leb-true}
use Rattle.std.proofs.lemmas.Int.{ints}
use Rattle.std.proofs.lemmas.Nat.{mul-le}
use Rattle.lg_kinds.specs.declared.kind.Kind.{Kind}
use Rattle.lg_kinds.specs.declared.record.Record.{Record}
use Rattle.lg_kinds.specs.declared.record.Record.TheVariants.{Port as Moved, Delay, Default, Circuit}
use Rattle.lg_kinds.specs.declared.rows.Count.{Count}
use Rattle.lg_kinds.specs.declared.rows.Count.TheVariants.{Once, Inputs, Incoming, Selections, Enabled, Extended, Parallel, Serial, Stages}
use Rattle.lg_kinds.specs.declared.rows.Place.{Place}
use Rattle.lg_kinds.specs.declared.rows.Place.TheVariants as place
use Rattle.lg_kinds.specs.PortTable.{is_near, is_same, is_within, last_given, place_in, place_of}
use Rattle.lg_kinds.specs.Rows.{PortForm, name_at}
use Rattle.lg_ports.specs.Bounds.{IsNear}
use Rattle.lg_ports.specs.Given.{Given, count_of, facing_of, is_flagged, is_said, number, once_if, selections}
use Rattle.lg_ports.specs.Places.{aside, below_fan, bubble, fan_reach, fan_start, fan_y, gate_gap, gate_start, gate_step, gate_y, is_even, place_at, third_step, turned}
use Rattle.lg_ports.specs.Ports.{offset_at}
use Rattle.lg_ports.specs.SplitterEnds.{end_place, gap, is_centred, start_east, start_north, start_south, start_west}
use Rattle.lg_ports.proofs.SoundLemmas.{is_placed}
use Rattle.lg_ports.proofs.WideLemmas.{both_pass, number_most}

-- both offsets of a place
abbrev pub AreNear : ℕ → ℤ × ℤ → Type 0
AreNear most at = IsNear most at.0 × IsNear most at.1

near_pos : (most n : ℕ) → n ≤ most → IsNear most (pos n)
near_pos most n few = (omega (arith, ints, few), omega (arith, ints, few))

near_neg : (most : ℕ) (z : ℤ) → IsNear most z → IsNear most (neg_ℤ z)
near_neg most z h = let low = h.0 in let high = h.1 in (omega (arith, ints, high), omega (arith, ints, low))

near_more : (few most : ℕ) (z : ℤ) → few ≤ most → IsNear few z → IsNear most z
near_more few most z le h = let low = h.0 in let high = h.1 in (omega (arith, ints, le, low), omega (arith, ints, le, high))

near_add : (most n : ℕ) (z : ℤ) → IsNear most z → IsNear (most + n) (z +ℤ pos n)
near_add most n z h = let low = h.0 in let high = h.1 in (omega (arith, ints, low), omega (arith, ints, high))

near_less : (most n : ℕ) (z : ℤ) → IsNear most z → IsNear (most + n) (z -ℤ pos n)
near_less most n z h = let low = h.0 in let high = h.1 in (omega (arith, ints, low), omega (arith, ints, high))

near_test : (most : ℕ) (z : ℤ) → is_within most z ≡ true → IsNear most z
near_test most z e =
    let parts = both_pass (int_le (neg_ℤ (pos most)) z) (int_le z (pos most)) e in
    let low : int_le (neg_ℤ (pos most)) z ≡ true = parts.0 in
    let high : int_le z (pos most) ≡ true = parts.1 in
    (grind (arith, ints, low), grind (arith, ints, high))

near_if : (most : ℕ) (b : Bool) (x y : ℤ) → IsNear most x → IsNear most y → IsNear most (cond b x y)
near_if most true x y h k = h
near_if most false x y h k = k

most_if : (b : Bool) (x y most : ℕ) → x ≤ most → y ≤ most → cond b x y ≤ most
most_if true x y most h k = h
most_if false x y most h k = k

-- what the last record for a port says
last_near : (kind : Kind) (name : List ℕ) (records : List Record) (at : ℤ × ℤ) → list_all is_near records ≡ true → place_of records kind name ≡ Some at → AreNear 10000 at
last_near kind name [] at near e = absurd (cc e)
last_near kind name (one ∷ records) at near e = by (last_near kind name records at parts.1) (last_given (place_in kind name) records) refl e
  where
    parts : (is_near one ≡ true) × (list_all is_near records ≡ true)
    parts = both_pass (is_near one) (list_all is_near records) near

    taken : (dx dy : ℤ) (b : Bool) → is_within 10000 dx && is_within 10000 dy ≡ true → cond b (Some (dx, dy)) None ≡ Some at → AreNear 10000 at
    taken dx dy true within f =
        let two = both_pass (is_within 10000 dx) (is_within 10000 dy) within in
        let same : (dx, dy) ≡ at = cc f in
        subst (AreNear 10000) same (near_test 10000 dx two.0, near_test 10000 dy two.1)
    taken dx dy false within f = absurd (cc f)

    here : (r : Record) → is_near r ≡ true → place_in kind name r ≡ Some at → AreNear 10000 at
    here (Moved of port dx dy) within f = taken dx dy (is_same of kind && bytes_eq port name) within f
    here (Delay of instants) within f = absurd (cc f)
    here (Default of attribute value) within f = absurd (cc f)
    here (Circuit sheet pin dx dy) within f = absurd (cc f)

    by : (place_of records kind name ≡ Some at → AreNear 10000 at) → (o : Option (ℤ × ℤ)) → place_of records kind name ≡ o → option_or o (place_in kind name one) ≡ Some at → AreNear 10000 at
    by later (Some there) f g = later (f ∙ g)
    by later None f g = here one parts.0 g

selections_most : (given : Given) → selections given ≤ 32
selections_most given = let few : min (number given (codes "select")) 5 ≤ 5 = omega arith in pow_mono {i = min (number given (codes "select")) 5} {j = 5} few

once_most : (b : Bool) → once_if b ≤ 99
once_most true = omega arith
once_most false = omega arith

-- a row stands 99 times at most
pub count_most : (given : Given) (count : Count) → count_of given count ≤ 99
count_most given Once = omega arith
count_most given Inputs = number_most given (codes "inputs")
count_most given Incoming = number_most given (codes "incoming")
count_most given Selections = let few = selections_most given in omega (arith, few)
count_most given Enabled = once_most _
count_most given Extended = once_most _
count_most given Parallel = once_most _
count_most given Serial = once_most _
count_most given Stages = most_if (is_said given (codes "parallel") (codes "true")) (number given (codes "length")) 0 99 (number_most given (codes "length")) (omega arith)

fan_start_most : (lines : ℕ) → lines ≤ 32 → fan_start lines ≤ 160
fan_start_most lines few = most_if (lines == 2) 10 (5 * lines) 160 (omega arith) (omega (arith, few))

fan_near : (lines k : ℕ) → lines ≤ 32 → k ≤ 99 → IsNear 10000 (fan_y lines k)
fan_near lines k few small =
    let step : cond (lines == 2) 20 10 ≤ 20 = most_if (lines == 2) 20 10 20 (omega arith) (omega arith) in
    let far : cond (lines == 2) 20 10 * k ≤ 20 * 99 = mul-le (cond (lines == 2) 20 10) k 20 99 step small in
    let start = fan_start_most lines few in
    near_more (20 * 99 + fan_start lines) 10000 (fan_y lines k) (omega (arith, start))
    (near_less (20 * 99) (fan_start lines) (pos (cond (lines == 2) 20 10 * k)) (near_pos (20 * 99) (cond (lines == 2) 20 10 * k) far))

fan_reach_near : (lines : ℕ) → IsNear 10000 (pos (fan_reach lines))
fan_reach_near lines =
    let few : fan_reach lines ≤ 50 = most_if (lines == 2) 30 (cond (lines == 4) 40 50) 50 (omega arith) (most_if (lines == 4) 40 50 50 (omega arith) (omega arith)) in
    near_pos 10000 (fan_reach lines) (omega (arith, few))

below_near : (given : Given) → IsNear 10000 (pos (below_fan (selections given)))
below_near given = let few = selections_most given in near_pos 10000 (below_fan (selections given)) (omega (arith, few))

third_most : (size : ℕ) → third_step size ≤ 30
third_most size = most_if (size == 30) 10 (cond (size == 50) 20 30) 30 (omega arith) (most_if (size == 50) 20 30 30 (omega arith) (omega arith))

gate_step_most : (inputs size : ℕ) → gate_step inputs size ≤ 40
gate_step_most inputs size =
    let third = third_most size in
    most_if (inputs == 2) _ _ 40 (most_if (size == 30) 20 40 40 (omega arith) (omega arith))
    (most_if (inputs == 3) _ _ 40 (omega (arith, third))
    (most_if (inputs == 4 && size == 70) 20 10 40 (omega arith) (omega arith)))

gate_start_most : (inputs size : ℕ) → inputs ≤ 99 → gate_start inputs size ≤ 500
gate_start_most inputs size few =
    let third = third_most size in
    most_if (inputs == 2) _ _ 500 (most_if (size == 30) 10 20 500 (omega arith) (omega arith))
    (most_if (inputs == 3) _ _ 500 (omega (arith, third))
    (most_if (inputs == 4 && size == 70) 30 _ 500 (omega arith)
    (most_if (is_even inputs) (5 * inputs) (5 * (inputs - 1)) 500 (omega (arith, few)) (omega (arith, few)))))

gate_gap_most : (inputs size k : ℕ) → gate_gap inputs size k ≤ 10
gate_gap_most inputs size k =
    most_if (inputs == 2 || (inputs == 4 && size == 70)) 0 _ 10 (omega arith)
    (most_if (is_even inputs && nat_le (inputs / 2) k) 10 0 10 (omega arith) (omega arith))

gate_near : (inputs size k : ℕ) → inputs ≤ 99 → k ≤ 99 → IsNear 10000 (gate_y inputs size k)
gate_near inputs size k few small =
    let far : gate_step inputs size * k ≤ 40 * 99 = mul-le (gate_step inputs size) k 40 99 (gate_step_most inputs size) small in
    let between = gate_gap_most inputs size k in
    let start = gate_start_most inputs size few in
    near_more (40 * 99 + 10 + gate_start inputs size) 10000 (gate_y inputs size k) (omega (arith, start))
    (near_less (40 * 99 + 10) (gate_start inputs size) (pos (gate_step inputs size * k + gate_gap inputs size k))
    (near_pos (40 * 99 + 10) (gate_step inputs size * k + gate_gap inputs size k) (omega (arith, far, between))))

bubble_most : (negated : Bool) → bubble negated ≤ 10
bubble_most negated = most_if negated 10 0 10 (omega arith) (omega arith)

zero_near : (most : ℕ) → IsNear most (pos 0)
zero_near most = near_pos most 0 (omega arith)

-- where a row's ports stand by the table of kinds
place_near : (given : Given) (p : Place) (k : ℕ) → is_placed p ≡ true → k ≤ 99 → AreNear 1000000 (place_at given p k)
place_near given (place.At x y) k sound small =
    let parts = both_pass (is_within 10000 x) (is_within 10000 y) sound in
    (near_more 10000 1000000 x (omega arith) (near_test 10000 x parts.0), near_more 10000 1000000 y (omega arith) (near_test 10000 y parts.1))
place_near given (place.Row x y step) k sound small =
    let parts = both_pass (is_within 10000 x) (is_within 10000 y && nat_le step 1000) sound in
    let more = both_pass (is_within 10000 y) (nat_le step 1000) parts.1 in
    let far : step * k ≤ 1000 * 99 = mul-le step k 1000 99 (leb-true _ _ more.1) small in (
      near_more 10000 1000000 x (omega arith) (near_test 10000 x parts.0),
      near_more (10000 + step * k) 1000000 (y +ℤ pos (step * k)) (omega (arith, far)) (near_add 10000 (step * k) y (near_test 10000 y more.0)),
    )
place_near given place.Behind k sound small =
    let few = number_most given (codes "size") in
    (near_neg 1000000 (pos (number given (codes "size"))) (near_pos 1000000 (number given (codes "size")) (omega (arith, few))), zero_near 1000000)
place_near given (place.GateInput extra) k sound small =
    let size = number_most given (codes "size") in
    let longer : extra ≤ 1000 = leb-true _ _ sound in
    let out = bubble_most (is_flagged given (codes "negate") Inputs k) in
    let all : number given (codes "size") + extra + bubble (is_flagged given (codes "negate") Inputs k) ≤ 1000000 = omega (arith, size, longer, out) in (
      near_neg 1000000 (pos (number given (codes "size") + extra + bubble (is_flagged given (codes "negate") Inputs k))) (near_pos 1000000 _ all),
      near_more 10000 1000000 (gate_y (number given (codes "inputs")) (number given (codes "size")) k) (omega arith) (gate_near (number given (codes "inputs")) (number given (codes "size")) k (number_most given (codes "inputs")) small),
    )
place_near given place.Control k sound small = (
  near_neg 1000000 (pos 10) (near_pos 1000000 10 (omega arith)),
  near_if 1000000 (is_said given (codes "control") (codes "left")) (neg_ℤ (pos 10)) (pos 10) (near_neg 1000000 (pos 10) (near_pos 1000000 10 (omega arith))) (near_pos 1000000 10 (omega arith)),
)
place_near given place.FanIn k sound small = (
  near_neg 1000000 (pos (fan_reach (selections given))) (near_more 10000 1000000 (pos (fan_reach (selections given))) (omega arith) (fan_reach_near (selections given))),
  near_more 10000 1000000 (fan_y (selections given) k) (omega arith) (fan_near (selections given) k (selections_most given) small),
)
place_near given place.FanOut k sound small = (
  near_more 10000 1000000 (pos (fan_reach (selections given))) (omega arith) (fan_reach_near (selections given)),
  near_more 10000 1000000 (fan_y (selections given) k) (omega arith) (fan_near (selections given) k (selections_most given) small),
)
place_near given (place.Column x) k sound small = (
  near_more 10000 1000000 x (omega arith) (near_test 10000 x sound),
  near_more 10000 1000000 (fan_y (selections given) k) (omega arith) (fan_near (selections given) k (selections_most given) small),
)
place_near given (place.Aside x) k sound small = (
  near_more 10000 1000000 x (omega arith) (near_test 10000 x sound),
  near_more 10000 1000000 (aside given) (omega arith)
      (near_if 10000 (is_said given (codes "selloc") (codes "tr")) (neg_ℤ (pos (below_fan (selections given)))) (pos (below_fan (selections given))) (near_neg 10000 (pos (below_fan (selections given))) (below_near given)) (below_near given)),
)
place_near given (place.Beneath x) k sound small = (
  near_more 10000 1000000 x (omega arith) (near_test 10000 x sound),
  near_more 10000 1000000 (pos (below_fan (selections given))) (omega arith) (below_near given),
)
place_near given (place.Above x) k sound small = (
  near_more 10000 1000000 x (omega arith) (near_test 10000 x sound),
  near_neg 1000000 (pos (below_fan (selections given))) (near_more 10000 1000000 (pos (below_fan (selections given))) (omega arith) (below_near given)),
)

-- where they stand with the records
offset_near : (given : Given) (row : PortForm) (k : ℕ) → list_all is_near given.records ≡ true → is_placed row.place ≡ true → k ≤ 99 → AreNear 1000000 (offset_at given row k)
offset_near given row k near sound small = by (place_of given.records given.kind (name_at row.name row.count k)) refl
  where
    by : (o : Option (ℤ × ℤ)) → place_of given.records given.kind (name_at row.name row.count k) ≡ o → AreNear 1000000 (unwrap_or o (place_at given row.place k))
    by (Some at) e =
        let two = last_near given.kind (name_at row.name row.count k) given.records at near e in
        (near_more 10000 1000000 at.0 (omega arith) two.0, near_more 10000 1000000 at.1 (omega arith) two.1)
    by None e = place_near given row.place k sound small

turned_if : (most : ℕ) (b : Bool) (x y : ℤ × ℤ) → AreNear most x → AreNear most y → AreNear most (cond b x y)
turned_if most true x y h k = h
turned_if most false x y h k = k

turned_near : (most : ℕ) (facing : List ℕ) (at : ℤ × ℤ) → AreNear most at → AreNear most (turned facing at)
turned_near most facing at h =
    turned_if most (bytes_eq facing (codes "west")) _ _ (near_neg most at.0 h.0, h.1)
    (turned_if most (bytes_eq facing (codes "north")) _ _ (h.1, near_neg most at.0 h.0)
    (turned_if most (bytes_eq facing (codes "south")) _ _ (h.1, h.0) h))

-- where a port of a row stands
pub row_near : (given : Given) (row : PortForm) (k : ℕ) → list_all is_near given.records ≡ true → is_placed row.place ≡ true → k ≤ 99 → AreNear 2000000 (turned (facing_of given) (offset_at given row k))
row_near given row k near sound small =
    let at = offset_near given row k near sound small in
    turned_near 2000000 (facing_of given) (offset_at given row k)
    (near_more 1000000 2000000 (offset_at given row k).0 (omega arith) at.0, near_more 1000000 2000000 (offset_at given row k).1 (omega arith) at.1)

far : (given : Given) (n : ℕ) → n ≤ 99 → gap given * n ≤ 990 * 99
far given n few = let spacing = number_most given (codes "spacing") in mul-le (gap given) n 990 99 (omega (arith, spacing)) few

gap_near : (given : Given) → IsNear 100000 (pos (gap given))
gap_near given = let spacing = number_most given (codes "spacing") in near_pos 100000 (gap given) (omega (arith, spacing))

far_near : (given : Given) (n : ℕ) → n ≤ 99 → IsNear 100000 (pos (gap given * n))
far_near given n few = let most = far given n few in near_pos 100000 (gap given * n) (omega (arith, most))

half : (n : ℕ) → n ≤ 99 → n / 2 ≤ 99
half n few = let part : n / 2 ≤ n = div-le_self n 2 in omega (arith, part, few)

more_half : (n : ℕ) → n ≤ 99 → (n + 1) / 2 ≤ 99
more_half n few = omega (arith, few)

half_near : (given : Given) → IsNear 200000 (pos (gap given * ((number given (codes "fanout") + 1) / 2)) -ℤ pos (gap given))
half_near given =
    let ends = number_most given (codes "fanout") in
    let spacing = number_most given (codes "spacing") in
    near_more (100000 + gap given) 200000 _ (omega (arith, spacing))
    (near_less 100000 (gap given) (pos (gap given * ((number given (codes "fanout") + 1) / 2))) (far_near given ((number given (codes "fanout") + 1) / 2) (more_half (number given (codes "fanout")) ends)))

east : (given : Given) → IsNear 200000 (start_east given)
east given =
    let ends = number_most given (codes "fanout") in
    near_if 200000 (is_centred given) _ _
    (near_more 100000 200000 _ (omega arith) (near_neg 100000 _ (far_near given (number given (codes "fanout") / 2) (half (number given (codes "fanout")) ends))))
    (near_if 200000 (is_said given (codes "appear") (codes "right")) _ _ (near_more 100000 200000 _ (omega arith) (gap_near given))
    (near_more 100000 200000 _ (omega arith) (near_neg 100000 _ (far_near given (number given (codes "fanout")) ends))))

west : (given : Given) → IsNear 200000 (start_west given)
west given =
    let ends = number_most given (codes "fanout") in
    near_if 200000 (is_centred given) _ _
    (near_more 100000 200000 _ (omega arith) (near_neg 100000 _ (far_near given (number given (codes "fanout") / 2) (half (number given (codes "fanout")) ends))))
    (near_if 200000 (is_said given (codes "appear") (codes "right")) _ _ (near_more 100000 200000 _ (omega arith) (near_neg 100000 _ (far_near given (number given (codes "fanout")) ends)))
    (near_more 100000 200000 _ (omega arith) (gap_near given)))

north : (given : Given) → IsNear 200000 (start_north given)
north given =
    let ends = number_most given (codes "fanout") in
    near_if 200000 (is_centred given) _ _ (half_near given)
    (near_if 200000 (is_said given (codes "appear") (codes "right")) _ _ (near_more 100000 200000 _ (omega arith) (far_near given (number given (codes "fanout")) ends))
    (near_more 100000 200000 _ (omega arith) (near_neg 100000 _ (gap_near given))))

south : (given : Given) → IsNear 200000 (start_south given)
south given =
    let ends = number_most given (codes "fanout") in
    near_if 200000 (is_centred given) _ _ (half_near given)
    (near_if 200000 (is_said given (codes "appear") (codes "right")) _ _ (near_more 100000 200000 _ (omega arith) (near_neg 100000 _ (gap_near given)))
    (near_more 100000 200000 _ (omega arith) (far_near given (number given (codes "fanout")) ends)))

down : (given : Given) (z : ℤ) (i : ℕ) → i ≤ 99 → IsNear 200000 z → IsNear 2000000 (z +ℤ pos (gap given * i))
down given z i few h = let most = far given i few in near_more (200000 + gap given * i) 2000000 (z +ℤ pos (gap given * i)) (omega (arith, most)) (near_add 200000 (gap given * i) z h)

across : (given : Given) (z : ℤ) (i : ℕ) → i ≤ 99 → IsNear 200000 z → IsNear 2000000 (z -ℤ pos (gap given * i))
across given z i few h = let most = far given i few in near_more (200000 + gap given * i) 2000000 (z -ℤ pos (gap given * i)) (omega (arith, most)) (near_less 200000 (gap given * i) z h)

-- where an end of a splitter stands
pub end_near : (given : Given) (i : ℕ) → i ≤ 99 → AreNear 2000000 (end_place given i)
end_near given i few =
    let twenty : IsNear 2000000 (pos 20) = near_pos 2000000 20 (omega arith) in
    let less_twenty : IsNear 2000000 (neg_ℤ (pos 20)) = near_neg 2000000 (pos 20) twenty in
    turned_if 2000000 (is_said given (codes "facing") (codes "west")) _ _ (less_twenty, down given (start_west given) i few (west given))
    (turned_if 2000000 (is_said given (codes "facing") (codes "north")) _ _ (across given (start_north given) i few (north given), less_twenty)
    (turned_if 2000000 (is_said given (codes "facing") (codes "south")) _ _ (across given (start_south given) i few (south given), twenty)
    (twenty, down given (start_east given) i few (east given))))

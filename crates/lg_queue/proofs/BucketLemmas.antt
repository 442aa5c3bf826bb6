-- Buckets and the items that they stand for.
use Rattle.std.proofs.Common.{◌≡◌, ◌≢◌, ℕ, zero, suc, ◌+◌, ◌<◌, ◌≤◌, ◌^◌, ltb, List, [], ◌∷◌, ◌++◌, map, length, set, take, drop, sum, refl, sym, ap, ◌∙◌, subst, arith, inl, inr, length-take-le}
use Rattle.std.specs.List.{All}
use Rattle.std.specs.Prelude.{Some}
use Rattle.std.proofs.lemmas.Bool.{cases_lt, cases_eq}
use Rattle.std.proofs.lemmas.Bool.Decides.{Decides-ltb}
use Rattle.std.proofs.lemmas.List.{get_or-set_same, get_or-set_other, get_or-take, drop_more, get_or_past}
use Rattle.std.proofs.lemmas.List.Elements.{All-set}
use Rattle.lg_queue.specs.NumberSet.{NumberSet, with_number}
use Rattle.lg_queue.specs.Numbering.{IsOutput, number_of, place_of}
use Rattle.lg_queue.specs.Order.{StandsIn, IsRising, with_value}
use Rattle.lg_queue.specs.Pending.{Item, is_before, first_instant}
use Rattle.lg_queue.specs.Buckets.{item_at, items_from, no_bucket, bucket_at, IsBucket, IsFirstBusy, AreIdle}
use Rattle.lg_queue.proofs.OrderLemmas.{stands_left, stands_right, stands_cases, stands_in_map, map_stands, rising_append, rising_map, same_rising, stands_in_with, with_stands, with_stands_itself, with_rising, order_of_numbers}
use Rattle.lg_queue.proofs.ItemLemmas.{Decides-is_before, order_of_items}
use Rattle.lg_queue.proofs.NumberingLemmas.{place_of-number_of, number_of-below, places_rise}

none_at_no_bucket : (number : ℕ) → StandsIn number no_bucket.numbers → ⊥
unfolding no_bucket
none_at_no_bucket number h = h

-- where an item stands for a number of a bucket
pub record IsHeld (outputs : List ℕ) (instant : ℕ) (buckets : List NumberSet) (item : Item) : Type 0 where
  pub ahead : ℕ
  pub number : ℕ
  pub there : StandsIn number (bucket_at buckets ahead).numbers
  pub is : item ≡ item_at outputs (instant + ahead) number

pub held : (outputs : List ℕ) (instant : ℕ) (buckets : List NumberSet) (item : Item) → StandsIn item (items_from outputs instant buckets) → IsHeld outputs instant buckets item
held outputs instant [] item h = absurd h
held outputs instant (bucket ∷ buckets) item h = elim (stands_cases item (map (item_at outputs instant) bucket.numbers) (items_from outputs (instant + 1) buckets) h) [
  | inl s ↦ let k = stands_in_map (item_at outputs instant) item bucket.numbers s in
      let same : instant ≡ instant + 0 = omega arith in
      record { ahead = 0; number = k.0; there = k.1; is = k.2 ∙ ap (λ i. item_at outputs i k.0) same }
  | inr s ↦ let k = held outputs (instant + 1) buckets item s in
      let same : instant + 1 + k.ahead ≡ instant + suc k.ahead = omega arith in
      record { ahead = suc k.ahead; number = k.number; there = k.there; is = k.is ∙ ap (λ i. item_at outputs i k.number) same }
]

pub holds : (outputs : List ℕ) (instant : ℕ) (buckets : List NumberSet) (ahead number : ℕ) → StandsIn number (bucket_at buckets ahead).numbers
    → StandsIn (item_at outputs (instant + ahead) number) (items_from outputs instant buckets)
holds outputs instant [] ahead number h = absurd (none_at_no_bucket number h)
holds outputs instant (bucket ∷ buckets) zero number h =
    let same : instant ≡ instant + 0 = omega arith in
    stands_left (item_at outputs (instant + 0) number) (map (item_at outputs instant) bucket.numbers) (items_from outputs (instant + 1) buckets)
    (subst (λ i. StandsIn (item_at outputs i number) (map (item_at outputs instant) bucket.numbers)) same (map_stands (item_at outputs instant) number bucket.numbers h))
holds outputs instant (bucket ∷ buckets) (suc ahead) number h =
    let same : instant + 1 + ahead ≡ instant + suc ahead = omega arith in
    stands_right (item_at outputs (instant + suc ahead) number) (map (item_at outputs instant) bucket.numbers) (items_from outputs (instant + 1) buckets)
    (subst (λ i. StandsIn (item_at outputs i number) (items_from outputs (instant + 1) buckets)) same (holds outputs (instant + 1) buckets ahead number h))

-- a bucket with a number lies within
pub busy_within : (buckets : List NumberSet) (ahead number : ℕ) → StandsIn number (bucket_at buckets ahead).numbers → ahead < length buckets
busy_within buckets ahead number h = elim (cases_lt ahead (length buckets)) [
  | inl inside ↦ inside
  | inr past ↦ absurd (none_at_no_bucket number (subst (λ (b : NumberSet). StandsIn number b.numbers) (get_or_past buckets ahead no_bucket past) h))
]

bucket_from : (outputs : List ℕ) (buckets : List NumberSet) → All (IsBucket outputs) buckets → (ahead number : ℕ) → StandsIn number (bucket_at buckets ahead).numbers → IsBucket outputs (bucket_at buckets ahead)
bucket_from outputs buckets each ahead number h = each ahead no_bucket (busy_within buckets ahead number h)

-- the items of one bucket rise
rising_bucket : (outputs : List ℕ) (instant : ℕ) (bucket : NumberSet) → IsBucket outputs bucket → IsRising is_before (map (item_at outputs instant) bucket.numbers)
rising_bucket outputs instant bucket is =
    rising_map ltb is_before (item_at outputs instant) bucket.numbers is.rising
    (λ x y s t before. (Decides-is_before (item_at outputs instant x) (item_at outputs instant y)).1
    (inr (refl, places_rise outputs x y ((Decides-ltb x y).0 before) (is.each y t).0)))

All-rest : (outputs : List ℕ) (bucket : NumberSet) (buckets : List NumberSet) → All (IsBucket outputs) (bucket ∷ buckets) → All (IsBucket outputs) buckets
All-rest outputs bucket buckets each k d h = each (suc k) d (omega (arith, h))

-- the items of all buckets rise
pub rising_items : (outputs : List ℕ) (instant : ℕ) (buckets : List NumberSet) → All (IsBucket outputs) buckets → IsRising is_before (items_from outputs instant buckets)
rising_items outputs instant [] each = tt
rising_items outputs instant (bucket ∷ buckets) each =
    rising_append is_before (map (item_at outputs instant) bucket.numbers) (items_from outputs (instant + 1) buckets)
    (rising_bucket outputs instant bucket (each 0 no_bucket (omega arith)))
    (rising_items outputs (instant + 1) buckets (All-rest outputs bucket buckets each))
    (λ x y s t.
    let k = stands_in_map (item_at outputs instant) x bucket.numbers s in
    let later = held outputs (instant + 1) buckets y t in
    let first : x.0 ≡ instant = ap (λ (i : Item). i.0) k.2 in
    let second : y.0 ≡ instant + 1 + later.ahead = ap (λ (i : Item). i.0) later.is in
    (Decides-is_before x y).1 (inl (omega (arith, first, second))))

-- a bucket with a number more
pub bucket_with : (outputs : List ℕ) (number : ℕ) (bucket : NumberSet) → IsBucket outputs bucket → number < sum outputs → (place_of outputs number).0 < 2 ^ 32 → IsBucket outputs (with_number number bucket)
bucket_with outputs number bucket is inside fits = record {
  rising = with_rising ltb order_of_numbers number bucket.numbers is.rising;
  each = λ other s. elim (stands_in_with ltb number bucket.numbers other s) [
    | inl same ↦ subst (λ n. (n < sum outputs) × ((place_of outputs n).0 < 2 ^ 32)) (sym same) (inside, fits)
    | inr t ↦ is.each other t
  ];
  room = is.room;
}

abbrev item_of : ℕ → ℕ × ℕ → Item
item_of instant place = (instant, place.0, place.1)

-- what is held with a number more is that number's item, or was held
into : (outputs : List ℕ) (instant : ℕ) (buckets : List NumberSet) (ahead number : ℕ) (z : Item) → IsHeld outputs instant (set buckets ahead (with_number number (bucket_at buckets ahead))) z → ahead < length buckets
    → StandsIn z (with_value is_before (item_at outputs (instant + ahead) number) (items_from outputs instant buckets))
into outputs instant buckets ahead number z k inside =
    let bucket = with_number number (bucket_at buckets ahead) in
    let item = item_at outputs (instant + ahead) number in
    let items = items_from outputs instant buckets in
    elim (cases_eq k.ahead ahead) [
      | inl same ↦
          let found : bucket_at (set buckets ahead bucket) k.ahead ≡ bucket = ap (bucket_at (set buckets ahead bucket)) same ∙ get_or-set_same buckets ahead bucket no_bucket inside in
          let here : StandsIn k.number bucket.numbers = subst (λ (b : NumberSet). StandsIn k.number b.numbers) found k.there in
          let at : z ≡ item_at outputs (instant + ahead) k.number = k.is ∙ ap (λ a. item_at outputs (instant + a) k.number) same in
          elim (stands_in_with ltb number (bucket_at buckets ahead).numbers k.number here) [
            | inl e ↦ subst (λ i. StandsIn i (with_value is_before item items)) (sym (at ∙ ap (item_at outputs (instant + ahead)) e)) (with_stands_itself is_before order_of_items item items)
            | inr t ↦ with_stands is_before item items z (subst (λ i. StandsIn i items) (sym at) (holds outputs instant buckets ahead k.number t))
          ]
      | inr differ ↦
          let found : bucket_at (set buckets ahead bucket) k.ahead ≡ bucket_at buckets k.ahead = get_or-set_other buckets ahead k.ahead bucket no_bucket differ in
          with_stands is_before item items z (subst (λ i. StandsIn i items) (sym k.is)
          (holds outputs instant buckets k.ahead k.number (subst (λ (b : NumberSet). StandsIn k.number b.numbers) found k.there)))
    ]

-- what was held is held with a number more
back : (outputs : List ℕ) (instant : ℕ) (buckets : List NumberSet) (ahead number : ℕ) (z : Item) → IsHeld outputs instant buckets z → ahead < length buckets
    → StandsIn z (items_from outputs instant (set buckets ahead (with_number number (bucket_at buckets ahead))))
back outputs instant buckets ahead number z k inside =
    let bucket = with_number number (bucket_at buckets ahead) in
    let now = set buckets ahead bucket in
    let there : StandsIn k.number (bucket_at now k.ahead).numbers = elim (cases_eq k.ahead ahead) [
      | inl same ↦
          let found : bucket_at now k.ahead ≡ bucket = ap (bucket_at now) same ∙ get_or-set_same buckets ahead bucket no_bucket inside in
          let old : StandsIn k.number (bucket_at buckets ahead).numbers = subst (λ a. StandsIn k.number (bucket_at buckets a).numbers) same k.there in
          subst (λ (b : NumberSet). StandsIn k.number b.numbers) (sym found) (with_stands ltb number (bucket_at buckets ahead).numbers k.number old)
      | inr differ ↦ subst (λ (b : NumberSet). StandsIn k.number b.numbers) (sym (get_or-set_other buckets ahead k.ahead bucket no_bucket differ)) k.there
    ] in
    subst (λ i. StandsIn i (items_from outputs instant now)) (sym k.is) (holds outputs instant now k.ahead k.number there)

-- a number that comes into a bucket is one item more
pub items_with : (outputs : List ℕ) (instant : ℕ) (buckets : List NumberSet) (ahead part output : ℕ) → All (IsBucket outputs) buckets → ahead < length buckets → IsOutput outputs part output → part < 2 ^ 32
    → items_from outputs instant (set buckets ahead (with_number (number_of outputs part output) (bucket_at buckets ahead)))
    ≡ with_value is_before (instant + ahead, part, output) (items_from outputs instant buckets)
items_with outputs instant buckets ahead part output each inside there fits =
    let number = number_of outputs part output in
    let place : place_of outputs number ≡ (part, output) = place_of-number_of outputs part output there in
    let item = item_at outputs (instant + ahead) number in
    let named : item ≡ (instant + ahead, part, output) = ap (λ (p : ℕ × ℕ). item_of (instant + ahead) p) place in
    let bucket = with_number number (bucket_at buckets ahead) in
    let now = set buckets ahead bucket in
    let itself : bucket_at now ahead ≡ bucket = get_or-set_same buckets ahead bucket no_bucket inside in
    let fits' : (place_of outputs number).0 < 2 ^ 32 = subst (λ (p : ℕ × ℕ). p.0 < 2 ^ 32) (sym place) fits in
    let each' : All (IsBucket outputs) now = All-set (IsBucket outputs) buckets ahead bucket (bucket_with outputs number (bucket_at buckets ahead) (each ahead no_bucket inside) (number_of-below outputs part output there) fits') each in
    subst (λ i. items_from outputs instant now ≡ with_value is_before i (items_from outputs instant buckets)) named
    (same_rising is_before order_of_items (items_from outputs instant now) (with_value is_before item (items_from outputs instant buckets))
    (rising_items outputs instant now each')
    (with_rising is_before order_of_items item (items_from outputs instant buckets) (rising_items outputs instant buckets each))
    (λ z s. let k = held outputs instant now z s in into outputs instant buckets ahead number z k inside)
    (λ z s. elim (stands_in_with is_before item (items_from outputs instant buckets) z s) [
      | inl same ↦ subst (λ i. StandsIn i (items_from outputs instant now)) (sym same)
          (holds outputs instant now ahead number (subst (λ (b : NumberSet). StandsIn number b.numbers) (sym itself) (with_stands_itself ltb order_of_numbers number (bucket_at buckets ahead).numbers)))
      | inr t ↦ let k = held outputs instant buckets z t in back outputs instant buckets ahead number z k inside
    ]))

-- idle buckets in front stand for nothing
pub items_skip : (outputs : List ℕ) (instant : ℕ) (buckets : List NumberSet) (ahead : ℕ) → ((earlier : ℕ) → earlier < ahead → (bucket_at buckets earlier).numbers ≡ []) → ahead ≤ length buckets
    → items_from outputs instant buckets ≡ items_from outputs (instant + ahead) (drop ahead buckets)
items_skip outputs instant buckets zero idle h = let same : instant ≡ instant + 0 = omega arith in ap (λ i. items_from outputs i buckets) same
items_skip outputs instant [] (suc ahead) idle h = absurd (omega (arith, h))
items_skip outputs instant (bucket ∷ buckets) (suc ahead) idle h =
    let same : instant + 1 + ahead ≡ instant + suc ahead = omega arith in
    ap (λ ns. map (item_at outputs instant) ns ++ items_from outputs (instant + 1) buckets) (idle 0 (omega arith))
    ∙ items_skip outputs (instant + 1) buckets ahead (λ earlier k. idle (suc earlier) (omega (arith, k))) (omega (arith, h))
    ∙ ap (λ i. items_from outputs i (drop ahead buckets)) same

-- idle buckets stand for nothing
pub items_idle : (outputs : List ℕ) (instant : ℕ) (buckets : List NumberSet) → AreIdle buckets → items_from outputs instant buckets ≡ []
items_idle outputs instant [] idle = refl
items_idle outputs instant (bucket ∷ buckets) idle =
    ap (λ ns. map (item_at outputs instant) ns ++ items_from outputs (instant + 1) buckets) (idle 0 (omega arith))
    ∙ items_idle outputs (instant + 1) buckets (λ ahead h. idle (suc ahead) (omega (arith, h)))

-- idle buckets at the end stand for nothing
pub items_end : (outputs : List ℕ) (instant : ℕ) (buckets more : List NumberSet) → AreIdle more → items_from outputs instant (buckets ++ more) ≡ items_from outputs instant buckets
items_end outputs instant [] more idle = items_idle outputs instant more idle
items_end outputs instant (bucket ∷ buckets) more idle = ap (λ is. map (item_at outputs instant) bucket.numbers ++ is) (items_end outputs (instant + 1) buckets more idle)

no_number : (numbers : List ℕ) → ((number : ℕ) → StandsIn number numbers → ⊥) → numbers ≡ []
no_number [] none = refl
no_number (x ∷ xs) none = absurd (none x (inl refl))

first_of_bucket : (outputs : List ℕ) (instant : ℕ) (numbers : List ℕ) (items : List Item) → numbers ≢ [] → first_instant (map (item_at outputs instant) numbers ++ items) ≡ Some instant
first_of_bucket outputs instant [] items busy = absurd (busy refl)
first_of_bucket outputs instant (x ∷ xs) items busy = refl

-- the buckets of a queue that has no item are idle
pub idle_from_none : (outputs : List ℕ) (instant : ℕ) (buckets : List NumberSet) → items_from outputs instant buckets ≡ [] → AreIdle buckets
idle_from_none outputs instant buckets none ahead inside = no_number (bucket_at buckets ahead).numbers
    (λ number s. subst (λ is. StandsIn (item_at outputs (instant + ahead) number) is) none (holds outputs instant buckets ahead number s))

-- the earlier buckets, put behind the later ones, are idle
pub front_idle : (buckets : List NumberSet) (ahead : ℕ) → IsFirstBusy buckets ahead → AreIdle (take ahead buckets)
front_idle buckets ahead first k h =
    let long : length (take ahead buckets) ≡ ahead = length-take-le ahead buckets (omega (arith, first.within)) in
    let inside : k < ahead = omega (arith, h, long) in
    ap (λ (b : NumberSet). b.numbers) (get_or-take ahead buckets k no_bucket inside) ∙ first.before k inside

-- the first number of the first busy bucket is that of the first item
pub items_taken : (outputs : List ℕ) (instant : ℕ) (buckets : List NumberSet) (ahead number : ℕ) (rest : NumberSet) → IsFirstBusy buckets ahead
    → (bucket_at buckets ahead).numbers ≡ number ∷ rest.numbers
    → items_from outputs instant buckets ≡ item_at outputs (instant + ahead) number ∷ items_from outputs (instant + ahead) (set (drop ahead buckets ++ take ahead buckets) 0 rest)
items_taken outputs instant buckets ahead number rest first numbers =
    let later = drop (ahead + 1) buckets in
    let front = take ahead buckets in
    let i = instant + ahead in
    let split : drop ahead buckets ≡ bucket_at buckets ahead ∷ later = drop_more buckets ahead no_bucket first.within in
    let turned : set (drop ahead buckets ++ front) 0 rest ≡ rest ∷ (later ++ front) = ap (λ bs. set (bs ++ front) 0 rest) split in
    items_skip outputs instant buckets ahead first.before (omega (arith, first.within))
    ∙ ap (items_from outputs i) split
    ∙ ap (λ ns. map (item_at outputs i) ns ++ items_from outputs (i + 1) later) numbers
    ∙ ap (λ is. item_at outputs i number ∷ (map (item_at outputs i) rest.numbers ++ is)) (sym (items_end outputs (i + 1) later front (front_idle buckets ahead first)))
    ∙ ap (λ bs. item_at outputs i number ∷ items_from outputs i bs) (sym turned)

-- the first item is at the instant of the first busy bucket
pub instant_of_first : (outputs : List ℕ) (instant : ℕ) (buckets : List NumberSet) (ahead : ℕ) → IsFirstBusy buckets ahead → first_instant (items_from outputs instant buckets) ≡ Some (instant + ahead)
instant_of_first outputs instant buckets ahead first =
    ap first_instant (items_skip outputs instant buckets ahead first.before (omega (arith, first.within)) ∙ ap (items_from outputs (instant + ahead)) (drop_more buckets ahead no_bucket first.within))
    ∙ first_of_bucket outputs (instant + ahead) (bucket_at buckets ahead).numbers (items_from outputs (instant + ahead + 1) (drop (ahead + 1) buckets)) first.busy

-- What a circle of buckets keeps.
use Rattle.std.proofs.Common.{◌≡◌, ◌≢◌, ℕ, ◌+◌, ◌-◌, ◌<◌, ◌≤◌, ◌^◌, ltb, List, [], ◌∷◌, ◌++◌, length, set, take, drop, refl, sym, ap, ◌∙◌, subst, arith, inl, inr, length-set, length-append, length-take-le, length-drop}
use Rattle.std.specs.List.{All}
use Rattle.std.proofs.lemmas.Bool.{cases_lt, cases_eq}
use Rattle.std.proofs.lemmas.List.{get_or-set_other, get_or-drop, get_or_append_left, get_or-append_right}
use Rattle.std.proofs.lemmas.List.Elements.{All-append, All-take, All-drop, All-set}
use Rattle.lg_queue.specs.NumberSet.{NumberSet, with_number}
use Rattle.lg_queue.specs.Numbering.{IsOutput, number_of, place_of}
use Rattle.lg_queue.specs.Order.{StandsIn, IsRising, with_value}
use Rattle.lg_queue.specs.Pending.{Item, Pending, IsPending, is_before, with_item}
use Rattle.lg_queue.specs.Buckets.{items_from, no_bucket, bucket_at, IsBucket, IsEmptyBucket, IsFirstBusy, AreIdle, AreInRange}
use Rattle.lg_queue.proofs.BucketLemmas.{held, busy_within, rising_items, front_idle, items_idle, bucket_with, items_with, items_taken}
use Rattle.lg_queue.proofs.NumberingLemmas.{place_of-number_of, number_of-below, place_of-output}

abbrev pub item_of : ℕ → ℕ × ℕ → Item
item_of instant place = (instant, place.0, place.1)

abbrev pub pending_from : List ℕ → ℕ → List NumberSet → Pending
pending_from outputs instant buckets = record {
  current = instant;
  span = length buckets - 1;
  outputs = outputs;
  items = items_from outputs instant buckets;
}

-- what buckets stand for is pending
pub pending : (outputs : List ℕ) (instant : ℕ) (buckets : List NumberSet) → All (IsBucket outputs) buckets → IsPending (pending_from outputs instant buckets)
pending outputs instant buckets each = record {
  rising = rising_items outputs instant buckets each;
  in_span = λ item s.
      let k = held outputs instant buckets item s in
      let inside = busy_within buckets k.ahead k.number k.there in
      let at : item.0 ≡ instant + k.ahead = ap (λ (i : Item). i.0) k.is in
      (omega (arith, at), omega (arith, at, inside));
  outputs = λ item s.
      let k = held outputs instant buckets item s in
      let is : IsBucket outputs (bucket_at buckets k.ahead) = each k.ahead no_bucket (busy_within buckets k.ahead k.number k.there) in
      subst (λ (i : Item). IsOutput outputs i.1 i.2) (sym k.is) (place_of-output outputs k.number (is.each k.number k.there).0);
}

-- a bucket of an instant in range may come to have a number
pub in_range_with : (instant : ℕ) (buckets : List NumberSet) (ahead : ℕ) (bucket : NumberSet) → AreInRange instant buckets → instant + ahead < 2 ^ 64 → AreInRange instant (set buckets ahead bucket)
in_range_with instant buckets ahead bucket range fits k inside busy = elim (cases_eq k ahead) [
  | inl same ↦ omega (arith, same, fits)
  | inr differ ↦ range k (omega (arith, inside, length-set buckets ahead bucket))
      (λ none. busy (ap (λ (b : NumberSet). b.numbers) (get_or-set_other buckets ahead k bucket no_bucket differ) ∙ none))
]

-- a bucket with an output more
pub bucket_put : (outputs : List ℕ) (part output : ℕ) (bucket new : NumberSet) → IsBucket outputs bucket → IsOutput outputs part output → part < 2 ^ 32
    → new ≡ with_number (number_of outputs part output) bucket → IsBucket outputs new
bucket_put outputs part output bucket new is there fits same =
    let place = place_of-number_of outputs part output there in
    subst (IsBucket outputs) (sym same)
    (bucket_with outputs (number_of outputs part output) bucket is (number_of-below outputs part output there) (omega (arith, fits, ap (λ (p : ℕ × ℕ). p.0) place)))

abbrev pending_at : ℕ → List ℕ → ℕ → List Item → Pending
pending_at instant outputs span items = record { current = instant; span = span; outputs = outputs; items = items }

abbrev with_one : ℕ → ℕ → ℕ → List Item → List Item
with_one part output instant items = with_value is_before (instant, part, output) items

-- buckets with an output more at an instant stand for one item more
pub pending_put : (outputs : List ℕ) (now instant : ℕ) (buckets : List NumberSet) (part output : ℕ) (new : NumberSet) → All (IsBucket outputs) buckets
    → now ≤ instant → instant - now < length buckets → IsOutput outputs part output → part < 2 ^ 32
    → new ≡ with_number (number_of outputs part output) (bucket_at buckets (instant - now))
    → pending_from outputs now (set buckets (instant - now) new) ≡ with_item (instant, part, output) (pending_from outputs now buckets)
pending_put outputs now instant buckets part output new each from inside there fits same =
    let ahead = instant - now in
    let at : now + ahead ≡ instant = omega (arith, from) in
    let span : length (set buckets ahead new) - 1 ≡ length buckets - 1 = ap (λ n. n - 1) (length-set buckets ahead new) in
    let items : items_from outputs now (set buckets ahead new) ≡ with_value is_before (instant, part, output) (items_from outputs now buckets) =
    ap (λ b. items_from outputs now (set buckets ahead b)) same
    ∙ items_with outputs now buckets ahead part output each inside there fits
    ∙ ap (λ i. with_one part output i (items_from outputs now buckets)) at in
    ap (λ n. pending_at now outputs n (items_from outputs now (set buckets ahead new))) span
    ∙ ap (pending_at now outputs (length buckets - 1)) items

-- a bucket without its first number
pub bucket_rest : (outputs : List ℕ) (number : ℕ) (bucket rest : NumberSet) → IsBucket outputs bucket → bucket.numbers ≡ number ∷ rest.numbers → rest.room ≡ bucket.room → IsBucket outputs rest
bucket_rest outputs number bucket rest is numbers room = record {
  rising = let whole : IsRising ltb (number ∷ rest.numbers) = subst (λ ns. IsRising ltb ns) numbers is.rising in whole.1;
  each = λ n s. is.each n (subst (λ ns. StandsIn n ns) (sym numbers) (inr s));
  room = omega (arith, is.room, room);
}

-- the circle, turned to its first busy bucket
abbrev pub turned : ℕ → List NumberSet → List NumberSet
turned ahead buckets = drop ahead buckets ++ take ahead buckets

pub length_turned : (ahead : ℕ) (buckets : List NumberSet) → ahead ≤ length buckets → length (turned ahead buckets) ≡ length buckets
length_turned ahead buckets h =
    omega (arith, h, length-append (drop ahead buckets) (take ahead buckets), length-drop ahead buckets, length-take-le ahead buckets h)

-- the first bucket of the turned circle
pub front_of_turned : (buckets : List NumberSet) (ahead : ℕ) → ahead < length buckets → bucket_at (turned ahead buckets) 0 ≡ bucket_at buckets ahead
front_of_turned buckets ahead inside =
    let here : ahead + 0 ≡ ahead = omega arith in
    get_or_append_left (drop ahead buckets) (take ahead buckets) no_bucket 0 (omega (arith, inside, length-drop ahead buckets))
    ∙ get_or-drop ahead buckets 0 no_bucket
    ∙ ap (bucket_at buckets) here

-- the first item, and the items of the turned circle without its first number
pub first_and_rest : (outputs : List ℕ) (instant : ℕ) (buckets now : List NumberSet) (ahead number : ℕ) (rest : NumberSet) (place : ℕ × ℕ) → IsFirstBusy buckets ahead
    → (bucket_at buckets ahead).numbers ≡ number ∷ rest.numbers → now ≡ turned ahead buckets → place ≡ place_of outputs number
    → items_from outputs instant buckets ≡ item_of (instant + ahead) place ∷ items_from outputs (instant + ahead) (set now 0 rest)
first_and_rest outputs instant buckets now ahead number rest place first numbers turn is =
    let i = instant + ahead in
    items_taken outputs instant buckets ahead number rest first numbers
    ∙ ap (λ p. item_of i p ∷ items_from outputs i (set (turned ahead buckets) 0 rest)) (sym is)
    ∙ ap (λ bs. item_of i place ∷ items_from outputs i (set bs 0 rest)) (sym turn)

pub each_taken : (outputs : List ℕ) (buckets : List NumberSet) (ahead number : ℕ) (rest : NumberSet) → All (IsBucket outputs) buckets → ahead < length buckets
    → (bucket_at buckets ahead).numbers ≡ number ∷ rest.numbers → rest.room ≡ (bucket_at buckets ahead).room
    → All (IsBucket outputs) (set (turned ahead buckets) 0 rest)
each_taken outputs buckets ahead number rest each inside numbers room =
    All-set (IsBucket outputs) (turned ahead buckets) 0 rest
    (bucket_rest outputs number (bucket_at buckets ahead) rest (each ahead no_bucket inside) numbers room)
    (All-append (IsBucket outputs) (drop ahead buckets) (take ahead buckets) (All-drop (IsBucket outputs) ahead buckets each) (All-take (IsBucket outputs) ahead buckets each))

-- a later bucket of the turned circle that has a number is in range
later_in_range : (instant : ℕ) (buckets : List NumberSet) (ahead k : ℕ) → IsFirstBusy buckets ahead → AreInRange instant buckets → k < length (turned ahead buckets)
    → (bucket_at (turned ahead buckets) k).numbers ≢ [] → instant + ahead + k < 2 ^ 64
later_in_range instant buckets ahead k first range inside busy =
    let back = drop ahead buckets in
    let front = take ahead buckets in
    let long = length-drop ahead buckets in
    elim (cases_lt k (length back)) [
      | inl near ↦
          let found : bucket_at (turned ahead buckets) k ≡ bucket_at buckets (ahead + k) = get_or_append_left back front no_bucket k near ∙ get_or-drop ahead buckets k no_bucket in
          omega (arith, range (ahead + k) (omega (arith, near, long)) (λ none. busy (ap (λ (b : NumberSet). b.numbers) found ∙ none)))
      | inr far ↦
          let found : bucket_at (turned ahead buckets) k ≡ bucket_at front (k - length back) = get_or-append_right back front (length back) k no_bucket refl far in
          let within : k - length back < length front = omega (arith, far, inside, length-append back front) in
          absurd (busy (ap (λ (b : NumberSet). b.numbers) found ∙ front_idle buckets ahead first (k - length back) within))
    ]

-- the turned circle without its first number stays in range
pub in_range_taken : (instant : ℕ) (buckets : List NumberSet) (ahead : ℕ) (rest : NumberSet) → IsFirstBusy buckets ahead → AreInRange instant buckets
    → AreInRange (instant + ahead) (set (turned ahead buckets) 0 rest)
in_range_taken instant buckets ahead rest first range k inside busy = elim (cases_eq k 0) [
  | inl start ↦ omega (arith, start, range ahead first.within first.busy)
  | inr later ↦ later_in_range instant buckets ahead k first range (omega (arith, inside, length-set (turned ahead buckets) 0 rest))
      (λ none. busy (ap (λ (b : NumberSet). b.numbers) (get_or-set_other (turned ahead buckets) 0 k rest no_bucket later) ∙ none))
]

-- empty buckets are buckets without a number
pub empty_buckets : (outputs : List ℕ) (buckets : List NumberSet) → All (IsEmptyBucket outputs) buckets → All (IsBucket outputs) buckets
empty_buckets outputs buckets each k d inside =
    let is = each k d inside in
    record {
      rising = subst (λ ns. IsRising ltb ns) (sym is.none) tt;
      each = λ n s. absurd (subst (λ ns. StandsIn n ns) is.none s);
      room = is.room;
    }

pub empty_idle : (outputs : List ℕ) (buckets : List NumberSet) → All (IsEmptyBucket outputs) buckets → AreIdle buckets
empty_idle outputs buckets each ahead inside = (each ahead no_bucket inside).none

-- idle buckets stand for nothing
pub nothing_pending : (outputs counts : List ℕ) (instant span : ℕ) (buckets : List NumberSet) → AreIdle buckets → length buckets - 1 ≡ span → outputs ≡ counts
    → pending_from outputs instant buckets ≡ pending_at instant counts span []
nothing_pending outputs counts instant span buckets idle long same =
    ap (pending_at instant outputs (length buckets - 1)) (items_idle outputs instant buckets idle)
    ∙ ap (λ n. pending_at instant outputs n []) long
    ∙ ap (λ os. pending_at instant os span []) same

-- idle buckets are in range from any instant on
pub idle_in_range : (instant : ℕ) (buckets : List NumberSet) → AreIdle buckets → AreInRange instant buckets
idle_in_range instant buckets idle ahead inside busy = absurd (busy (idle ahead inside))

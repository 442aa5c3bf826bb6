-- Columns bound one after another, over indexes of names.
use Rattle.std.proofs.Common.{◌≡◌, ℕ, zero, suc, ◌+◌, ◌<◌, Bool, true, false, cond, ◌||◌, List, [], ◌∷◌, ◌++◌, length, get_or, take, drop, Option, Some, None, refl, sym, ap, subst, ◌∙◌, arith, append_assoc}
use Rattle.std.specs.Prelude.{slice_get, String}
use Rattle.std.specs.declared.alloc.Global.{Global}
use Rattle.std.specs.BTreeMap.{BTreeMap, get_by_text}
use Rattle.std.specs.BTreeSet.{BTreeSet, contains_text}
use Rattle.std.specs.Map.{update}
use Rattle.std.specs.Str.{bytes_eq}
use Rattle.std.proofs.lemmas.List.{append-nil, map-append}
use Rattle.std.proofs.lemmas.List.Elements.{All-more}
use Rattle.std.proofs.lemmas.List.Folds.{list_any-append}
use Rattle.std.proofs.lemmas.Option.{slice_get_within, get_or_from_slice_get}
use Rattle.std.proofs.lemmas.Slice.Eq.{bytes_eq-Decides}
use Rattle.lg_vectors.specs.declared.fault.VectorFault.{VectorFault}
use Rattle.lg_vectors.specs.declared.pin.PinShape.{PinShape}
use Rattle.lg_vectors.specs.declared.column.Column.{Column}
use Rattle.lg_vectors.specs.Binding.{column_names, pin_names, has_name, IsNamesake, IsPinOf, AreBound, IsColumnFault, IsBindFault, HaveColumns, IsFirstWithout}
use Rattle.lg_vectors.specs.Known.{KnowsNames, KnowsPins}

-- what stands under a name stands among the pins
pub place_within : (pins : List PinShape) (index : BTreeMap (String Global) ℕ) (name : List ℕ) (place : ℕ) → KnowsPins pins index → get_by_text index name ≡ Some place → place < length pins
place_within pins index name place known h =
    let f = known.found name place h in
    slice_get_within pins place f.0 f.1

-- and has that name
pub namesake_at : (pins : List PinShape) (index : BTreeMap (String Global) ℕ) (column : Column) (place : ℕ) (pin : PinShape) → KnowsPins pins index → get_by_text index column.name ≡ Some place → pin ≡ get_or pins place pin → IsNamesake pins column place pin
namesake_at pins index column place pin known h read =
    let f = known.found column.name place h in
    let same : f.0 ≡ pin = sym (get_or_from_slice_get pins place f.0 pin f.1) ∙ sym read in
    subst (λ (p : PinShape). IsNamesake pins column place p) same record { stands = f.1; named = f.2 }

slice_get-append : {X : Type 0} (xs ys : List X) (k : ℕ) (x : X) → slice_get xs k ≡ Some x → slice_get (xs ++ ys) k ≡ Some x
slice_get-append [] ys k x h = absurd (cc h)
slice_get-append (y ∷ xs) ys zero x h = h
slice_get-append (y ∷ xs) ys (suc k) x h = slice_get-append xs ys k x h

slice_get-last : {X : Type 0} (xs : List X) (x : X) → slice_get (xs ++ x ∷ []) (length xs) ≡ Some x
slice_get-last [] x = refl
slice_get-last (y ∷ xs) x = slice_get-last xs x

bytes_eq_flip : (a b : Bool) (xs ys : List ℕ) → bytes_eq xs ys ≡ a → bytes_eq ys xs ≡ b → a ≡ b
bytes_eq_flip true true xs ys e f = refl
bytes_eq_flip false false xs ys e f = refl
bytes_eq_flip true false xs ys e f = sym ((bytes_eq-Decides ys xs).1 (sym ((bytes_eq-Decides xs ys).0 e))) ∙ f
bytes_eq_flip false true xs ys e f = sym e ∙ (bytes_eq-Decides xs ys).1 (sym ((bytes_eq-Decides ys xs).0 f))

-- one name more among names
has_name-more : (names : List (List ℕ)) (name q : List ℕ) → has_name (names ++ name ∷ []) q ≡ (has_name names q || bytes_eq name q)
has_name-more names name q =
    let flip : bytes_eq q name ≡ bytes_eq name q = bytes_eq_flip (bytes_eq q name) (bytes_eq name q) q name refl refl in
    list_any-append (bytes_eq q) names (name ∷ []) ∙ or_last (has_name names q) (bytes_eq q name) (bytes_eq name q) flip
  where
    or_last : (a b c : Bool) → b ≡ c → (a || (b || false)) ≡ (a || c)
    or_last true b c e = refl
    or_last false true c e = e
    or_last false false c e = e

pub column_names-more : (columns : List Column) (column : Column) → column_names (columns ++ column ∷ []) ≡ column_names columns ++ column.name ∷ []
column_names-more columns column = map-append (λ (c : Column). c.name) columns (column ∷ [])

pin_names-more : (pins : List PinShape) (pin : PinShape) → pin_names (pins ++ pin ∷ []) ≡ pin_names pins ++ pin.name ∷ []
pin_names-more pins pin = map-append (λ (p : PinShape). p.name) pins (pin ∷ [])

-- a set of names takes one more
pub KnowsNames-more : (names : List (List ℕ)) (name : List ℕ) (seen after : BTreeSet (String Global)) → KnowsNames names seen → ((q : List ℕ) → contains_text after q ≡ cond (bytes_eq name q) true (contains_text seen q))
    → KnowsNames (names ++ name ∷ []) after
KnowsNames-more names name seen after known e = record {
  known = λ q. e q ∙ grown (bytes_eq name q) (contains_text seen q) (has_name names q) (known.known q) ∙ sym (has_name-more names name q);
}
  where
    grown : (here old had : Bool) → old ≡ had → cond here true old ≡ (had || here)
    grown true old true h = refl
    grown true old false h = refl
    grown false old true h = h
    grown false old false h = h

abbrev PinUnder : List PinShape → List ℕ → ℕ → Type 0
PinUnder pins name place = (pin : PinShape) × (slice_get pins place ≡ Some pin) × (pin.name ≡ name)

found_more : (pins : List PinShape) (pin : PinShape) (name : List ℕ) (place n : ℕ) (here : Bool) (old : Option ℕ) → n ≡ length pins → bytes_eq pin.name name ≡ here → (old ≡ Some place → PinUnder pins name place) → cond here (Some n) old ≡ Some place
    → PinUnder (pins ++ pin ∷ []) name place
found_more pins pin name place n true old e same before h =
    let at : length pins ≡ place = sym e ∙ cc h in
    (pin, rw (← at) (slice_get-last pins pin), (bytes_eq-Decides pin.name name).0 same)
found_more pins pin name place n false old e same before h =
    let had = before h in
    (had.0, slice_get-append pins (pin ∷ []) place had.0 had.1, had.2)

none_more : (had here : Bool) (n : ℕ) (old : Option ℕ) → (old ≡ None → had ≡ false) → cond here (Some n) old ≡ None → (had || here) ≡ false
none_more had true n old before h = absurd (cc h)
none_more had false n old before h = rw (before h) refl

-- an index takes one more pin
pub KnowsPins-more : (pins : List PinShape) (pin : PinShape) (n : ℕ) (index after : BTreeMap (String Global) ℕ) → n ≡ length pins → KnowsPins pins index → ((q : List ℕ) → get_by_text after q ≡ update bytes_eq (λ (q : List ℕ). get_by_text index q) pin.name (Some n) q)
    → KnowsPins (pins ++ pin ∷ []) after
KnowsPins-more pins pin n index after here known e = record {
  found = λ name place h. found_more pins pin name place n (bytes_eq pin.name name) (get_by_text index name) here refl (known.found name place) (sym (e name) ∙ h);
  none = λ name h.
      rw (pin_names-more pins pin, has_name-more (pin_names pins) pin.name name)
      (none_more (has_name (pin_names pins) name) (bytes_eq pin.name name) n (get_by_text index name) (known.none name) (sym (e name) ∙ h));
}

-- one column more is bound
pub AreBound-more : (earlier : List (List ℕ)) (pins : List PinShape) (columns : List Column) (places : List ℕ) (column : Column) (place : ℕ) → AreBound earlier pins columns places → has_name (earlier ++ column_names columns) column.name ≡ false → IsPinOf pins column place
    → AreBound earlier pins (columns ++ column ∷ []) (places ++ place ∷ [])
AreBound-more earlier pins [] [] column place bound new pin = (rw append-nil at new, pin, tt)
AreBound-more earlier pins [] (p ∷ places) column place bound new pin = absurd bound
AreBound-more earlier pins (c ∷ columns) [] column place bound new pin = absurd bound
AreBound-more earlier pins (c ∷ columns) (p ∷ places) column place bound new pin =
    let later : has_name ((earlier ++ c.name ∷ []) ++ column_names columns) column.name ≡ false = rw append_assoc new in
    (bound.0, bound.1, AreBound-more (earlier ++ c.name ∷ []) pins columns places column place bound.2 later pin)

cut_at : {X : Type 0} (xs : List X) (i : ℕ) (x : X) → i < length xs → x ≡ get_or xs i x → xs ≡ take i xs ++ x ∷ drop (i + 1) xs
cut_at [] i x h e = absurd (omega (arith, h))
cut_at (y ∷ xs) zero x h e = cc
cut_at (y ∷ xs) (suc i) x h e = rw (suc_more i) (ap (λ t. y ∷ t) (cut_at xs i x (omega (arith, h)) e))
  where
    suc_more : (i : ℕ) → suc i + 1 ≡ suc (i + 1)
    suc_more i = omega arith

-- the first column that is not bound
pub fault_at : (pins : List PinShape) (columns : List Column) (places : List ℕ) (at : ℕ) (column : Column) (fault : VectorFault) → at < length columns → column ≡ get_or columns at column → AreBound [] pins (take at columns) places
    → IsColumnFault (column_names (take at columns)) pins column fault → IsBindFault pins columns fault
fault_at pins columns places at column fault inside read bound bad = record {
  before = take at columns;
  column = column;
  after = drop (at + 1) columns;
  places = places;
  parts = cut_at columns at column inside read;
  bound = bound;
  bad = bad;
}

-- the first pin without a column
pub without_at : (columns : List Column) (pins : List PinShape) (at : ℕ) (pin : PinShape) (name : List ℕ) → at < length pins → pin ≡ get_or pins at pin → HaveColumns columns (take at pins) → has_name (column_names columns) pin.name ≡ false → name ≡ pin.name
    → IsFirstWithout columns pins name
without_at columns pins at pin name inside read have none named = record {
  before = take at pins;
  pin = pin;
  after = drop (at + 1) pins;
  parts = cut_at pins at pin inside read;
  named = named;
  have = have;
  without = none;
}

-- one pin more has a column
pub have_more : (columns : List Column) (pins : List PinShape) (at : ℕ) (pin : PinShape) → at < length pins → pin ≡ get_or pins at pin → HaveColumns columns (take at pins) → has_name (column_names columns) pin.name ≡ true → HaveColumns columns (take (at + 1) pins)
have_more columns pins at pin inside read have has =
    All-more (λ (p : PinShape). has_name (column_names columns) p.name ≡ true) pins at pin inside have (rw (← read) has)

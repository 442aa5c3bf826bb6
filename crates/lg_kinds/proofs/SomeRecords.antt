-- Whether fields say a record can be told.
use Rattle.std.proofs.Common.{◌≡◌, ◌≢◌, ◌∙◌, ap, sym, subst, ℕ, ℤ, pos, neg_ℤ, ◌<◌, ◌≤◌, true, false, inl, inr, List, [], ◌∷◌, ◌++◌, length, drop, Option, Some, None, refl, arith}
use Rattle.std.specs.Prelude.{codes, find, MatchOption}
use Rattle.std.specs.List.{All}
use Rattle.std.specs.Str.{bytes_eq}
use Rattle.std.specs.Int.NonZero.{non_zero_u8_get}
use Rattle.std.specs.declared.num.NonZeroU8.{NonZeroU8}
use Rattle.std.proofs.lemmas.List.{append_cancel_left}
use Rattle.csv.specs.Records.{AllText}
use Rattle.lg_text.proofs.Deciding.{Decided, SomeOrNone, both, passes, fails, at_most, below, empty, same_text, each, is_text}
use Rattle.lg_memory.specs.Image.{digit_value, number_in}
use Rattle.lg_kinds.specs.declared.cells.Cells.{Cells}
use Rattle.lg_kinds.specs.declared.kind.Kind.{Kind}
use Rattle.lg_kinds.specs.declared.kind.Kind.TheVariants.{Splitter}
use Rattle.lg_kinds.specs.declared.kind.TheConstants.{KINDS}
use Rattle.lg_kinds.specs.declared.record.Record.{Record}
use Rattle.lg_kinds.specs.declared.record.Record.TheVariants.{Port, Delay, Default, Circuit}
use Rattle.lg_kinds.specs.Cells.{cells}
use Rattle.lg_kinds.specs.Kinds.{IsOnly}
use Rattle.lg_kinds.specs.PortTable.{is_same}
use Rattle.lg_kinds.specs.Table.{name_of}
use Rattle.lg_kinds.specs.TableFile.{HasForm, IsDelay, IsNumber, IsOffset, Says, has_attribute, has_effect, has_port, is_padded}
use Rattle.lg_kinds.proofs.FormLemmas.{cell, circuit_form, circuit_says, differ, five_wanted, kind_wanted, port_form, port_says, word_wanted}
use Rattle.lg_kinds.proofs.KindLemmas.{looked_up}

number_or_not : (text : List ℕ) → SomeOrNone (IsNumber text)
number_or_not text = by (both (both (at_most 1 (length text)) (each (λ c. digit_value c < 10) (λ c. below (digit_value c) 10) text)) (fails (is_padded text)))
  where
    by : Decided (((1 ≤ length text) × All (λ c. digit_value c < 10) text) × (is_padded text ≡ false)) → SomeOrNone (IsNumber text)
    by (inl h) = inl (number_in 10 text, (record { some = h.0.0; digits = h.0.1; value = refl }, h.1))
    by (inr never) = inr (λ n h. never ((h.0.some, h.0.digits), h.1))

-- a number within a bound
number_within : (most : ℕ) (text : List ℕ) → SomeOrNone (λ n. (n ≤ most) × IsNumber text n)
number_within most text = by (number_or_not text)
  where
    held : (n : ℕ) → IsNumber text n → Decided (n ≤ most) → SomeOrNone (λ m. (m ≤ most) × IsNumber text m)
    held n h (inl few) = inl (n, (few, h))
    held n h (inr never) = inr (λ m k. never (subst (λ l. l ≤ most) (sym k.1.0.value ∙ h.0.value) k.0))

    by : SomeOrNone (IsNumber text) → SomeOrNone (λ m. (m ≤ most) × IsNumber text m)
    by (inl h) = held h.0 h.1 (at_most h.0 most)
    by (inr never) = inr (λ m k. never m k.1)

abbrev sign : List ℕ
sign = codes "-"

behind : (text digits : List ℕ) → text ≡ sign ++ drop 1 text → text ≡ sign ++ digits → digits ≡ drop 1 text
behind text digits opens e = append_cancel_left sign digits (drop 1 text) (sym e ∙ opens)

opens_with : (text digits : List ℕ) → text ≡ sign ++ digits → text ≡ sign ++ drop 1 text
opens_with text digits e = rw e refl

offset_or_not : (text : List ℕ) → SomeOrNone (IsOffset text)
offset_or_not text = by (number_within 10000 text) (same_text text (sign ++ drop 1 text)) (number_within 10000 (drop 1 text))
  where
    unsigned : ((n : ℕ) → (n ≤ 10000) × IsNumber text n → ⊥) → (text ≡ sign ++ drop 1 text → (n : ℕ) → (n ≤ 10000) × IsNumber (drop 1 text) n → ⊥) → (z : ℤ) → IsOffset text z → ⊥
    unsigned plain minus z h = elim h.2 [
      | inl k ↦ plain h.0 (h.1, k.0)
      | inr k ↦ minus (opens_with text k.0 k.1) h.0 (h.1, subst (λ d. IsNumber d h.0) (behind text k.0 (opens_with text k.0 k.1) k.1) k.2)
    ]

    by : SomeOrNone (λ n. (n ≤ 10000) × IsNumber text n) → Decided (text ≡ sign ++ drop 1 text) → SomeOrNone (λ n. (n ≤ 10000) × IsNumber (drop 1 text) n) → SomeOrNone (IsOffset text)
    by (inl h) opens digits = inl (pos h.0, (h.0, h.1.0, inl (h.1.1, refl)))
    by (inr never) (inl opens) (inl h) = inl (neg_ℤ (pos h.0), (h.0, h.1.0, inr (drop 1 text, opens, h.1.1, refl)))
    by (inr never) (inr closed) digits = inr (unsigned never (λ opens n k. closed opens))
    by (inr never) (inl opens) (inr none) = inr (unsigned never (λ _ n k. none n k))

delay_or_not : (text : List ℕ) → SomeOrNone (λ (i : NonZeroU8). IsDelay text (non_zero_u8_get i))
delay_or_not text = by (number_within 255 text)
  where
    some : (n : ℕ) → n ≤ 255 → IsNumber text n → Decided (1 ≤ n) → SomeOrNone (λ (i : NonZeroU8). IsDelay text (non_zero_u8_get i))
    some n few h (inl more) = inl (record { value = n; ok = omega (arith, more) }, (h, more, few))
    some n few h (inr never) = inr (λ i k. never (subst (λ m. 1 ≤ m) (sym k.0.0.value ∙ h.0.value) k.1))

    by : SomeOrNone (λ n. (n ≤ 255) × IsNumber text n) → SomeOrNone (λ (i : NonZeroU8). IsDelay text (non_zero_u8_get i))
    by (inl h) = some h.0 h.1.0 h.1.1 (at_most 1 h.0)
    by (inr never) = inr (λ i k. never (non_zero_u8_get i) (k.2, k.0))

abbrev Form : Cells → Type 0
Form c = SomeOrNone (HasForm (cells c))

circuit_or_not : (c : Cells) → c.word.now ≡ codes "circuit" → Form c
circuit_or_not c w = by (offset_or_not c.a.now) (offset_or_not c.b.now)
  where
    by : SomeOrNone (IsOffset c.a.now) → SomeOrNone (IsOffset c.b.now) → Form c
    by (inl x) (inl y) = inl (Circuit c.name.now c.item.now x.0 y.0, circuit_form c c.name.now c.item.now x.0 y.0 w refl refl x.1 y.1)
    by (inr never) y = inr (λ said h. let says = circuit_says c w said h in never says.0.0 says.0.1)
    by (inl x) (inr never) = inr (λ said h. let says = circuit_says c w said h in never says.1.0 says.1.1)

port_or_not : (c : Cells) (kind : Kind) → c.word.now ≡ codes "port" → IsOnly c.name.now kind → Form c
port_or_not c kind w only = by (both (fails (is_same kind Splitter)) (passes (has_port kind c.item.now))) (offset_or_not c.a.now) (offset_or_not c.b.now)
  where
    by : Decided ((is_same kind Splitter ≡ false) × (has_port kind c.item.now ≡ true)) → SomeOrNone (IsOffset c.a.now) → SomeOrNone (IsOffset c.b.now) → Form c
    by (inl p) (inl x) (inl y) = inl (Port kind c.item.now x.0 y.0, port_form c kind c.item.now x.0 y.0 w only refl p.0 p.1 x.1 y.1)
    by (inr never) x y = inr (λ said h. let says = port_says c kind w only said h in never (says.0, says.1))
    by (inl p) (inr never) y = inr (λ said h. let says = port_says c kind w only said h in never says.2.0 says.2.1)
    by (inl p) (inl x) (inr never) = inr (λ said h. let says = port_says c kind w only said h in never says.3.0 says.3.1)

-- a record for a delay says one of a kind with an effect, in the first of three fields
delay_says : (c : Cells) (kind : Kind) → c.word.now ≡ codes "delay" → IsOnly c.name.now kind → (said : Record) → HasForm (cells c) said
    → (((c.item.now ≡ []) × (c.b.now ≡ [])) × (has_effect kind ≡ true)) × ((i : NonZeroU8) × IsDelay c.a.now (non_zero_u8_get i))
delay_says c kind w only (Port of port dx dy) h = absurd (differ (codes "delay") (codes "port") c.word.now refl w (ap (cell 0) h.2))
delay_says c kind w only (Circuit sheet pin dx dy) h = absurd (differ (codes "delay") (codes "circuit") c.word.now refl w (ap (cell 0) h.2))
delay_says c kind w only (Default of attribute value) h = absurd (differ (codes "delay") (codes "default") c.word.now refl w (ap (cell 0) h.0))
delay_says c kind w only (Delay of instants) h =
    let same : of ≡ kind = only.1 of (sym (ap (cell 1) h.1)) in (
      ((ap (cell 2) h.1, ap (cell 4) h.1), sym (ap has_effect same) ∙ h.2),
      (instants, rw (sym (ap (cell 3) h.1)) at h.3),
    )

delay_or_not_for : (c : Cells) (kind : Kind) → c.word.now ≡ codes "delay" → IsOnly c.name.now kind → Form c
delay_or_not_for c kind w only = by (both (both (empty c.item.now) (empty c.b.now)) (passes (has_effect kind))) (delay_or_not c.a.now)
  where
    by : Decided (((c.item.now ≡ []) × (c.b.now ≡ [])) × (has_effect kind ≡ true)) → SomeOrNone (λ (i : NonZeroU8). IsDelay c.a.now (non_zero_u8_get i)) → Form c
    by (inl p) (inl i) = let item = p.0.0 in let last = p.0.1 in let named = only.0 in inl (Delay kind i.0, (c.a.now, cc (w, named, item, last), p.1, i.1))
    by (inr never) i = inr (λ said h. never (delay_says c kind w only said h).0)
    by (inl p) (inr never) = inr (λ said h. let says = delay_says c kind w only said h in never says.1.0 says.1.1)

-- a record for a default says one of an attribute that the kind has
default_says : (c : Cells) (kind : Kind) → c.word.now ≡ codes "default" → IsOnly c.name.now kind → (said : Record) → HasForm (cells c) said
    → (c.b.now ≡ []) × (has_attribute kind c.item.now ≡ true)
default_says c kind w only (Port of port dx dy) h = absurd (differ (codes "default") (codes "port") c.word.now refl w (ap (cell 0) h.2))
default_says c kind w only (Circuit sheet pin dx dy) h = absurd (differ (codes "default") (codes "circuit") c.word.now refl w (ap (cell 0) h.2))
default_says c kind w only (Delay of instants) h = absurd (differ (codes "default") (codes "delay") c.word.now refl w (ap (cell 0) h.1))
default_says c kind w only (Default of attribute value) h =
    let same : of ≡ kind = only.1 of (sym (ap (cell 1) h.0)) in
    (ap (cell 4) h.0, ap (λ t. has_attribute kind t) (ap (cell 2) h.0) ∙ (sym (ap (λ k. has_attribute k attribute) same) ∙ h.1))

default_or_not : (c : Cells) (kind : Kind) → c.word.now ≡ codes "default" → IsOnly c.name.now kind → Form c
default_or_not c kind w only = by (both (empty c.b.now) (passes (has_attribute kind c.item.now)))
  where
    by : Decided ((c.b.now ≡ []) × (has_attribute kind c.item.now ≡ true)) → Form c
    by (inl p) = let last = p.0 in let named = only.0 in inl (Default kind c.item.now c.a.now, (cc (w, named, last), p.1))
    by (inr never) = inr (λ said h. never (default_says c kind w only said h))

-- fields that name a kind
of_kind : (c : Cells) (kind : Kind) → c.word.now ≢ codes "circuit" → IsOnly c.name.now kind → Form c
of_kind c kind other only = by (same_text c.word.now (codes "port")) (same_text c.word.now (codes "delay")) (same_text c.word.now (codes "default"))
  where
    by : Decided (c.word.now ≡ codes "port") → Decided (c.word.now ≡ codes "delay") → Decided (c.word.now ≡ codes "default") → Form c
    by (inl w) delay default = port_or_not c kind w only
    by (inr port) (inl w) default = delay_or_not_for c kind w only
    by (inr port) (inr delay) (inl w) = default_or_not c kind w only
    by (inr port) (inr delay) (inr default) = inr (word_wanted c other port delay default)

abbrev Named : List ℕ → Option Kind → Type 0
Named name o = MatchOption o ((kind : Kind) → name_of kind ≢ name) (λ kind. IsOnly name kind)

five_or_not : (c : Cells) → Form c
five_or_not c = by (same_text c.word.now (codes "circuit"))
  where
    by_kind : c.word.now ≢ codes "circuit" → (o : Option Kind) → Named c.name.now o → Form c
    by_kind other None none = inr (kind_wanted c none other)
    by_kind other (Some kind) only = of_kind c kind other only

    by : Decided (c.word.now ≡ codes "circuit") → Form c
    by (inl w) = circuit_or_not c w
    by (inr other) = by_kind other (find (λ k. bytes_eq (name_of k) c.name.now) KINDS) (looked_up c.name.now (find (λ k. bytes_eq (name_of k) c.name.now) KINDS) refl)

-- five fields, as they are named
abbrev as_cells : List ℕ → List ℕ → List ℕ → List ℕ → List ℕ → Cells
as_cells word name item a b = record {
  word = record { ref_ptr = (0, 0); now = word };
  name = record { ref_ptr = (0, 0); now = name };
  item = record { ref_ptr = (0, 0); now = item };
  a = record { ref_ptr = (0, 0); now = a };
  b = record { ref_ptr = (0, 0); now = b };
}

form_or_not : (fields : List (List ℕ)) → SomeOrNone (HasForm fields)
form_or_not (word ∷ name ∷ item ∷ a ∷ b ∷ []) = five_or_not (as_cells word name item a b)
form_or_not [] = inr (five_wanted [] (λ e. cc e))
form_or_not (p ∷ []) = inr (five_wanted (p ∷ []) (λ e. cc e))
form_or_not (p ∷ q ∷ []) = inr (five_wanted (p ∷ q ∷ []) (λ e. cc e))
form_or_not (p ∷ q ∷ r ∷ []) = inr (five_wanted (p ∷ q ∷ r ∷ []) (λ e. cc e))
form_or_not (p ∷ q ∷ r ∷ s ∷ []) = inr (five_wanted (p ∷ q ∷ r ∷ s ∷ []) (λ e. cc e))
form_or_not (p ∷ q ∷ r ∷ s ∷ t ∷ u ∷ more) = inr (five_wanted (p ∷ q ∷ r ∷ s ∷ t ∷ u ∷ more) (λ e. cc e))

text_or_not : (fields : List (List ℕ)) → Decided (AllText fields)
unfolding AllText
text_or_not [] = inl tt
text_or_not (field ∷ fields) = both (is_text field) (text_or_not fields)

-- fields say a record, or none
pub says_or_not : (fields : List (List ℕ)) → SomeOrNone (Says fields)
says_or_not fields = by (text_or_not fields) (form_or_not fields)
  where
    by : Decided (AllText fields) → SomeOrNone (HasForm fields) → SomeOrNone (Says fields)
    by (inl t) (inl h) = inl (h.0, (t, h.1))
    by (inr never) form = inr (λ said h. never h.0)
    by (inl t) (inr never) = inr (λ said h. never said h.1)

-- What the fields of a record of a port table can say.
use Rattle.std.proofs.Common.{◌≡◌, ◌≢◌, ◌∙◌, ap, sym, ℕ, ℤ, true, false, List, [], length, get_or, refl}
use Rattle.std.specs.Prelude.{codes}
use Rattle.std.specs.Str.{bytes_eq}
use Rattle.std.proofs.lemmas.Bool.{false≢true}
use Rattle.std.proofs.lemmas.Slice.Eq.{bytes_eq-Decides}
use Rattle.lg_kinds.specs.declared.cells.Cells.{Cells}
use Rattle.lg_kinds.specs.declared.kind.Kind.{Kind}
use Rattle.lg_kinds.specs.declared.kind.Kind.TheVariants.{Splitter}
use Rattle.lg_kinds.specs.declared.record.Record.{Record}
use Rattle.lg_kinds.specs.declared.record.Record.TheVariants.{Port, Delay, Default, Circuit}
use Rattle.lg_kinds.specs.Cells.{cells}
use Rattle.lg_kinds.specs.Kinds.{IsOnly}
use Rattle.lg_kinds.specs.PortTable.{is_same}
use Rattle.lg_kinds.specs.Table.{name_of}
use Rattle.lg_kinds.specs.TableFile.{HasForm, IsOffset, has_port}

-- the field at a place
abbrev pub cell : ℕ → List (List ℕ) → List ℕ
cell i fields = get_or fields i []

-- two words of a record differ
pub differ : (v w word : List ℕ) → bytes_eq v w ≡ false → word ≡ v → word ≡ w → ⊥
differ v w word other e f = false≢true (sym other ∙ (bytes_eq-Decides v w).1 (sym e ∙ f))

-- a record for a sheet says two offsets
pub circuit_says : (c : Cells) → c.word.now ≡ codes "circuit" → (said : Record) → HasForm (cells c) said → ((x : ℤ) × IsOffset c.a.now x) × ((y : ℤ) × IsOffset c.b.now y)
circuit_says c w (Port kind port dx dy) h = absurd (differ (codes "circuit") (codes "port") c.word.now refl w (ap (cell 0) h.2))
circuit_says c w (Delay kind instants) h = absurd (differ (codes "circuit") (codes "delay") c.word.now refl w (ap (cell 0) h.1))
circuit_says c w (Default kind attribute value) h = absurd (differ (codes "circuit") (codes "default") c.word.now refl w (ap (cell 0) h.0))
circuit_says c w (Circuit sheet pin dx dy) h = ((dx, rw (sym (ap (cell 3) h.2)) at h.3), (dy, rw (sym (ap (cell 4) h.2)) at h.4))

-- fields that say a place of a pin
pub circuit_form : (c : Cells) (sheet pin : List ℕ) (dx dy : ℤ) → c.word.now ≡ codes "circuit" → sheet ≡ c.name.now → pin ≡ c.item.now → IsOffset c.a.now dx → IsOffset c.b.now dy → HasForm (cells c) (Circuit sheet pin dx dy)
circuit_form c sheet pin dx dy w s p a b = (c.a.now, c.b.now, cc, a, b)

-- a record for a port says a port that can be moved, and two offsets
pub port_says : (c : Cells) (kind : Kind) → c.word.now ≡ codes "port" → IsOnly c.name.now kind → (said : Record) → HasForm (cells c) said → (is_same kind Splitter ≡ false) × (has_port kind c.item.now ≡ true) × ((x : ℤ) × IsOffset c.a.now x) × ((y : ℤ) × IsOffset c.b.now y)
port_says c kind w only (Circuit sheet pin dx dy) h = absurd (differ (codes "port") (codes "circuit") c.word.now refl w (ap (cell 0) h.2))
port_says c kind w only (Delay of instants) h = absurd (differ (codes "port") (codes "delay") c.word.now refl w (ap (cell 0) h.1))
port_says c kind w only (Default of attribute value) h = absurd (differ (codes "port") (codes "default") c.word.now refl w (ap (cell 0) h.0))
port_says c kind w only (Port of port dx dy) h =
    let same : of ≡ kind = only.1 of (sym (ap (cell 1) h.2)) in (
      sym (ap (λ k. is_same k Splitter) same) ∙ h.3,
      ap (λ t. has_port kind t) (ap (cell 2) h.2) ∙ (sym (ap (λ k. has_port k port) same) ∙ h.4),
      (dx, rw (sym (ap (cell 3) h.2)) at h.5),
      (dy, rw (sym (ap (cell 4) h.2)) at h.6),
    )

-- fields that say a place of a port
pub port_form : (c : Cells) (kind : Kind) (port : List ℕ) (dx dy : ℤ) → c.word.now ≡ codes "port" → IsOnly c.name.now kind → port ≡ c.item.now → is_same kind Splitter ≡ false → has_port kind c.item.now ≡ true → IsOffset c.a.now dx → IsOffset c.b.now dy → HasForm (cells c) (Port kind port dx dy)
port_form c kind port dx dy w only p s has a b = let named = only.0 in (c.a.now, c.b.now, cc, s, ap (has_port kind) p ∙ has, a, b)

-- a record for no kind is one for a sheet
pub kind_wanted : (c : Cells) → ((kind : Kind) → name_of kind ≢ c.name.now) → c.word.now ≢ codes "circuit" → (said : Record) → HasForm (cells c) said → ⊥
kind_wanted c none w (Port kind port dx dy) h = none kind (sym (ap (cell 1) h.2))
kind_wanted c none w (Delay kind instants) h = none kind (sym (ap (cell 1) h.1))
kind_wanted c none w (Default kind attribute value) h = none kind (sym (ap (cell 1) h.0))
kind_wanted c none w (Circuit sheet pin dx dy) h = w (ap (cell 0) h.2)

-- a record has one of four words
pub word_wanted : (c : Cells) → c.word.now ≢ codes "circuit" → c.word.now ≢ codes "port" → c.word.now ≢ codes "delay" → c.word.now ≢ codes "default" → (said : Record) → HasForm (cells c) said → ⊥
word_wanted c circuit port delay default (Port kind item dx dy) h = port (ap (cell 0) h.2)
word_wanted c circuit port delay default (Delay kind instants) h = delay (ap (cell 0) h.1)
word_wanted c circuit port delay default (Default kind attribute value) h = default (ap (cell 0) h.0)
word_wanted c circuit port delay default (Circuit sheet pin dx dy) h = circuit (ap (cell 0) h.2)

-- a record has five fields
pub five_wanted : (fields : List (List ℕ)) → length fields ≢ 5 → (said : Record) → HasForm fields said → ⊥
five_wanted fields other (Port kind item dx dy) h = other (ap length h.2)
five_wanted fields other (Delay kind instants) h = other (ap length h.1)
five_wanted fields other (Default kind attribute value) h = other (ap length h.0)
five_wanted fields other (Circuit sheet pin dx dy) h = other (ap length h.2)

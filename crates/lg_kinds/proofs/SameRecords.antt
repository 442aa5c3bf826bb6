-- Fields say one record at most.
use Rattle.std.proofs.Common.{◌≡◌, ◌∙◌, ap, sym, subst, ℕ, ℤ, pos, neg_ℤ, ◌<◌, ◌⊎◌, inl, inr, List, [], ◌∷◌, ◌++◌, refl, arith}
use Rattle.std.specs.Prelude.{codes}
use Rattle.std.specs.List.{All, AllZip}
use Rattle.std.specs.Int.NonZero.{non_zero_u8_get}
use Rattle.std.specs.declared.num.NonZeroU8.{NonZeroU8}
use Rattle.std.proofs.lemmas.List.{append_cancel_left}
use Rattle.std.proofs.lemmas.List.Elements.{All-head}
use native.Mathlib.Bridge.{le_prop}
use Rattle.lg_memory.specs.Image.{digit_value, number_in}
use Rattle.lg_kinds.specs.declared.record.Record.{Record}
use Rattle.lg_kinds.specs.declared.record.Record.TheVariants.{Port, Delay, Default, Circuit}
use Rattle.lg_kinds.specs.TableFile.{HasForm, IsNumber, IsOffset, SayRecords, Says}
use Rattle.lg_kinds.proofs.FormLemmas.{cell, differ}
use Rattle.lg_kinds.proofs.KindLemmas.{kind_named_same}

-- no number begins with a minus
no_sign : (text digits : List ℕ) (n : ℕ) → IsNumber text n → text ≡ codes "-" ++ digits → ⊥
no_sign text digits n h e =
    let all : All (λ c. digit_value c < 10) (45 ∷ digits) = subst (All (λ c. digit_value c < 10)) e h.0.digits in
    let first : 16 < 10 = All-head (λ c. digit_value c < 10) 45 digits all in
    omega (arith, first)

number_same : (text other : List ℕ) (m n : ℕ) → text ≡ other → IsNumber text m → IsNumber other n → m ≡ n
number_same text other m n e h k = sym h.0.value ∙ (ap (number_in 10) e ∙ k.0.value)

-- a number, or one behind a minus
abbrev Signed : List ℕ → ℕ → ℤ → Type 0
Signed text n z = (IsNumber text n × (z ≡ pos n)) ⊎ ((digits : List ℕ) × (text ≡ codes "-" ++ digits) × IsNumber digits n × (z ≡ neg_ℤ (pos n)))

signed_same : (text : List ℕ) (m n : ℕ) (x y : ℤ) → Signed text m x → Signed text n y → x ≡ y
signed_same text m n x y (inl h) (inl k) = h.1 ∙ (ap pos (number_same text text m n refl h.0 k.0) ∙ sym k.1)
signed_same text m n x y (inl h) (inr k) = absurd (no_sign text k.0 m h.0 k.1)
signed_same text m n x y (inr h) (inl k) = absurd (no_sign text h.0 n k.0 h.1)
signed_same text m n x y (inr h) (inr k) =
    let digits : h.0 ≡ k.0 = append_cancel_left (codes "-") h.0 k.0 (sym h.1 ∙ k.1) in
    h.3 ∙ (ap (λ l. neg_ℤ (pos l)) (number_same h.0 k.0 m n digits h.2 k.2) ∙ sym k.3)

offset_same : (text other : List ℕ) (x y : ℤ) → text ≡ other → IsOffset text x → IsOffset other y → x ≡ y
offset_same text other x y e h k =
    let there : IsOffset text y = subst (λ t. IsOffset t y) (sym e) k in
    signed_same text h.0 there.0 x y h.2 there.2

-- delays with one number are one
made_same : (v w : ℕ) → v ≡ w → (p : 0 < v) (q : 0 < w) → ◌≡◌ {A = NonZeroU8} (record { value = v; ok = p }) (record { value = w; ok = q })
made_same v w e =
    subst (λ (u : ℕ). (p : 0 < v) (q : 0 < u) → ◌≡◌ {A = NonZeroU8} (record { value = v; ok = p }) (record { value = u; ok = q })) e
    (λ p q. λ i. record { value = v; ok = le_prop p q i })

instants_same : (a b : NonZeroU8) → non_zero_u8_get a ≡ non_zero_u8_get b → a ≡ b
instants_same a b e = made_same a.value b.value e a.ok b.ok

-- fields say one record
form_same : (fields : List (List ℕ)) (a b : Record) → HasForm fields a → HasForm fields b → a ≡ b
form_same fields (Port k p x y) (Port l q v w) h g =
    let e = sym h.2 ∙ g.2 in
    let kinds : k ≡ l = kind_named_same k l (ap (cell 1) e) in
    let names : p ≡ q = ap (cell 2) e in
    let across : x ≡ v = offset_same h.0 g.0 x v (ap (cell 3) e) h.5 g.5 in
    let down : y ≡ w = offset_same h.1 g.1 y w (ap (cell 4) e) h.6 g.6 in
    cc (kinds, names, across, down)
form_same fields (Port k p x y) (Delay l j) h g = absurd (differ (codes "port") (codes "delay") (cell 0 fields) refl (ap (cell 0) h.2) (ap (cell 0) g.1))
form_same fields (Port k p x y) (Default l q v) h g = absurd (differ (codes "port") (codes "default") (cell 0 fields) refl (ap (cell 0) h.2) (ap (cell 0) g.0))
form_same fields (Port k p x y) (Circuit s q v w) h g = absurd (differ (codes "port") (codes "circuit") (cell 0 fields) refl (ap (cell 0) h.2) (ap (cell 0) g.2))
form_same fields (Delay k i) (Port l q v w) h g = absurd (differ (codes "delay") (codes "port") (cell 0 fields) refl (ap (cell 0) h.1) (ap (cell 0) g.2))
form_same fields (Delay k i) (Delay l j) h g =
    let e = sym h.1 ∙ g.1 in
    let kinds : k ≡ l = kind_named_same k l (ap (cell 1) e) in
    let long : i ≡ j = instants_same i j (number_same h.0 g.0 (non_zero_u8_get i) (non_zero_u8_get j) (ap (cell 3) e) h.3.0 g.3.0) in
    cc (kinds, long)
form_same fields (Delay k i) (Default l q v) h g = absurd (differ (codes "delay") (codes "default") (cell 0 fields) refl (ap (cell 0) h.1) (ap (cell 0) g.0))
form_same fields (Delay k i) (Circuit s q v w) h g = absurd (differ (codes "delay") (codes "circuit") (cell 0 fields) refl (ap (cell 0) h.1) (ap (cell 0) g.2))
form_same fields (Default k p u) (Port l q v w) h g = absurd (differ (codes "default") (codes "port") (cell 0 fields) refl (ap (cell 0) h.0) (ap (cell 0) g.2))
form_same fields (Default k p u) (Delay l j) h g = absurd (differ (codes "default") (codes "delay") (cell 0 fields) refl (ap (cell 0) h.0) (ap (cell 0) g.1))
form_same fields (Default k p u) (Default l q v) h g =
    let e = sym h.0 ∙ g.0 in
    let kinds : k ≡ l = kind_named_same k l (ap (cell 1) e) in
    let names : p ≡ q = ap (cell 2) e in
    let values : u ≡ v = ap (cell 3) e in
    cc (kinds, names, values)
form_same fields (Default k p u) (Circuit s q v w) h g = absurd (differ (codes "default") (codes "circuit") (cell 0 fields) refl (ap (cell 0) h.0) (ap (cell 0) g.2))
form_same fields (Circuit r p x y) (Port l q v w) h g = absurd (differ (codes "circuit") (codes "port") (cell 0 fields) refl (ap (cell 0) h.2) (ap (cell 0) g.2))
form_same fields (Circuit r p x y) (Delay l j) h g = absurd (differ (codes "circuit") (codes "delay") (cell 0 fields) refl (ap (cell 0) h.2) (ap (cell 0) g.1))
form_same fields (Circuit r p x y) (Default l q v) h g = absurd (differ (codes "circuit") (codes "default") (cell 0 fields) refl (ap (cell 0) h.2) (ap (cell 0) g.0))
form_same fields (Circuit r p x y) (Circuit s q v w) h g =
    let e = sym h.2 ∙ g.2 in
    let sheets : r ≡ s = ap (cell 1) e in
    let pins : p ≡ q = ap (cell 2) e in
    let across : x ≡ v = offset_same h.0 g.0 x v (ap (cell 3) e) h.3 g.3 in
    let down : y ≡ w = offset_same h.1 g.1 y w (ap (cell 4) e) h.4 g.4 in
    cc (sheets, pins, across, down)

rows_same : (rows : List (List (List ℕ))) (a b : List Record) → AllZip Says rows a → AllZip Says rows b → a ≡ b
rows_same [] [] [] h k = refl
rows_same [] [] (y ∷ b) h k = absurd k
rows_same [] (x ∷ a) b h k = absurd h
rows_same (row ∷ rows) [] b h k = absurd h
rows_same (row ∷ rows) (x ∷ a) [] h k = absurd k
rows_same (row ∷ rows) (x ∷ a) (y ∷ b) h k =
    let first : x ≡ y = form_same row x y h.0.1 k.0.1 in
    let more : a ≡ b = rows_same rows a b h.1 k.1 in
    cc (first, more)

-- rows say one list of records
pub said_same : (rows : List (List (List ℕ))) (a b : List Record) → SayRecords rows a → SayRecords rows b → a ≡ b
said_same [] a b h k = h ∙ sym k
said_same (header ∷ rows) a b h k = rows_same rows a b h.1 k.1

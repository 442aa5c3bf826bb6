-- What the records of a file move, they move by 10,000 at most.
use Rattle.std.proofs.Common.{◌≡◌, subst, sym, ℕ, zero, suc, ℤ, pos, neg_ℤ, ◌≤◌, true, inl, inr, List, [], ◌∷◌, refl, arith}
use Rattle.std.specs.List.{AllZip, list_all}
use Rattle.std.proofs.lemmas.Bool.{le-leb}
use Rattle.lg_kinds.specs.declared.record.Record.{Record}
use Rattle.lg_kinds.specs.declared.record.Record.TheVariants.{Port, Delay, Default, Circuit}
use Rattle.lg_kinds.specs.PortTable.{is_near, is_within}
use Rattle.lg_kinds.specs.TableFile.{HasForm, IsOffset, SayRecords, Says}

right : (n : ℕ) → n ≤ 10000 → is_within 10000 (pos n) ≡ true
right n few = le-leb n 10000 few

left : (n : ℕ) → n ≤ 10000 → is_within 10000 (neg_ℤ (pos n)) ≡ true
left zero few = refl
left (suc n) few = rw (le-leb n 9999 (omega (arith, few))) refl

near : (text : List ℕ) (z : ℤ) → IsOffset text z → is_within 10000 z ≡ true
near text z h = elim h.2 as (λ _. is_within 10000 z ≡ true) [
  | inl k ↦ subst (λ x. is_within 10000 x ≡ true) (sym k.1) (right h.0 h.1)
  | inr k ↦ subst (λ x. is_within 10000 x ≡ true) (sym k.3) (left h.0 h.1)
]

form_near : (fields : List (List ℕ)) (said : Record) → HasForm fields said → is_near said ≡ true
form_near fields (Port kind port dx dy) h = rw (near h.0 dx h.5, near h.1 dy h.6) refl
form_near fields (Delay kind instants) h = refl
form_near fields (Default kind attribute value) h = refl
form_near fields (Circuit sheet pin dx dy) h = rw (near h.0 dx h.3, near h.1 dy h.4) refl

rows_near : (rows : List (List (List ℕ))) (records : List Record) → AllZip Says rows records → list_all is_near records ≡ true
rows_near [] [] h = refl
rows_near [] (r ∷ records) h = absurd h
rows_near (row ∷ rows) [] h = absurd h
rows_near (row ∷ rows) (r ∷ records) h = rw (form_near row r h.0.1, rows_near rows records h.1) refl

pub said_near : (rows : List (List (List ℕ))) (records : List Record) → SayRecords rows records → list_all is_near records ≡ true
said_near [] records h = rw h refl
said_near (header ∷ rows) records h = rows_near rows records h.1

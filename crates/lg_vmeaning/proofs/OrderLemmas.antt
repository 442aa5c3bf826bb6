-- Equations whose indexes keep an order stand in order.
use Rattle.std.proofs.Common.{◌≡◌, ℕ, zero, suc, ◌<◌, ◌≤◌, ◌^◌, List, [], ◌∷◌, Some, refl, sym, ap, ◌∙◌, arith, inl, inr, ◌⊎◌}
use Rattle.std.specs.Prelude.{slice_get, Contains}
use Rattle.std.specs.List.{AllByRecursion}
use Rattle.std.proofs.lemmas.Option.{same_Some}
use Rattle.lg_vtree.specs.declared.module.Assign.{Assign}
use Rattle.lg_vtree.specs.declared.module.Module.{Module}
use Rattle.lg_vrules.specs.Things.{width_of}
use Rattle.lg_vrules.specs.Depends.{names_read}
use Rattle.lg_vrules.specs.Rules.{expr_width}
use Rattle.lg_vmachine.specs.Kept.{Kept}
use Rattle.lg_vresolve.specs.Meaning.{memory_words}
use Rattle.lg_vmeaning.specs.InOrder.{IsIn, AreInOrder}
use Rattle.lg_vresolve.proofs.TermLemmas.{reads_only}
use Rattle.lg_vresolve.proofs.FitLemmas.{fits}

-- an assign stands at an index
abbrev pub At : List Assign → ℕ → Assign → Type 0
At assigns i a = slice_get assigns i ≡ Some a

-- the name is known, or an assign before this index gives it a number
abbrev pub IsEarlier : List (List ℕ) → List Assign → ℕ → List ℕ → Type 0
IsEarlier known assigns i name = IsIn known name ⊎ ((j : ℕ) × (j < i) × (b : Assign) × At assigns j b × (b.name ≡ name))

-- what the equations of a list keep, index by index
pub record KeepOrder (m : Module) (known : List (List ℕ)) (assigns : List Assign) : Type 0 where
  pub reads : (i : ℕ) (a : Assign) → At assigns i a → (name : List ℕ) → Contains (names_read a.value) name → IsEarlier known assigns i name
  pub fresh : (i : ℕ) (a : Assign) → At assigns i a → IsIn known a.name → ⊥
  pub differ : (i j : ℕ) (a b : Assign) → At assigns i a → At assigns j b → a.name ≡ b.name → i ≡ j
  pub width : (i : ℕ) (a : Assign) → At assigns i a → expr_width (width_of m) a.value ≡ Some (width_of m a.name)

keep_rest : (m : Module) (known : List (List ℕ)) (x : Assign) (assigns : List Assign) → KeepOrder m known (x ∷ assigns) → KeepOrder m (x.name ∷ known) assigns
keep_rest m known x assigns k = record {
  reads = λ i a at name here. elim (k.reads (suc i) a at name here) [
    | inl before ↦ inl (inr before)
    | inr earlier ↦ from earlier.0 earlier.1 earlier.2 earlier.3 earlier.4
  ];
  fresh = λ i a at here. new i a at here;
  differ = λ i j a b at there same. let e : suc i ≡ suc j = k.differ (suc i) (suc j) a b at there same in omega (arith, e);
  width = λ i a at. k.width (suc i) a at;
}
  where
    from : {i : ℕ} {name : List ℕ} (j : ℕ) → j < suc i → (b : Assign) → At (x ∷ assigns) j b → b.name ≡ name → IsEarlier (x.name ∷ known) assigns i name
    from zero lt b at e = inl (inl (sym e ∙ ap (λ (a : Assign). a.name) (sym (same_Some x b at))))
    from (suc j) lt b at e = inr (j, omega (arith, lt), b, at, e)

    new : (i : ℕ) (a : Assign) → At assigns i a → IsIn (x.name ∷ known) a.name → ⊥
    new i a at (inl e) = let no : suc i ≡ 0 = k.differ (suc i) 0 a x at refl e in absurd (omega (arith, no))
    new i a at (inr here) = k.fresh (suc i) a at here

-- equations that keep an order are in order
pub in_order : (m : Module) (kept : Kept) → ((name : List ℕ) → width_of m name ≤ 128) → ((name : List ℕ) → AllByRecursion (λ (word : ℕ). word < 2 ^ width_of m name) (memory_words m kept name))
    → (known : List (List ℕ)) (assigns : List Assign) → KeepOrder m known assigns → AreInOrder m kept known assigns
in_order m kept narrow words known [] k = tt
in_order m kept narrow words known (x ∷ assigns) k = (
  λ v w agree. reads_only m kept v w x.value (λ name here. agree name (before name here)),
  λ v within. (fits m kept v x.value (width_of m x.name) narrow words (k.width 0 x refl) (λ name here. within name (before name here))).within,
  k.fresh 0 x refl,
  in_order m kept narrow words (x.name ∷ known) assigns (keep_rest m known x assigns k),
)
  where
    before : (name : List ℕ) → Contains (names_read x.value) name → IsIn known name
    before name here = elim (k.reads 0 x refl name here) [
      | inl known_before ↦ known_before
      | inr earlier ↦ absurd (omega (arith, earlier.1))
    ]

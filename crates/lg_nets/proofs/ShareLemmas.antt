-- Flags that are set one after another.
use Rattle.std.proofs.Common.{◌≡◌, ℕ, ◌+◌, ◌<◌, ◌≤◌, ◌⊎◌, Bool, true, false, IsTrue, List, length, get_or, set, Some, refl, sym, ap, subst, ◌∙◌, arith, inl, inr, get_or-set_same, get_or-set_other, get_or-take, take, drop, replicate}
use Rattle.std.specs.Prelude.{slice_get}
use Rattle.std.proofs.lemmas.Bool.{cases_eq, cases_lt, false≢true}
use Rattle.std.proofs.lemmas.List.{length-set, length-replicate, get_or-replicate}
use Rattle.std.proofs.lemmas.Option.{same_Some}
use Rattle.lg_circ.specs.declared.project.Wire.{Wire}
use Rattle.lg_circ.specs.Straight.{is_straight}
use Rattle.lg_nets.specs.Shares.{Marks, PortShares, WireShares, AreShared}

-- what is marked may be said otherwise
pub Marks-as : (xs ys : List Bool) (P Q : ℕ → Type 0) → ((i : ℕ) → P i → Q i) → ((i : ℕ) → Q i → P i) → Marks xs ys P → Marks xs ys Q
Marks-as xs ys P Q to from m = record { one_each = m.one_each; marked = λ i less. (λ t. there i ((m.marked i less).0 t), λ h. (m.marked i less).1 (back i h)) }
  where
    there : (i : ℕ) → IsTrue (get_or xs i false) ⊎ P i → IsTrue (get_or xs i false) ⊎ Q i
    there i (inl t) = inl t
    there i (inr p) = inr (to i p)

    back : (i : ℕ) → IsTrue (get_or xs i false) ⊎ Q i → IsTrue (get_or xs i false) ⊎ P i
    back i (inl t) = inl t
    back i (inr q) = inr (from i q)

-- one flag more
pub Marks-set : (xs ys : List Bool) (P : ℕ → Type 0) (label : ℕ) → Marks xs ys P → Marks xs (set ys label true) (λ i. P i ⊎ (i ≡ label))
Marks-set xs ys P label m = record { one_each = length-set ys label true ∙ m.one_each; marked = λ i less. (there i less (cases_eq i label), back i less (cases_eq i label)) }
  where
    there : (i : ℕ) → i < length xs → (i ≡ label) ⊎ (i ≡ label → ⊥) → IsTrue (get_or (set ys label true) i false) → IsTrue (get_or xs i false) ⊎ (P i ⊎ (i ≡ label))
    there i less (inl e) t = inr (inr e)
    there i less (inr ne) t = more ((m.marked i less).0 (subst (λ b. IsTrue b) (get_or-set_other ys label i true false ne) t))
      where
        more : IsTrue (get_or xs i false) ⊎ P i → IsTrue (get_or xs i false) ⊎ (P i ⊎ (i ≡ label))
        more (inl u) = inl u
        more (inr p) = inr (inl p)

    back : (i : ℕ) → i < length xs → (i ≡ label) ⊎ (i ≡ label → ⊥) → IsTrue (get_or xs i false) ⊎ (P i ⊎ (i ≡ label)) → IsTrue (get_or (set ys label true) i false)
    back i less (inl e) h = subst (λ b. IsTrue b) (sym (ap (λ (k : ℕ). get_or (set ys label true) k false) e ∙ get_or-set_same ys label true false (omega (arith, m.one_each)))) refl
    back i less (inr ne) h = subst (λ b. IsTrue b) (sym (get_or-set_other ys label i true false ne)) ((m.marked i less).1 (less_said h))
      where
        less_said : IsTrue (get_or xs i false) ⊎ (P i ⊎ (i ≡ label)) → IsTrue (get_or xs i false) ⊎ P i
        less_said (inl u) = inl u
        less_said (inr (inl p)) = inr p
        less_said (inr (inr e)) = absurd (ne e)

-- the next wire shares its label where it is straight
pub WireShares-taken : (wires : List Wire) (labels : List ℕ) (i : ℕ) (wire : Wire) (xs ys : List Bool) → slice_get wires i ≡ Some wire → IsTrue (is_straight wire)
    → Marks xs ys (WireShares wires labels i) → Marks xs (set ys (get_or labels i 0) true) (WireShares wires labels (i + 1))
WireShares-taken wires labels i wire xs ys at straight m = Marks-as xs (set ys (get_or labels i 0) true) (λ label. WireShares wires labels i label ⊎ (label ≡ get_or labels i 0)) (WireShares wires labels (i + 1)) to from
    (Marks-set xs ys (WireShares wires labels i) (get_or labels i 0) m)
  where
    to : (label : ℕ) → WireShares wires labels i label ⊎ (label ≡ get_or labels i 0) → WireShares wires labels (i + 1) label
    to label (inl h) = (h.0, h.1, omega (arith, h.2), h.3, h.4, h.5)
    to label (inr e) = (i, wire, omega arith, at, straight, sym e)

    from : (label : ℕ) → WireShares wires labels (i + 1) label → WireShares wires labels i label ⊎ (label ≡ get_or labels i 0)
    from label h = by_order (cases_lt h.0 i)
      where
        by_order : (h.0 < i) ⊎ (i ≤ h.0) → WireShares wires labels i label ⊎ (label ≡ get_or labels i 0)
        by_order (inl less) = inl (h.0, h.1, less, h.3, h.4, h.5)
        by_order (inr le) = let same : h.0 ≡ i = omega (arith, h.2) in inr (sym h.5 ∙ ap (λ (k : ℕ). get_or labels k 0) same)

pub WireShares-skipped : (wires : List Wire) (labels : List ℕ) (i : ℕ) (wire : Wire) (xs ys : List Bool) → slice_get wires i ≡ Some wire → is_straight wire ≡ false
    → Marks xs ys (WireShares wires labels i) → Marks xs ys (WireShares wires labels (i + 1))
WireShares-skipped wires labels i wire xs ys at skew m = Marks-as xs ys (WireShares wires labels i) (WireShares wires labels (i + 1)) (λ label h. (h.0, h.1, omega (arith, h.2), h.3, h.4, h.5)) from m
  where
    from : (label : ℕ) → WireShares wires labels (i + 1) label → WireShares wires labels i label
    from label h = by_order (cases_lt h.0 i)
      where
        by_order : (h.0 < i) ⊎ (i ≤ h.0) → WireShares wires labels i label
        by_order (inl less) = (h.0, h.1, less, h.3, h.4, h.5)
        by_order (inr le) =
            let same : h.0 ≡ i = omega (arith, h.2) in
            let wire_is : h.1 ≡ wire = same_Some h.1 wire (sym h.3 ∙ (ap (slice_get wires) same ∙ at)) in
            absurd (false≢true (sym skew ∙ (ap is_straight (sym wire_is) ∙ h.4)))

-- of the first labels, as of all
PortShares-all : (labels front : List ℕ) (ports label : ℕ) → front ≡ take ports labels → length front ≡ ports → PortShares front (length front) label → PortShares labels ports label
PortShares-all labels front ports label is len h =
    let less : h.0 < ports = omega (arith, h.1) in
    (h.0, less, sym (ap (λ (xs : List ℕ). get_or xs h.0 0) is ∙ get_or-take ports labels h.0 0 less) ∙ h.2, h.3)

PortShares-front : (labels front : List ℕ) (ports label : ℕ) → front ≡ take ports labels → length front ≡ ports → PortShares labels ports label → PortShares front (length front) label
PortShares-front labels front ports label is len h =
    (h.0, omega (arith, h.1), (ap (λ (xs : List ℕ). get_or xs h.0 0) is ∙ get_or-take ports labels h.0 0 h.1) ∙ h.2, h.3)

-- what the ports mark, and then the wires
pub AreShared-from : (wires : List Wire) (ports : ℕ) (labels front back : List ℕ) (start one before two flags : List Bool)
    → front ≡ take ports labels → length front ≡ ports → back ≡ drop ports labels → start ≡ replicate ports false → before ≡ one
    → Marks start one (PortShares front (length front)) → Marks before two (WireShares wires back (length wires))
    → length flags ≡ ports → ((i : ℕ) → i < ports → get_or labels i 0 ≤ i)
    → ((i : ℕ) → i < ports → get_or flags i false ≡ get_or two (get_or labels i 0) false) → AreShared wires ports labels flags
AreShared-from wires ports labels front back start one before two flags is_front front_len is_back none same a b len least flag = record {
  one_each = len;
  shared = λ i less. (λ t. there i less (subst (λ v. IsTrue v) (flag i less) t), λ h. subst (λ v. IsTrue v) (sym (flag i less)) (back_again i less h));
}
  where
    started : length start ≡ ports
    started = ap length none ∙ length-replicate ports false

    unset : (l : ℕ) → l < ports → IsTrue (get_or start l false) → ⊥
    unset l less t = false≢true (sym (ap (λ (xs : List Bool). get_or xs l false) none ∙ get_or-replicate ports l false false less) ∙ t)

    inside : (i : ℕ) → i < ports → get_or labels i 0 < length start
    inside i less = omega (arith, least i less, started)

    inside_too : (i : ℕ) → i < ports → get_or labels i 0 < length before
    inside_too i less = omega (arith, least i less, started, ap length same, a.one_each)

    there : (i : ℕ) → i < ports → IsTrue (get_or two (get_or labels i 0) false) → PortShares labels ports (get_or labels i 0) ⊎ WireShares wires (drop ports labels) (length wires) (get_or labels i 0)
    there i less t = by_wires ((b.marked (get_or labels i 0) (inside_too i less)).0 t)
      where
        by_ports : IsTrue (get_or start (get_or labels i 0) false) ⊎ PortShares front (length front) (get_or labels i 0) → PortShares labels ports (get_or labels i 0)
        by_ports (inl u) = absurd (unset (get_or labels i 0) (omega (arith, least i less)) u)
        by_ports (inr h) = PortShares-all labels front ports (get_or labels i 0) is_front front_len h

        by_wires : IsTrue (get_or before (get_or labels i 0) false) ⊎ WireShares wires back (length wires) (get_or labels i 0)
            → PortShares labels ports (get_or labels i 0) ⊎ WireShares wires (drop ports labels) (length wires) (get_or labels i 0)
        by_wires (inl u) = inl (by_ports ((a.marked (get_or labels i 0) (inside i less)).0 (subst (λ (xs : List Bool). IsTrue (get_or xs (get_or labels i 0) false)) same u)))
        by_wires (inr h) = inr (subst (λ (xs : List ℕ). WireShares wires xs (length wires) (get_or labels i 0)) is_back h)

    back_again : (i : ℕ) → i < ports → PortShares labels ports (get_or labels i 0) ⊎ WireShares wires (drop ports labels) (length wires) (get_or labels i 0) → IsTrue (get_or two (get_or labels i 0) false)
    back_again i less (inl h) =
        (b.marked (get_or labels i 0) (inside_too i less)).1 (inl (subst (λ (xs : List Bool). IsTrue (get_or xs (get_or labels i 0) false)) (sym same)
        ((a.marked (get_or labels i 0) (inside i less)).1 (inr (PortShares-front labels front ports (get_or labels i 0) is_front front_len h)))))
    back_again i less (inr h) =
        (b.marked (get_or labels i 0) (inside_too i less)).1 (inr (subst (λ (xs : List ℕ). WireShares wires xs (length wires) (get_or labels i 0)) (sym is_back) h))

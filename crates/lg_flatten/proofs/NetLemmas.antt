-- Joined ports are numbered as their labels are, and what is attached is told by the wires and ports alone.
use Rattle.std.proofs.Common.{◌≡◌, ℕ, zero, suc, ◌<◌, Bool, true, false, List, [], ◌∷◌, length, map, get_or, Option, Some, None, refl, sym, subst, ◌∙◌, arith}
use Rattle.std.specs.Prelude.{slice_get, option_map, IsTrue, All}
use Rattle.std.proofs.lemmas.List.{length-map}
use Rattle.std.proofs.lemmas.List.Elements.{All-from_get_or}
use Rattle.std.proofs.lemmas.Option.{same_Some, none-some, slice_get-map, slice_get_within, slice_get-get_or, get_or_from_slice_get}
use Rattle.lg_circ.specs.declared.project.Point.{Point}
use Rattle.lg_circ.specs.declared.project.Wire.{Wire}
use Rattle.lg_nets.specs.Joined.{Place, place_at, Joined, AreLabels, AreAttached}
use Rattle.lg_names.specs.Numbering.{IsNumbering}
use Rattle.lg_flatten.specs.Flat.{flagged}
use Rattle.lg_flatten.proofs.BitLemmas.{origin, flagged_from, flagged_as_long, All-flagged}

-- the port at a place of the list
abbrev PortAt : List Point → ℕ → Place → Type 0
PortAt ports i x = (p : Point) × (slice_get ports i ≡ Some p) × (place_at p ≡ x)

port_at : (ports : List Point) (i : ℕ) (x : Place) → slice_get (map place_at ports) i ≡ Some x → PortAt ports i x
port_at ports i x e = from (slice_get ports i) refl (sym (slice_get-map place_at ports i) ∙ e)
  where
    from : (o : Option Point) → slice_get ports i ≡ o → option_map place_at o ≡ Some x → PortAt ports i x
    from None h k = absurd (none-some x k)
    from (Some p) h k = (p, h, same_Some (place_at p) x k)

-- where a port that takes a net was before the others were left out, with its label
record LabelAt (flags : List Bool) (ports : List Point) (labels : List ℕ) (i : ℕ) (x : Place) : Type 0 where
  pub place : ℕ
  pub port : Point
  pub label : ℕ
  pub at : slice_get ports place ≡ Some port
  pub is : place_at port ≡ x
  pub left : slice_get (flagged flags labels) i ≡ Some label
  pub labelled : get_or labels place 0 ≡ label

label_at : (flags : List Bool) (ports : List Point) (labels : List ℕ) (i : ℕ) (x : Place) → length labels ≡ length ports → slice_get (map place_at (flagged flags ports)) i ≡ Some x → LabelAt flags ports labels i x
label_at flags ports labels i x long e =
    let p = port_at (flagged flags ports) i x e in
    let within : i < length (flagged flags labels) = omega (arith, slice_get_within (flagged flags ports) i p.0 p.1, flagged_as_long flags labels ports long) in
    let left = slice_get-get_or (flagged flags labels) i 0 within in
    let label = get_or (flagged flags labels) i 0 in
    record {
      place = origin flags i;
      port = p.0;
      label = label;
      at = flagged_from flags ports i p.0 p.1;
      is = p.2;
      left = left;
      labelled = get_or_from_slice_get labels (origin flags i) label 0 (flagged_from flags labels i label left);
    }

-- numbers for labels of joined ports number those ports that take a net
pub IsNumbering-from_labels : (wires : List Wire) (ports : List Point) (flags : List Bool) (labels numbers : List ℕ) (count : ℕ) → AreLabels wires ports labels → IsNumbering ◌≡◌ (flagged flags labels) numbers count
    → IsNumbering (Joined wires ports) (map place_at (flagged flags ports)) numbers count
IsNumbering-from_labels wires ports flags labels numbers count a n = record {
  one_each = n.one_each ∙ (flagged_as_long flags labels ports a.one_each ∙ sym (length-map (flagged flags ports) place_at));
  classes = λ i j x y at_i at_j.
      let p = label_at flags ports labels i x a.one_each at_i in
      let q = label_at flags ports labels j y a.one_each at_j in
      let numbered = n.classes i j p.label q.label p.left q.left in
      let joined = a.joined p.place q.place p.port q.port p.at q.at in (
        λ e. subst (Joined wires ports x) q.is (subst (λ (z : Place). Joined wires ports z (place_at q.port)) p.is (joined.0 (p.labelled ∙ (numbered.0 e ∙ sym q.labelled)))),
        λ k. numbered.1 (sym p.labelled ∙ (joined.1 (subst (Joined wires ports (place_at p.port)) (sym q.is) (subst (λ (z : Place). Joined wires ports z y) (sym p.is) k)) ∙ q.labelled)),
      );
  below = n.below;
  in_order = n.in_order;
  all_appear = n.all_appear;
}

-- labels are fewer than the ports
pub labels_small : (wires : List Wire) (ports : List Point) (flags : List Bool) (labels : List ℕ) → AreLabels wires ports labels → All (λ label. label < length ports) (flagged flags labels)
labels_small wires ports flags labels a =
    All-flagged (λ label. label < length ports) flags labels (All-from_get_or (λ label. label < length ports) labels 0 (λ i less. let small = a.small i less in omega (arith, small, a.one_each)))

-- what is attached is told by the wires and ports alone
pub one_attached : (wires : List Wire) (ports : List Point) (flags flags' : List Bool) → AreAttached wires ports flags → AreAttached wires ports flags' → flags ≡ flags'
one_attached wires ports flags flags' a a' = same_flags flags flags' (a.one_each ∙ sym a'.one_each) (λ k less.
    let p = item_at ports k (omega (arith, less, a.one_each)) in
    let t = a.attached k p.0 p.1 in
    let t' = a'.attached k p.0 p.1 in
    same_flag (get_or flags k false) (get_or flags' k false) (λ h. t'.1 (t.0 h)) (λ h. t.1 (t'.0 h)))
  where
    same_flag : (b b' : Bool) → (IsTrue b → IsTrue b') → (IsTrue b' → IsTrue b) → b ≡ b'
    same_flag true true to from = refl
    same_flag false false to from = refl
    same_flag true false to from = sym (to refl)
    same_flag false true to from = from refl

    item_at : (ps : List Point) (i : ℕ) → i < length ps → (p : Point) × (slice_get ps i ≡ Some p)
    item_at [] i within = absurd (omega arith)
    item_at (p ∷ ps) zero within = (p, refl)
    item_at (p ∷ ps) (suc i) within = item_at ps i (omega arith)

    same_flags : (bs bs' : List Bool) → length bs ≡ length bs' → ((k : ℕ) → k < length bs → get_or bs k false ≡ get_or bs' k false) → bs ≡ bs'
    same_flags [] [] e h = refl
    same_flags [] (b' ∷ bs') e h = absurd (omega (arith, e))
    same_flags (b ∷ bs) [] e h = absurd (omega (arith, e))
    same_flags (b ∷ bs) (b' ∷ bs') e h =
        let first : b ≡ b' = h 0 (omega arith) in
        let others : bs ≡ bs' = same_flags bs bs' (omega (arith, e)) (λ k less. h (suc k) (omega (arith, less))) in
        cc

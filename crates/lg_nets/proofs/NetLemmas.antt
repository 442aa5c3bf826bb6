-- Links of rows and of columns chain exactly the nodes of joined places.
use Rattle.std.proofs.Common.{◌≡◌, ℕ, ◌+◌, ◌<◌, ◌≤◌, ◌≢◌, ◌⊎◌, Bool, true, IsTrue, List, [], ◌∷◌, ◌++◌, length, get_or, map, take, drop, Some, refl, sym, ap, subst, ◌∙◌, arith, inl, inr}
use Rattle.std.specs.Prelude.{ℤ, Contains, slice_get}
use Rattle.std.specs.Ordering.{int_eq}
use Rattle.std.proofs.lemmas.Int.{ints, by_lt_z}
use Rattle.std.proofs.lemmas.Bool.{cases_eq, or_cases, or_left, or_right}
use Rattle.std.proofs.lemmas.Bool.Decides.{Decides-int_eq}
use Rattle.std.proofs.lemmas.List.{get_or-take, get_or-drop, length-take-le}
use Rattle.std.proofs.lemmas.List.Elements.{Contains-append_left, Contains-append_right, Contains-append_cases}
use Rattle.std.proofs.lemmas.Option.{slice_get-get_or, slice_get_within, get_or_from_slice_get}
use Rattle.lg_circ.specs.declared.project.Point.{Point}
use Rattle.lg_circ.specs.declared.project.Wire.{Wire}
use Rattle.lg_circ.specs.Straight.{is_straight}
use Rattle.lg_nets.specs.declared.rays.Segment.{Segment}
use Rattle.lg_nets.specs.declared.components.Link.{Link}
use Rattle.lg_nets.specs.Segment.{IsBetween, Covers, segment_of}
use Rattle.lg_nets.specs.Joined.{Place, place_at, LiesOn, Leads, Joined, AreLabels, IsAttached, AreAttached}
use Rattle.lg_nets.specs.Links.{Linked, Chained, AreClasses}
use Rattle.lg_nets.specs.Rays.{rays, transposed}
use Rattle.lg_nets.specs.Rows.{AreRowLinks, TouchAt}
use Rattle.lg_nets.specs.Shares.{PortShares, WireShares, AreShared}
use Rattle.lg_nets.proofs.ChainLemmas.{Chained-more, Chained-keeps, Chained-sym, Chained-trans}
use Rattle.lg_nets.proofs.RayLemmas.{map_at, made_contained, map_contained, IsAt, IsAt-one, IsAt-port, IsAt-wire, IsAt-node, IsNode-at}
use Rattle.lg_nets.proofs.MeetLemmas.{Meet, Meet-sym, MeetAt, MeetAt-from, MeetAt-from_over, TouchAt-from}

-- links that chain two nodes exactly where points that meet lead from one to the other
pub record AreNetLinks (wires : List Wire) (ports : List Point) (links : List Link) : Type 0 where
  pub sound : (link : Link) → Contains links link → MeetAt (map segment_of wires) ports link.from link.to
  pub complete : (i j : ℕ) (p q : Point) → IsAt (rays (map segment_of wires) ports) i p → IsAt (rays (map segment_of wires) ports) j q → Meet (map segment_of wires) p q → Chained links i j

pub AreNetLinks-from : (wires : List Wire) (ports : List Point) (rows columns : List Link) → AreRowLinks (rays (map segment_of wires) ports) rows
    → AreRowLinks (map transposed (rays (map segment_of wires) ports)) columns → AreNetLinks wires ports (rows ++ columns)
AreNetLinks-from wires ports rows columns a b = record {
  sound = λ link h. by_part link (Contains-append_cases rows columns link h);
  complete = λ i j p q at_i at_j m. by_side i j (TouchAt-from (map segment_of wires) ports i j p q at_i at_j m);
}
  where
    by_part : (link : Link) → Contains rows link ⊎ Contains columns link → MeetAt (map segment_of wires) ports link.from link.to
    by_part link (inl h) = MeetAt-from (map segment_of wires) ports link.from link.to (a.sound link h)
    by_part link (inr h) = MeetAt-from_over (map segment_of wires) ports link.from link.to (b.sound link h)

    by_side : (i j : ℕ) → TouchAt (rays (map segment_of wires) ports) i j ⊎ TouchAt (map transposed (rays (map segment_of wires) ports)) i j → Chained (rows ++ columns) i j
    by_side i j (inl t) = Chained-more rows (rows ++ columns) i j (λ l h. Contains-append_left rows columns l h) (a.complete i j t)
    by_side i j (inr t) = Chained-more columns (rows ++ columns) i j (λ l h. Contains-append_right rows columns l h) (b.complete i j t)

-- the points of linked nodes meet
linked_meet : (wires : List Wire) (ports : List Point) (links : List Link) (i j : ℕ) → AreNetLinks wires ports links → Linked links i j → MeetAt (map segment_of wires) ports i j
linked_meet wires ports links i j n (link, h, ends) = by_ends ends (n.sound link h)
  where
    by_ends : ((link.from ≡ i) × (link.to ≡ j)) ⊎ ((link.from ≡ j) × (link.to ≡ i)) → MeetAt (map segment_of wires) ports link.from link.to → MeetAt (map segment_of wires) ports i j
    by_ends (inl e) m = subst (λ (k : ℕ). MeetAt (map segment_of wires) ports i k) e.1 (subst (λ (k : ℕ). MeetAt (map segment_of wires) ports k link.to) e.0 m)
    by_ends (inr e) m =
        let t : MeetAt (map segment_of wires) ports link.to link.from = record { one = m.other; other = m.one; first = m.second; second = m.first; meet = Meet-sym (map segment_of wires) m.one m.other m.meet } in
        subst (λ (k : ℕ). MeetAt (map segment_of wires) ports i k) e.0 (subst (λ (k : ℕ). MeetAt (map segment_of wires) ports k link.from) e.1 t)

-- ---- chains and contacts

-- places of nodes whose points meet are in contact, or one place
joined_more : (wires : List Wire) (ports : List Point) (i j : ℕ) (p q : Point) (end : Place) → IsAt (rays (map segment_of wires) ports) i p → IsAt (rays (map segment_of wires) ports) j q → Meet (map segment_of wires) q p
    → Joined wires ports (place_at p) end → Joined wires ports (place_at q) end
joined_more wires ports i j p q end at_i at_j (inl e) joined = subst (λ (r : Point). Joined wires ports (place_at r) end) (sym e) joined
joined_more wires ports i j p q end at_i at_j (inr (s, h, a, b)) joined = let d = made_contained segment_of wires s h in (
  place_at p ∷ joined.0,
  (record { wire = d.0; drawn = d.1; first = subst (λ (t : Segment). Covers t q) (sym d.2) a; second = subst (λ (t : Segment). Covers t p) (sym d.2) b; first_node = IsNode-at wires ports j q at_j; second_node = IsNode-at wires ports i p at_i; one_path = refl; one_bit = refl }, joined.1),
)

pub joined_from : (wires : List Wire) (ports : List Point) (links : List Link) (i j : ℕ) (p q : Point) → AreNetLinks wires ports links
    → IsAt (rays (map segment_of wires) ports) i p → IsAt (rays (map segment_of wires) ports) j q → Chained links i j → Joined wires ports (place_at p) (place_at q)
joined_from wires ports links i j p q n at_i at_j c =
    let there = Chained-keeps links (λ (k : ℕ). (r : Point) × IsAt (rays (map segment_of wires) ports) k r × Joined wires ports (place_at r) (place_at q)) step j i
    (Chained-sym links i j c) (q, at_j, ([], refl)) in
    subst (λ (r : Point). Joined wires ports (place_at r) (place_at q)) (IsAt-one (rays (map segment_of wires) ports) i there.0 p there.1 at_i) there.2
  where
    step : (k m : ℕ) → Linked links k m → (r : Point) × IsAt (rays (map segment_of wires) ports) k r × Joined wires ports (place_at r) (place_at q)
        → (r : Point) × IsAt (rays (map segment_of wires) ports) m r × Joined wires ports (place_at r) (place_at q)
    step k m l (r, at_k, joined) =
        let t = linked_meet wires ports links k m n l in
        let same = IsAt-one (rays (map segment_of wires) ports) k t.one r t.first at_k in (
          t.other,
          t.second,
          joined_more wires ports k m r t.other (place_at q) at_k t.second
              (Meet-sym (map segment_of wires) r t.other (subst (λ (s : Point). Meet (map segment_of wires) s t.other) same t.meet)) joined,
        )

pub chained_from : (wires : List Wire) (ports : List Point) (links : List Link) → AreNetLinks wires ports links → (a b : Place) (over : List Place) → Leads wires ports a over b
    → (i j : ℕ) → IsAt (rays (map segment_of wires) ports) i a.point → IsAt (rays (map segment_of wires) ports) j b.point → Chained links i j
chained_from wires ports links n a b [] e i j at_i at_j = n.complete i j a.point b.point at_i at_j (inl (ap (λ (p : Place). p.point) e))
chained_from wires ports links n a b (next ∷ more) h i j at_i at_j =
    let contact = h.0 in
    let k = IsAt-node wires ports next.point contact.second_node in
    Chained-trans links i k.0 j (n.complete i k.0 a.point next.point at_i k.1 (inr (segment_of contact.wire, map_contained segment_of wires contact.wire contact.drawn, contact.first, contact.second)))
    (chained_from wires ports links n next b more h.1 k.0 j k.1 at_j)

-- ---- labels

-- numbers that links chain have one label, and numbers of one label are chained
same_label : (links : List Link) (count : ℕ) (labels : List ℕ) (i j : ℕ) → AreClasses links count labels → Chained links i j → get_or labels i 0 ≡ get_or labels j 0
same_label links count labels i j c h = Chained-keeps links (λ (k : ℕ). get_or labels i 0 ≡ get_or labels k 0) step i j h refl
  where
    step : (k m : ℕ) → Linked links k m → get_or labels i 0 ≡ get_or labels k 0 → get_or labels i 0 ≡ get_or labels m 0
    step k m (link, has, inl e) f = f ∙ (ap (λ (n : ℕ). get_or labels n 0) (sym e.0) ∙ (c.linked link has ∙ ap (λ (n : ℕ). get_or labels n 0) e.1))
    step k m (link, has, inr e) f = f ∙ (ap (λ (n : ℕ). get_or labels n 0) (sym e.1) ∙ (sym (c.linked link has) ∙ ap (λ (n : ℕ). get_or labels n 0) e.0))

chained_label : (links : List Link) (count : ℕ) (labels : List ℕ) (i j : ℕ) → AreClasses links count labels → i < count → j < count → get_or labels i 0 ≡ get_or labels j 0 → Chained links i j
chained_label links count labels i j c less_i less_j e =
    Chained-trans links i (get_or labels i 0) j (c.chained i less_i)
    (subst (λ (k : ℕ). Chained links k j) (sym e) (Chained-sym links j (get_or labels j 0) (c.chained j less_j)))

pub AreLabels-from : (wires : List Wire) (ports : List Point) (links : List Link) (count : ℕ) (labels : List ℕ) → AreNetLinks wires ports links → AreClasses links count labels
    → length ports ≤ count → AreLabels wires ports (take (length ports) labels)
AreLabels-from wires ports links count labels n c few = record {
  one_each = size;
  joined = λ i j a b at_i at_j. (
    λ e. joined_from wires ports links i j a b n (IsAt-port (map segment_of wires) ports i a at_i) (IsAt-port (map segment_of wires) ports j b at_j)
        (chained_label links count labels i j c (below i a at_i) (below j b at_j) (sym (label i a at_i) ∙ (e ∙ label j b at_j))),
    λ joined. label i a at_i ∙ (same_label links count labels i j c
        (chained_from wires ports links n (place_at a) (place_at b) joined.0 joined.1 i j (IsAt-port (map segment_of wires) ports i a at_i) (IsAt-port (map segment_of wires) ports j b at_j)) ∙ sym (label j b at_j)),
  );
  small = λ i less. small i (omega (arith, size));
}
  where
    size : length (take (length ports) labels) ≡ length ports
    size = length-take-le (length ports) labels (omega (arith, c.one_each))

    below : (i : ℕ) (p : Point) → slice_get ports i ≡ Some p → i < count
    below i p e = omega (arith, slice_get_within ports i p e)

    label : (i : ℕ) (p : Point) → slice_get ports i ≡ Some p → get_or (take (length ports) labels) i 0 ≡ get_or labels i 0
    label i p e = get_or-take (length ports) labels i 0 (slice_get_within ports i p e)

    small : (i : ℕ) → i < length ports → get_or (take (length ports) labels) i 0 < length (take (length ports) labels)
    small i less = omega (arith, size, get_or-take (length ports) labels i 0 less, c.least i (omega arith))

-- ---- what is attached

-- a wire lies along the point
abbrev Wired : List Wire → Point → Type 0
Wired wires p = (w : Wire) × Contains wires w × LiesOn w p

-- a node that is chained to a point's node stands at that point, unless a wire lies along it
at_or_wired : (wires : List Wire) (ports : List Point) (links : List Link) (i j : ℕ) (p q : Point) → AreNetLinks wires ports links → IsAt (rays (map segment_of wires) ports) i p
    → IsAt (rays (map segment_of wires) ports) j q → Chained links i j → (q ≡ p) ⊎ Wired wires p
at_or_wired wires ports links i j p q n at_i at_j c = last (Chained-keeps links (λ (k : ℕ). (r : Point) × IsAt (rays (map segment_of wires) ports) k r × ((r ≡ p) ⊎ Wired wires p)) step i j c (p, at_i, inl refl))
  where
    last : (r : Point) × IsAt (rays (map segment_of wires) ports) j r × ((r ≡ p) ⊎ Wired wires p) → (q ≡ p) ⊎ Wired wires p
    last (r, at_r, inl e) = inl (IsAt-one (rays (map segment_of wires) ports) j q r at_j at_r ∙ e)
    last (r, at_r, inr w) = inr w

    from_meet : (r s : Point) → r ≡ p → Meet (map segment_of wires) r s → (s ≡ p) ⊎ Wired wires p
    from_meet r s e (inl f) = inl (sym f ∙ e)
    from_meet r s e (inr (line, h, a, b)) = let d = made_contained segment_of wires line h in inr (d.0, d.1, subst (LiesOn d.0) e (subst (λ (t : Segment). Covers t r) (sym d.2) a))

    step : (k m : ℕ) → Linked links k m → (r : Point) × IsAt (rays (map segment_of wires) ports) k r × ((r ≡ p) ⊎ Wired wires p) → (r : Point) × IsAt (rays (map segment_of wires) ports) m r × ((r ≡ p) ⊎ Wired wires p)
    step k m l (r, at_k, inr w) = let t = linked_meet wires ports links k m n l in (t.other, t.second, inr w)
    step k m l (r, at_k, inl e) =
        let t = linked_meet wires ports links k m n l in
        (t.other, t.second, from_meet t.one t.other (IsAt-one (rays (map segment_of wires) ports) k t.one r t.first at_k ∙ e) t.meet)

between_from : (a b : ℤ) → IsBetween a b a
between_from a b = by_lt_z b a (λ less. inr (omega (arith, ints), omega (arith, ints))) (λ le. inl (omega (arith, ints), omega (arith, ints)))

-- a straight wire lies along its end, and a wire that lies along a point is straight
straight_end : (w : Wire) → IsTrue (is_straight w) → LiesOn w w.from
straight_end w t = by_side (or_cases (int_eq w.from.x w.to.x) (int_eq w.from.y w.to.y) t)
  where
    by_side : (int_eq w.from.x w.to.x ≡ true) ⊎ (int_eq w.from.y w.to.y ≡ true) → LiesOn w w.from
    by_side (inl e) = inr ((Decides-int_eq w.from.x w.to.x).0 e, refl, between_from w.from.y w.to.y)
    by_side (inr e) = inl ((Decides-int_eq w.from.y w.to.y).0 e, refl, between_from w.from.x w.to.x)

straight_from : (w : Wire) (p : Point) → LiesOn w p → IsTrue (is_straight w)
straight_from w p (inl h) = or_right (int_eq w.from.x w.to.x) (int_eq w.from.y w.to.y) ((Decides-int_eq w.from.y w.to.y).1 h.0)
straight_from w p (inr h) = or_left (int_eq w.from.x w.to.x) (int_eq w.from.y w.to.y) ((Decides-int_eq w.from.x w.to.x).1 h.0)

-- a port or a wire shares the label
abbrev Shares : List Wire → List Point → List ℕ → ℕ → Type 0
Shares wires ports labels label = PortShares labels (length ports) label ⊎ WireShares wires (drop (length ports) labels) (length wires) label

-- what shares a port's label is attached to it
attached_from : (wires : List Wire) (ports : List Point) (links : List Link) (count : ℕ) (labels : List ℕ) (i : ℕ) (p : Point) → AreNetLinks wires ports links → AreClasses links count labels
    → length ports + length wires ≤ count → slice_get ports i ≡ Some p
    → Shares wires ports labels (get_or labels i 0) → IsAttached wires ports i p
attached_from wires ports links count labels i p n c long at_i = by_share
  where
    within : i < length ports
    within = slice_get_within ports i p at_i

    by_other : (j : ℕ) → j < length ports → j ≢ i → Chained links i j → IsAttached wires ports i p
    by_other j less ne chain = by_point (at_or_wired wires ports links i j p (get_or ports j p) n (IsAt-port (map segment_of wires) ports i p at_i) (IsAt-port (map segment_of wires) ports j (get_or ports j p) at_j) chain)
      where
        at_j : slice_get ports j ≡ Some (get_or ports j p)
        at_j = slice_get-get_or ports j p less

        by_point : (get_or ports j p ≡ p) ⊎ Wired wires p → IsAttached wires ports i p
        by_point (inl e) = inr (j, ne, at_j ∙ ap (λ (q : Point). Some q) e)
        by_point (inr w) = inl w

    by_wire : (k : ℕ) (w : Wire) → k < length wires → slice_get wires k ≡ Some w → IsTrue (is_straight w) → Chained links i (length ports + k) → IsAttached wires ports i p
    by_wire k w less at_k t chain = by_point (at_or_wired wires ports links i (length ports + k) p w.from n (IsAt-port (map segment_of wires) ports i p at_i) (IsAt-wire (map segment_of wires) ports k (segment_of w) (map_at segment_of wires k w at_k)) chain)
      where
        by_point : (w.from ≡ p) ⊎ Wired wires p → IsAttached wires ports i p
        by_point (inl e) = inl (w, (k, less, get_or_from_slice_get wires k w w at_k), subst (LiesOn w) e (straight_end w t))
        by_point (inr w) = inl w

    by_share : Shares wires ports labels (get_or labels i 0) → IsAttached wires ports i p
    by_share (inl (j, less, e, ne)) = by_case (cases_eq j i)
      where
        by_case : (j ≡ i) ⊎ (j ≡ i → ⊥) → IsAttached wires ports i p
        by_case (inr other) = by_other j less other (chained_label links count labels i j c (omega (arith, within)) (omega arith) (sym e))
        by_case (inl same) = by_other (get_or labels i 0) (omega (arith, within, c.least i (omega (arith, within)))) (λ f. ne (same ∙ sym f)) (c.chained i (omega (arith, within)))
    by_share (inr (k, w, less, at_k, t, e)) =
        by_wire k w less at_k t (chained_label links count labels i (length ports + k) c (omega (arith, within)) (omega arith) (sym e ∙ get_or-drop (length ports) labels k 0))

-- and what is attached to a port shares its label
shares_from : (wires : List Wire) (ports : List Point) (links : List Link) (count : ℕ) (labels : List ℕ) (i : ℕ) (p : Point) → AreNetLinks wires ports links → AreClasses links count labels
    → length ports + length wires ≤ count → slice_get ports i ≡ Some p → IsAttached wires ports i p
    → Shares wires ports labels (get_or labels i 0)
shares_from wires ports links count labels i p n c long at_i (inl (w, h, l)) =
    let k = h.0 in
    let at_k : slice_get wires k ≡ Some w = slice_get-get_or wires k w h.1 ∙ ap (λ (v : Wire). Some v) h.2 in
    let t = straight_from w p l in
    let chain = n.complete (length ports + k) i w.from p (IsAt-wire (map segment_of wires) ports k (segment_of w) (map_at segment_of wires k w at_k)) (IsAt-port (map segment_of wires) ports i p at_i) (inr (segment_of w, map_contained segment_of wires w h, straight_end w t, l)) in
    inr (k, w, h.1, at_k, t, get_or-drop (length ports) labels k 0 ∙ same_label links count labels (length ports + k) i c chain)
shares_from wires ports links count labels i p n c long at_i (inr (j, ne, at_j)) = by_case (cases_eq j (get_or labels i 0))
  where
    same : get_or labels j 0 ≡ get_or labels i 0
    same = same_label links count labels j i c (n.complete j i p p (IsAt-port (map segment_of wires) ports j p at_j) (IsAt-port (map segment_of wires) ports i p at_i) (inl refl))

    by_case : (j ≡ get_or labels i 0) ⊎ (j ≡ get_or labels i 0 → ⊥) → Shares wires ports labels (get_or labels i 0)
    by_case (inr other) = inl (j, slice_get_within ports j p at_j, same, other)
    by_case (inl e) = inl (i, slice_get_within ports i p at_i, refl, λ f. ne (e ∙ sym f))

pub AreAttached-from : (wires : List Wire) (ports : List Point) (links : List Link) (count : ℕ) (labels : List ℕ) (flags : List Bool) → AreNetLinks wires ports links → AreClasses links count labels
    → length ports + length wires ≤ count → AreShared wires (length ports) labels flags → AreAttached wires ports flags
AreAttached-from wires ports links count labels flags n c long s = record {
  one_each = s.one_each;
  attached = λ i p at_i. (
    λ t. attached_from wires ports links count labels i p n c long at_i ((s.shared i (slice_get_within ports i p at_i)).0 t),
    λ a. (s.shared i (slice_get_within ports i p at_i)).1 (shares_from wires ports links count labels i p n c long at_i a),
  );
}

-- ---- the links of a sheet

-- the links that a sheet's rays give, as they lie and turned over
pub AreNetLinks-made : (wires : List Wire) (ports : List Point) (first second third : List Segment) (rows columns links : List Link) → first ≡ rays (map segment_of wires) ports → second ≡ rays (map segment_of wires) ports
    → third ≡ map transposed second → AreRowLinks first rows → AreRowLinks third columns → links ≡ rows ++ columns → AreNetLinks wires ports links
AreNetLinks-made wires ports first second third rows columns links e f g a b h =
    subst (AreNetLinks wires ports) (sym h)
    (AreNetLinks-from wires ports rows columns (subst (λ (ws : List Segment). AreRowLinks ws rows) e a) (subst (λ (ws : List Segment). AreRowLinks ws columns) (g ∙ ap (map transposed) f) b))

-- the numbers of a link are numbers of rays
pub within : (wires : List Wire) (ports : List Point) (links : List Link) (link : Link) → AreNetLinks wires ports links → Contains links link
    → (link.from < length (rays (map segment_of wires) ports)) × (link.to < length (rays (map segment_of wires) ports))
within wires ports links link n h =
    let m = n.sound link h in
    (slice_get_within (rays (map segment_of wires) ports) link.from m.first.ray m.first.at, slice_get_within (rays (map segment_of wires) ports) link.to m.second.ray m.second.at)

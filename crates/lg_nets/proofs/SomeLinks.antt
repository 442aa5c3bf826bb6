-- There are links that chain the nodes of a sheet whose points meet.
use Rattle.std.proofs.Common.{◌≡◌, ℕ, zero, suc, ◌<◌, ◌⊎◌, List, [], ◌∷◌, ◌++◌, length, map, get_or, refl, sym, ap, subst, ◌∙◌, arith, inl, inr, None, Some}
use Rattle.std.specs.Prelude.{ℤ, Contains, slice_get, Option}
use Rattle.std.proofs.lemmas.Bool.{cases_eq}
use Rattle.std.proofs.lemmas.List.Elements.{Contains-append_left, Contains-append_right, Contains-append_cases}
use Rattle.std.proofs.lemmas.Option.{none-some, slice_get_within}
use Rattle.lg_circ.specs.declared.project.Point.{Point}
use Rattle.lg_circ.specs.declared.project.Wire.{Wire}
use Rattle.lg_nets.specs.declared.rays.Segment.{Segment}
use Rattle.lg_nets.specs.declared.components.Link.{Link}
use Rattle.lg_nets.specs.Segment.{IsBetween, Covers, segment_of}
use Rattle.lg_nets.specs.Rays.{rays}
use Rattle.lg_nets.proofs.Decisions.{Decided, either_as, both_or_not, one_or_none, same_or_not, up_to_or_not, some_in_or_none}
use Rattle.lg_nets.proofs.LabelLemmas.{one_point}
use Rattle.lg_nets.proofs.ChainLemmas.{Chained-link}
use Rattle.lg_nets.proofs.RayLemmas.{IsAt, IsAt-one}
use Rattle.lg_nets.proofs.MeetLemmas.{Meet, MeetAt}
use Rattle.lg_nets.proofs.NetLemmas.{AreNetLinks}

-- ---- points

pub one_point_or_not : (p q : Point) → Decided (p ≡ q)
one_point_or_not p q = either_as (λ h. one_point p q h.0 h.1) (λ e. (ap (λ (r : Point). r.x) e, ap (λ (r : Point). r.y) e)) (both_or_not (same_or_not p.x q.x) (same_or_not p.y q.y))

between_or_not : (a b z : ℤ) → Decided (IsBetween a b z)
between_or_not a b z = one_or_none (both_or_not (up_to_or_not a z) (up_to_or_not z b)) (both_or_not (up_to_or_not b z) (up_to_or_not z a))

three_or_not : {P Q R : Type 0} → Decided P → Decided Q → Decided R → Decided (P × Q × R)
three_or_not p q r = either_as (λ h. (h.0, h.1.0, h.1.1)) (λ h. (h.0, (h.1, h.2))) (both_or_not p (both_or_not q r))

pub covers_or_not : (s : Segment) (p : Point) → Decided (Covers s p)
covers_or_not s p = one_or_none
    (three_or_not (same_or_not s.from.y s.to.y) (same_or_not p.y s.from.y) (between_or_not s.from.x s.to.x p.x))
    (three_or_not (same_or_not s.from.x s.to.x) (same_or_not p.x s.from.x) (between_or_not s.from.y s.to.y p.y))

meet_or_not : (wires : List Segment) (p q : Point) → Decided (Meet wires p q)
meet_or_not wires p q = one_or_none (one_point_or_not p q)
    (either_as (λ h. (h.0, h.1, h.2.0, h.2.1)) (λ h. (h.0, h.1, (h.2, h.3)))
    (some_in_or_none (λ (w : Segment). Covers w p × Covers w q) (λ w. both_or_not (covers_or_not w p) (covers_or_not w q)) wires))

-- ---- nodes

at_or_none : (all : List Segment) (i : ℕ) → ((p : Point) × IsAt all i p) ⊎ ((p : Point) → IsAt all i p → ⊥)
at_or_none all i = by_get (slice_get all i) refl
  where
    by_get : (o : Option Segment) → slice_get all i ≡ o → ((p : Point) × IsAt all i p) ⊎ ((p : Point) → IsAt all i p → ⊥)
    by_get None e = inr (λ p h. none-some h.ray (sym e ∙ h.at))
    by_get (Some w) e = inl (w.from, record { ray = w; at = e; from = refl })

meet_at_or_not : (wires : List Segment) (ports : List Point) (i j : ℕ) → Decided (MeetAt wires ports i j)
meet_at_or_not wires ports i j = by_points (at_or_none (rays wires ports) i) (at_or_none (rays wires ports) j)
  where
    by_points : ((p : Point) × IsAt (rays wires ports) i p) ⊎ ((p : Point) → IsAt (rays wires ports) i p → ⊥)
        → ((p : Point) × IsAt (rays wires ports) j p) ⊎ ((p : Point) → IsAt (rays wires ports) j p → ⊥) → Decided (MeetAt wires ports i j)
    by_points (inr none) b = inr (λ m. none m.one m.first)
    by_points (inl a) (inr none) = inr (λ m. none m.other m.second)
    by_points (inl (p, at_i)) (inl (q, at_j)) = either_as
        (λ m. record { one = p; other = q; first = at_i; second = at_j; meet = m })
        (λ m. subst (λ (r : Point). Meet wires r q) (IsAt-one (rays wires ports) i m.one p m.first at_i)
        (subst (λ (r : Point). Meet wires m.one r) (IsAt-one (rays wires ports) j m.other q m.second at_j) m.meet))
        (meet_or_not wires p q)

-- ---- links

module _ (R : ℕ → ℕ → Type 0) (decide : (i j : ℕ) → Decided (R i j)) where
  -- the pairs of one number
  record AreOf (i n : ℕ) (links : List Link) : Type 0 where
    pub sound : (l : Link) → Contains links l → R l.from l.to
    pub all : (j : ℕ) → j < n → R i j → Contains links (record { from = i; to = j })

  pairs_of : (i n : ℕ) → (links : List Link) × AreOf i n links
  pairs_of i zero = ([], record { sound = λ l h. absurd (let less = h.1 in omega arith); all = λ j less. absurd (omega arith) })
  pairs_of i (suc n) = by_last (decide i n) (pairs_of i n)
    where
      by_last : Decided (R i n) → (links : List Link) × AreOf i n links → (links : List Link) × AreOf i (suc n) links
      by_last (inr fails) (links, a) = (links, record { sound = a.sound; all = λ j less r. before j less r (cases_eq j n) })
        where
          before : (j : ℕ) → j < suc n → R i j → (j ≡ n) ⊎ (j ≡ n → ⊥) → Contains links (record { from = i; to = j })
          before j less r (inl e) = absurd (fails (subst (λ (k : ℕ). R i k) e r))
          before j less r (inr ne) = a.all j (omega arith) r
      by_last (inl holds) (links, a) = (last ∷ links, record { sound = λ l h. sound l h.0 h.1 h.2; all = λ j less r. before j less r (cases_eq j n) })
        where
          last : Link
          last = record { from = i; to = n }

          sound : (l : Link) (k : ℕ) → k < length (last ∷ links) → get_or (last ∷ links) k l ≡ l → R l.from l.to
          sound l zero less e = subst (λ (m : Link). R m.from m.to) e holds
          sound l (suc k) less e = a.sound l (k, omega arith, e)

          before : (j : ℕ) → j < suc n → R i j → (j ≡ n) ⊎ (j ≡ n → ⊥) → Contains (last ∷ links) (record { from = i; to = j })
          before j less r (inl e) = (0, omega arith, ap (λ (k : ℕ). record { from = i; to = k }) (sym e))
          before j less r (inr ne) = let h = a.all j (omega arith) r in (suc h.0, (let within = h.1 in omega arith), h.2)

  -- the pairs of the first numbers
  record AreUpTo (m n : ℕ) (links : List Link) : Type 0 where
    pub sound : (l : Link) → Contains links l → R l.from l.to
    pub all : (i j : ℕ) → i < m → j < n → R i j → Contains links (record { from = i; to = j })

  pairs_up_to : (m n : ℕ) → (links : List Link) × AreUpTo m n links
  pairs_up_to zero n = ([], record { sound = λ l h. absurd (let less = h.1 in omega arith); all = λ i j less. absurd (omega arith) })
  pairs_up_to (suc m) n = joined (pairs_of m n) (pairs_up_to m n)
    where
      joined : (links : List Link) × AreOf m n links → (links : List Link) × AreUpTo m n links → (links : List Link) × AreUpTo (suc m) n links
      joined (last, a) (links, b) = (last ++ links, record { sound = λ l h. sound l (Contains-append_cases last links l h); all = λ i j less within r. all i j less within r (cases_eq i m) })
        where
          sound : (l : Link) → Contains last l ⊎ Contains links l → R l.from l.to
          sound l (inl h) = a.sound l h
          sound l (inr h) = b.sound l h

          all : (i j : ℕ) → i < suc m → j < n → R i j → (i ≡ m) ⊎ (i ≡ m → ⊥) → Contains (last ++ links) (record { from = i; to = j })
          all i j less within r (inl e) = Contains-append_left last links (record { from = i; to = j })
              (subst (λ (k : ℕ). Contains last (record { from = k; to = j })) (sym e) (a.all j within (subst (λ (k : ℕ). R k j) e r)))
          all i j less within r (inr ne) = Contains-append_right last links (record { from = i; to = j }) (b.all i j (omega arith) within r)

abbrev Meets : List Wire → List Point → ℕ → ℕ → Type 0
Meets wires ports = MeetAt (map segment_of wires) ports

abbrev node_count : List Wire → List Point → ℕ
node_count wires ports = length (rays (map segment_of wires) ports)

-- links of all nodes whose points meet
pub links_exist : (wires : List Wire) (ports : List Point) → (links : List Link) × AreNetLinks wires ports links
links_exist wires ports = made (pairs_up_to (Meets wires ports) (meet_at_or_not (map segment_of wires) ports) (node_count wires ports) (node_count wires ports))
  where
    made : (links : List Link) × AreUpTo (Meets wires ports) (meet_at_or_not (map segment_of wires) ports) (node_count wires ports) (node_count wires ports) links
        → (links : List Link) × AreNetLinks wires ports links
    made (links, a) = (
      links,
      record {
        sound = a.sound;
        complete = λ i j p q at_i at_j m.
            Chained-link links (record { from = i; to = j })
            (a.all i j (slice_get_within (rays (map segment_of wires) ports) i at_i.ray at_i.at) (slice_get_within (rays (map segment_of wires) ports) j at_j.ray at_j.at)
            (record { one = p; other = q; first = at_i; second = at_j; meet = m }));
      },
    )

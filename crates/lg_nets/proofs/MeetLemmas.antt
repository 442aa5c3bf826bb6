-- Points that meet: they are one, or one wire has both. Rays touch, level or turned flipped, exactly where they begin at such points.
use Rattle.std.proofs.Common.{◌≡◌, ℕ, ◌⊎◌, List, map, refl, sym, ap, subst, ◌∙◌, arith, inl, inr}
use Rattle.std.specs.Prelude.{◌≤ℤ◌, Contains}
use Rattle.std.proofs.lemmas.Int.{ints, by_lt_z}
use Rattle.lg_circ.specs.declared.project.Point.{Point}
use Rattle.lg_nets.specs.declared.rays.Segment.{Segment}
use Rattle.lg_nets.specs.Segment.{IsBetween, Covers}
use Rattle.lg_nets.specs.Rays.{dot, reversed, rays, flipped, transposed}
use Rattle.lg_nets.specs.Rows.{LiesAlong, Touch, TouchAt}
use Rattle.lg_nets.proofs.LabelLemmas.{one_point}
use Rattle.lg_nets.proofs.RayLemmas.{made_at, map_at, made_contained, map_contained, RayCases, rays_cases, rays_segment, rays_reversed, rays_over, IsAt}

-- the points are one, or lie on one wire
abbrev pub Meet : List Segment → Point → Point → Type 0
Meet wires p q = (p ≡ q) ⊎ ((w : Segment) × Contains wires w × Covers w p × Covers w q)

pub Meet-sym : (wires : List Segment) (p q : Point) → Meet wires p q → Meet wires q p
Meet-sym wires p q (inl e) = inl (sym e)
Meet-sym wires p q (inr h) = inr (h.0, h.1, h.3, h.2)

-- ---- level wires

-- the point lies on the wire, which is level
abbrev Level : Segment → Point → Type 0
Level w p = (w.from.y ≡ w.to.y) × (p.y ≡ w.from.y) × IsBetween w.from.x w.to.x p.x

level_from : (w : Segment) (p : Point) → LiesAlong w p → Level w p
level_from w p l = (l.level, l.row, inl (l.after, l.before))

level_back : (w : Segment) (p : Point) → LiesAlong (reversed w) p → Level w p
level_back w p l = (sym l.level, l.row ∙ l.level, inr (l.after, l.before))

along : (w : Segment) (p : Point) → w.from.x ≤ℤ w.to.x → Level w p → LiesAlong w p
along w p le l = record { level = l.0; row = l.1; after = after l.2; before = before l.2 }
  where
    after : IsBetween w.from.x w.to.x p.x → w.from.x ≤ℤ p.x
    after (inl h) = h.0
    after (inr h) = let a = h.0 in omega (arith, ints)

    before : IsBetween w.from.x w.to.x p.x → p.x ≤ℤ w.to.x
    before (inl h) = h.1
    before (inr h) = let a = h.1 in omega (arith, ints)

along_back : (w : Segment) (p : Point) → w.to.x ≤ℤ w.from.x → Level w p → LiesAlong (reversed w) p
along_back w p le l = along (reversed w) p le (sym l.0, l.1 ∙ l.0, turned l.2)
  where
    turned : IsBetween w.from.x w.to.x p.x → IsBetween w.to.x w.from.x p.x
    turned (inl h) = inr h
    turned (inr h) = inl h

-- a point that lies along a wire of length 0 is its point
at_dot : (q p : Point) → LiesAlong (dot q) p → p ≡ q
at_dot q p l = let a = l.after in let b = l.before in one_point p q (omega (arith, ints)) l.row

-- rays that touch begin at points that meet
meet_from : (wires : List Segment) (ports : List Point) (p q : Point) → Touch (rays wires ports) p q → Meet wires p q
meet_from wires ports p q (inl e) = inl e
meet_from wires ports p q (inr (w, h, a, b)) = by_ray (rays_cases wires ports w h)
  where
    by_ray : RayCases wires ports w → Meet wires p q
    by_ray (inl (r, k, e)) = inl (at_dot r p (subst (λ (v : Segment). LiesAlong v p) (sym e) a) ∙ sym (at_dot r q (subst (λ (v : Segment). LiesAlong v q) (sym e) b)))
    by_ray (inr (inl k)) = inr (w, k, inl (level_from w p a), inl (level_from w q b))
    by_ray (inr (inr (v, k, e))) = inr (v, k, inl (level_back v p (subst (λ (u : Segment). LiesAlong u p) (sym e) a)), inl (level_back v q (subst (λ (u : Segment). LiesAlong u q) (sym e) b)))

touch_level : (wires : List Segment) (ports : List Point) (w : Segment) (p q : Point) → Contains wires w → Level w p → Level w q → Touch (rays wires ports) p q
touch_level wires ports w p q h a b =
    by_lt_z w.to.x w.from.x
    (λ less. inr (reversed w, rays_reversed wires ports w h, along_back w p (omega (arith, ints)) a, along_back w q (omega (arith, ints)) b))
    (λ le. inr (w, rays_segment wires ports w h, along w p le a, along w q le b))

-- ---- upright wires, turned flipped

unturn : (w : Segment) (p : Point) → Covers (transposed w) (flipped p) → Covers w p
unturn w p (inl h) = inr h
unturn w p (inr h) = inl h

-- where rays that are turned flipped touch, the points meet
meet_from_over : (wires : List Segment) (ports : List Point) (p q : Point) → Touch (map transposed (rays wires ports)) (flipped p) (flipped q) → Meet wires p q
meet_from_over wires ports p q t = by_meet (meet_from (map transposed wires) (map flipped ports) (flipped p) (flipped q) (subst (λ (ws : List Segment). Touch ws (flipped p) (flipped q)) (rays_over wires ports) t))
  where
    by_meet : Meet (map transposed wires) (flipped p) (flipped q) → Meet wires p q
    by_meet (inl e) = inl (ap flipped e)
    by_meet (inr (w, h, a, b)) =
        let m = made_contained transposed wires w h in
        inr (m.0, m.1, unturn m.0 p (subst (λ (v : Segment). Covers v (flipped p)) (sym m.2) a), unturn m.0 q (subst (λ (v : Segment). Covers v (flipped q)) (sym m.2) b))

touch_upright : (wires : List Segment) (ports : List Point) (w : Segment) (p q : Point) → Contains wires w → Level (transposed w) (flipped p) → Level (transposed w) (flipped q)
    → Touch (map transposed (rays wires ports)) (flipped p) (flipped q)
touch_upright wires ports w p q h a b =
    subst (λ (ws : List Segment). Touch ws (flipped p) (flipped q)) (sym (rays_over wires ports))
    (touch_level (map transposed wires) (map flipped ports) (transposed w) (flipped p) (flipped q) (map_contained transposed wires w h) a b)

-- a point of an upright wire lies on it as on a level one where the wire is level too
both_ways : (w : Segment) (p : Point) → w.from.y ≡ w.to.y → Level (transposed w) (flipped p) → Level w p
both_ways w p level u = (level, at_row u.2, between)
  where
    at_row : IsBetween w.from.y w.to.y p.y → p.y ≡ w.from.y
    at_row (inl h) = let a = h.0 in let b = h.1 in omega (arith, ints)
    at_row (inr h) = let a = h.0 in let b = h.1 in omega (arith, ints)

    between : IsBetween w.from.x w.to.x p.x
    between = let e : p.x ≡ w.from.x = u.1 in let f : w.from.x ≡ w.to.x = u.0 in inl (omega (arith, ints), omega (arith, ints))

-- points that meet touch, as rays lie or turned flipped
pub touch_from : (wires : List Segment) (ports : List Point) (p q : Point) → Meet wires p q → Touch (rays wires ports) p q ⊎ Touch (map transposed (rays wires ports)) (flipped p) (flipped q)
touch_from wires ports p q (inl e) = inl (inl e)
touch_from wires ports p q (inr (w, h, a, b)) = by_side a b
  where
    by_side : Covers w p → Covers w q → Touch (rays wires ports) p q ⊎ Touch (map transposed (rays wires ports)) (flipped p) (flipped q)
    by_side (inl c) (inl d) = inl (touch_level wires ports w p q h c d)
    by_side (inl c) (inr d) = inl (touch_level wires ports w p q h c (both_ways w q c.0 d))
    by_side (inr c) (inl d) = inl (touch_level wires ports w p q h (both_ways w p d.0 c) d)
    by_side (inr c) (inr d) = inr (touch_upright wires ports w p q h c d)

-- ---- rays by their numbers

-- the rays of two numbers begin at points that meet
pub record MeetAt (wires : List Segment) (ports : List Point) (i j : ℕ) : Type 0 where
  pub one : Point
  pub other : Point
  pub first : IsAt (rays wires ports) i one
  pub second : IsAt (rays wires ports) j other
  pub meet : Meet wires one other

pub MeetAt-from : (wires : List Segment) (ports : List Point) (i j : ℕ) → TouchAt (rays wires ports) i j → MeetAt wires ports i j
MeetAt-from wires ports i j t = record {
  one = t.one.from;
  other = t.other.from;
  first = record { ray = t.one; at = t.first; from = refl };
  second = record { ray = t.other; at = t.second; from = refl };
  meet = meet_from wires ports t.one.from t.other.from t.touch;
}

pub MeetAt-from_over : (wires : List Segment) (ports : List Point) (i j : ℕ) → TouchAt (map transposed (rays wires ports)) i j → MeetAt wires ports i j
MeetAt-from_over wires ports i j t =
    let a = made_at transposed (rays wires ports) i t.one t.first in
    let b = made_at transposed (rays wires ports) j t.other t.second in
    record {
      one = a.0.from;
      other = b.0.from;
      first = record { ray = a.0; at = a.1; from = refl };
      second = record { ray = b.0; at = b.1; from = refl };
      meet = meet_from_over wires ports a.0.from b.0.from
          (subst (λ (v : Segment). Touch (map transposed (rays wires ports)) (flipped a.0.from) v.from) (sym b.2)
          (subst (λ (v : Segment). Touch (map transposed (rays wires ports)) v.from t.other.from) (sym a.2) t.touch));
    }

-- where the points meet, the rays touch, as they lie or turned flipped
pub TouchAt-from : (wires : List Segment) (ports : List Point) (i j : ℕ) (p q : Point) → IsAt (rays wires ports) i p → IsAt (rays wires ports) j q → Meet wires p q
    → TouchAt (rays wires ports) i j ⊎ TouchAt (map transposed (rays wires ports)) i j
TouchAt-from wires ports i j p q a b m = by_side (touch_from wires ports p q m)
  where
    by_side : Touch (rays wires ports) p q ⊎ Touch (map transposed (rays wires ports)) (flipped p) (flipped q) → TouchAt (rays wires ports) i j ⊎ TouchAt (map transposed (rays wires ports)) i j
    by_side (inl t) = inl (record { one = a.ray; other = b.ray; first = a.at; second = b.at; touch = rw (a.from, b.from) t })
    by_side (inr t) = inr (record {
      one = transposed a.ray;
      other = transposed b.ray;
      first = map_at transposed (rays wires ports) i a.ray a.at;
      second = map_at transposed (rays wires ports) j b.ray b.at;
      touch = subst (λ (r : Point). Touch (map transposed (rays wires ports)) (flipped r) (flipped b.ray.from)) (sym a.from)
          (subst (λ (r : Point). Touch (map transposed (rays wires ports)) (flipped p) (flipped r)) (sym b.from) t);
    })

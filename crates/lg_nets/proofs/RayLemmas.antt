-- The rays of a sheet: their first ends are its nodes, and they lie where its wires do.
use Rattle.std.proofs.Common.{◌≡◌, ℕ, suc, zero, ◌+◌, ◌*◌, ◌⊎◌, List, [], ◌∷◌, ◌++◌, length, map, Some, refl, sym, ap, subst, ◌∙◌, arith, inl, inr}
use Rattle.std.specs.Prelude.{Contains, slice_get}
use Rattle.std.specs.List.{flat_map}
use Rattle.std.proofs.lemmas.List.{map-append, length-append, length-map}
use Rattle.std.proofs.lemmas.List.Elements.{Contains-append_left, Contains-append_right, Contains-append_cases}
use Rattle.std.proofs.lemmas.Option.{same_Some, none-some, slice_get-get_or}
use Rattle.lg_circ.specs.declared.project.Point.{Point}
use Rattle.lg_circ.specs.declared.project.Wire.{Wire}
use Rattle.lg_nets.specs.declared.rays.Segment.{Segment}
use Rattle.lg_nets.specs.Joined.{IsNode}
use Rattle.lg_nets.specs.Segment.{segment_of}
use Rattle.lg_nets.specs.Rays.{dot, reversed, rays, flipped, transposed}
use Rattle.lg_nets.proofs.NodeLemmas.{Contains-at, at_contained}

-- ---- lists

-- an element of a list that a function made
pub made_at : {A B : Type 0} (f : A → B) (xs : List A) (i : ℕ) (y : B) → slice_get (map f xs) i ≡ Some y → (x : A) × (slice_get xs i ≡ Some x) × (f x ≡ y)
made_at f [] i y e = absurd (none-some y e)
made_at f (x ∷ xs) zero y e = (x, refl, same_Some (f x) y e)
made_at f (x ∷ xs) (suc i) y e = made_at f xs i y e

pub map_at : {A B : Type 0} (f : A → B) (xs : List A) (i : ℕ) (x : A) → slice_get xs i ≡ Some x → slice_get (map f xs) i ≡ Some (f x)
map_at f [] i x e = absurd (none-some x e)
map_at f (y ∷ xs) zero x e = ap (λ z. Some (f z)) (same_Some y x e)
map_at f (y ∷ xs) (suc i) x e = map_at f xs i x e

left_at : {A : Type 0} (xs ys : List A) (i : ℕ) (x : A) → slice_get xs i ≡ Some x → slice_get (xs ++ ys) i ≡ Some x
left_at [] ys i x e = absurd (none-some x e)
left_at (y ∷ xs) ys zero x e = e
left_at (y ∷ xs) ys (suc i) x e = left_at xs ys i x e

right_at : {A : Type 0} (xs ys : List A) (i : ℕ) → slice_get (xs ++ ys) (length xs + i) ≡ slice_get ys i
right_at [] ys i = ap (slice_get ys) (let e : 0 + i ≡ i = omega arith in e)
right_at (x ∷ xs) ys i = ap (slice_get (x ∷ (xs ++ ys))) (let e : suc (length xs) + i ≡ suc (length xs + i) = omega arith in e) ∙ right_at xs ys i

-- what a list of made elements contains
pub made_contained : {A B : Type 0} (f : A → B) (xs : List A) (y : B) → Contains (map f xs) y → (x : A) × Contains xs x × (f x ≡ y)
made_contained f [] y h = absurd (omega (arith, h.1))
made_contained f (x ∷ xs) y (zero, less, e) = (x, (0, omega arith, refl), e)
made_contained f (x ∷ xs) y (suc k, less, e) =
    let m = made_contained f xs y (k, omega arith, e) in
    (m.0, (suc m.1.0, omega (arith, m.1.1), m.1.2), m.2)

pub map_contained : {A B : Type 0} (f : A → B) (xs : List A) (x : A) → Contains xs x → Contains (map f xs) (f x)
map_contained f [] x h = absurd (omega (arith, h.1))
map_contained f (y ∷ xs) x (zero, less, e) = (0, omega arith, ap f e)
map_contained f (y ∷ xs) x (suc k, less, e) = let m = map_contained f xs x (k, omega arith, e) in (suc m.0, omega (arith, m.1), m.2)

-- ---- the rays

-- rays are the dots of ports, wires, and wires seen from their other ends
abbrev pub RayCases : List Segment → List Point → Segment → Type 0
RayCases wires ports w = ((p : Point) × Contains ports p × (dot p ≡ w)) ⊎ (Contains wires w ⊎ ((v : Segment) × Contains wires v × (reversed v ≡ w)))

pub rays_cases : (wires : List Segment) (ports : List Point) (w : Segment) → Contains (rays wires ports) w
    → RayCases wires ports w
unfolding rays
rays_cases wires ports w h = by_outer (Contains-append_cases (map dot ports ++ wires) (map reversed wires) w h)
  where
    by_inner : Contains (map dot ports) w ⊎ Contains wires w → RayCases wires ports w
    by_inner (inl k) = inl (made_contained dot ports w k)
    by_inner (inr k) = inr (inl k)

    by_outer : Contains (map dot ports ++ wires) w ⊎ Contains (map reversed wires) w → RayCases wires ports w
    by_outer (inl k) = by_inner (Contains-append_cases (map dot ports) wires w k)
    by_outer (inr k) = inr (inr (made_contained reversed wires w k))

pub rays_segment : (wires : List Segment) (ports : List Point) (w : Segment) → Contains wires w → Contains (rays wires ports) w
unfolding rays
rays_segment wires ports w h = Contains-append_left (map dot ports ++ wires) (map reversed wires) w (Contains-append_right (map dot ports) wires w h)

pub rays_reversed : (wires : List Segment) (ports : List Point) (w : Segment) → Contains wires w → Contains (rays wires ports) (reversed w)
unfolding rays
rays_reversed wires ports w h = Contains-append_right (map dot ports ++ wires) (map reversed wires) (reversed w) (map_contained reversed wires w h)

-- rays of wires and ports that are turned flipped
pub rays_over : (wires : List Segment) (ports : List Point) → map transposed (rays wires ports) ≡ rays (map transposed wires) (map flipped ports)
unfolding rays
rays_over wires ports =
    map-append transposed (map dot ports ++ wires) (map reversed wires)
    ∙ (ap (λ (ws : List Segment). ws ++ map transposed (map reversed wires)) (map-append transposed (map dot ports) wires)
    ∙ (ap (λ (ws : List Segment). ws ++ map transposed wires ++ map transposed (map reversed wires)) (dots ports)
    ∙ ap (λ (ws : List Segment). map dot (map flipped ports) ++ map transposed wires ++ ws) (backs wires)))
  where
    dots : (ps : List Point) → map transposed (map dot ps) ≡ map dot (map flipped ps)
    dots [] = refl
    dots (p ∷ ps) = ap (λ (ws : List Segment). dot (flipped p) ∷ ws) (dots ps)

    backs : (ws : List Segment) → map transposed (map reversed ws) ≡ map reversed (map transposed ws)
    backs [] = refl
    backs (w ∷ ws) = ap (λ (vs : List Segment). reversed (transposed w) ∷ vs) (backs ws)

-- ---- the nodes

-- ray i begins at the point
pub record IsAt (all : List Segment) (i : ℕ) (p : Point) : Type 0 where
  pub ray : Segment
  pub at : slice_get all i ≡ Some ray
  pub from : ray.from ≡ p

pub IsAt-one : (all : List Segment) (i : ℕ) (p q : Point) → IsAt all i p → IsAt all i q → p ≡ q
IsAt-one all i p q a b = sym a.from ∙ (ap (λ (w : Segment). w.from) (same_Some a.ray b.ray (sym a.at ∙ b.at)) ∙ b.from)

pub IsAt-port : (wires : List Segment) (ports : List Point) (i : ℕ) (p : Point) → slice_get ports i ≡ Some p → IsAt (rays wires ports) i p
unfolding rays
IsAt-port wires ports i p e = record {
  ray = dot p;
  at = left_at (map dot ports ++ wires) (map reversed wires) i (dot p) (left_at (map dot ports) wires i (dot p) (map_at dot ports i p e));
  from = refl;
}

pub IsAt-wire : (wires : List Segment) (ports : List Point) (k : ℕ) (w : Segment) → slice_get wires k ≡ Some w → IsAt (rays wires ports) (length ports + k) w.from
unfolding rays
IsAt-wire wires ports k w e = record {
  ray = w;
  at = left_at (map dot ports ++ wires) (map reversed wires) (length ports + k) w
      (ap (λ (n : ℕ). slice_get (map dot ports ++ wires) (n + k)) (sym (length-map ports dot)) ∙ (right_at (map dot ports) wires k ∙ e));
  from = refl;
}

IsAt-contained : (all : List Segment) (w : Segment) → Contains all w → (i : ℕ) × IsAt all i w.from
IsAt-contained all w h = (h.0, record { ray = w; at = at_contained all w h; from = refl })

-- an end of a wire
ends_cases : (wires : List Segment) (p : Point) → Contains (flat_map (λ (w : Segment). w.from ∷ w.to ∷ []) wires) p → (w : Segment) × Contains wires w × ((w.from ≡ p) ⊎ (w.to ≡ p))
ends_cases [] p h = absurd (omega (arith, h.1))
ends_cases (w ∷ ws) p (zero, less, e) = (w, (0, omega arith, refl), inl e)
ends_cases (w ∷ ws) p (suc zero, less, e) = (w, (0, omega arith, refl), inr e)
ends_cases (w ∷ ws) p (suc (suc k), less, e) =
    let m = ends_cases ws p (k, omega arith, e) in
    (m.0, (suc m.1.0, omega (arith, m.1.1), m.1.2), m.2)

ends_from : (wires : List Segment) (w : Segment) → Contains wires w → Contains (flat_map (λ (v : Segment). v.from ∷ v.to ∷ []) wires) w.from × Contains (flat_map (λ (v : Segment). v.from ∷ v.to ∷ []) wires) w.to
ends_from [] w h = absurd (omega (arith, h.1))
ends_from (v ∷ ws) w (zero, less, e) = ((0, omega arith, ap (λ (u : Segment). u.from) e), (1, omega arith, ap (λ (u : Segment). u.to) e))
ends_from (v ∷ ws) w (suc k, less, e) =
    let m = ends_from ws w (k, omega arith, e) in
    ((suc (suc m.0.0), omega (arith, m.0.1), m.0.2), (suc (suc m.1.0), omega (arith, m.1.1), m.1.2))

-- an end of a line, or the place of a port
abbrev IsEnd : List Segment → List Point → Point → Type 0
IsEnd segments ports p = Contains (flat_map (λ (s : Segment). s.from ∷ s.to ∷ []) segments) p ⊎ Contains ports p

-- the ends of wires are those of their lines
same_ends : (wires : List Wire) → flat_map (λ (w : Wire). w.from ∷ w.to ∷ []) wires ≡ flat_map (λ (s : Segment). s.from ∷ s.to ∷ []) (map segment_of wires)
same_ends [] = refl
same_ends (w ∷ wires) = ap (λ (ps : List Point). w.from ∷ w.to ∷ ps) (same_ends wires)

-- each node is where a ray begins
IsAt-end : (wires : List Segment) (ports : List Point) (p : Point) → IsEnd wires ports p → (i : ℕ) × IsAt (rays wires ports) i p
IsAt-end wires ports p (inr h) = (h.0, IsAt-port wires ports h.0 p (slice_get-get_or ports h.0 p h.1 ∙ ap (λ (q : Point). Some q) h.2))
IsAt-end wires ports p (inl h) = let e = ends_cases wires p h in by_end e.0 e.1 e.2
  where
    by_end : (w : Segment) → Contains wires w → (w.from ≡ p) ⊎ (w.to ≡ p) → (i : ℕ) × IsAt (rays wires ports) i p
    by_end w k (inl e) = let a = IsAt-contained (rays wires ports) w (rays_segment wires ports w k) in (a.0, record { ray = a.1.ray; at = a.1.at; from = a.1.from ∙ e })
    by_end w k (inr e) = let a = IsAt-contained (rays wires ports) (reversed w) (rays_reversed wires ports w k) in (a.0, record { ray = a.1.ray; at = a.1.at; from = a.1.from ∙ e })

-- and each ray begins at a node
IsEnd-at : (wires : List Segment) (ports : List Point) (i : ℕ) (p : Point) → IsAt (rays wires ports) i p → IsEnd wires ports p
IsEnd-at wires ports i p a = subst (IsEnd wires ports) a.from (by_ray (rays_cases wires ports a.ray (Contains-at (rays wires ports) i a.ray a.at)))
  where
    by_ray : RayCases wires ports a.ray → IsEnd wires ports a.ray.from
    by_ray (inl h) = inr (subst (Contains ports) (ap (λ (w : Segment). w.from) h.2) h.1)
    by_ray (inr (inl h)) = inl (ends_from wires a.ray h).0
    by_ray (inr (inr h)) = inl (subst (Contains (flat_map (λ (v : Segment). v.from ∷ v.to ∷ []) wires)) (ap (λ (w : Segment). w.from) h.2) (ends_from wires h.0 h.1).1)

pub IsAt-node : (wires : List Wire) (ports : List Point) (p : Point) → IsNode wires ports p → (i : ℕ) × IsAt (rays (map segment_of wires) ports) i p
IsAt-node wires ports p h = IsAt-end (map segment_of wires) ports p (subst (λ (ps : List Point). Contains ps p ⊎ Contains ports p) (same_ends wires) h)

pub IsNode-at : (wires : List Wire) (ports : List Point) (i : ℕ) (p : Point) → IsAt (rays (map segment_of wires) ports) i p → IsNode wires ports p
IsNode-at wires ports i p a = subst (λ (ps : List Point). Contains ps p ⊎ Contains ports p) (sym (same_ends wires)) (IsEnd-at (map segment_of wires) ports i p a)

length-rays : (wires : List Segment) (ports : List Point) → length (rays wires ports) ≡ length ports + 2 * length wires
unfolding rays
length-rays wires ports =
    omega (arith, length-append (map dot ports ++ wires) (map reversed wires), length-append (map dot ports) wires, length-map ports dot, length-map wires reversed)

-- as many rays as ports and ends of wires
pub length-sheet_rays : (wires : List Wire) (ports : List Point) → length (rays (map segment_of wires) ports) ≡ length ports + 2 * length wires
length-sheet_rays wires ports = length-rays (map segment_of wires) ports ∙ ap (λ (n : ℕ). length ports + 2 * n) (length-map wires segment_of)

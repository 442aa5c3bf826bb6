-- The nodes of rays, and the links of a row.
use Rattle.std.proofs.Common.{◌≡◌, ℕ, suc, zero, ◌+◌, ◌⊎◌, Bool, true, false, ◌&&◌, List, [], ◌∷◌, Some, refl, sym, ap, subst, ◌∙◌, arith, inl, inr}
use Rattle.std.specs.Prelude.{ℤ, ◌≤ℤ◌, ◌<ℤ◌, Contains, int_lt, slice_get}
use Rattle.std.specs.Ordering.{int_eq}
use Rattle.std.specs.List.Sorted.{IsPermutation}
use Rattle.std.proofs.lemmas.Bool.{cond-true, cond-false, and_from}
use Rattle.std.proofs.lemmas.Bool.Decides.{Decides-int_eq, not_from_Decides}
use Rattle.std.proofs.lemmas.Int.{ints}
use Rattle.std.proofs.lemmas.Option.{same_Some, none-some, slice_get-get_or, slice_get_within, get_or_from_slice_get}
use Rattle.std.proofs.lemmas.List.Sorted.{Contains-permutation, IsPermutation-sym}
use Rattle.lg_circ.specs.declared.project.Point.{Point}
use Rattle.lg_nets.specs.declared.rays.Segment.{Segment}
use Rattle.lg_nets.specs.declared.components.Link.{Link}
use Rattle.lg_nets.specs.declared.rows.Node.{Node}
use Rattle.lg_nets.specs.Links.{Chained}
use Rattle.lg_nets.specs.Rows.{LiesAlong, Touch, TouchAt, AreRowLinks, reach_of, node_of, nodes_from, links_of}
use Rattle.lg_nets.proofs.LabelLemmas.{one_point}
use Rattle.lg_nets.proofs.ChainLemmas.{Chained-sym, Chained-trans}
use Rattle.lg_nets.proofs.OrderLemmas.{InOrder}
use Rattle.lg_nets.proofs.RowLemmas.{meets, Spanned, Spanned-all, lt_from, ge_from, Contains-cases}

-- the node of a ray, numbered from `first` on
record IsNodeFrom (first : ℕ) (rays : List Segment) (n : Node) : Type 0 where
  pub number : ℕ
  pub ray : Segment
  pub at : slice_get rays number ≡ Some ray
  pub is : node_of (first + number) ray ≡ n

IsNodeFrom-more : (first : ℕ) (w : Segment) (ws : List Segment) (n : Node) → IsNodeFrom (first + 1) ws n → IsNodeFrom first (w ∷ ws) n
IsNodeFrom-more first w ws n h = record { number = suc h.number; ray = h.ray; at = h.at; is = ap (λ k. node_of k h.ray) (let e : first + suc h.number ≡ first + 1 + h.number = omega arith in e) ∙ h.is }

IsNodeFrom-contained : (first : ℕ) (rays : List Segment) (n : Node) → Contains (nodes_from first rays) n → IsNodeFrom first rays n
IsNodeFrom-contained first [] n h = absurd (omega (arith, h.1))
IsNodeFrom-contained first (w ∷ ws) n h = by_case (Contains-cases (node_of first w) (nodes_from (first + 1) ws) n h) (IsNodeFrom-contained (first + 1) ws n)
  where
    by_case : (node_of first w ≡ n) ⊎ Contains (nodes_from (first + 1) ws) n → (Contains (nodes_from (first + 1) ws) n → IsNodeFrom (first + 1) ws n) → IsNodeFrom first (w ∷ ws) n
    by_case (inl e) more = record { number = 0; ray = w; at = refl; is = ap (λ k. node_of k w) (let f : first + 0 ≡ first = omega arith in f) ∙ e }
    by_case (inr h) more = IsNodeFrom-more first w ws n (more h)

Contains-node : (first : ℕ) (rays : List Segment) (i : ℕ) (w : Segment) → slice_get rays i ≡ Some w → Contains (nodes_from first rays) (node_of (first + i) w)
Contains-node first [] i w e = absurd (none-some w e)
Contains-node first (v ∷ ws) zero w e =
    (0, omega arith, ap (λ k. node_of k v) (let f : first ≡ first + 0 = omega arith in f) ∙ ap (node_of (first + 0)) (same_Some v w e))
Contains-node first (v ∷ ws) (suc i) w e =
    let h = Contains-node (first + 1) ws i w e in
    let same : first + 1 + i ≡ first + suc i = omega arith in
    subst (λ (k : ℕ). Contains (nodes_from first (v ∷ ws)) (node_of k w)) same (suc h.0, omega (arith, h.1), h.2)

-- a ray that leads to the right along its row reaches its other end, and any other itself
abbrev ReachCases : Segment → Type 0
ReachCases w =
    ((w.from.y ≡ w.to.y) × (w.from.x <ℤ w.to.x) × (reach_of w ≡ w.to.x))
    ⊎ (((w.from.y ≡ w.to.y) → w.to.x ≤ℤ w.from.x) × (reach_of w ≡ w.from.x))

reach_cases : (w : Segment) → ReachCases w
reach_cases w = by_tests (int_eq w.from.y w.to.y) (int_lt w.from.x w.to.x) refl refl
  where
    by_tests : (b l : Bool) → int_eq w.from.y w.to.y ≡ b → int_lt w.from.x w.to.x ≡ l
        → ReachCases w
    by_tests true true e f = inl (
      (Decides-int_eq w.from.y w.to.y).0 e,
      lt_from w.from.x w.to.x f,
      cond-true (int_eq w.from.y w.to.y && int_lt w.from.x w.to.x) w.to.x w.from.x (and_from (int_eq w.from.y w.to.y) (int_lt w.from.x w.to.x) e f),
    )
    by_tests true false e f = inr (
      λ _. ge_from w.from.x w.to.x f,
      cond-false (int_eq w.from.y w.to.y && int_lt w.from.x w.to.x) w.to.x w.from.x (ap (λ b. b && int_lt w.from.x w.to.x) e ∙ f),
    )
    by_tests false l e f = inr (
      λ s. absurd (not_from_Decides (int_eq w.from.y w.to.y) (Decides-int_eq w.from.y w.to.y) e s),
      cond-false (int_eq w.from.y w.to.y && int_lt w.from.x w.to.x) w.to.x w.from.x (ap (λ b. b && int_lt w.from.x w.to.x) e),
    )

reaches_itself : (w : Segment) → w.from.x ≤ℤ reach_of w
reaches_itself w = by_case (reach_cases w)
  where
    by_case : ReachCases w → w.from.x ≤ℤ reach_of w
    by_case (inl h) = let less = h.1 in rw h.2 (omega (arith, ints))
    by_case (inr h) = rw h.1 (omega (arith, ints))

-- a ray that a point lies along reaches its other end
reaches_end : (w : Segment) (p : Point) → LiesAlong w p → w.to.x ≤ℤ reach_of w
reaches_end w p l = by_case (reach_cases w)
  where
    by_case : ReachCases w → w.to.x ≤ℤ reach_of w
    by_case (inl h) = rw h.2 (omega (arith, ints))
    by_case (inr h) = rw h.1 (h.0 l.level)

-- ---- the links of a row

pub Contains-at : (rays : List Segment) (k : ℕ) (w : Segment) → slice_get rays k ≡ Some w → Contains rays w
Contains-at rays k w e = (k, slice_get_within rays k w e, get_or_from_slice_get rays k w w e)

pub at_contained : (rays : List Segment) (w : Segment) (h : Contains rays w) → slice_get rays h.0 ≡ Some w
at_contained rays w h = slice_get-get_or rays h.0 w h.1 ∙ ap (λ (v : Segment). Some v) h.2

-- two rays that begin where a third reaches touch
touch_from : (rays : List Segment) (u v w : Segment) → Contains rays w → u.from.y ≡ w.from.y → v.from.y ≡ w.from.y → w.from.x ≤ℤ u.from.x
    → u.from.x ≤ℤ v.from.x → v.from.x ≤ℤ reach_of w → Touch rays u.from v.from
touch_from rays u v w has row other after between within = by_case (reach_cases w)
  where
    by_case : ReachCases w → Touch rays u.from v.from
    by_case (inl h) =
        let near : v.from.x ≤ℤ w.to.x = rw (sym h.2) within in
        inr (w, has, record { level = h.0; row = row; after = after; before = omega (arith, ints) }, record { level = h.0; row = other; after = omega (arith, ints); before = near })
    by_case (inr h) =
        let near : v.from.x ≤ℤ w.from.x = rw (sym h.1) within in
        inl (one_point u.from v.from (omega (arith, ints)) (row ∙ sym other))

number_is : (rays : List Segment) (n : Node) (i : ℕ) → (h : IsNodeFrom 0 rays n) → n.place ≡ i → slice_get rays i ≡ Some h.ray
number_is rays n i h e =
    let same : h.number ≡ i = omega (arith, ap (λ (m : Node). m.place) h.is, e) in
    subst (λ (k : ℕ). slice_get rays k ≡ Some h.ray) same h.at

sound_from : (rays : List Segment) (nodes : List Node) (l : Link) → ((n : Node) → Contains nodes n → IsNodeFrom 0 rays n) → Spanned nodes l → TouchAt rays l.from l.to
sound_from rays nodes l back s =
    let a = back s.one s.has_one in
    let b = back s.other s.has_other in
    let f = back s.far s.has_far in
    let across : Node → ℤ = λ n. n.across in
    let along : Node → ℤ = λ n. n.along in
    record {
      one = a.ray;
      other = b.ray;
      first = number_is rays s.one l.from a s.one_place;
      second = number_is rays s.other l.to b s.other_place;
      touch = touch_from rays a.ray b.ray f.ray (Contains-at rays f.number f.ray f.at)
          (ap across a.is ∙ s.one_row ∙ sym (ap across f.is))
          (ap across b.is ∙ s.other_row ∙ sym (ap across f.is))
          (rw (ap along a.is, ap along f.is) s.after)
          (rw (ap along a.is, ap along b.is) s.between)
          (rw (ap along b.is, ap (λ (n : Node). n.reach) f.is) s.within);
    }

complete_from : (rays : List Segment) (nodes : List Node) (i j : ℕ) → InOrder nodes → ((k : ℕ) (w : Segment) → slice_get rays k ≡ Some w → Contains nodes (node_of k w)) → TouchAt rays i j
    → Chained (links_of nodes) i j
complete_from rays nodes i j o has t = by_touch t.touch
  where
    meet : (k m : ℕ) (v w : Segment) → slice_get rays k ≡ Some v → slice_get rays m ≡ Some w → w.from.y ≡ v.from.y → v.from.x ≤ℤ w.from.x → w.from.x ≤ℤ reach_of v
        → Chained (links_of nodes) k m
    meet k m v w e f row le near = meets nodes (node_of k v) (node_of m w) o (has k v e) (has m w f) row le near (reaches_itself w)

    on : (w : Segment) (h : Contains rays w) (k : ℕ) (v : Segment) → slice_get rays k ≡ Some v → LiesAlong w v.from → Chained (links_of nodes) h.0 k
    on w h k v e l = meet h.0 k w v (at_contained rays w h) e l.row l.after (let a = l.before in let b = reaches_end w v.from l in omega (arith, ints))

    by_touch : Touch rays t.one.from t.other.from → Chained (links_of nodes) i j
    by_touch (inl e) =
        let x : t.one.from.x ≡ t.other.from.x = ap (λ (p : Point). p.x) e in
        let y : t.one.from.y ≡ t.other.from.y = ap (λ (p : Point). p.y) e in
        let r = reaches_itself t.one in
        meet i j t.one t.other t.first t.second (sym y) (omega (arith, ints)) (rw (sym x) r)
    by_touch (inr (w, h, a, b)) = Chained-trans (links_of nodes) i h.0 j (Chained-sym (links_of nodes) h.0 i (on w h i t.one t.first a)) (on w h j t.other t.second b)

pub AreRowLinks-from : (rays : List Segment) (nodes : List Node) → IsPermutation (nodes_from 0 rays) nodes → InOrder nodes → AreRowLinks rays (links_of nodes)
AreRowLinks-from rays nodes p o = record {
  sound = λ l h. sound_from rays nodes l
      (λ n k. IsNodeFrom-contained 0 rays n (Contains-permutation nodes (nodes_from 0 rays) n (IsPermutation-sym (nodes_from 0 rays) nodes p) k))
      (Spanned-all nodes o l h);
  complete = λ i j t. complete_from rays nodes i j o
      (λ k w e.
      let same : 0 + k ≡ k = omega arith in
      subst (λ (m : ℕ). Contains nodes (node_of m w)) same (Contains-permutation (nodes_from 0 rays) nodes (node_of (0 + k) w) p (Contains-node 0 rays k w e)))
      t;
}

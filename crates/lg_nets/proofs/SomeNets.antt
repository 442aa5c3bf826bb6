-- Every sheet has labels and flags.
use Rattle.std.proofs.Common.{◌≡◌, ℕ, zero, suc, ◌<◌, ◌≤◌, ◌≢◌, ◌⊎◌, List, [], length, map, get_or, take, Bool, Option, Some, None, refl, sym, ap, subst, ◌∙◌, arith, add-one, inl, inr}
use Rattle.std.specs.Prelude.{Contains, slice_get}
use Rattle.std.specs.List.{range_with_len}
use Rattle.std.proofs.lemmas.Bool.{cases_eq}
use Rattle.std.proofs.lemmas.List.Elements.{Contains-get_or}
use Rattle.std.proofs.lemmas.List.FromFn.{length-map-range_with_len, get_or-map-range_with_len}
use Rattle.std.proofs.lemmas.Option.{none-some, same_Some, slice_get-get_or, slice_get_within}
use Rattle.lg_circ.specs.declared.project.Point.{Point}
use Rattle.lg_circ.specs.declared.project.Wire.{Wire}
use Rattle.lg_nets.specs.declared.components.Link.{Link}
use Rattle.lg_nets.specs.Segment.{segment_of}
use Rattle.lg_nets.specs.Joined.{LiesOn, AreLabels, IsAttached, AreAttached}
use Rattle.lg_nets.specs.Links.{AreClasses}
use Rattle.lg_nets.specs.Forest.{Represents, merged}
use Rattle.lg_nets.specs.Rays.{rays}
use Rattle.lg_nets.proofs.Decisions.{Decided, either_as, both_or_not, one_or_none, some_in_or_none, some_below_or_none, AreFlags, flags_exist}
use Rattle.lg_nets.proofs.ForestLemmas.{MergedCases, merged_cases}
use Rattle.lg_nets.proofs.ClassLemmas.{IsForest, IsForest-alone, IsForest-more, AreClasses-from}
use Rattle.lg_nets.proofs.RayLemmas.{length-sheet_rays}
use Rattle.lg_nets.proofs.NetLemmas.{AreNetLinks, AreLabels-from, within}
use Rattle.lg_nets.proofs.SomeLinks.{one_point_or_not, covers_or_not, links_exist}

-- ---- classes

-- no number is chosen for a lesser one
Represents-none : (rep : ℕ → ℕ) (a b : ℕ) → Represents rep [] → Represents (merged rep a b) []
Represents-none rep a b r = record { keeps = λ i less. absurd (omega arith); roots = λ i less. absurd (omega arith); low = λ i. low i (merged_cases rep a b i) }
  where
    low : (i : ℕ) → MergedCases rep a b i → merged rep a b i ≤ i
    low i (inl h) = let e = h.0 in let f = h.1 in let g = r.low i in omega arith
    low i (inr h) = let f = h.1 in let g = r.low i in omega arith

-- the choice once the first links are followed, where no parent is told
forest_exists : (links : List Link) (done : ℕ) → done ≤ length links → IsForest links done []
forest_exists links zero few = IsForest-alone links [] (λ k less. absurd (omega arith))
forest_exists links (suc done) few = rw (← add-one) (IsForest-more links done (get_or links done nowhere) [] [] (slice_get-get_or links done nowhere (omega arith)) (Contains-get_or links done nowhere (omega arith))
    (λ rep r. Represents-none rep (get_or links done nowhere).from (get_or links done nowhere).to r) (forest_exists links done (omega arith)))
  where
    nowhere : Link
    nowhere = record { from = 0; to = 0 }

classes_exist : (links : List Link) (count : ℕ) → ((link : Link) → Contains links link → (link.from < count) × (link.to < count)) → (labels : List ℕ) × AreClasses links count labels
classes_exist links count within = (
  map forest.rep (range_with_len 0 count),
  AreClasses-from links count [] (map forest.rep (range_with_len 0 count)) (length-map-range_with_len forest.rep 0 count) within forest
      (λ k less. get_or-map-range_with_len forest.rep 0 count k k 0 less (omega arith)),
)
  where
    forest : IsForest links (length links) []
    forest = forest_exists links (length links) (omega arith)

-- ---- labels

pub labels_exist : (wires : List Wire) (ports : List Point) → (labels : List ℕ) × AreLabels wires ports labels
labels_exist wires ports = made (links_exist wires ports)
  where
    count : ℕ
    count = length (rays (map segment_of wires) ports)

    enough : length ports ≤ count
    enough = omega (arith, length-sheet_rays wires ports)

    from_classes : (links : List Link) → AreNetLinks wires ports links → (labels : List ℕ) × AreClasses links count labels → (labels : List ℕ) × AreLabels wires ports labels
    from_classes links n (labels, c) = (take (length ports) labels, AreLabels-from wires ports links count labels n c enough)

    made : (links : List Link) × AreNetLinks wires ports links → (labels : List ℕ) × AreLabels wires ports labels
    made (links, n) = from_classes links n (classes_exist links count (λ link h. within wires ports links link n h))

-- ---- flags

port_at_or_not : (ports : List Point) (p : Point) (j : ℕ) → Decided (slice_get ports j ≡ Some p)
port_at_or_not ports p j = by_get (slice_get ports j) refl
  where
    by_get : (o : Option Point) → slice_get ports j ≡ o → Decided (slice_get ports j ≡ Some p)
    by_get None e = inr (λ f. none-some p (sym e ∙ f))
    by_get (Some q) e = either_as (λ same. e ∙ ap (λ (r : Point). Some r) same) (λ f. same_Some q p (sym e ∙ f)) (one_point_or_not q p)

other_or_not : (i j : ℕ) → Decided (j ≢ i)
other_or_not i j = by_case (cases_eq j i)
  where
    by_case : (j ≡ i) ⊎ (j ≡ i → ⊥) → Decided (j ≢ i)
    by_case (inl e) = inr (λ ne. ne e)
    by_case (inr ne) = inl ne

attached_or_not : (wires : List Wire) (ports : List Point) (i : ℕ) (p : Point) → Decided (IsAttached wires ports i p)
attached_or_not wires ports i p = one_or_none
    (some_in_or_none (λ (w : Wire). LiesOn w p) (λ w. covers_or_not (segment_of w) p) wires)
    (either_as (λ h. (h.0, h.2.0, h.2.1)) (λ h. (h.0, slice_get_within ports h.0 p h.2, (h.1, h.2)))
    (some_below_or_none (λ (j : ℕ). (j ≢ i) × (slice_get ports j ≡ Some p)) (λ j. both_or_not (other_or_not i j) (port_at_or_not ports p j)) (length ports)))

-- something is attached to the port of this number
abbrev HasAttached : List Wire → List Point → ℕ → Type 0
HasAttached wires ports i = (p : Point) × (slice_get ports i ≡ Some p) × IsAttached wires ports i p

has_attached_or_not : (wires : List Wire) (ports : List Point) (i : ℕ) → Decided (HasAttached wires ports i)
has_attached_or_not wires ports i = by_get (slice_get ports i) refl
  where
    by_get : (o : Option Point) → slice_get ports i ≡ o → Decided (HasAttached wires ports i)
    by_get None e = inr (λ h. none-some h.0 (sym e ∙ h.1))
    by_get (Some p) e = either_as (λ a. (p, e, a)) (λ h. subst (IsAttached wires ports i) (same_Some h.0 p (sym h.1 ∙ e)) h.2) (attached_or_not wires ports i p)

pub attached_exist : (wires : List Wire) (ports : List Point) → (flags : List Bool) × AreAttached wires ports flags
attached_exist wires ports = made (flags_exist (HasAttached wires ports) (has_attached_or_not wires ports) (length ports))
  where
    made : (flags : List Bool) × AreFlags (HasAttached wires ports) (length ports) flags → (flags : List Bool) × AreAttached wires ports flags
    made (flags, f) = (
      flags,
      record {
        one_each = f.one_each;
        attached = λ i p at.
            let says = f.says i (slice_get_within ports i p at) in
            (λ t. let h = says.0 t in subst (IsAttached wires ports i) (same_Some h.0 p (sym h.1 ∙ at)) h.2, λ a. says.1 (p, at, a));
      },
    )

-- Assigns none of which depends on itself have an order in which each stands after those that it reads.
use Rattle.std.proofs.Common.{◌≡◌, ℕ, zero, suc, ◌<◌, ◌≤◌, Bool, true, false, List, [], ◌∷◌, ◌++◌, length, Option, Some, None, refl, sym, ap, subst, ◌∙◌, arith, inl, inr, ◌⊎◌}
use Rattle.std.specs.Prelude.{slice_get, slice_index, Contains}
use Rattle.std.specs.Str.{bytes_eq}
use Rattle.std.proofs.lemmas.Bool.{cases_eq, cases_lt, false≢true}
use Rattle.std.proofs.lemmas.Option.{same_Some, slice_get_within}
use Rattle.std.proofs.lemmas.Slice.Eq.{bytes_eq-Decides}
use Rattle.lg_vtree.specs.declared.module.Assign.{Assign}
use Rattle.lg_vtree.specs.declared.module.Module.{Module}
use Rattle.lg_vrules.specs.Depends.{names_read, IsChain, DependsOn, IsAcyclic}
use Rattle.lg_vrules.specs.Order.{IsBefore, IsOrder}

-- the number is one of these
abbrev IsOne : List ℕ → ℕ → Type 0
IsOne [] n = ⊥
IsOne (k ∷ more) n = (n ≡ k) ⊎ IsOne more n

-- all of these but one
record Without (n : ℕ) (some : List ℕ) : Type 0 where
  pub less : List ℕ
  pub short : length less ≤ length some
  pub shorter : IsOne some n → length less < length some
  pub stay : (k : ℕ) → IsOne some k → (k ≡ n) ⊎ IsOne less k
  pub only : (k : ℕ) → IsOne less k → IsOne some k
  pub apart : IsOne less n → ⊥

without : (n : ℕ) (some : List ℕ) → Without n some
without n [] = record {
  less = [];
  short = omega arith;
  shorter = λ here. absurd here;
  stay = λ k here. absurd here;
  only = λ k here. here;
  apart = λ here. here;
}
without n (x ∷ some) = step (cases_eq x n) (without n some)
  where
    step : (x ≡ n) ⊎ (x ≡ n → ⊥) → Without n some → Without n (x ∷ some)
    step (inl same) w = record {
      less = w.less;
      short = omega (arith, w.short);
      shorter = λ here. omega (arith, w.short);
      stay = λ k here. stay k here;
      only = λ k here. inr (w.only k here);
      apart = w.apart;
    }
      where
        stay : (k : ℕ) → IsOne (x ∷ some) k → (k ≡ n) ⊎ IsOne w.less k
        stay k (inl e) = inl (e ∙ same)
        stay k (inr here) = w.stay k here
    step (inr differ) w = record {
      less = x ∷ w.less;
      short = omega (arith, w.short);
      shorter = λ here. shorter here;
      stay = λ k here. stay k here;
      only = λ k here. only k here;
      apart = λ here. apart here;
    }
      where
        shorter : IsOne (x ∷ some) n → length (x ∷ w.less) < length (x ∷ some)
        shorter (inl e) = absurd (differ (sym e))
        shorter (inr here) = let less = w.shorter here in omega (arith, less)

        stay : (k : ℕ) → IsOne (x ∷ some) k → (k ≡ n) ⊎ IsOne (x ∷ w.less) k
        stay k (inl e) = inr (inl e)
        stay k (inr here) = elim (w.stay k here) [
          | inl same ↦ inl same
          | inr there ↦ inr (inr there)
        ]

        only : (k : ℕ) → IsOne (x ∷ w.less) k → IsOne (x ∷ some) k
        only k (inl e) = inl e
        only k (inr here) = inr (w.only k here)

        apart : IsOne (x ∷ w.less) n → ⊥
        apart (inl e) = differ (sym e)
        apart (inr here) = w.apart here

-- the numbers below one
numbers_below : (n : ℕ) → (all : List ℕ) × ((k : ℕ) → k < n → IsOne all k) × ((k : ℕ) → IsOne all k → k < n)
numbers_below zero = ([], λ k less. absurd (omega (arith, less)), λ k here. absurd here)
numbers_below (suc n) = let r = numbers_below n in (n ∷ r.0, λ k less. in_them r.0 r.1 k less (cases_lt k n), λ k here. below r.0 r.2 k here)
  where
    in_them : (all : List ℕ) → ((k : ℕ) → k < n → IsOne all k) → (k : ℕ) → k < suc n → (k < n) ⊎ (n ≤ k) → IsOne (n ∷ all) k
    in_them all each k less (inl before) = inr (each k before)
    in_them all each k less (inr past) = inl (omega (arith, less, past))

    below : (all : List ℕ) → ((k : ℕ) → IsOne all k → k < n) → (k : ℕ) → IsOne (n ∷ all) k → k < suc n
    below all each k (inl e) = omega (arith, e)
    below all each k (inr here) = let less = each k here in omega (arith, less)

-- one of these stands at an index
index_of : (some : List ℕ) (n : ℕ) → IsOne some n → (k : ℕ) × (k < length some) × (slice_index some k ≡ n)
index_of [] n here = absurd here
index_of (x ∷ some) n (inl e) = (0, omega arith, sym e)
index_of (x ∷ some) n (inr here) = let r = index_of some n here in (suc r.0, omega (arith, r.1), r.2)

one_at : (some : List ℕ) (k : ℕ) → k < length some → IsOne some (slice_index some k)
one_at [] k less = absurd (omega (arith, less))
one_at (x ∷ some) zero less = inl refl
one_at (x ∷ some) (suc k) less = inr (one_at some k (omega (arith, less)))

-- numbers with arrows between them, where no way of arrows leads from one to itself
module _ (Arrow Leads : ℕ → ℕ → Type 0) (arrow_or_not : (i j : ℕ) → Arrow i j ⊎ (Arrow i j → ⊥)) (leads : (i j : ℕ) → Arrow i j → Leads i j) (leads_on : (i j k : ℕ) → Leads i j → Leads j k → Leads i k) (never : (i : ℕ) → Leads i i → ⊥) where
  -- the number, or one of these that it leads to
  abbrev IsReached : List ℕ → ℕ → ℕ → Type 0
  IsReached some from at = (at ≡ from) ⊎ (IsOne some at × Leads from at)

  reached_leads : (some : List ℕ) (from at to : ℕ) → IsReached some from at → Arrow at to → Leads from to
  reached_leads some from at to (inl e) arrow = subst (λ (n : ℕ). Leads n to) e (leads at to arrow)
  reached_leads some from at to (inr reached) arrow = leads_on from at to reached.1 (leads at to arrow)

  -- from each number one is reached that has no arrow to any of these
  abbrev End : List ℕ → ℕ → Type 0
  End some from = (at : ℕ) × IsReached some from at × ((k : ℕ) → IsOne some k → Arrow at k → ⊥)

  end : (some : List ℕ) (from : ℕ) → End some from
  end [] from = (from, inl refl, λ k here arrow. here)
  end (x ∷ some) from = let e = end some from in step e.0 e.1 e.2 (arrow_or_not e.0 x) (end some x)
    where
      wider : (at : ℕ) → IsReached some from at → IsReached (x ∷ some) from at
      wider at (inl e) = inl e
      wider at (inr reached) = inr (inr reached.0, reached.1)

      over : (at : ℕ) → Leads from x → IsReached some x at → IsReached (x ∷ some) from at
      over at way (inl e) = inr (inl e, subst (Leads from) (sym e) way)
      over at way (inr reached) = inr (inr reached.0, leads_on from x at way reached.1)

      none_more : (at : ℕ) → (Arrow at x → ⊥) → ((k : ℕ) → IsOne some k → Arrow at k → ⊥) → (k : ℕ) → IsOne (x ∷ some) k → Arrow at k → ⊥
      none_more at none last k (inl e) arrow = none (subst (Arrow at) e arrow)
      none_more at none last k (inr here) arrow = last k here arrow

      step : (at : ℕ) → IsReached some from at → ((k : ℕ) → IsOne some k → Arrow at k → ⊥) → Arrow at x ⊎ (Arrow at x → ⊥) → End some x → End (x ∷ some) from
      step at reached last (inr none) after = (at, wider at reached, none_more at none last)
      step at reached last (inl arrow) after =
          (after.0, over after.0 (reached_leads some from at x reached arrow) after.1, none_more after.0 (λ back. never x (reached_leads some x after.0 x after.1 back)) after.2)

  -- none of these has an arrow to itself or to a later one, and none comes twice
  abbrev AreInTurn : List ℕ → Type 0
  AreInTurn [] = Unit {0}
  AreInTurn (x ∷ some) = ((k : ℕ) → IsOne (x ∷ some) k → Arrow x k → ⊥) × (IsOne some x → ⊥) × AreInTurn some

  in_turn : (most : ℕ) (some : List ℕ) → length some ≤ most → (order : List ℕ) × ((k : ℕ) → IsOne some k → IsOne order k) × ((k : ℕ) → IsOne order k → IsOne some k) × AreInTurn order
  in_turn most [] short = ([], λ k here. here, λ k here. here, tt)
  in_turn zero (x ∷ some) short = absurd (omega (arith, short))
  in_turn (suc most) (x ∷ some) short =
      let e = end (x ∷ some) x in
      let here : IsOne (x ∷ some) e.0 = inside e.0 e.1 in
      let w = without e.0 (x ∷ some) in
      let less = w.shorter here in
      let rest = in_turn most w.less (omega (arith, short, less)) in
      let back : (k : ℕ) → IsOne (e.0 ∷ rest.0) k → IsOne (x ∷ some) k = λ k h. elim h [
        | inl same ↦ subst (IsOne (x ∷ some)) (sym same) here
        | inr later ↦ w.only k (rest.2 k later)
      ] in
      let on : (k : ℕ) → IsOne (x ∷ some) k → IsOne (e.0 ∷ rest.0) k = λ k h. elim (w.stay k h) [
        | inl same ↦ inl same
        | inr later ↦ inr (rest.1 k later)
      ] in
      (e.0 ∷ rest.0, on, back, (λ k h arrow. e.2 k (back k h) arrow, λ again. w.apart (rest.2 e.0 again), rest.3))
    where
      inside : (at : ℕ) → IsReached (x ∷ some) x at → IsOne (x ∷ some) at
      inside at (inl e) = inl e
      inside at (inr reached) = reached.0

  once : (order : List ℕ) → AreInTurn order → (i j : ℕ) → i < length order → j < length order → slice_index order i ≡ slice_index order j → i ≡ j
  once [] turn i j li lj same = absurd (omega (arith, li))
  once (x ∷ order) turn zero zero li lj same = refl
  once (x ∷ order) turn zero (suc j) li lj same = absurd (turn.1 (subst (IsOne order) (sym same) (one_at order j (omega (arith, lj)))))
  once (x ∷ order) turn (suc i) zero li lj same = absurd (turn.1 (subst (IsOne order) same (one_at order i (omega (arith, li)))))
  once (x ∷ order) turn (suc i) (suc j) li lj same = ap suc (once order turn.2 i j (omega (arith, li)) (omega (arith, lj)) same)

  -- an arrow leads to one that stands before
  before : (order : List ℕ) → AreInTurn order → (i to : ℕ) → i < length order → IsOne order to → Arrow (slice_index order i) to → IsBefore order i to
  before [] turn i to less here arrow = absurd here
  before (x ∷ order) turn zero to less here arrow = absurd (turn.0 to here arrow)
  before (x ∷ order) turn (suc i) to less (inl e) arrow = (0, omega arith, sym e)
  before (x ∷ order) turn (suc i) to less (inr here) arrow = let r = before order turn.2 i to (omega (arith, less)) here arrow in (suc r.0, omega (arith, r.1), r.2)

-- a name is among others, or not
contains_or_not : (names : List (List ℕ)) (name : List ℕ) → Contains names name ⊎ (Contains names name → ⊥)
contains_or_not [] name = inr (λ here. let less = here.1 in absurd (omega (arith, less)))
contains_or_not (x ∷ names) name = step (bytes_eq x name) refl (contains_or_not names name)
  where
    neither : (bytes_eq x name ≡ false) → (Contains names name → ⊥) → Contains (x ∷ names) name → ⊥
    neither differ none (zero, less, e) = false≢true (sym differ ∙ (bytes_eq-Decides x name).1 e)
    neither differ none (suc k, less, e) = none (k, omega (arith, less), e)

    step : (b : Bool) → bytes_eq x name ≡ b → Contains names name ⊎ (Contains names name → ⊥) → Contains (x ∷ names) name ⊎ (Contains (x ∷ names) name → ⊥)
    step true same rest = inl (0, omega arith, (bytes_eq-Decides x name).0 same)
    step false differ (inl here) = inl (suc here.0, omega (arith, here.1), here.2)
    step false differ (inr none) = inr (neither differ none)

module _ (m : Module) where
  abbrev At : ℕ → Assign → Type 0
  At i a = slice_get m.assigns i ≡ Some a

  -- the assign at the first index reads the name of that at the second
  abbrev ReadsAt : ℕ → ℕ → Type 0
  ReadsAt i j = (a : Assign) × (b : Assign) × At i a × At j b × Contains (names_read a.value) b.name

  -- or depends on it
  abbrev DependsAt : ℕ → ℕ → Type 0
  DependsAt i j = (a : Assign) × (b : Assign) × At i a × At j b × DependsOn m a.name b.name

  reads_or_not : (i j : ℕ) → ReadsAt i j ⊎ (ReadsAt i j → ⊥)
  reads_or_not i j = step (slice_get m.assigns i) refl (slice_get m.assigns j) refl
    where
      both : (a b : Assign) → At i a → At j b → Contains (names_read a.value) b.name ⊎ (Contains (names_read a.value) b.name → ⊥) → ReadsAt i j ⊎ (ReadsAt i j → ⊥)
      both a b e f (inl here) = inl (a, b, e, f, here)
      both a b e f (inr none) =
          inr (λ r.
          let first : r.0 ≡ a = same_Some r.0 a (sym r.2 ∙ e) in
          let second : r.1 ≡ b = same_Some r.1 b (sym r.3 ∙ f) in
          none (subst (λ (x : Assign). Contains (names_read x.value) b.name) first (subst (λ (y : Assign). Contains (names_read r.0.value) y.name) second r.4)))

      step : (o : Option Assign) → slice_get m.assigns i ≡ o → (p : Option Assign) → slice_get m.assigns j ≡ p → ReadsAt i j ⊎ (ReadsAt i j → ⊥)
      step None e p f = inr (λ r. let no : None ≡ Some r.0 = sym e ∙ r.2 in absurd (cc no))
      step (Some a) e None f = inr (λ r. let no : None ≡ Some r.1 = sym f ∙ r.3 in absurd (cc no))
      step (Some a) e (Some b) f = both a b e f (contains_or_not (names_read a.value) b.name)

  reads_depends : (i j : ℕ) → ReadsAt i j → DependsAt i j
  reads_depends i j (a, b, e, f, reads) = (a, b, e, f, ([], record { at = i; assign = a; stands = e; gives = refl; reads = reads }))

  join : (over others : List (List ℕ)) (name by last : List ℕ) → IsChain m name over by → IsChain m by others last → IsChain m name (over ++ by ∷ others) last
  join [] others name by last first second = (first, second)
  join (next ∷ over) others name by last first second = (first.0, join over others next by last first.1 second)

  depends_on : (i j k : ℕ) → DependsAt i j → DependsAt j k → DependsAt i k
  depends_on i j k d g =
      let same : g.0 ≡ d.1 = same_Some g.0 d.1 (sym g.2 ∙ d.3) in
      let second : DependsOn m d.1.name g.1.name = subst (λ (a : Assign). DependsOn m a.name g.1.name) same g.4 in
      (d.0, g.1, d.2, g.3, (d.4.0 ++ d.1.name ∷ second.0, join d.4.0 second.0 d.0.name d.1.name g.1.name d.4.1 second.1))

  -- where none depends on itself there is an order
  pub some_order : IsAcyclic m → (order : List ℕ) × IsOrder m order
  some_order acyclic =
      let all = numbers_below (length m.assigns) in
      let o = in_turn ReadsAt DependsAt reads_or_not reads_depends depends_on never (length all.0) all.0 (omega arith) in (
        o.0,
        record {
          each = λ at less. index_of o.0 at (o.1 at (all.1 at less));
          indexes = λ i less. all.2 (slice_index o.0 i) (o.2 (slice_index o.0 i) (one_at o.0 i less));
          once = once ReadsAt DependsAt reads_or_not reads_depends depends_on never o.0 o.3;
          after = λ i at a b less here there reads.
              before ReadsAt DependsAt reads_or_not reads_depends depends_on never o.0 o.3 i at less (o.1 at (all.1 at (slice_get_within m.assigns at b there))) (a, b, here, there, reads);
        },
      )
    where
      never : (i : ℕ) → DependsAt i i → ⊥
      never i d =
          let same : d.1 ≡ d.0 = same_Some d.1 d.0 (sym d.3 ∙ d.2) in
          acyclic i d.0 d.2 (subst (λ (b : Assign). DependsOn m d.0.name b.name) same d.4)

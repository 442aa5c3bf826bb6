-- The assigns of a valid module, taken in an order of their indexes, are equations in order.
use Rattle.std.proofs.Common.{◌≡◌, ℕ, zero, suc, ◌<◌, ◌^◌, nat_eq, Bool, true, false, cond, ◌&&◌, ◌||◌, List, [], ◌∷◌, ◌++◌, length, map, Option, Some, None, refl, sym, ap, subst, ◌∙◌, arith, rules, inl, inr, ◌⊎◌}
use Rattle.std.specs.Prelude.{not, option_map, option_and_then, unwrap_or, slice_get, slice_index, filter_map, Contains, ◌↔◌, is_some}
use Rattle.std.specs.List.{AllByRecursion, list_all}
use Rattle.std.proofs.lemmas.Bool.{and_parts, false≢true}
use Rattle.std.proofs.lemmas.Option.{same_Some, slice_get_within, slice_get-get_or, get_or_from_slice_get}
use Rattle.lg_vtree.specs.declared.module.Assign.{Assign}
use Rattle.lg_vtree.specs.declared.module.Port.{Port}
use Rattle.lg_vtree.specs.declared.module.Module.{Module}
use Rattle.lg_vrules.specs.declared.names.Sort.{Sort}
use Rattle.lg_vrules.specs.declared.names.Sort.TheVariants as sort
use Rattle.lg_vrules.specs.declared.names.Thing.{Thing}
use Rattle.lg_vrules.specs.Things.{range_width, things, port_thing, names, sort_of, width_of, names_of, lines_of, is_input, is_reg, is_memory, is_assignable, is_readable}
use Rattle.lg_vrules.specs.Depends.{names_read}
use Rattle.lg_vrules.specs.Order.{IsOrder}
use Rattle.lg_vrules.specs.Indexes.{index_from}
use Rattle.lg_vrules.specs.Rules.{is_among, all_differ, is_named, is_of, is_no_clock, is_target, assign_uses, reads_declared, expr_width, is_width, assign_fits, decl_fits, fill_fits, word_fits, fills_of, words_of, assigned, has_each, first_broken}
use Rattle.lg_vrules.proofs.GraphLemmas.{assign_at, index_tells, same_index}
use Rattle.lg_vrules.proofs.NameIndexLemmas.{narrow_widths}
use Rattle.lg_vrules.proofs.RuleLemmas.{KeepsRules, rules_kept, assigned_differ}
use Rattle.lg_vmachine.specs.Kept.{Kept}
use Rattle.lg_vresolve.specs.Meaning.{Valuation, memory_words}
use Rattle.lg_vmeaning.specs.Solution.{AreNumbers, AreMemories, IsOf, IsTheSolution}
use Rattle.lg_vmeaning.specs.InOrder.{IsIn, AllDiffer, IsGiven, AreOrdered, sources, ordered}
use Rattle.lg_vmeaning.proofs.InOrderLemmas.{in_either, solved, given_by, TheSolution-ordered}
use Rattle.lg_vmeaning.proofs.NameLemmas.{found, IsLine, at_line, at_lines, in_among, line_found, named_line, found_in, found_passes, differ_in}
use Rattle.lg_vmeaning.proofs.OrderLemmas.{At, KeepOrder, in_order}
use Rattle.lg_vresolve.proofs.ReadLemmas.{reads_readable}

-- lists

all_at : {X : Type 0} (test : X → Bool) (xs : List X) (i : ℕ) (x : X) → list_all test xs ≡ true → slice_get xs i ≡ Some x → test x ≡ true
all_at test [] i x pass e = absurd (cc e)
all_at test (y ∷ xs) zero x pass e = ap test (sym (same_Some y x e)) ∙ (and_parts (test y) (list_all test xs) pass).0
all_at test (y ∷ xs) (suc i) x pass e = all_at test xs i x (and_parts (test y) (list_all test xs) pass).1 e

pub in_left : (xs ys : List (List ℕ)) (name : List ℕ) → IsIn xs name → IsIn (xs ++ ys) name
in_left [] ys name here = absurd here
in_left (x ∷ xs) ys name (inl e) = inl e
in_left (x ∷ xs) ys name (inr here) = inr (in_left xs ys name here)

pub in_right : (xs ys : List (List ℕ)) (name : List ℕ) → IsIn ys name → IsIn (xs ++ ys) name
in_right [] ys name here = here
in_right (x ∷ xs) ys name here = inr (in_right xs ys name here)

pub differ_both : (xs ys : List (List ℕ)) → AllDiffer xs → AllDiffer ys → ((name : List ℕ) → IsIn xs name → IsIn ys name → ⊥) → AllDiffer (xs ++ ys)
differ_both [] ys dx dy apart = dy
differ_both (x ∷ xs) ys dx dy apart = (
  λ here. elim (in_either xs ys x here) [
    | inl left ↦ dx.0 left
    | inr right ↦ apart x (inl refl) right
  ],
  differ_both xs ys dx.1 dy (λ name left right. apart name (inr left) right),
)

pub at_index : (assigns : List Assign) (name : List ℕ) → IsIn (map (λ (a : Assign). a.name) assigns) name → (at : ℕ) × (a : Assign) × At assigns at a × (a.name ≡ name)
at_index [] name here = absurd here
at_index (a ∷ assigns) name (inl e) = (0, a, refl, sym e)
at_index (a ∷ assigns) name (inr here) = let r = at_index assigns name here in (suc r.0, r.1, r.2, r.3)

at_name : (assigns : List Assign) (i : ℕ) (a : Assign) → At assigns i a → IsIn (map (λ (a : Assign). a.name) assigns) a.name
at_name [] i a at = absurd (cc at)
at_name (b ∷ assigns) zero a at = inl (sym (ap (λ (a : Assign). a.name) (same_Some b a at)))
at_name (b ∷ assigns) (suc i) a at = inr (at_name assigns i a at)

to_contains : (assigns : List Assign) (i : ℕ) (a : Assign) → At assigns i a → Contains assigns a
to_contains assigns i a at = (i, slice_get_within assigns i a at, get_or_from_slice_get assigns i a a at)

from_contains : (assigns : List Assign) (a : Assign) → Contains assigns a → (i : ℕ) × At assigns i a
from_contains assigns a here = (here.0, slice_get-get_or assigns here.0 a here.1 ∙ ap Some here.2)

-- the assigns at some indexes, each of which is there

ordered_at : (assigns : List Assign) (order : List ℕ) → ((i : ℕ) → i < length order → slice_index order i < length assigns) → (i : ℕ) → i < length order
    → slice_get (filter_map (slice_get assigns) order) i ≡ slice_get assigns (slice_index order i)
ordered_at assigns [] indexes i lt = absurd (omega (arith, lt))
ordered_at assigns (at ∷ order) indexes i lt =
    let a = assign_at assigns at (indexes 0 (omega arith)) in
    step a.0 a.1 i lt (ordered_at assigns order (λ k l. indexes (suc k) (omega (arith, l))))
  where
    step : (a : Assign) → slice_get assigns at ≡ Some a → (i : ℕ) → i < length (at ∷ order) → ((i : ℕ) → i < length order → slice_get (filter_map (slice_get assigns) order) i ≡ slice_get assigns (slice_index order i))
        → slice_get (filter_map (slice_get assigns) (at ∷ order)) i ≡ slice_get assigns (slice_index (at ∷ order) i)
    step a e zero lt rest = rw e refl
    step a e (suc i) lt rest = rw e (rest i (omega (arith, lt)))

ordered_count : (assigns : List Assign) (order : List ℕ) → ((i : ℕ) → i < length order → slice_index order i < length assigns) → length (filter_map (slice_get assigns) order) ≡ length order
ordered_count assigns [] indexes = refl
ordered_count assigns (at ∷ order) indexes =
    let a = assign_at assigns at (indexes 0 (omega arith)) in
    let rest = ordered_count assigns order (λ k l. indexes (suc k) (omega (arith, l))) in
    rw a.1 (omega (arith, rest))

-- sorts

input_apart : (s : Sort) → is_input s ≡ true → is_assignable s ≡ true → ⊥
input_apart sort.Input e f = cc f
input_apart sort.Clock e f = cc e
input_apart sort.Output e f = cc e
input_apart sort.Wire e f = cc e
input_apart sort.Reg e f = cc e
input_apart (sort.Memory last) e f = cc e

reg_apart : (s : Sort) → is_reg s ≡ true → is_assignable s ≡ true → ⊥
reg_apart sort.Reg e f = cc f
reg_apart sort.Input e f = cc e
reg_apart sort.Clock e f = cc e
reg_apart sort.Output e f = cc e
reg_apart sort.Wire e f = cc e
reg_apart (sort.Memory last) e f = cc e

input_reg : (s : Sort) → is_input s ≡ true → is_reg s ≡ true → ⊥
input_reg sort.Input e f = cc f
input_reg sort.Clock e f = cc e
input_reg sort.Output e f = cc e
input_reg sort.Wire e f = cc e
input_reg sort.Reg e f = cc e
input_reg (sort.Memory last) e f = cc e

no_memory : (s : Sort) → is_assignable s ≡ true → is_memory s ≡ false
no_memory sort.Input e = refl
no_memory sort.Clock e = refl
no_memory sort.Output e = refl
no_memory sort.Wire e = refl
no_memory sort.Reg e = refl
no_memory (sort.Memory last) e = absurd (cc e)

-- the words of a memory fit where all memories do
memory_within : (m : Module) (lines : List (List ℕ × ℕ)) (memories : List (List ℕ)) → AreMemories m lines memories → ((l : List ℕ × ℕ) → IsLine lines l → width_of m l.0 ≡ l.1)
    → (j : ℕ) (name : List ℕ) → slice_get (map (λ (l : List ℕ × ℕ). l.0) lines) j ≡ Some name → AllByRecursion (λ (word : ℕ). word < 2 ^ width_of m name) (unwrap_or (slice_get memories j) [])
memory_within m [] memories are widths j name e = absurd (cc e)
memory_within m (l ∷ lines) [] are widths j name e = absurd are
memory_within m (l ∷ lines) (words ∷ memories) are widths zero name e =
    let width : l.1 ≡ width_of m name = sym (widths l (inl refl)) ∙ ap (width_of m) (same_Some l.0 name e) in
    subst (λ (w : ℕ). AllByRecursion (λ (word : ℕ). word < 2 ^ w) words) width are.1
memory_within m (l ∷ lines) (words ∷ memories) are widths (suc j) name e = memory_within m lines memories are.2 (λ l here. widths l (inr here)) j name e

module _ (m : Module) (order : List ℕ) (broken : first_broken m ≡ None) (is : IsOrder m order) where
  pub kept_rules : KeepsRules m
  kept_rules = rules_kept m broken

  pub names_differ : all_differ (names m) ≡ true
  names_differ = (and_parts (all_differ (names m)) (list_all (λ (p : Port). is_named (port_thing p)) m.ports) kept_rules.named).0

  all_once : (list_all (λ (a : Assign). is_of is_assignable (sort_of m) a.name) m.assigns ≡ true) × (has_each is_assignable (λ name. is_among name (assigned m)) m ≡ true)
  all_once =
      let assignable = list_all (λ (a : Assign). is_of is_assignable (sort_of m) a.name) m.assigns in
      let each = has_each is_assignable (λ name. is_among name (assigned m)) m in
      and_parts assignable each (and_parts (all_differ (assigned m)) (assignable && each) kept_rules.assigned_once).1

  -- what is found under a name of a sort
  pub of_found : (is : Sort → Bool) (name : List ℕ) (t : Thing) → found (things m) name ≡ Some t → is_of is (sort_of m) name ≡ is t.sort
  of_found is name t e = ap (λ (o : Option Thing). unwrap_or (option_map is (option_map (λ (t : Thing). t.sort) o)) false) e

  pub found_of : (is : Sort → Bool) (name : List ℕ) → is_of is (sort_of m) name ≡ true → (t : Thing) × (found (things m) name ≡ Some t) × (is t.sort ≡ true)
  found_of is name e = step (found (things m) name) refl
    where
      step : (o : Option Thing) → found (things m) name ≡ o → (t : Thing) × (found (things m) name ≡ Some t) × (is t.sort ≡ true)
      step (Some t) f = (t, f, sym (of_found is name t f) ∙ e)
      step None f = absurd (false≢true (sym (ap (λ (o : Option Thing). unwrap_or (option_map is (option_map (λ (t : Thing). t.sort) o)) false) f) ∙ e))

  pub found_name : (is : Sort → Bool) (name : List ℕ) → IsIn (names_of is m) name → (t : Thing) × (found (things m) name ≡ Some t) × (is t.sort ≡ true)
  found_name is name here =
      let l = named_line is (things m) name here in
      let f = line_found is (things m) l.0 names_differ l.1 in
      (f.0, ap (found (things m)) (sym l.2) ∙ f.1, f.2)

  -- a name is not of two sorts that are apart
  not_both : (is other : Sort → Bool) → ((s : Sort) → is s ≡ true → other s ≡ true → ⊥) → (name : List ℕ) → IsIn (names_of is m) name → is_of other (sort_of m) name ≡ true → ⊥
  not_both is other apart name here e = let f = found_name is name here in apart f.0.sort f.2 (sym (of_found other name f.0 f.1) ∙ e)

  assignable_at : (at : ℕ) (a : Assign) → At m.assigns at a → is_of is_assignable (sort_of m) a.name ≡ true
  assignable_at at a e = all_at (λ (a : Assign). is_of is_assignable (sort_of m) a.name) m.assigns at a all_once.0 e

  -- a readable name is an input, a register, or an assign gives it a number
  given_kind : (name : List ℕ) → is_of is_readable (sort_of m) name ≡ true → IsIn (sources m) name ⊎ IsIn (assigned m) name
  given_kind name e = let f = found_of is_readable name e in by_sort f.0 f.0.sort refl f.1 f.2
    where
      or_second : (a b : Bool) → a ≡ true → (not a || b) ≡ true → b ≡ true
      or_second true b e p = p
      or_second false b e p = absurd (cc e)

      assigned_name : (t : Thing) → is_assignable t.sort ≡ true → found (things m) name ≡ Some t → IsIn (assigned m) name
      assigned_name t assignable f =
          let passes = found_passes (λ (t : List ℕ × Thing). not (is_assignable t.1.sort) || is_among t.0 (assigned m)) (things m) name t all_once.1 f in
          in_among (assigned m) name (or_second (is_assignable t.sort) (is_among name (assigned m)) assignable passes)

      by_sort : (t : Thing) (s : Sort) → t.sort ≡ s → found (things m) name ≡ Some t → is_readable t.sort ≡ true → IsIn (sources m) name ⊎ IsIn (assigned m) name
      by_sort t sort.Input e f readable = inl (in_left (names_of is_input m) (names_of is_reg m) name (found_in is_input (things m) name t f (ap is_input e)))
      by_sort t sort.Reg e f readable = inl (in_right (names_of is_input m) (names_of is_reg m) name (found_in is_reg (things m) name t f (ap is_reg e)))
      by_sort t sort.Wire e f readable = inr (assigned_name t (ap is_assignable e) f)
      by_sort t sort.Output e f readable = inr (assigned_name t (ap is_assignable e) f)
      by_sort t sort.Clock e f readable = absurd (false≢true (sym (ap is_readable e) ∙ readable))
      by_sort t (sort.Memory last) e f readable = absurd (false≢true (sym (ap is_readable e) ∙ readable))

  pub to_module : (i : ℕ) (a : Assign) → At (ordered m order) i a → (i < length order) × At m.assigns (slice_index order i) a
  to_module i a at =
      let lt : i < length order = subst (λ (n : ℕ). i < n) (ordered_count m.assigns order is.indexes) (slice_get_within (ordered m order) i a at) in
      (lt, sym (ordered_at m.assigns order is.indexes i lt) ∙ at)

  from_index : (bound at : ℕ) (a : Assign) → At m.assigns at a → (before : ℕ) → before < length order → slice_index order before ≡ at → At (ordered m order) before a
  from_index bound at a stands before lt e = ordered_at m.assigns order is.indexes before lt ∙ (ap (slice_get m.assigns) e ∙ stands)

  -- an assign's expression reads what is declared
  pub declared_at : (at : ℕ) (a : Assign) → At m.assigns at a → reads_declared (sort_of m) a.value ≡ true
  declared_at at a stands =
      let uses = (and_parts (list_all (assign_uses (sort_of m)) m.assigns) _ (and_parts (list_all is_no_clock m.decls) _ kept_rules.used).1).0 in
      (and_parts (is_of is_target (sort_of m) a.name) (reads_declared (sort_of m) a.value) (all_at (assign_uses (sort_of m)) m.assigns at a uses stands)).1

  pub keeps : KeepOrder m (sources m) (ordered m order)
  keeps = record {
    reads = λ i a at name here.
        let index = to_module i a at in
        let reads = declared_at (slice_index order i) a index.1 in
        elim (given_kind name (reads_readable (sort_of m) a.value reads name here)) [
          | inl known ↦ inl known
          | inr given ↦
              let b = at_index m.assigns name given in
              let before = is.after i b.0 a b.1 index.0 index.1 b.2 (subst (Contains (names_read a.value)) (sym b.3) here) in
              inr (before.0, before.1, b.1, from_index i b.0 b.1 b.2 before.0 (omega (arith, before.1, index.0)) before.2, b.3)
        ];
    fresh = λ i a at here.
        let assignable = assignable_at (slice_index order i) a (to_module i a at).1 in
        elim (in_either (names_of is_input m) (names_of is_reg m) a.name here) [
          | inl input ↦ not_both is_input is_assignable input_apart a.name input assignable
          | inr register ↦ not_both is_reg is_assignable reg_apart a.name register assignable
        ];
    differ = λ i j a b at there same.
        let p = to_module i a at in
        let q = to_module j b there in
        is.once i j p.0 q.0 (same_index m (assigned_differ m broken) (slice_index order i) (slice_index order j) a b p.1 q.1 same).0;
    width = λ i a at. width_at (slice_index order i) a (to_module i a at).1;
  }
    where
      width_at : (at : ℕ) (a : Assign) → At m.assigns at a → expr_width (width_of m) a.value ≡ Some (width_of m a.name)
      width_at at a stands =
          let f = found_of is_assignable a.name (assignable_at at a stands) in
          let memory : is_of is_memory (sort_of m) a.name ≡ false = of_found is_memory a.name f.0 f.1 ∙ no_memory f.0.sort f.2 in
          let all = (and_parts (list_all (assign_fits (sort_of m) (width_of m)) m.assigns) _ (and_parts (list_all (word_fits (sort_of m) (width_of m)) (words_of m)) _
          (and_parts (list_all (fill_fits (width_of m)) (fills_of m)) _ (and_parts (list_all (decl_fits (width_of m)) m.decls) _ kept_rules.fitting).1).1).1).0 in
          let fit = all_at (assign_fits (sort_of m) (width_of m)) m.assigns at a all stands in
          wanted (width_of m a.name) (expr_width (width_of m) a.value) (subst (λ (b : Bool). cond b (is_some (expr_width (width_of m) a.value)) (is_width (width_of m) (width_of m a.name) a.value) ≡ true) memory fit)
        where
          wanted : (width : ℕ) (o : Option ℕ) → unwrap_or (option_map (λ (w : ℕ). nat_eq w width) o) false ≡ true → o ≡ Some width
          wanted width None e = absurd (cc e)
          wanted width (Some w) e = let same : w ≡ width = search rules in ap Some same

  same_assigns : (a : Assign) → Contains m.assigns a ↔ Contains (ordered m order) a
  same_assigns a = (
    λ here.
        let at = from_contains m.assigns a here in
        let before = is.each at.0 (slice_get_within m.assigns at.0 a at.1) in
        to_contains (ordered m order) before.0 a (from_index at.0 at.0 a at.1 before.0 before.1 before.2),
    λ here.
        let at = from_contains (ordered m order) a here in
        to_contains m.assigns (slice_index order at.0) a (to_module at.0 a at.1).1,
  )

  pub given : (name : List ℕ) → is_of is_readable (sort_of m) name ≡ true → IsGiven (sources m) (ordered m order) name
  given name e = elim (given_kind name e) [
    | inl known ↦ inl known
    | inr there ↦
        let b = at_index m.assigns name there in
        let before = is.each b.0 (slice_get_within m.assigns b.0 b.1 b.2) in
        inr (subst (IsIn (map (λ (a : Assign). a.name) (ordered m order))) b.3 (at_name (ordered m order) before.0 b.1 (from_index b.0 b.0 b.1 b.2 before.0 before.1 before.2)))
  ]

  pub line_width : (is : Sort → Bool) (l : List ℕ × ℕ) → IsLine (lines_of is m) l → width_of m l.0 ≡ l.1
  line_width is l here =
      let f = line_found is (things m) l names_differ here in
      ap (λ (o : Option Thing). unwrap_or (option_map (λ (t : Thing). range_width t.high) o) 0) f.1 ∙ f.3

  -- numbers that the widths of all readable names can hold
  pub within_at : (value : Valuation) → AllByRecursion (λ (l : List ℕ × ℕ). value l.0 < 2 ^ l.1) (lines_of is_readable m) → (name : List ℕ) → is_of is_readable (sort_of m) name ≡ true
      → value name < 2 ^ width_of m name
  within_at value within name readable =
      let t = found_of is_readable name readable in
      let l = named_line is_readable (things m) name (found_in is_readable (things m) name t.0 t.1 t.2) in
      let below = at_line (λ (l : List ℕ × ℕ). value l.0 < 2 ^ l.1) (lines_of is_readable m) l.0 within l.1 in
      subst (λ (n : List ℕ). value n < 2 ^ width_of m n) l.2 (subst (λ (w : ℕ). value l.0.0 < 2 ^ w) (sym (line_width is_readable l.0 l.1)) below)

  pub words_within : (kept : Kept) → IsOf m kept → (name : List ℕ) → AllByRecursion (λ (word : ℕ). word < 2 ^ width_of m name) (memory_words m kept name)
  words_within kept of name = step (index_from 0 (names_of is_memory m) name) refl
    where
      step : (o : Option ℕ) → index_from 0 (names_of is_memory m) name ≡ o → AllByRecursion (λ (word : ℕ). word < 2 ^ width_of m name) (unwrap_or (option_and_then (slice_get kept.memories) o) [])
      step None e = tt
      step (Some k) e =
          let t = index_tells 0 (names_of is_memory m) name k e in
          let at : t.0 ≡ k = omega (arith, t.1) in
          memory_within m (lines_of is_memory m) kept.memories of.memories (line_width is_memory) k name (subst (λ (j : ℕ). slice_get (names_of is_memory m) j ≡ Some name) at t.2)

  -- the names of inputs and registers differ
  pub sources_apart : AllDiffer (sources m)
  sources_apart = differ_both (names_of is_input m) (names_of is_reg m) (differ_in is_input (things m) names_differ) (differ_in is_reg (things m) names_differ)
      (λ name input register. let f = found_name is_reg name register in not_both is_input is_reg input_reg name input (of_found is_reg name f.0 f.1 ∙ f.2))

  -- a valid module's assigns, in such an order of their indexes, are its equations in order
  pub are_ordered : (kept : Kept) → IsOf m kept → AreOrdered m kept (ordered m order)
  are_ordered kept of = record {
    sources_differ = sources_apart;
    in_order = in_order m kept (narrow_widths m kept_rules.narrow) (words_within kept of) (sources m) (ordered m order) keeps;
    same = same_assigns;
    all_given = at_lines (λ (l : List ℕ × ℕ). IsGiven (sources m) (ordered m order) l.0 × (width_of m l.0 ≡ l.1)) (lines_of is_readable m)
        (λ l here.
        let f = line_found is_readable (things m) l names_differ here in
        (given l.0 (of_found is_readable l.0 f.0 f.1 ∙ f.2), line_width is_readable l here));
  }

  -- a valid module has exactly one solution
  pub one_solution : (kept : Kept) (row : List ℕ) → IsOf m kept → AreNumbers (lines_of is_input m) row → (value : Valuation) × IsTheSolution m kept row value
  one_solution kept row of inputs = (
    solved m kept (given_by (sources m) (row ++ kept.numbers)) (ordered m order),
    TheSolution-ordered m kept row (ordered m order) (are_ordered kept of) inputs of.numbers,
  )

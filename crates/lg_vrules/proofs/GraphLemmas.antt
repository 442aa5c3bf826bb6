-- The graph of assigns: a way in it is a chain of names that read one another.
use Rattle.std.proofs.Common.{◌≡◌, ℕ, zero, suc, ◌+◌, ◌<◌, ◌≤◌, Bool, true, false, cond, ◌||◌, ◌⊎◌, inl, inr, List, [], ◌∷◌, ◌++◌, length, map, get_or, Option, Some, None, refl, sym, ap, subst, ◌∙◌, arith}
use Rattle.std.specs.Prelude.{not, slice_get, slice_index, option_map, unwrap_or, Contains, IsTrue, ◌↔◌}
use Rattle.std.specs.Str.{bytes_eq}
use Rattle.std.proofs.lemmas.Bool.{and_parts, cases_lt, false≢true}
use Rattle.std.proofs.lemmas.List.{length-map}
use Rattle.std.proofs.lemmas.List.Elements.{Contains-append_right, Contains-get_or}
use Rattle.std.proofs.lemmas.Option.{same_Some, slice_get-map, slice_get_within, slice_get-get_or, get_or_from_slice_get, unwrap_or-slice_get}
use Rattle.std.proofs.lemmas.Slice.Eq.{bytes_eq-Decides}
use Rattle.lg_graph.specs.Graph.{Graph, IsGraph, HasArrow, IsWay, Leads, StandsBefore, IsSorted}
use Rattle.lg_graph.specs.declared.sorting.Sorted.{Sorted}
use Rattle.lg_text.proofs.Deciding.{Decided}
use Rattle.lg_graph.proofs.Ways.{nothing, Contains-cons_cases, leads_or_not}
use Rattle.lg_vtree.specs.declared.module.Assign.{Assign}
use Rattle.lg_vtree.specs.declared.module.Module.{Module}
use Rattle.lg_vrules.specs.Rules.{is_among, all_differ}
use Rattle.lg_vrules.specs.Indexes.{index_from, index_list, indexes_of, first_marked_from}
use Rattle.lg_vrules.specs.Depends.{names_read, Reads, IsChain, DependsOn, IsFirstCyclic, IsAcyclic}
use Rattle.lg_vrules.specs.Order.{IsOrder}
use Rattle.lg_vrules.proofs.NameLemmas.{not_true}

abbrev pub names : List Assign → List (List ℕ)
names assigns = map (λ (a : Assign). a.name) assigns

-- elements

cons_first : {X : Type 0} (x : X) (xs : List X) → Contains (x ∷ xs) x
cons_first x xs = (0, omega arith, refl)

cons_later : {X : Type 0} (x y : X) (xs : List X) → Contains xs y → Contains (x ∷ xs) y
cons_later x y xs c = (suc c.0, omega (arith, c.1), c.2)

-- indexes

of_index : (index : List ℕ → Option ℕ) (some : List (List ℕ)) (k : ℕ) → Contains (indexes_of index some) k → (name : List ℕ) × Contains some name × (index name ≡ Some k)
of_index index [] k c = absurd (nothing c)
of_index index (n ∷ some) k c = step (index n) refl c (λ d. of_index index some k d)
  where
    wider : ((name : List ℕ) × Contains some name × (index name ≡ Some k)) → (name : List ℕ) × Contains (n ∷ some) name × (index name ≡ Some k)
    wider f = (f.0, cons_later n f.0 some f.1, f.2)

    step : (o : Option ℕ) → index n ≡ o → Contains (index_list o ++ indexes_of index some) k → (Contains (indexes_of index some) k → (name : List ℕ) × Contains some name × (index name ≡ Some k))
        → (name : List ℕ) × Contains (n ∷ some) name × (index name ≡ Some k)
    step None e c rest = wider (rest c)
    step (Some p) e c rest = elim (Contains-cons_cases p (indexes_of index some) k c) [
      | inl same ↦ (n, cons_first n some, e ∙ ap Some same)
      | inr later ↦ wider (rest later)
    ]

in_indexes : (index : List ℕ → Option ℕ) (some : List (List ℕ)) (name : List ℕ) (k : ℕ) → Contains some name → index name ≡ Some k → Contains (indexes_of index some) k
in_indexes index [] name k c e = absurd (nothing c)
in_indexes index (n ∷ some) name k c e = elim (Contains-cons_cases n some name c) [
  | inl same ↦ subst (λ (o : Option ℕ). Contains (index_list o ++ indexes_of index some) k) (sym (ap index same ∙ e)) (cons_first k (indexes_of index some))
  | inr later ↦ Contains-append_right (index_list (index n)) (indexes_of index some) k (in_indexes index some name k later e)
]

pub index_tells : (n : ℕ) (ns : List (List ℕ)) (name : List ℕ) (k : ℕ) → index_from n ns name ≡ Some k → (j : ℕ) × (k ≡ n + j) × (slice_get ns j ≡ Some name)
index_tells n [] name k e = absurd (cc e)
index_tells n (o ∷ ns) name k e = step (bytes_eq o name) refl e (λ f. index_tells (n + 1) ns name k f)
  where
    step : (b : Bool) → bytes_eq o name ≡ b → cond b (Some n) (index_from (n + 1) ns name) ≡ Some k → (index_from (n + 1) ns name ≡ Some k → (j : ℕ) × (k ≡ n + 1 + j) × (slice_get ns j ≡ Some name))
        → (j : ℕ) × (k ≡ n + j) × (slice_get (o ∷ ns) j ≡ Some name)
    step true e f rest = let here : n ≡ k = same_Some n k f in (0, omega (arith, here), ap Some ((bytes_eq-Decides o name).0 e))
    step false e f rest = let r = rest f in (suc r.0, omega (arith, r.1), r.2)

among_at : (ns : List (List ℕ)) (j : ℕ) (name q : List ℕ) → slice_get ns j ≡ Some name → bytes_eq name q ≡ true → is_among q ns ≡ true
among_at [] j name q e same = absurd (cc e)
among_at (o ∷ ns) zero name q e same = let here : o ≡ name = same_Some o name e in rw (here, same) refl
among_at (o ∷ ns) (suc j) name q e same = rw (among_at ns j name q e same) (or_true (bytes_eq o q))
  where
    or_true : (b : Bool) → (b || true) ≡ true
    or_true true = refl
    or_true false = refl

index_back : (n : ℕ) (ns : List (List ℕ)) (j : ℕ) (name : List ℕ) → all_differ ns ≡ true → slice_get ns j ≡ Some name → index_from n ns name ≡ Some (n + j)
index_back n [] j name d e = absurd (cc e)
index_back n (o ∷ ns) zero name d e =
    let here : o ≡ name = same_Some o name e in
    let same : bytes_eq o name ≡ true = (bytes_eq-Decides o name).1 here in
    let at : n ≡ n + 0 = omega arith in
    rw same (ap Some at)
index_back n (o ∷ ns) (suc j) name d e =
    let parts = and_parts (not (is_among o ns)) (all_differ ns) d in
    let apart : is_among o ns ≡ false = not_true (is_among o ns) parts.0 in
    let on : n + 1 + j ≡ n + suc j = omega arith in
    rw (differs (bytes_eq o name) refl apart) (index_back (n + 1) ns j name parts.1 e ∙ ap Some on)
  where
    differs : (b : Bool) → bytes_eq o name ≡ b → is_among o ns ≡ false → bytes_eq o name ≡ false
    differs false f apart = f
    differs true f apart = absurd (false≢true (sym apart ∙ among_at ns j name o e ((bytes_eq-Decides name o).1 (sym ((bytes_eq-Decides o name).0 f)))))

-- marks

none_marked : (n : ℕ) (marks : List Bool) → first_marked_from n marks ≡ None → (i : ℕ) → get_or marks i false ≡ false
none_marked n [] e i = refl
none_marked n (true ∷ marks) e i = absurd (cc e)
none_marked n (false ∷ marks) e zero = refl
none_marked n (false ∷ marks) e (suc i) = none_marked (n + 1) marks e i

first_is : (n : ℕ) (marks : List Bool) (at : ℕ) → first_marked_from n marks ≡ Some at → (j : ℕ) × (at ≡ n + j) × (get_or marks j false ≡ true) × (j < length marks) × ((i : ℕ) → i < j → get_or marks i false ≡ false)
first_is n [] at e = absurd (cc e)
first_is n (true ∷ marks) at e = let here : n ≡ at = same_Some n at e in (0, omega (arith, here), refl, omega arith, λ i less. absurd (omega (arith, less)))
first_is n (false ∷ marks) at e =
    let r = first_is (n + 1) marks at e in
    (suc r.0, omega (arith, r.1), r.2, omega (arith, r.3), before r.0 r.4)
  where
    before : (j : ℕ) → ((i : ℕ) → i < j → get_or marks i false ≡ false) → (i : ℕ) → i < suc j → get_or (false ∷ marks) i false ≡ false
    before j f zero less = refl
    before j f (suc i) less = f i (omega (arith, less))

pub assign_at : (assigns : List Assign) (i : ℕ) → i < length assigns → (a : Assign) × (slice_get assigns i ≡ Some a)
assign_at [] i lt = absurd (omega (arith, lt))
assign_at (a ∷ assigns) zero lt = (a, refl)
assign_at (a ∷ assigns) (suc i) lt = assign_at assigns i (omega (arith, lt))

module _ (m : Module) (differ : all_differ (names m.assigns) ≡ true) where
  abbrev index : List ℕ → Option ℕ
  index name = index_from 0 (names m.assigns) name

  abbrev node : Assign → List ℕ
  node a = indexes_of index (names_read a.value)

  abbrev pub graph : Graph
  graph = map node m.assigns

  -- an assign stands at an index
  abbrev pub At : ℕ → Assign → Type 0
  At i a = slice_get m.assigns i ≡ Some a

  named_at : (j : ℕ) (name : List ℕ) → slice_get (names m.assigns) j ≡ Some name → (a : Assign) × At j a × (a.name ≡ name)
  named_at j name e = step (slice_get m.assigns j) refl (sym (slice_get-map (λ (a : Assign). a.name) m.assigns j) ∙ e)
    where
      step : (o : Option Assign) → slice_get m.assigns j ≡ o → option_map (λ (a : Assign). a.name) o ≡ Some name → (a : Assign) × At j a × (a.name ≡ name)
      step None f g = absurd (cc g)
      step (Some a) f g = (a, f, same_Some a.name name g)

  indexed : (i : ℕ) (a : Assign) → At i a → index a.name ≡ Some i
  indexed i a e = index_back 0 (names m.assigns) i a.name differ (slice_get-map (λ (a : Assign). a.name) m.assigns i ∙ ap (option_map (λ (a : Assign). a.name)) e) ∙ (let none : 0 + i ≡ i = omega arith in ap Some none)

  pub same_index : (i k : ℕ) (a b : Assign) → At i a → At k b → a.name ≡ b.name → (i ≡ k) × (a ≡ b)
  same_index i k a b e f same =
      let at : i ≡ k = same_Some i k (sym (indexed i a e) ∙ (ap index same ∙ indexed k b f)) in
      (at, same_Some a b (sym e ∙ (ap (slice_get m.assigns) at ∙ f)))

  at_node : (i : ℕ) (a : Assign) → At i a → get_or graph i [] ≡ node a
  at_node i a e = get_or_from_slice_get graph i (node a) [] (slice_get-map node m.assigns i ∙ ap (option_map node) e)

  -- a node that has an arrow is an assign
  source : (i j : ℕ) → HasArrow graph i j → (a : Assign) × At i a
  source i j arrow = step (slice_get m.assigns i) refl
    where
      step : (o : Option Assign) → slice_get m.assigns i ≡ o → (a : Assign) × At i a
      step (Some a) e = (a, e)
      step None e =
          let past : get_or graph i [] ≡ [] = sym (unwrap_or-slice_get graph i []) ∙ ap (λ (o : Option (List ℕ)). unwrap_or o []) (slice_get-map node m.assigns i ∙ ap (option_map node) e) in
          absurd (nothing (subst (λ (l : List ℕ). Contains l j) past arrow))

  -- an arrow from an assign leads to one to a name that it reads
  arrow_reads : (i j : ℕ) (a : Assign) → At i a → HasArrow graph i j → (b : Assign) × At j b × Reads m a.name b.name
  arrow_reads i j a e arrow =
      let inside = of_index index (names_read a.value) j (subst (λ (l : List ℕ). Contains l j) (at_node i a e) arrow) in
      let tells = index_tells 0 (names m.assigns) inside.0 j inside.2 in
      let same : tells.0 ≡ j = omega (arith, tells.1) in
      let found = named_at j inside.0 (subst (λ k. slice_get (names m.assigns) k ≡ Some inside.0) same tells.2) in
      (found.0, found.1, record { at = i; assign = a; stands = e; gives = refl; reads = subst (Contains (names_read a.value)) (sym found.2) inside.1 })

  reads_arrow : (i j : ℕ) (a b : Assign) → At i a → At j b → Reads m a.name b.name → HasArrow graph i j
  reads_arrow i j a b e f r =
      let same = same_index i r.at a r.assign e r.stands (sym r.gives) in
      let reads : Contains (names_read a.value) b.name = subst (λ (x : Assign). Contains (names_read x.value) b.name) (sym same.1) r.reads in
      subst (λ (l : List ℕ). Contains l j) (sym (at_node i a e)) (in_indexes index (names_read a.value) b.name j reads (indexed j b f))

  -- a way is a chain
  way_chain : (i j : ℕ) (over : List ℕ) (a : Assign) → At i a → IsWay graph i over j → (b : Assign) × At j b × DependsOn m a.name b.name
  way_chain i j [] a e way = let r = arrow_reads i j a e way in (r.0, r.1, ([], r.2))
  way_chain i j (next ∷ over) a e way =
      let r = arrow_reads i next a e way.0 in
      let rest = way_chain next j over r.0 r.1 way.1 in
      (rest.0, rest.1, (r.0.name ∷ rest.2.0, (r.2, rest.2.1)))

  first_of : (name : List ℕ) (over : List (List ℕ)) (last : List ℕ) → IsChain m name over last → (k : ℕ) × (c : Assign) × At k c × (c.name ≡ name)
  first_of name [] last chain = (chain.at, chain.assign, chain.stands, chain.gives)
  first_of name (next ∷ over) last chain = (chain.0.at, chain.0.assign, chain.0.stands, chain.0.gives)

  -- a chain is a way
  chain_way : (over : List (List ℕ)) (i j : ℕ) (a b : Assign) → At i a → At j b → IsChain m a.name over b.name → Leads graph i j
  chain_way [] i j a b e f chain = ([], reads_arrow i j a b e f chain)
  chain_way (next ∷ over) i j a b e f chain =
      let first = first_of next over b.name chain.1 in
      let k = first.0 in
      let c = first.1 in
      let arrow = reads_arrow i k a c e first.2 (subst (Reads m a.name) (sym first.3) chain.0) in
      let rest = chain_way over k j c b first.2 f (subst (λ (n : List ℕ). IsChain m n over b.name) (sym first.3) chain.1) in
      (k ∷ rest.0, (arrow, rest.1))

  -- an assign's name depends on itself where its node leads to itself
  pub leads_depends : (i : ℕ) (a : Assign) → At i a → Leads graph i i → DependsOn m a.name a.name
  leads_depends i a e way =
      let r = way_chain i i way.0 a e way.1 in
      let same : r.0 ≡ a = same_Some r.0 a (sym r.1 ∙ e) in
      subst (λ (b : Assign). DependsOn m a.name b.name) same r.2

  pub depends_leads : (i : ℕ) (a : Assign) → At i a → DependsOn m a.name a.name → Leads graph i i
  depends_leads i a e d = chain_way d.0 i i a a e e d.1

  arrow_within : (from to : ℕ) → HasArrow graph from to → to < length graph
  arrow_within from to arrow =
      let a = source from to arrow in
      let b = arrow_reads from to a.0 a.1 arrow in
      let within : to < length m.assigns = slice_get_within m.assigns to b.0 b.1 in
      omega (arith, within, length-map m.assigns node)

  pub is_graph : IsGraph graph
  is_graph = λ k d lt k' d' lt'.
      let arrows = get_or graph k d in
      let inside : Contains arrows (get_or arrows k' d') = Contains-get_or arrows k' d' lt' in
      let same : get_or graph k [] ≡ arrows = get_or_from_slice_get graph k arrows [] (slice_get-get_or graph k d lt) in
      arrow_within k (get_or arrows k' d') (subst (λ (l : List ℕ). Contains l (get_or arrows k' d')) (sym same) inside)

  depends_or_not : (i : ℕ) (a : Assign) → At i a → Decided (DependsOn m a.name a.name)
  depends_or_not i a e = elim (leads_or_not graph arrow_within i i) as (λ _. Decided (DependsOn m a.name a.name)) [
    | inl way ↦ inl (leads_depends i a e way)
    | inr none ↦ inr (λ d. none (depends_leads i a e d))
  ]

  -- among the first assigns one is the first whose name depends on itself, or none does
  abbrev FirstOrNone : ℕ → Type 0
  FirstOrNone n = ((at : ℕ) × IsFirstCyclic m at) ⊎ ((at : ℕ) (a : Assign) → at < n → At at a → DependsOn m a.name a.name → ⊥)

  first_or_none : (n : ℕ) → n ≤ length m.assigns → FirstOrNone n
  first_or_none zero most = inr (λ at a less e d. absurd (omega (arith, less)))
  first_or_none (suc n) most = let here = assign_at m.assigns n (omega (arith, most)) in step here.0 here.1 (first_or_none n (omega (arith, most))) (depends_or_not n here.0 here.1)
    where
      step : (a : Assign) → At n a → FirstOrNone n → Decided (DependsOn m a.name a.name) → FirstOrNone (suc n)
      step a e (inl found) told = inl found
      step a e (inr before) (inl d) = inl (n, record { assign = a; stands = e; cyclic = d; first = λ earlier other less there. before earlier other less there })
      step a e (inr before) (inr never) = inr (λ at b less there d. elim (cases_lt at n) [
        | inl l ↦ before at b l there d
        | inr past ↦ (let here : n ≡ at = omega (arith, less, past) in
            let same : a ≡ b = same_Some a b (sym e ∙ (ap (slice_get m.assigns) here ∙ there)) in
            never (subst (λ (x : Assign). DependsOn m x.name x.name) (sym same) d))
      ])

  -- there is a first assign whose name depends on itself, or there is none
  pub cyclic_or_not : ((at : ℕ) × IsFirstCyclic m at) ⊎ IsAcyclic m
  cyclic_or_not = elim (first_or_none (length m.assigns) (omega arith)) as (λ _. ((at : ℕ) × IsFirstCyclic m at) ⊎ IsAcyclic m) [
    | inl found ↦ inl found
    | inr none ↦ inr (λ at a e. none at a (slice_get_within m.assigns at a e) e)
  ]

  -- the first mark tells the first assign whose name depends on itself
  module _ (marks : List Bool) (count : length marks ≡ length graph) (cyclic : (k : ℕ) → k < length graph → IsTrue (get_or marks k false) ↔ Leads graph k k) where
    within : (i : ℕ) (a : Assign) → At i a → i < length graph
    within i a e = omega (arith, slice_get_within m.assigns i a e, length-map m.assigns node)

    marked : (i : ℕ) (a : Assign) → At i a → get_or marks i false ≡ true → DependsOn m a.name a.name
    marked i a e mark = leads_depends i a e ((cyclic i (within i a e)).0 mark)

    unmarked : (i : ℕ) (a : Assign) → At i a → get_or marks i false ≡ false → DependsOn m a.name a.name → ⊥
    unmarked i a e mark d = absurd (false≢true (sym mark ∙ (cyclic i (within i a e)).1 (depends_leads i a e d)))

    pub tells_none : first_marked_from 0 marks ≡ None → IsAcyclic m
    tells_none e = λ i a at. unmarked i a at (none_marked 0 marks e i)

    pub tells_first : (at : ℕ) → first_marked_from 0 marks ≡ Some at → IsFirstCyclic m at
    tells_first at e =
        let f = first_is 0 marks at e in
        let here : f.0 ≡ at = omega (arith, f.1) in
        let mark : get_or marks at false ≡ true = subst (λ k. get_or marks k false ≡ true) here f.2 in
        let lt : at < length m.assigns = omega (arith, here, f.3, count, length-map m.assigns node) in
        let a = assign_at m.assigns at lt in
        record {
          assign = a.0;
          stands = a.1;
          cyclic = marked at a.0 a.1 mark;
          first = λ earlier other less stands. unmarked earlier other stands (f.4 earlier (omega (arith, here, less)));
        }

  -- without cycles the sorted indexes are an order
  pub tells_order : (sorted : Sorted) → IsSorted graph sorted → IsAcyclic m → IsOrder m sorted.order
  tells_order sorted is acyclic = record {
    each = λ at lt. is.each at (omega (arith, lt, length-map m.assigns node));
    indexes = λ i lt. omega (arith, is.nodes i lt, length-map m.assigns node);
    once = is.once;
    after = λ i at a b lt here there reads.
        let arrow = reads_arrow (slice_index sorted.order i) at a b here there (record { at = slice_index sorted.order i; assign = a; stands = here; gives = refl; reads = reads }) in
        elim (is.back i at lt arrow) [
          | inl before ↦ before
          | inr way ↦ absurd (acyclic (slice_index sorted.order i) a here (leads_depends (slice_index sorted.order i) a here (leads_on (slice_index sorted.order i) at (slice_index sorted.order i) arrow way)))
        ];
  }
    where
      leads_on : (from over to : ℕ) → HasArrow graph from over → Leads graph over to → Leads graph from to
      leads_on from over to arrow way = (over ∷ way.0, (arrow, way.1))

-- A new node on the path, in a group of its own.
use Rattle.std.proofs.Common.{◌≡◌, ℕ, ◌+◌, ◌-◌, ◌<◌, ◌≤◌, true, false, List, [], ◌∷◌, ◌++◌, length, get_or, set, refl, sym, subst, ap, ◌∙◌, arith, ◌⊎◌, inl, inr, Option, None, Some}
use Rattle.std.specs.Prelude.{All, IfSome}
use Rattle.std.proofs.lemmas.Bool.{cases_lt, cases_eq}
use Rattle.std.proofs.lemmas.List.{get_or_append_left, get_or-append_right, get_or-append-add, get_or_default, get_or_push, get_or-set_same, get_or-set_other, length_push, length-append, length-set}
use Rattle.std.proofs.lemmas.List.Elements.{All-nil, All-push, Contains-get_or}
use Rattle.lg_graph.specs.declared.groups.Group.{Group}
use Rattle.lg_graph.specs.declared.search.Place.{Place}
use Rattle.lg_graph.specs.declared.search.Place.TheVariants.{New, OnPath, Done}
use Rattle.lg_graph.specs.declared.search.Search.{Search}
use Rattle.lg_graph.specs.Graph.{Graph, HasArrow, Leads}
use Rattle.lg_graph.specs.Search.{no_group, group_at, StartsAtZero, place_of, Reaches, node_at, IsKnown, Open, ToDone, ToPath, InHand, HasSource, HasLastSource, AreDone, IsPath, IsSearch, IsVisitable, KeepsMet, work}
use Rattle.lg_graph.proofs.Fields.{same_search}
use Rattle.lg_graph.proofs.WayLemmas.{Leads-arrow, Leads-reached}
use Rattle.lg_graph.proofs.WorkLemmas.{work_of-met}
use Rattle.lg_graph.proofs.GroupLemmas.{group_at-All, group_at-before, group_at-last, rising-push}

-- the group of the node that is new on the path
abbrev pub new_group : Search → Group
new_group s = record { first = length s.path; arrows = length s.arrows; looped = false }

abbrev pub visited : Graph → ℕ → Search → Search
visited graph node s = record {
  places = set s.places node (OnPath (length s.path));
  path = s.path ++ node ∷ [];
  groups = s.groups ++ new_group s ∷ [];
  arrows = s.arrows ++ get_or graph node [];
  order = s.order;
  cyclic = s.cyclic;
}

node_old : (graph : Graph) (node : ℕ) (s : Search) (a : ℕ) → a < length s.path → node_at (visited graph node s) a ≡ node_at s a
node_old graph node s a less = get_or_append_left s.path (node ∷ []) 0 a less

node_new : (graph : Graph) (node : ℕ) (s : Search) → node_at (visited graph node s) (length s.path) ≡ node
node_new graph node s = get_or_push s.path node 0 (length s.path) refl

place_new : (graph : Graph) (node : ℕ) (s : Search) → node < length s.places → place_of (visited graph node s) node ≡ OnPath (length s.path)
place_new graph node s less = get_or-set_same s.places node (OnPath (length s.path)) New less

-- what was met stays where it is
place_old : (graph : Graph) (node : ℕ) (s : Search) (n : ℕ) (p : Place) → place_of s node ≡ New → place_of s n ≡ p → (p ≡ New → ⊥) → place_of (visited graph node s) n ≡ p
place_old graph node s n p new e met =
    get_or-set_other s.places node n (OnPath (length s.path)) New (λ (same : n ≡ node). met (sym e ∙ (ap (λ (k : ℕ). place_of s k) same ∙ new))) ∙ e

done_met : (i : ℕ) → Done i ≡ New → ⊥
done_met i e = cc

path_met : (a : ℕ) → OnPath a ≡ New → ⊥
path_met a e = cc

-- the place of any node: the new one, or as it was
place_cases : (graph : Graph) (node : ℕ) (s : Search) (n : ℕ) → node < length s.places
    → ((n ≡ node) × (place_of (visited graph node s) n ≡ OnPath (length s.path))) ⊎ (place_of (visited graph node s) n ≡ place_of s n)
place_cases graph node s n less = by_case (cases_eq n node)
  where
    by_case : (n ≡ node) ⊎ (n ≡ node → ⊥) → ((n ≡ node) × (place_of (visited graph node s) n ≡ OnPath (length s.path))) ⊎ (place_of (visited graph node s) n ≡ place_of s n)
    by_case (inl e) = inl (e, subst (λ (k : ℕ). place_of (visited graph node s) k ≡ OnPath (length s.path)) (sym e) (place_new graph node s less))
    by_case (inr ne) = inr (get_or-set_other s.places node n (OnPath (length s.path)) New ne)

done_visited : (graph : Graph) (node : ℕ) (s : Search) → node < length s.places → place_of s node ≡ New → AreDone graph s → AreDone graph (visited graph node s)
done_visited graph node s less new d = record {
  in_order = λ i h. place_old graph node s (get_or s.order i 0) (Done i) new (d.in_order i h) (done_met i);
  order_of = λ n i e. d.order_of n i (was n i e (place_cases graph node s n less));
  back = λ n i to e h. again to i n (d.back n i to (was n i e (place_cases graph node s n less)) h);
  told = λ n i e. d.told n i (was n i e (place_cases graph node s n less));
}
  where
    was : (n i : ℕ) → place_of (visited graph node s) n ≡ Done i
        → ((n ≡ node) × (place_of (visited graph node s) n ≡ OnPath (length s.path))) ⊎ (place_of (visited graph node s) n ≡ place_of s n) → place_of s n ≡ Done i
    was n i e (inl h) = let f : OnPath (length s.path) ≡ Done i = sym h.1 ∙ e in absurd (cc)
    was n i e (inr h) = sym h ∙ e

    again : (to i n : ℕ) → (j : ℕ) × (place_of s to ≡ Done j) × ((j < i) ⊎ Leads graph to n)
        → (j : ℕ) × (place_of (visited graph node s) to ≡ Done j) × ((j < i) ⊎ Leads graph to n)
    again to i n h = (h.0, place_old graph node s to (Done h.0) new h.1 (done_met h.0), h.2)

-- the group of a place, and that no group begins past the path
group_old : (s : Search) (a : ℕ) → a < length s.path → group_at (s.groups ++ new_group s ∷ []) a ≡ group_at s.groups a
group_old s a less = group_at-before s.groups (new_group s) [] a less (All-nil (λ (h : Group). a < h.first))

group_new : (s : Search) → group_at (s.groups ++ new_group s ∷ []) (length s.path) ≡ new_group s
group_new s = group_at-last s.groups (new_group s) (length s.path) (omega arith)

pub first_within : (graph : Graph) (s : Search) (a : ℕ) → IsPath graph s → (group_at s.groups a).first ≤ length s.path
unfolding no_group
first_within graph s a p = group_at-All (λ (g : Group). g.first ≤ length s.path) s.groups a (omega arith) (λ k d less. let h = p.within k d less in let first = h.0 in omega arith)

-- the last source is reached from each node of the path
pub reaches_source : (graph : Graph) (s : Search) (to a : ℕ) → IsPath graph s → HasLastSource graph s to → a < length s.path → Leads graph (node_at s a) to
unfolding no_group
reaches_source graph s to a p src less =
    Leads-reached graph (node_at s a) (node_at s src.at) to
    (p.reaches a src.at less src.within (group_at-All (λ (g : Group). g.first ≤ src.at) s.groups a (omega arith) src.late))
    (Leads-arrow graph (node_at s src.at) to src.arrow)

-- so a new node is reached from each node of the path
reaches_new : (graph : Graph) (node : ℕ) (s : Search) → (v : IsVisitable graph node s) → (a : ℕ) → a < length s.path → Leads graph (node_at s a) node
reaches_new graph node s v a less = by_case v.reached
  where
    by_case : (v.hand ≡ Some node) ⊎ ((v.hand ≡ None) × (s.path ≡ [])) → Leads graph (node_at s a) node
    by_case (inl e) = reaches_source graph s node a v.search.path (subst (λ (h : Option ℕ). IfSome h (HasLastSource graph s)) e v.search.in_hand) less
    by_case (inr h) = let none : length s.path ≡ 0 = ap length h.1 in absurd (omega arith)

starts_again : (graph : Graph) (s : Search) → IsPath graph s → StartsAtZero (s.groups ++ new_group s ∷ [])
starts_again graph s p = go s.groups refl
  where
    first_is : (groups : List Group) → s.groups ≡ groups → (0 < length s.path) ⊎ (length s.path ≤ 0) → StartsAtZero (groups ++ new_group s ∷ [])
    first_is [] e (inl some) = absurd (subst StartsAtZero e (p.begun some))
    first_is [] e (inr none) = omega arith
    first_is (g ∷ more) e (inl some) = subst StartsAtZero e (p.begun some)
    first_is (g ∷ more) e (inr none) = absurd (no_room (subst (λ (gs : List Group). All (λ (g : Group). (g.first < length s.path) × (g.arrows ≤ length s.arrows)) gs) e p.within))
      where
        no_room : All (λ (g : Group). (g.first < length s.path) × (g.arrows ≤ length s.arrows)) (g ∷ more) → ⊥
        no_room h = let here = h 0 g (omega arith) in let first = here.0 in absurd (omega arith)

    go : (groups : List Group) → s.groups ≡ groups → StartsAtZero (s.groups ++ new_group s ∷ [])
    go groups e = subst (λ (gs : List Group). StartsAtZero (gs ++ new_group s ∷ [])) (sym e) (first_is groups e (cases_lt 0 (length s.path)))

-- places of the longer path: an old one or the new one
at_new : (s : Search) (node a : ℕ) → a < length (s.path ++ node ∷ []) → (a < length s.path) ⊎ (a ≡ length s.path)
at_new s node a less = by_case (cases_lt a (length s.path))
  where
    by_case : (a < length s.path) ⊎ (length s.path ≤ a) → (a < length s.path) ⊎ (a ≡ length s.path)
    by_case (inl h) = inl h
    by_case (inr h) = inr (omega (arith, length_push s.path node))

path_visited : (graph : Graph) (node : ℕ) (s : Search) → node < length s.places → (v : IsVisitable graph node s) → IsPath graph (visited graph node s)
unfolding no_group
path_visited graph node s less v =
    let p = v.search.path in
    let t = visited graph node s in
    record {
      on_path = λ a h. on a (at_new s node a h);
      path_of = λ n a e. of n a e (place_cases graph node s n less);
      begun = λ _. starts_again graph s p;
      rising = rising-push s.groups (new_group s) p.rising (λ k d h. p.within k d h);
      within = All-push (λ (g : Group). (g.first < length t.path) × (g.arrows ≤ length t.arrows)) s.groups (new_group s)
          (λ k d h. let w = p.within k d h in let first = w.0 in let arrows = w.1 in (omega (arith, length_push s.path node), omega (arith, length-append s.arrows (get_or graph node []))))
          (omega (arith, length_push s.path node), omega (arith, length-append s.arrows (get_or graph node [])));
      reaches = λ a b ha hb le. reach a b (at_new s node a ha) (at_new s node b hb) le;
      loops = λ a h e. loop a (at_new s node a h) e;
      alone = λ a h e. one a (at_new s node a h) e;
    }
  where
    on : (a : ℕ) → (a < length s.path) ⊎ (a ≡ length s.path) → place_of (visited graph node s) (node_at (visited graph node s) a) ≡ OnPath a
    on a (inl h) =
        subst (λ (n : ℕ). place_of (visited graph node s) n ≡ OnPath a) (sym (node_old graph node s a h))
        (place_old graph node s (node_at s a) (OnPath a) v.is_new (v.search.path.on_path a h) (path_met a))
    on a (inr e) =
        subst (λ (b : ℕ). place_of (visited graph node s) (node_at (visited graph node s) b) ≡ OnPath b) (sym e)
        (subst (λ (n : ℕ). place_of (visited graph node s) n ≡ OnPath (length s.path)) (sym (node_new graph node s)) (place_new graph node s less))

    of : (n a : ℕ) → place_of (visited graph node s) n ≡ OnPath a
        → ((n ≡ node) × (place_of (visited graph node s) n ≡ OnPath (length s.path))) ⊎ (place_of (visited graph node s) n ≡ place_of s n)
        → (a < length (s.path ++ node ∷ [])) × (node_at (visited graph node s) a ≡ n)
    of n a e (inl h) =
        let f : OnPath (length s.path) ≡ OnPath a = sym h.1 ∙ e in
        let same : length s.path ≡ a = cc in
        (omega (arith, length_push s.path node), subst (λ (b : ℕ). node_at (visited graph node s) b ≡ n) same (node_new graph node s ∙ sym h.0))
    of n a e (inr h) =
        let old = v.search.path.path_of n a (sym h ∙ e) in
        let inside = old.0 in
        (omega (arith, length_push s.path node), node_old graph node s a inside ∙ old.1)

    reach : (a b : ℕ) → (a < length s.path) ⊎ (a ≡ length s.path) → (b < length s.path) ⊎ (b ≡ length s.path)
        → (group_at (s.groups ++ new_group s ∷ []) a).first ≤ b → Reaches graph (node_at (visited graph node s) a) (node_at (visited graph node s) b)
    reach a b (inl ha) (inl hb) le =
        rw (node_old graph node s a ha, node_old graph node s b hb)
        (v.search.path.reaches a b ha hb (subst (λ (g : Group). g.first ≤ b) (group_old s a ha) le))
    reach a b (inl ha) (inr e) le =
        rw (node_old graph node s a ha)
        (subst (λ (c : ℕ). Reaches graph (node_at s a) (node_at (visited graph node s) c)) (sym e)
        (subst (λ (n : ℕ). Reaches graph (node_at s a) n) (sym (node_new graph node s)) (inr (reaches_new graph node s v a ha))))
    reach a b (inr e) (inl hb) le =
        let start : length s.path ≤ b = subst (λ (g : Group). g.first ≤ b) (group_new s) (subst (λ (c : ℕ). (group_at (s.groups ++ new_group s ∷ []) c).first ≤ b) e le) in
        absurd (omega arith)
    reach a b (inr e) (inr f) le = inl (ap (λ (c : ℕ). node_at (visited graph node s) c) (e ∙ sym f))

    loop : (a : ℕ) → (a < length s.path) ⊎ (a ≡ length s.path) → (group_at (s.groups ++ new_group s ∷ []) a).looped ≡ true
        → Leads graph (node_at (visited graph node s) a) (node_at (visited graph node s) a)
    loop a (inl h) e =
        subst (λ (n : ℕ). Leads graph n n) (sym (node_old graph node s a h)) (v.search.path.loops a h (subst (λ (g : Group). g.looped ≡ true) (group_old s a h) e))
    loop a (inr same) e =
        let f : false ≡ true = subst (λ (g : Group). g.looped ≡ true) (group_new s) (subst (λ (c : ℕ). (group_at (s.groups ++ new_group s ∷ []) c).looped ≡ true) same e) in
        absurd (cc)

    one : (a : ℕ) → (a < length s.path) ⊎ (a ≡ length s.path) → (group_at (s.groups ++ new_group s ∷ []) a).looped ≡ false → (group_at (s.groups ++ new_group s ∷ []) a).first ≡ a
    one a (inl h) e =
        ap (λ (g : Group). g.first) (group_old s a h) ∙ v.search.path.alone a h (subst (λ (g : Group). g.looped ≡ false) (group_old s a h) e)
    one a (inr same) e =
        subst (λ (c : ℕ). (group_at (s.groups ++ new_group s ∷ []) c).first ≡ c) (sym same) (ap (λ (g : Group). g.first) (group_new s))

known_visited : (graph : Graph) (node : ℕ) (s : Search) → node < length s.places → (v : IsVisitable graph node s)
    → (a to : ℕ) → (a < length s.path) ⊎ (a ≡ length s.path) → HasArrow graph (node_at (visited graph node s) a) to → IsKnown (visited graph node s) None a to
known_visited graph node s less v a to (inl h) arrow =
    again (v.search.known a to h (subst (λ (n : ℕ). HasArrow graph n to) (node_old graph node s a h) arrow))
  where
    group : group_at s.groups a ≡ group_at (s.groups ++ new_group s ∷ []) a
    group = sym (group_old s a h)

    again : IsKnown s v.hand a to → IsKnown (visited graph node s) None a to
    again (Open k low inside at) =
        Open k (subst (λ (g : Group). g.arrows ≤ k) group low) (omega (arith, length-append s.arrows (get_or graph node [])))
        (get_or_append_left s.arrows (get_or graph node []) 0 k inside ∙ at)
    again (ToDone i e) = ToDone i (place_old graph node s to (Done i) v.is_new e (done_met i))
    again (ToPath b e low loop) =
        ToPath b (place_old graph node s to (OnPath b) v.is_new e (path_met b)) (subst (λ (g : Group). g.first ≤ b) group low)
        (λ same. subst (λ (g : Group). g.looped ≡ true) group (loop same))
    again (InHand e) = held v.reached
      where
        held : (v.hand ≡ Some node) ⊎ ((v.hand ≡ None) × (s.path ≡ [])) → IsKnown (visited graph node s) None a to
        held (inl f) =
            let both : Some to ≡ Some node = sym e ∙ f in
            let same : to ≡ node = cc in
            ToPath (length s.path) (subst (λ (n : ℕ). place_of (visited graph node s) n ≡ OnPath (length s.path)) (sym same) (place_new graph node s less))
            (subst (λ (g : Group). g.first ≤ length s.path) group (first_within graph s a v.search.path)) (λ f. absurd (omega arith))
        held (inr f) = let none : length s.path ≡ 0 = ap length f.1 in absurd (omega arith)
known_visited graph node s less v a to (inr same) arrow =
    let at : HasArrow graph node to = subst (λ (n : ℕ). HasArrow graph n to) (ap (λ (b : ℕ). node_at (visited graph node s) b) same ∙ node_new graph node s) arrow in
    let inside = at.1 in
    Open (length s.arrows + at.0)
    (subst (λ (b : ℕ). (group_at (s.groups ++ new_group s ∷ []) b).arrows ≤ length s.arrows + at.0) (sym same)
    (subst (λ (g : Group). g.arrows ≤ length s.arrows + at.0) (sym (group_new s)) (omega arith)))
    (omega (arith, length-append s.arrows (get_or graph node [])))
    (get_or-append-add s.arrows (get_or graph node []) at.0 0 ∙ (get_or_default (get_or graph node []) at.0 0 to inside ∙ at.2))

sources_visited : (graph : Graph) (node : ℕ) (s : Search) → (v : IsVisitable graph node s)
    → (k to : ℕ) → k < length (s.arrows ++ get_or graph node []) → get_or (s.arrows ++ get_or graph node []) k 0 ≡ to
    → (k < length s.arrows) ⊎ (length s.arrows ≤ k) → HasSource graph (visited graph node s) k to
sources_visited graph node s v k to inside e (inl h) =
    let src = v.search.sources k to h (sym (get_or_append_left s.arrows (get_or graph node []) 0 k h) ∙ e) in
    let old = src.within in
    record {
      at = src.at;
      within = omega (arith, length_push s.path node);
      arrow = subst (λ (n : ℕ). HasArrow graph n to) (sym (node_old graph node s src.at old)) src.arrow;
      begun = subst (λ (g : Group). g.arrows ≤ k) (sym (group_old s src.at old)) src.begun;
      late = All-push (λ (g : Group). g.arrows ≤ k → g.first ≤ src.at) s.groups (new_group s) src.late (λ low. absurd (omega arith));
    }
sources_visited graph node s v k to inside e (inr h) =
    let more = get_or graph node [] in
    let i = k - length s.arrows in
    let within : i < length more = omega (arith, length-append s.arrows more) in
    let value : get_or more i 0 ≡ to = sym (get_or-append_right s.arrows more (length s.arrows) k 0 refl h) ∙ e in
    record {
      at = length s.path;
      within = omega (arith, length_push s.path node);
      arrow = subst (λ (n : ℕ). HasArrow graph n to) (sym (node_new graph node s)) (subst (λ (n : ℕ). HasArrow graph node n) value (Contains-get_or more i 0 within));
      begun = subst (λ (g : Group). g.arrows ≤ k) (sym (group_new s)) h;
      late = All-push (λ (g : Group). g.arrows ≤ k → g.first ≤ length s.path) s.groups (new_group s)
          (λ j d inside low. let w = v.search.path.within j d inside in let first = w.0 in omega arith) (λ low. omega arith);
    }

pub IsSearch-visited : (graph : Graph) (node : ℕ) (s : Search) → IsVisitable graph node s → IsSearch graph None (visited graph node s)
IsSearch-visited graph node s v =
    let places = v.search.places in
    let within = v.within in
    let less : node < length s.places = omega arith in
    record {
      places = length-set s.places node (OnPath (length s.path)) ∙ places;
      marks = v.search.marks;
      done = done_visited graph node s less v.is_new v.search.done;
      path = path_visited graph node s less v;
      known = λ a to h arrow. known_visited graph node s less v a to (at_new s node a h) arrow;
      sources = λ k to h e. sources_visited graph node s v k to h e (cases_lt k (length s.arrows));
      in_hand = tt;
    }

-- the search with a node more on the path, by its fields
pub is_visited : (graph : Graph) (node : ℕ) (s t : Search) → t.places ≡ set s.places node (OnPath (length s.path)) → t.path ≡ s.path ++ node ∷ []
    → t.groups ≡ s.groups ++ new_group s ∷ [] → t.arrows ≡ s.arrows ++ get_or graph node [] → t.order ≡ s.order → t.cyclic ≡ s.cyclic → t ≡ visited graph node s
is_visited graph node s t places path groups arrows order cyclic = same_search t (visited graph node s) places path groups arrows order cyclic

pub less_work : (graph : Graph) (node : ℕ) (s : Search) → IsVisitable graph node s → work graph (visited graph node s) < work graph s
less_work graph node s v =
    let places = v.search.places in
    let within = v.within in
    let nodes = work_of-met graph s.places node (length s.path) v.within (omega arith) v.is_new in
    let arrows = length-append s.arrows (get_or graph node []) in
    let groups = length_push s.groups (new_group s) in
    omega arith

pub met_visited : (graph : Graph) (node : ℕ) (s : Search) → IsVisitable graph node s → KeepsMet s (visited graph node s)
met_visited graph node s v n e =
    let places = v.search.places in
    let within = v.within in
    go (place_cases graph node s n (omega arith))
  where
    go : ((n ≡ node) × (place_of (visited graph node s) n ≡ OnPath (length s.path))) ⊎ (place_of (visited graph node s) n ≡ place_of s n) → place_of s n ≡ New
    go (inl h) = let no : OnPath (length s.path) ≡ New = sym h.1 ∙ e in absurd (cc)
    go (inr h) = sym h ∙ e

pub is_met : (graph : Graph) (node : ℕ) (s : Search) → IsVisitable graph node s → place_of (visited graph node s) node ≡ New → ⊥
is_met graph node s v e =
    let places = v.search.places in
    let within = v.within in
    let on = place_new graph node s (omega arith) in
    let no : OnPath (length s.path) ≡ New = sym on ∙ e in
    cc

-- An arrow that leads back to the path makes one group of those that it spans; one that leads to what is done changes nothing.
use Rattle.std.proofs.Common.{◌≡◌, ℕ, ◌+◌, ◌<◌, ◌≤◌, true, false, List, [], ◌∷◌, ◌++◌, length, sym, subst, ap, ◌∙◌, arith, ◌⊎◌, inl, inr, None, Some}
use Rattle.std.specs.Prelude.{All}
use Rattle.std.proofs.lemmas.Bool.{cases_lt}
use Rattle.std.proofs.lemmas.List.{length-append}
use Rattle.std.proofs.lemmas.List.Elements.{All-nil, All-push, All-head}
use Rattle.lg_graph.specs.declared.groups.Group.{Group}
use Rattle.lg_graph.specs.declared.search.Place.TheVariants.{OnPath, Done}
use Rattle.lg_graph.specs.declared.search.Search.{Search}
use Rattle.lg_graph.specs.Graph.{Graph, Leads}
use Rattle.lg_graph.specs.Search.{no_group, group_at, IsBefore, AreRising, StartsAtZero, IsJoined, place_of, Reaches, node_at, IsKnown, Open, ToDone, ToPath, InHand, HasSource, IsPath, IsSearch, work}
use Rattle.lg_graph.proofs.WayLemmas.{Leads-on}
use Rattle.lg_graph.proofs.GroupLemmas.{All-left, All-right, group_at-All, group_at-before, group_at-here, group_at-last, group_at-from, rising-left, rising-across, rising-push}
use Rattle.lg_graph.proofs.VisitLemmas.{reaches_source}

-- with other groups
abbrev pub regrouped : Search → List Group → Search
regrouped s groups = record s { groups = groups }

-- the joined group
looped_group : Group → Group
looped_group g = record g { looped = true }

-- before the joined group each place keeps its group, and from it on all are in it
pub record AreJoined (s : Search) (new : List Group) (g : Group) : Type 0 where
  pub kept : (a : ℕ) → a < g.first → group_at new a ≡ group_at s.groups a
  pub low : (a : ℕ) → a < g.first → (group_at new a).first ≤ g.first
  pub first : (a : ℕ) → g.first ≤ a → (group_at new a).first ≡ g.first
  pub arrows : (a : ℕ) → g.first ≤ a → (group_at new a).arrows ≤ (group_at s.groups a).arrows
  pub later : (a : ℕ) → g.first ≤ a → g.first ≤ (group_at s.groups a).first
  pub looped : (a : ℕ) → g.first ≤ a → (group_at new a).looped ≡ true

joined_are : (s : Search) (b : ℕ) (new : List Group) → (j : IsJoined b s.groups new) → (graph : Graph) → IsPath graph s → AreJoined s new j.joined
unfolding no_group looped_group
joined_are s b new j graph p =
    let g = j.joined in
    let begun = j.begun in
    record {
      kept = λ a less.
          ap (λ (gs : List Group). group_at gs a) j.new_is
          ∙ (group_at-before j.before (looped_group g) [] a less (All-nil (λ (h : Group). a < h.first))
          ∙ sym (ap (λ (gs : List Group). group_at gs a) j.old_is ∙ group_at-before j.before g j.after a less (λ k d inside. let l = j.later k d inside in omega arith)));
      low = λ a less.
          subst (λ (h : Group). h.first ≤ g.first)
          (sym (ap (λ (gs : List Group). group_at gs a) j.new_is ∙ group_at-before j.before (looped_group g) [] a less (All-nil (λ (h : Group). a < h.first))))
          (group_at-All (λ (h : Group). h.first ≤ g.first) j.before a (omega arith) (λ k d inside. let x = across k d inside in let y = x.0 in omega arith));
      first = λ a le. ap (λ (h : Group). h.first) (here a le);
      arrows = λ a le. subst (λ (h : Group). h.arrows ≤ (group_at s.groups a).arrows) (sym (here a le)) ((from a le).1);
      later = λ a le. (from a le).0;
      looped = λ a le. ap (λ (h : Group). h.looped) (here a le);
    }
  where
    across : All (λ (h : Group). IsBefore h j.joined) j.before
    across = rising-across j.before j.joined j.after (subst (λ (gs : List Group). AreRising gs) j.old_is p.rising)

    here : (a : ℕ) → j.joined.first ≤ a → group_at new a ≡ looped_group j.joined
    here a le = ap (λ (gs : List Group). group_at gs a) j.new_is ∙ group_at-last j.before (looped_group j.joined) a le

    from : (a : ℕ) → j.joined.first ≤ a → (j.joined.first ≤ (group_at s.groups a).first) × (j.joined.arrows ≤ (group_at s.groups a).arrows)
    from a le =
        subst (λ (gs : List Group). (j.joined.first ≤ (group_at gs a).first) × (j.joined.arrows ≤ (group_at gs a).arrows)) (sym j.old_is)
        (group_at-from j.before j.joined j.after a le (subst (λ (gs : List Group). AreRising gs) j.old_is p.rising))

-- from each node of the path a way leads to each node from the joined group on
leads_round : (graph : Graph) (to : ℕ) (s : Search) (b : ℕ) (new : List Group) → (j : IsJoined b s.groups new) → IsSearch graph (Some to) s
    → place_of s to ≡ OnPath b → (a c : ℕ) → a < length s.path → c < length s.path → j.joined.first ≤ c → Leads graph (node_at s a) (node_at s c)
leads_round graph to s b new j search e a c ha hc le =
    let at = search.path.path_of to b e in
    let group : group_at s.groups b ≡ j.joined =
    ap (λ (gs : List Group). group_at gs b) j.old_is ∙ group_at-here j.before j.joined j.after b j.begun j.later in
    Leads-on graph (node_at s a) to (node_at s c) (reaches_source graph s to a search.path search.in_hand ha)
    (subst (λ (n : ℕ). Reaches graph n (node_at s c)) at.1 (search.path.reaches b c at.0 hc (subst (λ (g : Group). g.first ≤ c) (sym group) le)))

starts_joined : (b : ℕ) (old new : List Group) → IsJoined b old new → StartsAtZero old → StartsAtZero new
unfolding looped_group
starts_joined b old new j start = subst StartsAtZero (sym j.new_is) (go j.before (subst StartsAtZero j.old_is start))
  where
    go : (before : List Group) → StartsAtZero (before ++ j.joined ∷ j.after) → StartsAtZero (before ++ looped_group j.joined ∷ [])
    go [] h = h
    go (x ∷ xs) h = h

path_joined : (graph : Graph) (to : ℕ) (s : Search) (b : ℕ) (new : List Group) → IsJoined b s.groups new → IsSearch graph (Some to) s
    → place_of s to ≡ OnPath b → IsPath graph (regrouped s new)
unfolding looped_group
path_joined graph to s b new j search e =
    let p = search.path in
    let rising = subst (λ (gs : List Group). AreRising gs) j.old_is p.rising in
    let within = subst (λ (gs : List Group). All (λ (g : Group). (g.first < length s.path) × (g.arrows ≤ length s.arrows)) gs) j.old_is p.within in
    record {
      on_path = p.on_path;
      path_of = p.path_of;
      begun = λ some. starts_joined b s.groups new j (p.begun some);
      rising = subst (λ (gs : List Group). AreRising gs) (sym j.new_is)
          (rising-push j.before (looped_group j.joined) (rising-left j.before (j.joined ∷ j.after) rising) (rising-across j.before j.joined j.after rising));
      within = subst (λ (gs : List Group). All (λ (g : Group). (g.first < length s.path) × (g.arrows ≤ length s.arrows)) gs) (sym j.new_is)
          (All-push (λ (g : Group). (g.first < length s.path) × (g.arrows ≤ length s.arrows)) j.before (looped_group j.joined)
          (All-left (λ (g : Group). (g.first < length s.path) × (g.arrows ≤ length s.arrows)) j.before (j.joined ∷ j.after) within)
          (All-head (λ (g : Group). (g.first < length s.path) × (g.arrows ≤ length s.arrows)) j.joined j.after
          (All-right (λ (g : Group). (g.first < length s.path) × (g.arrows ≤ length s.arrows)) j.before (j.joined ∷ j.after) within)));
      reaches = λ a c ha hc le. reach a c ha hc le (cases_lt a j.joined.first);
      loops = λ a ha l. loop a ha l (cases_lt a j.joined.first);
      alone = λ a ha l. one a ha l (cases_lt a j.joined.first);
    }
  where
    are : AreJoined s new j.joined
    are = joined_are s b new j graph search.path

    reach : (a c : ℕ) → a < length s.path → c < length s.path → (group_at new a).first ≤ c → (a < j.joined.first) ⊎ (j.joined.first ≤ a)
        → Reaches graph (node_at s a) (node_at s c)
    reach a c ha hc le (inl less) = search.path.reaches a c ha hc (subst (λ (g : Group). g.first ≤ c) (are.kept a less) le)
    reach a c ha hc le (inr from) = let first = are.first a from in inr (leads_round graph to s b new j search e a c ha hc (omega arith))

    loop : (a : ℕ) → a < length s.path → (group_at new a).looped ≡ true → (a < j.joined.first) ⊎ (j.joined.first ≤ a) → Leads graph (node_at s a) (node_at s a)
    loop a ha l (inl less) = search.path.loops a ha (subst (λ (g : Group). g.looped ≡ true) (are.kept a less) l)
    loop a ha l (inr from) = leads_round graph to s b new j search e a a ha ha from

    one : (a : ℕ) → a < length s.path → (group_at new a).looped ≡ false → (a < j.joined.first) ⊎ (j.joined.first ≤ a) → (group_at new a).first ≡ a
    one a ha l (inl less) = ap (λ (g : Group). g.first) (are.kept a less) ∙ search.path.alone a ha (subst (λ (g : Group). g.looped ≡ false) (are.kept a less) l)
    one a ha l (inr from) = let t = are.looped a from in absurd (cc)

known_joined : (graph : Graph) (to : ℕ) (s : Search) (b : ℕ) (new : List Group) → (j : IsJoined b s.groups new) → IsSearch graph (Some to) s
    → place_of s to ≡ OnPath b → AreJoined s new j.joined → (a head : ℕ) → (a < j.joined.first) ⊎ (j.joined.first ≤ a) → IsKnown s (Some to) a head
    → IsKnown (regrouped s new) None a head
known_joined graph to s b new j search e are a head (inl less) (Open k low inside at) = Open k (subst (λ (g : Group). g.arrows ≤ k) (sym (are.kept a less)) low) inside at
known_joined graph to s b new j search e are a head (inl less) (ToDone i d) = ToDone i d
known_joined graph to s b new j search e are a head (inl less) (ToPath c p low loop) =
    ToPath c p (subst (λ (g : Group). g.first ≤ c) (sym (are.kept a less)) low) (λ same. subst (λ (g : Group). g.looped ≡ true) (sym (are.kept a less)) (loop same))
known_joined graph to s b new j search e are a head (inl less) (InHand h) =
    let same : to ≡ head = cc in
    let low = are.low a less in
    let begun = j.begun in
    ToPath b (subst (λ (n : ℕ). place_of s n ≡ OnPath b) same e) (omega arith) (λ f. absurd (omega arith))
known_joined graph to s b new j search e are a head (inr from) (Open k low inside at) = let less = are.arrows a from in Open k (omega arith) inside at
known_joined graph to s b new j search e are a head (inr from) (ToDone i d) = ToDone i d
known_joined graph to s b new j search e are a head (inr from) (ToPath c p low loop) =
    let first = are.first a from in
    let later = are.later a from in
    ToPath c p (omega arith) (λ _. are.looped a from)
known_joined graph to s b new j search e are a head (inr from) (InHand h) =
    let same : to ≡ head = cc in
    let first = are.first a from in
    let begun = j.begun in
    ToPath b (subst (λ (n : ℕ). place_of s n ≡ OnPath b) same e) (omega arith) (λ _. are.looped a from)

sources_joined : (graph : Graph) (s : Search) (b : ℕ) (new : List Group) → (j : IsJoined b s.groups new) → AreJoined s new j.joined
    → (k head : ℕ) → (src : HasSource graph s k head) → (src.at < j.joined.first) ⊎ (j.joined.first ≤ src.at) → HasSource graph (regrouped s new) k head
unfolding looped_group
sources_joined graph s b new j are k head src cases = record {
  at = src.at;
  within = src.within;
  arrow = src.arrow;
  begun = begun cases;
  late = subst (λ (gs : List Group). All (λ (g : Group). g.arrows ≤ k → g.first ≤ src.at) gs) (sym j.new_is)
      (All-push (λ (g : Group). g.arrows ≤ k → g.first ≤ src.at) j.before (looped_group j.joined)
      (All-left (λ (g : Group). g.arrows ≤ k → g.first ≤ src.at) j.before (j.joined ∷ j.after) late)
      (All-head (λ (g : Group). g.arrows ≤ k → g.first ≤ src.at) j.joined j.after
      (All-right (λ (g : Group). g.arrows ≤ k → g.first ≤ src.at) j.before (j.joined ∷ j.after) late)));
}
  where
    late : All (λ (g : Group). g.arrows ≤ k → g.first ≤ src.at) (j.before ++ j.joined ∷ j.after)
    late = subst (λ (gs : List Group). All (λ (g : Group). g.arrows ≤ k → g.first ≤ src.at) gs) j.old_is src.late

    begun : (src.at < j.joined.first) ⊎ (j.joined.first ≤ src.at) → (group_at new src.at).arrows ≤ k
    begun (inl less) = subst (λ (g : Group). g.arrows ≤ k) (sym (are.kept src.at less)) src.begun
    begun (inr from) = let less = are.arrows src.at from in let old = src.begun in omega arith

pub IsSearch-joined : (graph : Graph) (to : ℕ) (s : Search) (b : ℕ) (new : List Group) → IsJoined b s.groups new → IsSearch graph (Some to) s
    → place_of s to ≡ OnPath b → IsSearch graph None (regrouped s new)
IsSearch-joined graph to s b new j search e =
    let are = joined_are s b new j graph search.path in
    record {
      places = search.places;
      marks = search.marks;
      done = record { in_order = search.done.in_order; order_of = search.done.order_of; back = search.done.back; told = search.done.told };
      path = path_joined graph to s b new j search e;
      known = λ a head h arrow. known_joined graph to s b new j search e are a head (cases_lt a j.joined.first) (search.known a head h arrow);
      sources = λ k head h at. let src = search.sources k head h at in sources_joined graph s b new j are k head src (cases_lt src.at j.joined.first);
      in_hand = tt;
    }

-- the groups grow no more
pub fewer_groups : (graph : Graph) (s : Search) (b : ℕ) (new : List Group) → IsJoined b s.groups new → work graph (regrouped s new) ≤ work graph s
unfolding looped_group
fewer_groups graph s b new j =
    let old : length s.groups ≡ length j.before + (length j.after + 1) = ap length j.old_is ∙ (length-append j.before (j.joined ∷ j.after) ∙ omega arith) in
    let less : length new ≡ length j.before + 1 = ap length j.new_is ∙ length-append j.before (looped_group j.joined ∷ []) in
    omega arith

-- an arrow to what is done
pub IsSearch-followed : (graph : Graph) (to : ℕ) (s : Search) (i : ℕ) → IsSearch graph (Some to) s → place_of s to ≡ Done i → IsSearch graph None s
IsSearch-followed graph to s i search e = record {
  places = search.places;
  marks = search.marks;
  done = search.done;
  path = search.path;
  known = λ a head h arrow. again a head (search.known a head h arrow);
  sources = search.sources;
  in_hand = tt;
}
  where
    again : (a head : ℕ) → IsKnown s (Some to) a head → IsKnown s None a head
    again a head (Open k low inside at) = Open k low inside at
    again a head (ToDone j d) = ToDone j d
    again a head (ToPath b p low loop) = ToPath b p low loop
    again a head (InHand h) = let same : to ≡ head = cc in ToDone i (subst (λ (n : ℕ). place_of s n ≡ Done i) same e)

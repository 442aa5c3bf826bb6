-- A group without open arrows is done: its nodes lead to each other and to what was done before.
use Rattle.std.proofs.Common.{◌≡◌, ℕ, ◌+◌, ◌-◌, ◌<◌, ◌≤◌, ◌↔◌, Bool, true, false, IsTrue, List, [], ◌∷◌, ◌++◌, length, get_or, sym, subst, ap, ◌∙◌, arith, ◌⊎◌, inl, inr, None}
use Rattle.std.specs.Prelude.{All}
use Rattle.std.proofs.lemmas.Bool.{cases_lt, cases_Bool}
use Rattle.std.proofs.lemmas.List.{length-append}
use Rattle.lg_graph.specs.declared.groups.Group.{Group}
use Rattle.lg_graph.specs.declared.search.Place.TheVariants.{New, OnPath, Done}
use Rattle.lg_graph.specs.declared.search.Search.{Search}
use Rattle.lg_graph.specs.Graph.{Graph, HasArrow, IsWay, Leads}
use Rattle.lg_graph.specs.Search.{group_at, AreRising, StartsAtZero, place_of, Reaches, node_at, IsKnown, Open, ToDone, ToPath, InHand, HasSource, AreDone, IsPath, IsSearch, IsClosable, IsClosed, KeepsMet, work}
use Rattle.lg_graph.proofs.WayLemmas.{Leads-keeps}
use Rattle.lg_graph.proofs.GroupLemmas.{All-left, rising-left, rising-across}
use Rattle.lg_graph.proofs.ClosedNodes.{Whereabouts, Closed, Kept, whereabouts, done_kept, first_inside, all_followed, group_closed, group_kept, path_length, node_kept}

-- an arrow of the closed group leads to what was done, or within the group, which then is on a cycle
data ArrowOfClosed (s : Search) (first : ℕ) (looped : Bool) (to : ℕ) : Type 0 where
  Before : (j : ℕ) → place_of s to ≡ Done j → ArrowOfClosed s first looped to
  Within : (b : ℕ) → place_of s to ≡ OnPath b → first ≤ b → looped ≡ true → ArrowOfClosed s first looped to

arrow_of_closed : (graph : Graph) (s t : Search) → IsSearch graph None s → IsClosable s → (c : IsClosed s t) → (a to : ℕ) → c.last.first ≤ a → a < length s.path
    → HasArrow graph (node_at s a) to → ArrowOfClosed s c.last.first c.last.looped to
arrow_of_closed graph s t now able c a to from inside arrow = go (now.known a to inside arrow)
  where
    looped : (b : ℕ) → c.last.first ≤ b → b < length s.path → (b ≡ a → (group_at s.groups a).looped ≡ true) → (c.last.looped ≡ true) ⊎ (c.last.looped ≡ false)
        → c.last.looped ≡ true
    looped b low less loop (inl is) = is
    looped b low less loop (inr not_is) =
        let group_a = group_closed s t c a from in
        let group_b = group_closed s t c b low in
        let one = now.path.alone a inside (subst (λ (g : Group). g.looped ≡ false) (sym group_a) not_is) in
        let other = now.path.alone b less (subst (λ (g : Group). g.looped ≡ false) (sym group_b) not_is) in
        let here : c.last.first ≡ a = subst (λ (g : Group). g.first ≡ a) group_a one in
        let there : c.last.first ≡ b = subst (λ (g : Group). g.first ≡ b) group_b other in
        subst (λ (g : Group). g.looped ≡ true) group_a (loop (omega arith))

    go : IsKnown s None a to → ArrowOfClosed s c.last.first c.last.looped to
    go (Open k low less at) =
        let begun : c.last.arrows ≤ k = subst (λ (g : Group). g.arrows ≤ k) (group_closed s t c a from) low in
        let followed = all_followed s t able c in
        absurd (omega arith)
    go (ToDone j d) = Before j d
    go (ToPath b d low loop) =
        let from_first : c.last.first ≤ b = subst (λ (g : Group). g.first ≤ b) (group_closed s t c a from) low in
        let at = now.path.path_of to b d in
        Within b d from_first (looped b from_first at.0 loop (cases_Bool c.last.looped))
    go (InHand h) = absurd (cc)

-- nodes of a group that is on a cycle lead to each other
leads_within : (graph : Graph) (s t : Search) → IsPath graph s → (c : IsClosed s t) → (a b : ℕ) → c.last.first ≤ a → a < length s.path → c.last.first ≤ b → b < length s.path
    → c.last.looped ≡ true → Leads graph (node_at s b) (node_at s a)
leads_within graph s t p c a b from_a inside_a from_b inside_b loop = go (p.reaches b a inside_b inside_a (subst (λ (g : Group). g.first ≤ a) (sym (group_closed s t c b from_b)) from_a))
  where
    go : Reaches graph (node_at s b) (node_at s a) → Leads graph (node_at s b) (node_at s a)
    go (inl e) = subst (λ (n : ℕ). Leads graph n (node_at s a)) (sym e) (p.loops a inside_a (subst (λ (g : Group). g.looped ≡ true) (sym (group_closed s t c a from_a)) loop))
    go (inr l) = l

-- a group that is not known to be on a cycle is on none
loops_told : (graph : Graph) (s t : Search) → IsSearch graph None s → IsClosable s → (c : IsClosed s t) → (a : ℕ) → c.last.first ≤ a → a < length s.path
    → Leads graph (node_at s a) (node_at s a) → (c.last.looped ≡ true) ⊎ (c.last.looped ≡ false) → c.last.looped ≡ true
loops_told graph s t now able c a from inside l (inl is) = is
loops_told graph s t now able c a from inside l (inr not_is) = absurd (go l.0 l.1)
  where
    first_done : (to : ℕ) → ArrowOfClosed s c.last.first c.last.looped to → (j : ℕ) × (place_of s to ≡ Done j)
    first_done to (Before j d) = (j, d)
    first_done to (Within b d low is) = let both : true ≡ false = sym is ∙ not_is in absurd (cc)

    not_done : (j : ℕ) × (place_of s (node_at s a) ≡ Done j) → ⊥
    not_done h = let e : OnPath a ≡ Done h.0 = sym (now.path.on_path a inside) ∙ h.1 in cc

    along : (n to : ℕ) → (j : ℕ) × (place_of s n ≡ Done j) → HasArrow graph n to → (j : ℕ) × (place_of s to ≡ Done j)
    along n to h arrow = let b = now.done.back n h.0 to h.1 arrow in (b.0, b.1)

    go : (over : List ℕ) → IsWay graph (node_at s a) over (node_at s a) → ⊥
    go [] arrow = not_done (first_done (node_at s a) (arrow_of_closed graph s t now able c a (node_at s a) from inside arrow))
    go (next ∷ more) way =
        not_done (Leads-keeps graph (λ (n : ℕ). (j : ℕ) × (place_of s n ≡ Done j)) along next (node_at s a) (more, way.1)
        (first_done next (arrow_of_closed graph s t now able c a next from inside way.0)))

done_closed : (graph : Graph) (s t : Search) → IsSearch graph None s → IsClosable s → IsClosed s t → AreDone graph t
done_closed graph s t now able c = record {
  in_order = λ i h. in_order i h (cases_lt i (length s.order));
  order_of = λ n i e. order_of n i e (whereabouts graph s t now.path c n);
  back = λ n i to e arrow. back n i to e arrow (whereabouts graph s t now.path c n);
  told = λ n i e. told n i e (whereabouts graph s t now.path c n);
}
  where
    in_order : (i : ℕ) → i < length t.order → (i < length s.order) ⊎ (length s.order ≤ i) → place_of t (get_or t.order i 0) ≡ Done i
    in_order i h (inl less) =
        subst (λ (n : ℕ). place_of t n ≡ Done i) (sym (c.finished.before i less)) (done_kept graph s t now.path c (get_or s.order i 0) i (now.done.in_order i less))
    in_order i h (inr from) =
        let a = length s.path - (i - length s.order + 1) in
        let order = c.finished.order in
        let inside = first_inside graph s t now.path c in
        let first = inside.0 in
        let low : c.last.first ≤ a = omega arith in
        let less : a < length s.path = omega arith in
        let same : length s.order + (length s.path - (a + 1)) ≡ i = omega arith in
        subst (λ (n : ℕ). place_of t n ≡ Done i) (sym (c.finished.ordered a low less) ∙ ap (λ (k : ℕ). get_or t.order k 0) same)
        (c.finished.placed a low less ∙ ap Done same)

    order_of : (n i : ℕ) → place_of t n ≡ Done i → Whereabouts s t c.last.first n → (i < length t.order) × (get_or t.order i 0 ≡ n)
    order_of n i e (Closed a from inside at stood done) =
        let both : Done (length s.order + (length s.path - (a + 1))) ≡ Done i = sym done ∙ e in
        let same : length s.order + (length s.path - (a + 1)) ≡ i = cc in
        let order = c.finished.order in
        (omega arith, ap (λ (k : ℕ). get_or t.order k 0) (sym same) ∙ (c.finished.ordered a from inside ∙ at))
    order_of n i e (Kept same mark low) =
        let old = now.done.order_of n i (sym same ∙ e) in
        let less = old.0 in
        let order = c.finished.order in
        (omega arith, c.finished.before i less ∙ old.1)

    back : (n i to : ℕ) → place_of t n ≡ Done i → HasArrow graph n to → Whereabouts s t c.last.first n
        → (j : ℕ) × (place_of t to ≡ Done j) × ((j < i) ⊎ Leads graph to n)
    back n i to e arrow (Closed a from inside at stood done) =
        let both : Done (length s.order + (length s.path - (a + 1))) ≡ Done i = sym done ∙ e in
        let same : length s.order + (length s.path - (a + 1)) ≡ i = cc in
        go same (arrow_of_closed graph s t now able c a to from inside (subst (λ (k : ℕ). HasArrow graph k to) (sym at) arrow))
      where
        go : length s.order + (length s.path - (a + 1)) ≡ i → ArrowOfClosed s c.last.first c.last.looped to → (j : ℕ) × (place_of t to ≡ Done j) × ((j < i) ⊎ Leads graph to n)
        go same (Before j d) = let old = now.done.order_of to j d in let less = old.0 in (j, done_kept graph s t now.path c to j d, inl (omega arith))
        go same (Within b d low is) =
            let there = now.path.path_of to b d in (
              length s.order + (length s.path - (b + 1)),
              subst (λ (k : ℕ). place_of t k ≡ Done (length s.order + (length s.path - (b + 1)))) there.1 (c.finished.placed b low there.0),
              inr (subst (λ (k : ℕ). Leads graph k n) there.1 (subst (λ (k : ℕ). Leads graph (node_at s b) k) at (leads_within graph s t now.path c a b from inside low there.0 is))),
            )
    back n i to e arrow (Kept same mark low) =
        let old = now.done.back n i to (sym same ∙ e) arrow in
        (old.0, done_kept graph s t now.path c to old.0 old.1, old.2)

    told : (n i : ℕ) → place_of t n ≡ Done i → Whereabouts s t c.last.first n → IsTrue (get_or t.cyclic n false) ↔ Leads graph n n
    told n i e (Closed a from inside at stood done) =
        let mark : get_or t.cyclic n false ≡ c.last.looped = subst (λ (k : ℕ). get_or t.cyclic k false ≡ c.last.looped) at (c.finished.marked a from inside) in (
          λ is. subst (λ (k : ℕ). Leads graph k k) at (leads_within graph s t now.path c a a from inside from inside (sym mark ∙ is)),
          λ l. mark ∙ loops_told graph s t now able c a from inside (subst (λ (k : ℕ). Leads graph k k) (sym at) l) (cases_Bool c.last.looped),
        )
    told n i e (Kept same mark low) = subst (λ (b : Bool). IsTrue b ↔ Leads graph n n) (sym mark) (now.done.told n i (sym same ∙ e))

starts_still : (s t : Search) → (c : IsClosed s t) → StartsAtZero s.groups → 0 < c.last.first → StartsAtZero t.groups
starts_still s t c start some = subst StartsAtZero (sym c.finished.groups) (go c.before (subst StartsAtZero c.groups start))
  where
    go : (before : List Group) → StartsAtZero (before ++ c.last ∷ []) → StartsAtZero before
    go [] h = absurd (omega arith)
    go (x ∷ xs) h = h

path_closed : (graph : Graph) (s t : Search) → IsSearch graph None s → IsClosed s t → IsPath graph t
path_closed graph s t now c =
    let p = now.path in
    let long : length t.path ≡ c.last.first = path_length graph s t p c in
    let inside = first_inside graph s t p c in
    let first = inside.0 in
    let rising = subst (λ (gs : List Group). AreRising gs) c.groups p.rising in
    let across = rising-across c.before c.last [] rising in
    let within = All-left (λ (g : Group). (g.first < length s.path) × (g.arrows ≤ length s.arrows)) c.before (c.last ∷ [])
    (subst (λ (gs : List Group). All (λ (g : Group). (g.first < length s.path) × (g.arrows ≤ length s.arrows)) gs) c.groups p.within) in
    record {
      on_path = λ a h. on a (omega arith) (whereabouts graph s t p c (node_at s a));
      path_of = λ n a e. of n a e (whereabouts graph s t p c n);
      begun = λ some. starts_still s t c (p.begun (omega arith)) (omega arith);
      rising = subst (λ (gs : List Group). AreRising gs) (sym c.finished.groups) (rising-left c.before (c.last ∷ []) rising);
      within = subst (λ (gs : List Group). All (λ (g : Group). (g.first < length t.path) × (g.arrows ≤ length t.arrows)) gs) (sym c.finished.groups)
          (λ k d h. let less = across k d h in let fits = within k d h in let l = less.0 in let r = fits.1 in (omega arith, subst (λ (xs : List ℕ). (get_or c.before k d).arrows ≤ length xs) (sym c.finished.arrows) r));
      reaches = λ a b ha hb le. reach a b (omega arith) (omega arith) le;
      loops = λ a h e. loop a (omega arith) e;
      alone = λ a h e. one a (omega arith) e;
    }
  where
    long : length t.path ≡ c.last.first
    long = path_length graph s t now.path c

    shorter : c.last.first < length s.path
    shorter = (first_inside graph s t now.path c).0

    on : (a : ℕ) → a < c.last.first → Whereabouts s t c.last.first (node_at s a) → place_of t (node_at t a) ≡ OnPath a
    on a less (Closed b from inside at stood done) =
        let short = shorter in
        let both : OnPath b ≡ OnPath a = sym stood ∙ now.path.on_path a (omega arith) in
        let same : b ≡ a = cc in
        absurd (omega arith)
    on a less (Kept same mark low) =
        let short = shorter in
        subst (λ (n : ℕ). place_of t n ≡ OnPath a) (sym (node_kept s t c a less)) (same ∙ now.path.on_path a (omega arith))

    of : (n a : ℕ) → place_of t n ≡ OnPath a → Whereabouts s t c.last.first n → (a < length t.path) × (node_at t a ≡ n)
    of n a e (Closed b from inside at stood done) = let both : Done (length s.order + (length s.path - (b + 1))) ≡ OnPath a = sym done ∙ e in absurd (cc)
    of n a e (Kept same mark low) =
        let old = sym same ∙ e in
        let less = low a old in
        let l = long in
        (omega arith, node_kept s t c a less ∙ (now.path.path_of n a old).1)

    reach : (a b : ℕ) → a < c.last.first → b < c.last.first → (group_at t.groups a).first ≤ b → Reaches graph (node_at t a) (node_at t b)
    reach a b ha hb le =
        let short = shorter in
        rw (node_kept s t c a ha, node_kept s t c b hb) (now.path.reaches a b (omega arith) (omega arith) (subst (λ (g : Group). g.first ≤ b) (group_kept s t c a ha) le))

    loop : (a : ℕ) → a < c.last.first → (group_at t.groups a).looped ≡ true → Leads graph (node_at t a) (node_at t a)
    loop a ha e =
        let short = shorter in
        subst (λ (n : ℕ). Leads graph n n) (sym (node_kept s t c a ha)) (now.path.loops a (omega arith) (subst (λ (g : Group). g.looped ≡ true) (group_kept s t c a ha) e))

    one : (a : ℕ) → a < c.last.first → (group_at t.groups a).looped ≡ false → (group_at t.groups a).first ≡ a
    one a ha e =
        let short = shorter in
        ap (λ (g : Group). g.first) (group_kept s t c a ha) ∙ now.path.alone a (omega arith) (subst (λ (g : Group). g.looped ≡ false) (group_kept s t c a ha) e)

known_closed : (graph : Graph) (s t : Search) → IsSearch graph None s → (c : IsClosed s t) → (a to : ℕ) → a < c.last.first → IsKnown s None a to → IsKnown t None a to
known_closed graph s t now c a to less (Open k low inside at) =
    Open k (subst (λ (g : Group). g.arrows ≤ k) (sym (group_kept s t c a less)) low) (subst (λ (xs : List ℕ). k < length xs) (sym c.finished.arrows) inside)
    (ap (λ (xs : List ℕ). get_or xs k 0) c.finished.arrows ∙ at)
known_closed graph s t now c a to less (ToDone i d) = ToDone i (done_kept graph s t now.path c to i d)
known_closed graph s t now c a to less (ToPath b d low loop) = go (whereabouts graph s t now.path c to)
  where
    go : Whereabouts s t c.last.first to → IsKnown t None a to
    go (Closed a' from inside at stood done) = ToDone (length s.order + (length s.path - (a' + 1))) done
    go (Kept same mark below) =
        ToPath b (same ∙ d) (subst (λ (g : Group). g.first ≤ b) (sym (group_kept s t c a less)) low) (λ f. subst (λ (g : Group). g.looped ≡ true) (sym (group_kept s t c a less)) (loop f))
known_closed graph s t now c a to less (InHand h) = absurd (cc)

sources_closed : (graph : Graph) (s t : Search) → IsSearch graph None s → IsClosable s → (c : IsClosed s t) → (k to : ℕ) → k < length s.arrows
    → (src : HasSource graph s k to) → (src.at < c.last.first) ⊎ (c.last.first ≤ src.at) → HasSource graph t k to
sources_closed graph s t now able c k to inside src (inl less) =
    let long = path_length graph s t now.path c in
    record {
      at = src.at;
      within = omega arith;
      arrow = subst (λ (n : ℕ). HasArrow graph n to) (sym (node_kept s t c src.at less)) src.arrow;
      begun = subst (λ (g : Group). g.arrows ≤ k) (sym (group_kept s t c src.at less)) src.begun;
      late = subst (λ (gs : List Group). All (λ (g : Group). g.arrows ≤ k → g.first ≤ src.at) gs) (sym c.finished.groups)
          (All-left (λ (g : Group). g.arrows ≤ k → g.first ≤ src.at) c.before (c.last ∷ [])
          (subst (λ (gs : List Group). All (λ (g : Group). g.arrows ≤ k → g.first ≤ src.at) gs) c.groups src.late));
    }
sources_closed graph s t now able c k to inside src (inr from) =
    let begun : c.last.arrows ≤ k = subst (λ (g : Group). g.arrows ≤ k) (group_closed s t c src.at from) src.begun in
    let followed = all_followed s t able c in
    absurd (omega arith)

pub IsSearch-closed : (graph : Graph) (s t : Search) → IsSearch graph None s → IsClosable s → IsClosed s t → IsSearch graph None t
IsSearch-closed graph s t now able c =
    let long = path_length graph s t now.path c in
    let inside = first_inside graph s t now.path c in
    let first = inside.0 in
    record {
      places = c.finished.places ∙ now.places;
      marks = c.finished.marks ∙ now.marks;
      done = done_closed graph s t now able c;
      path = path_closed graph s t now c;
      known = λ a to h arrow. let less : a < c.last.first = omega arith in
          known_closed graph s t now c a to less (now.known a to (omega arith) (subst (λ (n : ℕ). HasArrow graph n to) (node_kept s t c a less) arrow));
      sources = λ k to h at.
          let less : k < length s.arrows = subst (λ (xs : List ℕ). k < length xs) c.finished.arrows h in
          let src = now.sources k to less (ap (λ (xs : List ℕ). get_or xs k 0) (sym c.finished.arrows) ∙ at) in
          sources_closed graph s t now able c k to less src (cases_lt src.at c.last.first);
      in_hand = tt;
    }

pub less_work : (graph : Graph) (s t : Search) → IsClosed s t → work graph t < work graph s
less_work graph s t c =
    let nodes = c.finished.work graph in
    let old : length s.groups ≡ length c.before + 1 = ap length c.groups ∙ length-append c.before (c.last ∷ []) in
    let new = ap length c.finished.groups in
    let arrows = ap length c.finished.arrows in
    omega arith

pub met_kept : (graph : Graph) (s t : Search) → IsPath graph s → IsClosed s t → KeepsMet s t
met_kept graph s t p c n e = go (whereabouts graph s t p c n)
  where
    go : Whereabouts s t c.last.first n → place_of s n ≡ New
    go (Closed a from inside at stood done) = let no : Done (length s.order + (length s.path - (a + 1))) ≡ New = sym done ∙ e in absurd (cc)
    go (Kept same mark low) = sym same ∙ e

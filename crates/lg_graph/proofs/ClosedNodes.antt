-- Where each node is once the last group is closed.
use Rattle.std.proofs.Common.{◌≡◌, ℕ, ◌+◌, ◌-◌, ◌<◌, ◌≤◌, false, List, [], ◌∷◌, length, get_or, refl, sym, subst, ap, ◌∙◌, arith, ◌⊎◌, inl, inr}
use Rattle.std.specs.Prelude.{All}
use Rattle.std.proofs.lemmas.Bool.{cases_lt}
use Rattle.std.proofs.lemmas.List.{length-take-le, get_or-take, same_from_push}
use Rattle.std.proofs.lemmas.List.Elements.{All-nil, All-head}
use Rattle.lg_graph.specs.declared.groups.Group.{Group}
use Rattle.lg_graph.specs.declared.search.Place.{Place}
use Rattle.lg_graph.specs.declared.search.Place.TheVariants.{New, OnPath, Done}
use Rattle.lg_graph.specs.declared.search.Search.{Search}
use Rattle.lg_graph.specs.Graph.{Graph}
use Rattle.lg_graph.specs.Search.{group_at, place_of, node_at, IsPath, IsClosable, IsClosed}
use Rattle.lg_graph.proofs.GroupLemmas.{All-right, group_at-before, group_at-last}

-- a node of the closed group, or one that is where it was
pub data Whereabouts (s t : Search) (first n : ℕ) : Type 0 where
  Closed : (a : ℕ) → first ≤ a → a < length s.path → node_at s a ≡ n → place_of s n ≡ OnPath a
      → place_of t n ≡ Done (length s.order + (length s.path - (a + 1))) → Whereabouts s t first n
  Kept : place_of t n ≡ place_of s n → get_or t.cyclic n false ≡ get_or s.cyclic n false → ((a : ℕ) → place_of s n ≡ OnPath a → a < first)
      → Whereabouts s t first n

pub whereabouts : (graph : Graph) (s t : Search) → IsPath graph s → (c : IsClosed s t) → (n : ℕ) → Whereabouts s t c.last.first n
whereabouts graph s t p c n = by_place (place_of s n) refl
  where
    other : ((a : ℕ) → place_of s n ≡ OnPath a → a < c.last.first) → Whereabouts s t c.last.first n
    other low =
        let kept = c.finished.others n (λ a from inside e.
        let at : place_of s n ≡ OnPath a = subst (λ (k : ℕ). place_of s k ≡ OnPath a) e (p.on_path a inside) in
        let less = low a at in absurd (omega arith)) in
        Kept kept.0 kept.1 low

    on_path : (a : ℕ) → place_of s n ≡ OnPath a → (a < c.last.first) ⊎ (c.last.first ≤ a) → Whereabouts s t c.last.first n
    on_path a e (inl less) = other (λ b f. let same : OnPath a ≡ OnPath b = sym e ∙ f in let equal : a ≡ b = cc in omega arith)
    on_path a e (inr from) =
        let at = p.path_of n a e in
        Closed a from at.0 at.1 e (subst (λ (k : ℕ). place_of t k ≡ Done (length s.order + (length s.path - (a + 1)))) at.1 (c.finished.placed a from at.0))

    by_place : (q : Place) → place_of s n ≡ q → Whereabouts s t c.last.first n
    by_place New e = other (λ a f. let no : New ≡ OnPath a = sym e ∙ f in absurd (cc))
    by_place (OnPath a) e = on_path a e (cases_lt a c.last.first)
    by_place (Done i) e = other (λ a f. let no : Done i ≡ OnPath a = sym e ∙ f in absurd (cc))

-- what is done stays where it is
pub done_kept : (graph : Graph) (s t : Search) → IsPath graph s → IsClosed s t → (n j : ℕ) → place_of s n ≡ Done j → place_of t n ≡ Done j
done_kept graph s t p c n j e = go (whereabouts graph s t p c n)
  where
    go : Whereabouts s t c.last.first n → place_of t n ≡ Done j
    go (Closed a from inside at on done) = let no : OnPath a ≡ Done j = sym on ∙ e in absurd (cc)
    go (Kept same mark low) = same ∙ e

-- the closed group lies on the path, and has no open arrows
pub first_inside : (graph : Graph) (s t : Search) → IsPath graph s → (c : IsClosed s t) → (c.last.first < length s.path) × (c.last.arrows ≤ length s.arrows)
first_inside graph s t p c =
    All-head (λ (g : Group). (g.first < length s.path) × (g.arrows ≤ length s.arrows)) c.last []
    (All-right (λ (g : Group). (g.first < length s.path) × (g.arrows ≤ length s.arrows)) c.before (c.last ∷ [])
    (subst (λ (gs : List Group). All (λ (g : Group). (g.first < length s.path) × (g.arrows ≤ length s.arrows)) gs) c.groups p.within))

pub all_followed : (s t : Search) → IsClosable s → (c : IsClosed s t) → length s.arrows ≤ c.last.arrows
all_followed s t able c =
    let same = same_from_push able.before c.before able.last c.last (sym able.groups ∙ c.groups) in
    subst (λ (g : Group). length s.arrows ≤ g.arrows) same.1 able.all_followed

-- the group of a place, of the closed group and before it
pub group_closed : (s t : Search) → (c : IsClosed s t) → (a : ℕ) → c.last.first ≤ a → group_at s.groups a ≡ c.last
group_closed s t c a from = ap (λ (gs : List Group). group_at gs a) c.groups ∙ group_at-last c.before c.last a from

pub group_kept : (s t : Search) → (c : IsClosed s t) → (a : ℕ) → a < c.last.first → group_at t.groups a ≡ group_at s.groups a
group_kept s t c a less =
    ap (λ (gs : List Group). group_at gs a) c.finished.groups
    ∙ sym (ap (λ (gs : List Group). group_at gs a) c.groups ∙ group_at-before c.before c.last [] a less (All-nil (λ (h : Group). a < h.first)))

-- the path that is left
pub path_length : (graph : Graph) (s t : Search) → IsPath graph s → (c : IsClosed s t) → length t.path ≡ c.last.first
path_length graph s t p c =
    let inside = first_inside graph s t p c in
    let first = inside.0 in
    ap length c.finished.path ∙ length-take-le c.last.first s.path (omega arith)

pub node_kept : (s t : Search) → (c : IsClosed s t) → (a : ℕ) → a < c.last.first → node_at t a ≡ node_at s a
node_kept s t c a less = ap (λ (xs : List ℕ). get_or xs a 0) c.finished.path ∙ get_or-take c.last.first s.path a 0 less

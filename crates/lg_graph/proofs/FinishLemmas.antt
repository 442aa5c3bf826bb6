-- One more node of the path is done.
use Rattle.std.proofs.Common.{◌≡◌, ℕ, ◌+◌, ◌-◌, ◌<◌, ◌≤◌, Bool, false, List, [], ◌∷◌, ◌++◌, length, get_or, set, take, refl, sym, subst, ap, ◌∙◌, arith, ◌⊎◌, inl, inr}
use Rattle.std.proofs.lemmas.Bool.{cases_lt}
use Rattle.std.proofs.lemmas.List.{take_all, take_more, same_from_push, length-set, length_push, get_or_push, get_or_append_left, get_or-set_same, get_or-set_other, get_or_past}
use Rattle.lg_graph.specs.declared.search.Place.TheVariants.{New, OnPath, Done}
use Rattle.lg_graph.specs.declared.search.Search.{Search}
use Rattle.lg_graph.specs.Search.{place_of, node_at, IsFinished}
use Rattle.lg_graph.proofs.Fields.{same_search}
use Rattle.lg_graph.proofs.WorkLemmas.{work_of-done}

-- each node of the path is known to be there
abbrev pub StandOnPath : Search → Type 0
StandOnPath s = (a : ℕ) → a < length s.path → place_of s (node_at s a) ≡ OnPath a

pub finished_none : (s : Search) (looped : Bool) → IsFinished (length s.path) looped s s
finished_none s looped = record {
  groups = refl;
  arrows = refl;
  places = refl;
  marks = refl;
  path = sym (take_all (length s.path) s.path (omega arith));
  order = omega arith;
  before = λ i h. refl;
  ordered = λ a from inside. absurd (omega arith);
  placed = λ a from inside. absurd (omega arith);
  marked = λ a from inside. absurd (omega arith);
  others = λ n none. (refl, refl);
  work = λ graph. refl;
}

-- the search once the node at place m of the path is done too
abbrev pub one_done : Search → ℕ → Bool → Search → Search
one_done s m looped t = record {
  places = set t.places (node_at s m) (Done (length t.order));
  path = take m s.path;
  groups = t.groups;
  arrows = t.arrows;
  order = t.order ++ node_at s m ∷ [];
  cyclic = set t.cyclic (node_at s m) looped;
}

pub on_path_differ : (s : Search) → StandOnPath s → (a b : ℕ) → a < length s.path → b < length s.path → node_at s a ≡ node_at s b → a ≡ b
on_path_differ s on a b ha hb e =
    let first = on a ha in
    let second = on b hb in
    let both : OnPath a ≡ OnPath b = sym first ∙ (ap (place_of s) e ∙ second) in
    cc

pub node_within : (s : Search) → StandOnPath s → (a : ℕ) → a < length s.path → node_at s a < length s.places
node_within s on a h = by_case (cases_lt (node_at s a) (length s.places))
  where
    by_case : (node_at s a < length s.places) ⊎ (length s.places ≤ node_at s a) → node_at s a < length s.places
    by_case (inl less) = less
    by_case (inr past) = let both : New ≡ OnPath a = sym (get_or_past s.places (node_at s a) New past) ∙ on a h in absurd (cc)

pub finished_more : (s t : Search) (m : ℕ) (looped : Bool) → StandOnPath s → length s.cyclic ≡ length s.places → m < length s.path
    → IsFinished (m + 1) looped s t → IsFinished m looped s (one_done s m looped t)
finished_more s t m looped on marks inside f =
    let places = f.places in
    let cyclic = f.marks in
    let order = f.order in
    let node = node_at s m in
    let within : node < length t.places = let w = node_within s on m inside in omega arith in
    let within_marks : node < length t.cyclic = omega arith in
    record {
      groups = f.groups;
      arrows = f.arrows;
      places = length-set t.places node (Done (length t.order)) ∙ f.places;
      marks = length-set t.cyclic node looped ∙ f.marks;
      path = refl;
      order = omega (arith, length_push t.order node);
      before = λ i h. get_or_append_left t.order (node ∷ []) 0 i (omega arith) ∙ f.before i h;
      ordered = λ a from less. ordered a from less (cases_lt m a);
      placed = λ a from less. placed a from less within (cases_lt m a);
      marked = λ a from less. marked a from less within_marks (cases_lt m a);
      others = λ n none. others n none;
      work = λ graph. work_of-done graph t.places node m (length t.order) still ∙ f.work graph;
    }
  where
    still : place_of t (node_at s m) ≡ OnPath m
    still =
        let kept = f.others (node_at s m) (λ a from less e. let same = on_path_differ s on a m less inside e in absurd (omega arith)) in
        kept.0 ∙ on m inside

    ordered : (a : ℕ) → m ≤ a → a < length s.path → (m < a) ⊎ (a ≤ m)
        → get_or (t.order ++ node_at s m ∷ []) (length s.order + (length s.path - (a + 1))) 0 ≡ node_at s a
    ordered a from less (inl later) =
        let order = f.order in
        get_or_append_left t.order (node_at s m ∷ []) 0 (length s.order + (length s.path - (a + 1))) (omega arith) ∙ f.ordered a (omega arith) less
    ordered a from less (inr here) =
        let order = f.order in
        let same : m ≡ a = omega arith in
        get_or_push t.order (node_at s m) 0 (length s.order + (length s.path - (a + 1))) (omega arith) ∙ ap (node_at s) same

    differs : (a : ℕ) → m < a → a < length s.path → node_at s a ≡ node_at s m → ⊥
    differs a later less e = let same = on_path_differ s on a m less inside e in absurd (omega arith)

    placed : (a : ℕ) → m ≤ a → a < length s.path → node_at s m < length t.places → (m < a) ⊎ (a ≤ m)
        → get_or (set t.places (node_at s m) (Done (length t.order))) (node_at s a) New ≡ Done (length s.order + (length s.path - (a + 1)))
    placed a from less within (inl later) =
        get_or-set_other t.places (node_at s m) (node_at s a) (Done (length t.order)) New (differs a later less) ∙ f.placed a (omega arith) less
    placed a from less within (inr here) =
        let order = f.order in
        let same : m ≡ a = omega arith in
        let length_is : length t.order ≡ length s.order + (length s.path - (a + 1)) = omega arith in
        subst (λ (b : ℕ). get_or (set t.places (node_at s m) (Done (length t.order))) (node_at s b) New ≡ Done (length s.order + (length s.path - (a + 1)))) same
        (get_or-set_same t.places (node_at s m) (Done (length t.order)) New within ∙ ap Done length_is)

    marked : (a : ℕ) → m ≤ a → a < length s.path → node_at s m < length t.cyclic → (m < a) ⊎ (a ≤ m)
        → get_or (set t.cyclic (node_at s m) looped) (node_at s a) false ≡ looped
    marked a from less within (inl later) =
        get_or-set_other t.cyclic (node_at s m) (node_at s a) looped false (differs a later less) ∙ f.marked a (omega arith) less
    marked a from less within (inr here) =
        let same : m ≡ a = omega arith in
        subst (λ (b : ℕ). get_or (set t.cyclic (node_at s m) looped) (node_at s b) false ≡ looped) same (get_or-set_same t.cyclic (node_at s m) looped false within)

    others : (n : ℕ) → ((a : ℕ) → m ≤ a → a < length s.path → node_at s a ≡ n → ⊥)
        → (get_or (set t.places (node_at s m) (Done (length t.order))) n New ≡ place_of s n) × (get_or (set t.cyclic (node_at s m) looped) n false ≡ get_or s.cyclic n false)
    others n none =
        let other : n ≡ node_at s m → ⊥ = λ e. none m (omega arith) inside (sym e) in
        let kept = f.others n (λ a from less e. none a (omega arith) less e) in (
          get_or-set_other t.places (node_at s m) n (Done (length t.order)) New other ∙ kept.0,
          get_or-set_other t.cyclic (node_at s m) n looped false other ∙ kept.1,
        )

-- what is taken off the path
pub popped : (path now rest : List ℕ) (node : ℕ) → now ≡ rest ++ node ∷ [] → now ≡ take (length now) path → length now ≤ length path
    → (length now ≡ length rest + 1) × (node ≡ get_or path (length rest) 0) × (rest ≡ take (length rest) path)
popped path now rest node e f fits =
    let more : length now ≡ length rest + 1 = ap length e ∙ length_push rest node in
    let same = same_from_push rest (take (length rest) path) node (get_or path (length rest) 0)
    (sym e ∙ (f ∙ (ap (λ (k : ℕ). take k path) more ∙ take_more path (length rest) 0 (omega arith)))) in
    (more, same.1, same.0)

pub finished_next : (s t next : Search) (node : ℕ) (looped : Bool) → StandOnPath s → length s.cyclic ≡ length s.places → length t.path ≤ length s.path
    → IsFinished (length t.path) looped s t → t.path ≡ next.path ++ node ∷ [] → next.places ≡ set t.places node (Done (length t.order))
    → next.groups ≡ t.groups → next.arrows ≡ t.arrows → next.order ≡ t.order ++ node ∷ [] → next.cyclic ≡ set t.cyclic node looped
    → IsFinished (length next.path) looped s next
finished_next s t next node looped on marks fits f path places groups arrows order cyclic =
    let p = popped s.path t.path next.path node path f.path fits in
    let more = p.0 in
    let m = length next.path in
    let made : Search → Type 0 = IsFinished m looped s in
    let same : next ≡ one_done s m looped t = is_one_done p.1 p.2 in
    subst made (sym same) (finished_more s t m looped on marks (omega arith) (subst (λ (k : ℕ). IsFinished k looped s t) more f))
  where
    is_one_done : node ≡ node_at s (length next.path) → next.path ≡ take (length next.path) s.path → next ≡ one_done s (length next.path) looped t
    is_one_done node_is path_is =
        same_search next (one_done s (length next.path) looped t) (places ∙ ap (λ (n : ℕ). set t.places n (Done (length t.order))) node_is) path_is groups arrows
        (order ∙ ap (λ (n : ℕ). t.order ++ n ∷ []) node_is) (cyclic ∙ ap (λ (n : ℕ). set t.cyclic n looped) node_is)

-- What a step begins with: a group to close, or an arrow in hand.
use Rattle.std.proofs.Common.{◌≡◌, ℕ, ◌+◌, ◌<◌, ◌≤◌, List, [], ◌∷◌, ◌++◌, length, get_or, refl, sym, subst, ap, ◌∙◌, arith, ◌⊎◌, inl, inr, None, Some}
use Rattle.std.specs.Prelude.{All}
use Rattle.std.proofs.lemmas.Bool.{cases_lt}
use Rattle.std.proofs.lemmas.List.{length_push, get_or_push, get_or_append_left}
use Rattle.std.proofs.lemmas.List.Elements.{All-head, All-push}
use Rattle.lg_graph.specs.declared.groups.Group.{Group}
use Rattle.lg_graph.specs.declared.search.Search.{Search}
use Rattle.lg_graph.specs.Graph.{Graph}
use Rattle.lg_graph.specs.Search.{AreRising, IsKnown, Open, ToDone, ToPath, InHand, HasSource, HasLastSource, IsSearch, IsClosable}
use Rattle.lg_graph.proofs.GroupLemmas.{All-right, rising-across}

pub closable : (graph : Graph) (s : Search) (before : List Group) (last : Group) → IsSearch graph None s → s.groups ≡ before ++ last ∷ [] → length s.arrows ≤ last.arrows → IsClosable s
closable graph s before last now groups followed =
    let fits = All-head (λ (g : Group). (g.first < length s.path) × (g.arrows ≤ length s.arrows)) last []
    (All-right (λ (g : Group). (g.first < length s.path) × (g.arrows ≤ length s.arrows)) before (last ∷ [])
    (subst (λ (gs : List Group). All (λ (g : Group). (g.first < length s.path) × (g.arrows ≤ length s.arrows)) gs) groups now.path.within)) in
    let first = fits.0 in
    record {
      before = before;
      last = last;
      groups = groups;
      all_followed = followed;
      within = omega arith;
      on_path = now.path.on_path;
      marks = now.marks ∙ sym now.places;
    }

-- the search with fewer arrows open
abbrev pub without_last : Search → List ℕ → Search
without_last s rest = record s { arrows = rest }

-- the arrows of each group begin before the last arrow, if those of the last group do
begin_before : (s : Search) (before : List Group) (last : Group) (n : ℕ) → AreRising s.groups → s.groups ≡ before ++ last ∷ [] → last.arrows ≤ n
    → All (λ (g : Group). g.arrows ≤ n) s.groups
begin_before s before last n rising groups low =
    let across = rising-across before last [] (subst (λ (gs : List Group). AreRising gs) groups rising) in
    subst (λ (gs : List Group). All (λ (g : Group). g.arrows ≤ n) gs) (sym groups)
    (All-push (λ (g : Group). g.arrows ≤ n) before last (λ k d h. let b = across k d h in let arrows = b.1 in omega arith) low)

pub IsSearch-taken : (graph : Graph) (s : Search) (rest : List ℕ) (to : ℕ) (before : List Group) (last : Group) → IsSearch graph None s → s.arrows ≡ rest ++ to ∷ []
    → s.groups ≡ before ++ last ∷ [] → last.arrows < length s.arrows → IsSearch graph (Some to) (without_last s rest)
IsSearch-taken graph s rest to before last now arrows groups some =
    let long : length s.arrows ≡ length rest + 1 = ap length arrows ∙ length_push rest to in
    let low = begin_before s before last (length rest) now.path.rising groups (omega arith) in
    let p = now.path in
    record {
      places = now.places;
      marks = now.marks;
      done = record { in_order = now.done.in_order; order_of = now.done.order_of; back = now.done.back; told = now.done.told };
      path = record {
        on_path = p.on_path;
        path_of = p.path_of;
        begun = p.begun;
        rising = p.rising;
        within = λ k d h. ((p.within k d h).0, low k d h);
        reaches = p.reaches;
        loops = p.loops;
        alone = p.alone;
      };
      known = λ a head h arrow. known a head (now.known a head h arrow);
      sources = λ k head h at. source k head (now.sources k head (omega arith) (ap (λ (xs : List ℕ). get_or xs k 0) arrows ∙ (get_or_append_left rest (to ∷ []) 0 k h ∙ at)));
      in_hand = in_hand (now.sources (length rest) to (omega arith) (ap (λ (xs : List ℕ). get_or xs (length rest) 0) arrows ∙ get_or_push rest to 0 (length rest) refl)) low;
    }
  where
    long : length s.arrows ≡ length rest + 1
    long = ap length arrows ∙ length_push rest to

    known : (a head : ℕ) → IsKnown s None a head → IsKnown (without_last s rest) (Some to) a head
    known a head (Open k begun inside at) = by_case (cases_lt k (length rest))
      where
        by_case : (k < length rest) ⊎ (length rest ≤ k) → IsKnown (without_last s rest) (Some to) a head
        by_case (inl less) = Open k begun less (sym (get_or_append_left rest (to ∷ []) 0 k less) ∙ (sym (ap (λ (xs : List ℕ). get_or xs k 0) arrows) ∙ at))
        by_case (inr past) =
            let l = long in
            let here : length rest ≡ k = omega arith in
            InHand (ap Some (sym (get_or_push rest to 0 k here) ∙ (sym (ap (λ (xs : List ℕ). get_or xs k 0) arrows) ∙ at)))
    known a head (ToDone i d) = ToDone i d
    known a head (ToPath b d begun loop) = ToPath b d begun loop
    known a head (InHand h) = absurd (cc)

    source : (k head : ℕ) → HasSource graph s k head → HasSource graph (without_last s rest) k head
    source k head src = record { at = src.at; within = src.within; arrow = src.arrow; begun = src.begun; late = src.late }

    in_hand : HasSource graph s (length rest) to → All (λ (g : Group). g.arrows ≤ length rest) s.groups → HasLastSource graph (without_last s rest) to
    in_hand src low = record { at = src.at; within = src.within; arrow = src.arrow; late = λ k d h. src.late k d h (low k d h) }

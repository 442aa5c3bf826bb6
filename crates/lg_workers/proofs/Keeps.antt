-- Each kind of step keeps the rule of draws.
use Rattle.std.proofs.Common.{◌≡◌, ◌≢◌, ⊎_elim, ℕ, zero, suc, ◌+◌, ◌<◌, ◌≤◌, List, [], ◌∷◌, ◌++◌, set, sum_by, true, false, Bool, eqb, ltb, leb, sym, refl, ap, ◌∙◌, subst, arith, eq-eqb, ne_eqb, lt-ltb, le-ltb}
use Rattle.std.proofs.lemmas.List.Sums.{sum_by_push}
use mathlib.Core.Logic.{dite}
use mathlib.Core.Option.{some, some-injective, some-ne-none}
use native.Mathlib.Decide.{ℕ_discrete, dec_le}
use lib.ListN.{get_elem?}
use Rattle.atomic_table.proofs.Lists.{at_set, at_snoc, set_else}
use Rattle.lg_workers.specs.declared.view.Deal.{Deal}
use Rattle.lg_workers.specs.declared.view.SeatView.{SeatView}
use Rattle.lg_workers.specs.Draws.{times, beyond, Fits, AreDealt, first_view, with_number, one_less, newcomer, both_views, no_view, MayDraw, SharesAreLeft}
use Rattle.lg_workers.proofs.Sums.{sum_set, count_push, count_append}
use Rattle.lg_workers.proofs.Window.{bit}

-- the numbers below the next counter are those below the counter, and the counter
next_bit : (n counter : ℕ) → bit (ltb n counter) + bit (eqb counter n) ≡ bit (ltb n (counter + 1))
next_bit n counter = dite (ℕ_discrete counter n)
    (λ e. let a = ap bit (le-ltb n counter (omega arith)) in let b = ap bit (eq-eqb counter n e) in let c = ap bit (lt-ltb n (counter + 1) (omega arith)) in omega arith)
    (λ e. dite (dec_le counter n)
    (λ high. let a = ap bit (le-ltb n counter high) in let b = ap bit (ne_eqb counter n e) in let c = ap bit (le-ltb n (counter + 1) (omega arith)) in omega arith)
    (λ low. let a = ap bit (lt-ltb n counter (omega arith)) in let b = ap bit (ne_eqb counter n e) in let c = ap bit (lt-ltb n (counter + 1) (omega arith)) in omega arith))

bit_at_most : (b : Bool) → bit b ≤ 1
bit_at_most true = omega arith
bit_at_most false = omega arith

-- a fact of each view, after one was changed
each_set : (F : SeatView → Type 0) (views : List SeatView) (seat : ℕ) (w : SeatView) → F w → ((j : ℕ) (u : SeatView) → j ≢ seat → get_elem? views j ≡ some u → F u)
    → (j : ℕ) (u : SeatView) → get_elem? (set views seat w) j ≡ some u → F u
each_set F views seat w mine others j u at = ⊎_elim (λ (t : (j ≡ seat) × (w ≡ u)). subst F t.1 mine)
    (λ (t : (j ≢ seat) × (get_elem? views j ≡ some u)). others j u t.0 t.1) (at_set views seat j w u at)

module _ (deal : Deal) (counter : ℕ) (views : List SeatView) (dealt : AreDealt deal counter views) (seat : ℕ) (v : SeatView) (at : get_elem? views seat ≡ some v) where
  abbrev drawn_n : ℕ → SeatView → ℕ
  drawn_n n u = times n u.drawn

  abbrev shares_of : SeatView → ℕ
  shares_of u = u.shares

  pub draw_deals : MayDraw v → AreDealt deal (counter + 1) (set views seat (with_number v counter))
  draw_deals may = let w : SeatView = with_number v counter in record {
    once = λ n.
        let s = sum_set (drawn_n n) views seat v w at in let p : times n w.drawn ≡ times n v.drawn + bit (eqb counter n) = count_push (λ m. eqb m n) v.drawn counter in
        let h : sum_by (drawn_n n) views ≡ bit (ltb n counter) = dealt.once n in let b = next_bit n counter in
        let goal : sum_by (drawn_n n) (set views seat w) ≡ bit (ltb n (counter + 1)) = omega arith in goal;
    shared = let s = sum_set shares_of views seat v w at in let h = dealt.shared in omega arith;
    each = each_set (Fits deal) views seat w (
      (λ none. let m = may.0 in absurd (omega arith)),
      (dealt.each seat v at).1,
      (let p : beyond deal.jobs w.drawn ≡ beyond deal.jobs v.drawn + bit (leb deal.jobs counter) = count_push (λ m. leb deal.jobs m) v.drawn counter in
          let b = bit_at_most (leb deal.jobs counter) in let m = may.0 in
          let none : beyond deal.jobs v.drawn ≡ 0 = subst (λ j. beyond j v.drawn ≡ 0) (((dealt.each seat v at).1 may.0).0) may.1 in omega arith),
    )
        (λ j u n is. dealt.each j u is);
  }

  pub split_deals : SharesAreLeft v → AreDealt deal counter (set views seat (one_less v) ++ newcomer v ∷ [])
  split_deals left = let w : SeatView = one_less v in let fresh : SeatView = newcomer v in let jobs = ((dealt.each seat v at).1 (let l = left.0 in omega arith)).0 in let seats = ((dealt.each seat v at).1 (let l = left.0 in omega arith)).1 in record {
    once = λ n.
        let s = sum_set (drawn_n n) views seat v w at in let p = sum_by_push (drawn_n n) (set views seat w) fresh in let h = dealt.once n in
        let same : times n w.drawn ≡ times n v.drawn = refl in
        let keeps : sum_by (drawn_n n) (set views seat w ++ fresh ∷ []) ≡ sum_by (drawn_n n) views = omega arith in keeps ∙ h;
    shared = let s = sum_set shares_of views seat v w at in let p = sum_by_push shares_of (set views seat w) fresh in let h = dealt.shared in let l = left.0 in omega arith;
    each = λ j u is. ⊎_elim
        (λ was. each_set (Fits deal) views seat w (
          (λ none. let m = left.0 in absurd (omega arith)),
          (λ _. (jobs, seats)),
          (let few : beyond deal.jobs v.drawn < v.shares = subst (λ j. beyond j v.drawn < v.shares) jobs left.1 in omega arith),
        )
        (λ i x n here. dealt.each i x here) j u was)
        (λ (e : fresh ≡ u). subst (Fits deal) e ((λ none. absurd (omega arith)), (λ _. (jobs, seats)), omega arith))
        (at_snoc (set views seat w) fresh u j is);
  }

  pub join_deals : (other : ℕ) (w : SeatView) → other ≢ seat → get_elem? views other ≡ some w → 0 < v.shares → AreDealt deal counter (set (set views seat (both_views v w)) other no_view)
  join_deals other w apart there some_share = let both : SeatView = both_views v w in let middle : List SeatView = set views seat both in
      let at' : get_elem? middle other ≡ some w = set_else views seat other both apart ∙ there in record {
        once = λ n.
            let s = sum_set (drawn_n n) views seat v both at in let t = sum_set (drawn_n n) middle other w no_view at' in
            let p : times n both.drawn ≡ times n v.drawn + times n w.drawn = count_append (λ m. eqb m n) v.drawn w.drawn in
            let keeps : sum_by (drawn_n n) (set middle other no_view) ≡ sum_by (drawn_n n) views = omega arith in keeps ∙ dealt.once n;
        shared = let s = sum_set shares_of views seat v both at in let t = sum_set shares_of middle other w no_view at' in let h = dealt.shared in omega arith;
        each = each_set (Fits deal) middle other no_view ((λ _. refl), (λ more. absurd (omega arith)), omega arith)
            (λ i x n here. each_set (Fits deal) views seat both (
              (λ none. absurd (omega arith)),
              (λ _. (dealt.each seat v at).1 some_share),
              (let p : beyond deal.jobs both.drawn ≡ beyond deal.jobs v.drawn + beyond deal.jobs w.drawn = count_append (λ m. leb deal.jobs m) v.drawn w.drawn in
                  let a = (dealt.each seat v at).2 in let b = (dealt.each other w there).2 in omega arith),
            )
            (λ k y m is. dealt.each k y is) i x here);
      }

first_fits : (deal : Deal) (j : ℕ) (u : SeatView) → 0 < deal.seats → get_elem? (first_view deal ∷ []) j ≡ some u → Fits deal u
first_fits deal zero u more is = subst (Fits deal) (some-injective (first_view deal) u is) ((λ none. absurd (omega arith)), (λ _. (refl, refl)), omega arith)
first_fits deal (suc j) u more is = absurd (some-ne-none u (sym is))

pub first_deals : (deal : Deal) → 0 < deal.seats → AreDealt deal 0 (first_view deal ∷ [])
first_deals deal more = record {
  once = λ n. ap bit (sym (le-ltb n 0 (omega arith)));
  shared = omega arith;
  each = λ j u is. first_fits deal j u more is;
}

-- What a seat knows of its own list, by the rule.
use Rattle.std.proofs.Common.{◌≡◌, ◌≢◌, ℕ, zero, suc, ◌<◌, ◌≤◌, List, [], ◌∷◌, length, get_or, sum_by, eqb, ltb, leb, sym, refl, ap, ◌∙◌, subst, arith, eq-eqb, lt-ltb, le-ltb}
use Rattle.std.proofs.lemmas.List.Sums.{sum_by-cons}
use Rattle.std.proofs.lemmas.Bool.{lt-leb}
use Rattle.std.specs.List.{All}
use mathlib.Core.Logic.{dite}
use mathlib.Core.Option.{some}
use native.Mathlib.Decide.{dec_le}
use lib.ListN.{get_elem?}
use Rattle.lg_workers.specs.declared.view.Deal.{Deal}
use Rattle.lg_workers.specs.declared.view.SeatView.{SeatView}
use Rattle.lg_workers.specs.Draws.{Table, times, beyond, AreDealt, DrawRule, IsWhole}
use Rattle.lg_workers.proofs.Sums.{item_le_sum, two_le_sum, alone_in_sum}
use Rattle.lg_workers.proofs.Window.{bit}

-- a number of a list stands in it
stands : (numbers : List ℕ) (k d : ℕ) → k < length numbers → 0 < times (get_or numbers k d) numbers
stands [] k d h = absurd (omega arith)
stands (n ∷ numbers) zero d h =
    let p = sum_by-cons (λ m. bit (eqb m n)) n numbers in let q = ap bit (eq-eqb n n refl) in omega arith
stands (n ∷ numbers) (suc k) d h =
    let p = sum_by-cons (λ m. bit (eqb m (get_or numbers k d))) n numbers in let q = stands numbers k d (omega arith) in omega arith

-- where some number is not below the jobs, there is one
found_beyond : (jobs : ℕ) (numbers : List ℕ) → 0 < beyond jobs numbers → (m : ℕ) × (jobs ≤ m) × (0 < times m numbers)
found_beyond jobs [] more = absurd (omega arith)
found_beyond jobs (n ∷ numbers) more = dite (dec_le jobs n)
    (λ high. (n, high, stands (n ∷ numbers) 0 0 (omega arith)))
    (λ low.
    let p = sum_by-cons (λ m. bit (leb jobs m)) n numbers in let q = ap bit (lt-leb jobs n (omega arith)) in
    let r = found_beyond jobs numbers (omega arith) in let s = sum_by-cons (λ m. bit (eqb m r.0)) n numbers in let t = r.2 in
    (r.0, r.1, omega arith))

-- a number that stands in a list is below the counter
drawn_below : (m counter : ℕ) → 0 < bit (ltb m counter) → m < counter
drawn_below m counter h = dite (dec_le counter m) (λ high. let p = ap bit (le-ltb m counter high) in absurd (omega arith)) (λ low. omega arith)

module _ (deal : Deal) (counter : ℕ) (views : List SeatView) (dealt : AreDealt deal counter views) (seat : ℕ) (v : SeatView) (at : get_elem? views seat ≡ some v) where
  pub in_list_below : (m : ℕ) → 0 < times m v.drawn → m < counter
  in_list_below m h =
      let p = item_le_sum (λ u. times m u.drawn) views seat v at in let q : sum_by (λ u. times m u.drawn) views ≡ bit (ltb m counter) = dealt.once m in
      drawn_below m counter (omega arith)

  pub all_below : All (λ m. m < counter) v.drawn
  all_below k d h = in_list_below (get_or v.drawn k d) (stands v.drawn k d h)

  pub shares_fit : 0 < v.shares → v.shares ≤ v.seats
  shares_fit more = let p = item_le_sum (λ u. u.shares) views seat v at in let q = dealt.shared in let r = ((dealt.each seat v at).1 more).1 in omega arith

  -- with all shares, no other seat has drawn
  others_empty : v.shares ≡ deal.seats → (n j : ℕ) (u : SeatView) → j ≢ seat → get_elem? views j ≡ some u → times n u.drawn ≡ 0
  others_empty all n j u apart there =
      let p = two_le_sum (λ x. x.shares) views seat j v u apart at there in let q = dealt.shared in
      ap (times n) ((dealt.each j u there).0 (omega arith))

  pub whole : 0 < v.shares → IsWhole v
  whole more all past n low =
      let knows = (dealt.each seat v at).1 more in
      let m = found_beyond v.jobs v.drawn past in
      let below = in_list_below m.0 m.2 in
      let high = m.1 in
      let alone = alone_in_sum (λ u. times n u.drawn) views seat v at (others_empty (all ∙ knows.1) n) in
      let once : sum_by (λ u. times n u.drawn) views ≡ bit (ltb n counter) = dealt.once n in
      let one = ap bit (lt-ltb n counter (omega arith)) in
      let goal : times n v.drawn ≡ 1 = omega arith in goal

pub whole_by_rule : (deal : Deal) (s : Table) (seat : ℕ) (v : SeatView) → DrawRule deal s → get_elem? s.views seat ≡ some v → v.shares ≡ deal.seats → 0 < beyond deal.jobs v.drawn
    → (n : ℕ) → n < deal.jobs → times n v.drawn ≡ 1
whole_by_rule deal s seat v rule at all past n low =
    let more : 0 < v.shares = subst (λ k. 0 < k) (sym all) rule.0.1 in
    let knows = (rule.1.2.each seat v at).1 more in
    whole deal rule.1.0 s.views rule.1.2 seat v at more (all ∙ sym knows.1) (subst (λ j. 0 < beyond j v.drawn) (sym knows.0) past) n (subst (λ j. n < j) (sym knows.0) low)

-- The steps of the table of claims keep its rule, and tell what they told of the seat's view.
use Rattle.std.proofs.Common.{◌≡◌, ⊎_elim, ℕ, zero, suc, ◌+◌, ◌^◌, ◌%◌, ◌<◌, ◌||◌, Bool, false, ltb, leb, lt-ltb, le-ltb, ltb-false, List, [], ◌∷◌, ◌++◌, get_or, set, sym, refl, ap, ◌∙◌, subst, arith}
use Rattle.std.proofs.Math.Nat.{mod-eq_of_lt}
use mathlib.Core.Logic.{dite}
use mathlib.Core.Option.{some, none, some-ne-none}
use native.Mathlib.Decide.{dec_le}
use lib.ListN.{get_elem?}
use Rattle.atomic_table.specs.Table.{Me, step, keeps, stepped, Allows, Splits, Joins}
use Rattle.atomic_table.proofs.Lists.{set_else, set_again}
use Rattle.lg_workers.specs.declared.view.Deal.{Deal}
use Rattle.lg_workers.specs.declared.view.SeatView.{SeatView}
use Rattle.lg_workers.proofs.Sums.{count_append}
use Rattle.lg_workers.specs.Draws.{Table, beyond, IsDeal, AreDealt, DrawRule, with_number, one_less, newcomer, both_views, no_view, MayDraw, SharesAreLeft, IsDraw, IsSplit, IsJoin, IsStep, IsReached, starts, goes, first_table, Drew, Looked}
use Rattle.lg_workers.proofs.Keeps.{first_deals, draw_deals, split_deals, join_deals}
use Rattle.lg_workers.proofs.Window.{counter_bound}
use Rattle.lg_workers.proofs.Whole.{all_below, shares_fit, whole}

pub draw_keeps : (deal : Deal) (s t : Table) → DrawRule deal s → IsDraw s t → DrawRule deal t
draw_keeps deal s t rule (seat, v, counter, at, may, found, raised, views) =
    let e : rule.1.0 ≡ counter = ap (λ ws. get_or ws 0 0) (sym rule.1.1 ∙ found) in
    let dealt = subst (λ c. AreDealt deal c s.views) e rule.1.2 in
    (rule.0, (counter + 1, raised, subst (AreDealt deal (counter + 1)) (sym views) (draw_deals deal counter s.views dealt seat v at may)))

pub split_keeps : (deal : Deal) (s t : Table) → DrawRule deal s → IsSplit s t → DrawRule deal t
split_keeps deal s t rule (seat, v, at, left, words, views) =
    (rule.0, (rule.1.0, words ∙ rule.1.1, subst (AreDealt deal rule.1.0) (sym views) (split_deals deal rule.1.0 s.views rule.1.2 seat v at left)))

pub join_keeps : (deal : Deal) (s t : Table) → DrawRule deal s → IsJoin s t → DrawRule deal t
join_keeps deal s t rule (seat, v, other, w, apart, at, there, more, words, views) =
    (rule.0, (rule.1.0, words ∙ rule.1.1, subst (AreDealt deal rule.1.0) (sym views) (join_deals deal rule.1.0 s.views rule.1.2 seat v at other w apart there more)))

pub step_keeps : (deal : Deal) (s t : Table) → DrawRule deal s → IsStep s t → DrawRule deal t
step_keeps deal s t rule step_taken = ⊎_elim (draw_keeps deal s t rule) (λ other. ⊎_elim (split_keeps deal s t rule) (join_keeps deal s t rule) other) step_taken

pub first_keeps : (deal : Deal) → IsDeal deal → DrawRule deal (first_table deal)
first_keeps deal fine = (fine, (0, refl, first_deals deal fine.1))

-- the rule holds of each table that is reached
pub reached_keeps : (deal : Deal) (s : Table) → IsDeal deal → IsReached deal s → DrawRule deal s
reached_keeps deal _ fine starts = first_keeps deal fine
reached_keeps deal _ fine (goes s t reached step_taken) = step_keeps deal s t (reached_keeps deal s fine reached) step_taken

now_there : (views : List SeatView) (id : ℕ) (v w : SeatView) → get_elem? views id ≡ some v → get_elem? (set views id w) id ≡ some w
now_there [] id v w at = absurd (some-ne-none v (sym at))
now_there (u ∷ us) zero v w at = refl
now_there (u ∷ us) (suc id) v w at = now_there us id v w at

-- what the draw of a seat leaves
abbrev drawn_state : Table → ℕ → Me (Unit {0}) SeatView → ℕ → Table
drawn_state s id me n = stepped s 0 ((get_or s.words 0 0 + 1) % 2 ^ 64) id me.1 (with_number me.0 n) keeps

pub draws : (deal : Deal) (slots id : ℕ) (me : Me (Unit {0}) SeatView) → MayDraw me.0
    → Allows (DrawRule deal) slots id me 0 (λ n. (n + 1) % 2 ^ 64) (Drew (step slots 0 1 0 none) me)
draws deal slots id me may s rule homes at fits =
    let counter : ℕ = rule.1.0 in let found : s.words ≡ counter ∷ [] = rule.1.1 in
    let same : get_or s.words 0 0 ≡ counter = ap (λ ws. get_or ws 0 0) found in
    let bound = counter_bound deal counter s.views rule.1.2 in
    let jobs = rule.0.0 in let seats = rule.0.2 in
    let small : counter + 1 < 2 ^ 64 = omega arith in
    let w : SeatView = with_number me.0 counter in
    let next : set s.words 0 ((get_or s.words 0 0 + 1) % 2 ^ 64) ≡ (counter + 1) ∷ [] =
    ap (λ ws. set ws 0 ((get_or ws 0 0 + 1) % 2 ^ 64)) found ∙ ap (λ n. n ∷ []) (mod-eq_of_lt small) in
    let dealt = draw_deals deal counter s.views rule.1.2 id me.0 at may in
    let kept : DrawRule deal (drawn_state s id me counter) = (rule.0, (counter + 1, next, dealt)) in
    let tells : Drew (step slots 0 1 0 none) me counter (w, me.1) =
    (refl, all_below deal counter s.views rule.1.2 id me.0 at, whole deal (counter + 1) (set s.views id w) dealt id w (now_there s.views id me.0 w at) may.0) in
    (w, keeps, tt, kept, subst (λ n. Drew (step slots 0 1 0 none) me n (w, me.1)) (sym same) tells)

-- a look changes nothing
pub looks : (deal : Deal) (slots id : ℕ) (me : Me (Unit {0}) SeatView) → 0 < me.0.shares
    → Allows (DrawRule deal) slots id me 0 (λ n. n) (Looked (step slots 0 0 0 none) me)
looks deal slots id me more s rule homes at fits =
    let counter : ℕ = rule.1.0 in let found : s.words ≡ counter ∷ [] = rule.1.1 in
    let next : set s.words 0 (get_or s.words 0 0) ≡ counter ∷ [] = ap (λ ws. set ws 0 (get_or ws 0 0)) found in
    let views : s.views ≡ set s.views id me.0 = sym (set_again s.views id me.0 at) in (
      me.0,
      keeps,
      tt,
      (rule.0, (counter, next, subst (AreDealt deal counter) views rule.1.2)),
      (refl, shares_fit deal counter s.views rule.1.2 id me.0 at more, whole deal counter s.views rule.1.2 id me.0 at more),
    )

pub splits : (deal : Deal) (id : ℕ) (v : SeatView) → SharesAreLeft v → Splits (DrawRule deal) id v (one_less v) (newcomer v)
splits deal id v left s rule at = (rule.0, (rule.1.0, rule.1.1, split_deals deal rule.1.0 s.views rule.1.2 id v at left))

pub joins : (deal : Deal) (id : ℕ) (v : SeatView) (other : ℕ) (w : SeatView) → 0 < v.shares → Joins (DrawRule deal) id v other w (both_views v w) no_view
joins deal id v other w more s rule at apart there =
    (rule.0, (rule.1.0, rule.1.1, join_deals deal rule.1.0 s.views rule.1.2 id v at other w apart (sym (set_else s.views id other (both_views v w) apart) ∙ there) more))

-- a claim that is not spent may draw
pub may_draw : (v : SeatView) (spent : Bool) → 0 < v.shares → spent ≡ ltb 0 (beyond v.jobs v.drawn) → spent ≡ false → MayDraw v
may_draw v spent more ended open_still = (more, (let p = ltb-false 0 (beyond v.jobs v.drawn) (sym ended ∙ open_still) in omega arith))

either_positive : (m n : ℕ) → (ltb 0 m || ltb 0 n) ≡ ltb 0 (m + n)
either_positive m n = dite (dec_le 1 m)
    (λ some_m. let a = lt-ltb 0 m (omega arith) in let b = lt-ltb 0 (m + n) (omega arith) in ap (λ t. t || ltb 0 n) a ∙ sym b)
    (λ no_m. let a = le-ltb 0 m (omega arith) in let e : n ≡ m + n = omega arith in ap (λ t. t || ltb 0 n) a ∙ ap (ltb 0) e)

-- two claims in one are spent where one of the two was
pub ended_together : (v w : SeatView) (a b together : Bool) → w.jobs ≡ v.jobs → a ≡ ltb 0 (beyond v.jobs v.drawn) → b ≡ ltb 0 (beyond w.jobs w.drawn) → together ≡ (a || b)
    → together ≡ ltb 0 (beyond v.jobs (v.drawn ++ w.drawn))
ended_together v w a b together jobs ended_v ended_w is =
    let p : beyond v.jobs (v.drawn ++ w.drawn) ≡ beyond v.jobs v.drawn + beyond v.jobs w.drawn = count_append (λ m. leb v.jobs m) v.drawn w.drawn in
    let b_is : b ≡ ltb 0 (beyond v.jobs w.drawn) = subst (λ j. b ≡ ltb 0 (beyond j w.drawn)) jobs ended_w in
    is ∙ ap (λ t. t || b) ended_v ∙ ap (λ t. ltb 0 (beyond v.jobs v.drawn) || t) b_is ∙ either_positive (beyond v.jobs v.drawn) (beyond v.jobs w.drawn) ∙ ap (ltb 0) (sym p)

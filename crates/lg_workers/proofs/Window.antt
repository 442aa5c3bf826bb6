-- The counter runs past the jobs by no more than the seats: each number from the jobs on is in a list, and no list has more of them than shares.
use Rattle.std.proofs.Common.{◌≡◌, ◌≢◌, ◌⊎◌, inl, inr, ⊎_elim, ℕ, zero, suc, ◌+◌, ◌-◌, ◌<◌, ◌≤◌, List, [], ◌∷◌, get_or, sum_by, cond, Bool, eqb, leb, sym, refl, ap, ◌∙◌, arith, eq-eqb, ne_eqb, le-leb, lt-ltb}
use Rattle.std.proofs.lemmas.List.Sums.{sum_by-cons}
use mathlib.Core.Logic.{dite}
use native.Mathlib.Decide.{ℕ_discrete, dec_le}
use Rattle.lg_workers.specs.declared.view.Deal.{Deal}
use Rattle.lg_workers.specs.declared.view.SeatView.{SeatView}
use Rattle.lg_workers.specs.Draws.{Table, times, beyond, AreDrawnOnce, AreDealt, DrawRule}
use Rattle.lg_workers.proofs.Sums.{sum_le, sum_of_two, none_in_sum}

-- a test as a number
abbrev pub bit : Bool → ℕ
bit b = cond b 1 0

-- 1 where the numbers are equal, and else 0
abbrev here : ℕ → ℕ → ℕ
here n m = cond (eqb m n) 1 0

here_same : (n m : ℕ) → m ≡ n → here n m ≡ 1
here_same n m e = ap bit (eq-eqb m n e)

here_other : (n m : ℕ) → m ≢ n → here n m ≡ 0
here_other n m e = ap bit (ne_eqb m n e)

-- how many numbers of the list are from `low` on, below `low + width`
abbrev window : ℕ → ℕ → List ℕ → ℕ
window low zero numbers = 0
window low (suc width) numbers = window low width numbers + times (low + width) numbers

-- 1 where the number is from `low` on, below `low + width`, and else 0
abbrev inside : ℕ → ℕ → ℕ → ℕ
inside low zero n = 0
inside low (suc width) n = inside low width n + here (low + width) n

abbrev Inside : ℕ → ℕ → ℕ → Type 0
Inside low width n = (inside low width n ≡ 0) ⊎ ((inside low width n ≡ 1) × (low ≤ n) × (n < low + width))

inside_once : (low width n : ℕ) → Inside low width n
inside_once low zero n = inl refl
inside_once low (suc width) n = ⊎_elim
    (λ (no : inside low width n ≡ 0). dite (ℕ_discrete n (low + width))
    (λ e. let h = here_same (low + width) n e in inr (omega arith, omega arith, omega arith))
    (λ e. let h = here_other (low + width) n e in inl (omega arith)))
    (λ (one : (inside low width n ≡ 1) × (low ≤ n) × (n < low + width)).
    let h = here_other (low + width) n (λ e. absurd (omega arith)) in let o = one.0 in let l = one.1 in let u = one.2 in inr (omega arith, l, omega arith))
    (inside_once low width n)

inside_le : (low width n : ℕ) → inside low width n ≤ cond (leb low n) 1 0
inside_le low width n = ⊎_elim
    (λ (no : inside low width n ≡ 0). omega arith)
    (λ (one : (inside low width n ≡ 1) × (low ≤ n) × (n < low + width)). let o = one.0 in let p = ap bit (le-leb low n one.1) in omega arith)
    (inside_once low width n)

window_nil : (low width : ℕ) → window low width [] ≡ 0
window_nil low zero = refl
window_nil low (suc width) = let p = window_nil low width in omega arith

window_cons : (low width n : ℕ) (numbers : List ℕ) → window low width (n ∷ numbers) ≡ inside low width n + window low width numbers
window_cons low zero n numbers = refl
window_cons low (suc width) n numbers =
    let p = window_cons low width n numbers in let q = sum_by-cons (λ m. here (low + width) m) n numbers in omega arith

window_le : (low width : ℕ) (numbers : List ℕ) → window low width numbers ≤ beyond low numbers
window_le low width [] = let p = window_nil low width in omega arith
window_le low width (n ∷ numbers) =
    let p = window_cons low width n numbers in let q = inside_le low width n in let r = window_le low width numbers in
    let s = sum_by-cons (λ m. cond (leb low m) 1 0) n numbers in omega arith

all_windows : (low width counter : ℕ) (views : List SeatView) → AreDrawnOnce counter views → low + width ≤ counter
    → sum_by (λ v. window low width v.drawn) views ≡ width
all_windows low zero counter views once within = none_in_sum (λ v. window low zero v.drawn) views (λ j v at. refl)
all_windows low (suc width) counter views once within =
    let p = all_windows low width counter views once (omega arith) in
    let q = sum_of_two (λ v. window low width v.drawn) (λ v. times (low + width) v.drawn) views in
    let r = once (low + width) in
    let s = ap bit (lt-ltb (low + width) counter (omega arith)) in omega arith

pub counter_bound : (deal : Deal) (counter : ℕ) (views : List SeatView) → AreDealt deal counter views → counter ≤ deal.jobs + deal.seats
counter_bound deal counter views dealt = dite (dec_le counter deal.jobs) (λ low. omega arith) (λ high.
    let width : ℕ = counter - deal.jobs in
    let all = all_windows deal.jobs width counter views dealt.once (omega arith) in
    let some_beyond = sum_le (λ v. window deal.jobs width v.drawn) (λ v. beyond deal.jobs v.drawn) views (λ j v at. window_le deal.jobs width v.drawn) in
    let some_shares = sum_le (λ v. beyond deal.jobs v.drawn) (λ v. v.shares) views (λ j v at. (dealt.each j v at).2) in
    let shares = dealt.shared in omega arith)

pub counter_by_rule : (deal : Deal) (s : Table) (counter : ℕ) → DrawRule deal s → s.words ≡ counter ∷ [] → counter ≤ deal.jobs + deal.seats
counter_by_rule deal s counter rule is =
    let same : rule.1.0 ≡ counter = ap (λ (ws : List ℕ). get_or ws 0 0) (sym rule.1.1 ∙ is) in
    let bound = counter_bound deal rule.1.0 s.views rule.1.2 in omega arith

-- Answers and the places of their jobs.
use Rattle.std.proofs.Common.{◌≡◌, ◌≢◌, ◌⊎◌, inl, inr, ⊎_elim, ℕ, zero, suc, ◌+◌, ◌<◌, ◌≤◌, List, [], ◌∷◌, ◌++◌, map, length, get_or, set, filter, cond, Bool, true, false, eqb, ltb, Option, Some, None, refl, sym, ap, ◌∙◌, subst, arith, ne_eqb, lt-ltb, le-ltb}
use Rattle.std.proofs.lemmas.List.{get_or-set_other, get_or-set_same, length-set, map-append}
use Rattle.std.proofs.lemmas.Bool.{true≢false}
use Rattle.std.proofs.lemmas.List.Sums.{sum_by-cons}
use Rattle.std.proofs.lemmas.List.Elements.{All-append, All-pop, All-map, All-push, filter-append}
use Rattle.std.proofs.lemmas.Simd.{map-map}
use Rattle.std.specs.List.{All}
use mathlib.Core.Logic.{dite}
use native.Mathlib.Decide.{ℕ_discrete}
use Rattle.lg_workers.specs.Draws.{times}
use Rattle.lg_workers.specs.Answers.{IsRight, AreAnswers}
use Rattle.lg_workers.proofs.Sums.{count_push}
use Rattle.lg_workers.proofs.Window.{bit}

abbrev pub numbers_of : {O : Type 0} → List (ℕ × O) → List ℕ
numbers_of answers = map (λ it. it.0) answers

module _ {J O : Type 0} (answer : J → O) (jobs : List J) where
  -- the place of a job has its answer
  abbrev pub IsFilled : List (Option O) → ℕ → Type 0
  IsFilled slots i = (d : J) → get_or slots i None ≡ Some (answer (get_or jobs i d))

  -- each job has its answer, in the slots or among the answers that are left
  abbrev pub AreThere : List (Option O) → List (ℕ × O) → Type 0
  AreThere slots answers = (i : ℕ) → i < length jobs → (0 < times i (map (λ it. it.0) answers)) ⊎ IsFilled slots i

  -- the last answer, and the others
  pub last_right : (answers rest : List (ℕ × O)) (it : ℕ × O) → answers ≡ rest ++ it ∷ [] → All (IsRight answer jobs) answers → All (IsRight answer jobs) rest × IsRight answer jobs it
  last_right answers rest it is all = All-pop (IsRight answer jobs) answers rest (Some it) is all

  -- an answer more stands at its place
  pub one_placed : (slots : List (Option O)) (answers rest : List (ℕ × O)) (n : ℕ) (a : O) → answers ≡ rest ++ (n, a) ∷ [] → length slots ≡ length jobs → IsRight answer jobs (n, a)
      → AreThere slots answers → AreThere (set slots n (Some a)) rest
  one_placed slots answers rest n a is long right there i within = dite (ℕ_discrete i n)
      (λ here. inr (λ d. ap (λ k. get_or (set slots n (Some a)) k None) here ∙ get_or-set_same slots n (Some a) None (subst (λ k. n < k) (sym long) right.0)
      ∙ ap Some (right.1 d) ∙ ap (λ k. Some (answer (get_or jobs k d))) (sym here)))
      (λ elsewhere. ⊎_elim
      (λ (left : 0 < times i (numbers_of answers)).
      let split : numbers_of answers ≡ numbers_of rest ++ n ∷ [] = ap numbers_of is ∙ map-append (λ (it : ℕ × O). it.0) rest ((n, a) ∷ []) in
      let p : times i (numbers_of rest ++ n ∷ []) ≡ times i (numbers_of rest) + bit (eqb n i) = count_push (λ m. eqb m i) (numbers_of rest) n in
      let q : bit (eqb n i) ≡ 0 = ap bit (ne_eqb n i (λ e. elsewhere (sym e))) in
      let r : times i (numbers_of answers) ≡ times i (numbers_of rest ++ n ∷ []) = ap (times i) split in
      inl (omega arith))
      (λ (filled : IsFilled slots i). inr (λ d. get_or-set_other slots n i (Some a) None elsewhere ∙ filled d))
      (there i within))

  -- what holds while answers are put at their places
  abbrev pub ArePlaced : List (Option O) → List (ℕ × O) → Type 0
  ArePlaced slots answers = (length slots ≡ length jobs) × All (IsRight answer jobs) answers × AreThere slots answers

  pub next_placed : (slots : List (Option O)) (answers rest : List (ℕ × O)) (n : ℕ) (a : O) → answers ≡ rest ++ (n, a) ∷ [] → ArePlaced slots answers → ArePlaced (set slots n (Some a)) rest
  next_placed slots answers rest n a is placed =
      let right = last_right answers rest (n, a) is placed.1 in
      (length-set slots n (Some a) ∙ placed.0, right.0, one_placed slots answers rest n a is placed.0 right.1 placed.2)

  pub place_within : (slots : List (Option O)) (answers rest : List (ℕ × O)) (n : ℕ) (a : O) → answers ≡ rest ++ (n, a) ∷ [] → ArePlaced slots answers → n < length slots
  place_within slots answers rest n a is placed = subst (λ k. n < k) (sym placed.0) ((last_right answers rest (n, a) is placed.1).1.0)

-- where each place has its job's answer, the slots are the answers in order
pub all_filled : {J O : Type 0} (answer : J → O) (jobs : List J) (slots : List (Option O)) → length slots ≡ length jobs → ((i : ℕ) → i < length jobs → IsFilled answer jobs slots i)
    → slots ≡ map (λ job. Some (answer job)) jobs
all_filled answer [] [] long filled = refl
all_filled answer [] (slot ∷ slots) long filled = absurd (omega arith)
all_filled answer (job ∷ jobs) [] long filled = absurd (omega arith)
all_filled answer (job ∷ jobs) (slot ∷ slots) long filled = λ k. filled 0 (omega arith) job k ∷ all_filled answer jobs slots (omega arith) (λ i h d. filled (suc i) (omega arith) d) k

pub all_placed : {J O : Type 0} (answer : J → O) (jobs : List J) (slots : List (Option O)) (answers : List (ℕ × O)) → answers ≡ [] → length slots ≡ length jobs → AreThere answer jobs slots answers
    → slots ≡ map (λ job. Some (answer job)) jobs
all_placed answer jobs slots answers none long there = all_filled answer jobs slots long
    (λ i h. ⊎_elim (λ (left : 0 < times i (numbers_of answers)). let p : times i (numbers_of answers) ≡ 0 = ap (λ l. times i (numbers_of l)) none in absurd (omega arith)) (λ f. f) (there i h))

some_inside : {O : Type 0} (x y : O) → Some x ≡ Some y → x ≡ y
some_inside x y e = ap (λ o. elim o [ Some z ↦ z | None ↦ x ]) e

pub same_under_some : {O : Type 0} (xs ys : List O) → map (λ x. Some x) xs ≡ map (λ x. Some x) ys → xs ≡ ys
same_under_some [] [] e = refl
same_under_some [] (y ∷ ys) e = let p = ap length e in absurd (omega arith)
same_under_some (x ∷ xs) [] e = let p = ap length e in absurd (omega arith)
same_under_some (x ∷ xs) (y ∷ ys) e =
    λ k. some_inside x y (ap (λ l. get_or l 0 (Some x)) e) k ∷ same_under_some xs ys (ap (λ l. elim l [ [] ↦ [] | _ ∷ rest ↦ rest ]) e) k

pub in_order_is : {J O : Type 0} (answer : J → O) (jobs : List J) (all : List O) (slots : List (Option O)) → slots ≡ map (λ job. Some (answer job)) jobs → map (λ x. Some x) all ≡ slots
    → all ≡ map answer jobs
in_order_is answer jobs all slots filled is = same_under_some all (map answer jobs) (is ∙ filled ∙ sym (map-map (λ x. Some x) answer jobs))

pub no_none : {J O : Type 0} (answer : J → O) (jobs : List J) (slots : List (Option O)) → slots ≡ map (λ job. Some (answer job)) jobs → All (λ slot. slot ≢ None) slots
no_none answer jobs slots filled = subst (All (λ slot. slot ≢ None)) (sym filled) (All-map (λ slot. slot ≢ None) (λ job. Some (answer job)) jobs (λ k d h e. cc))

-- an answer more, of a number that was drawn
pub one_more : {J O : Type 0} (answer : J → O) (jobs : List J) (drawn : List ℕ) (answers : List (ℕ × O)) (n : ℕ) (a : O) → AreAnswers answer jobs drawn answers → IsRight answer jobs (n, a)
    → AreAnswers answer jobs (drawn ++ n ∷ []) (answers ++ (n, a) ∷ [])
one_more answer jobs drawn answers n a are right =
    let below : ℕ → Bool = λ m. ltb m (length jobs) in
    let taken : filter below (n ∷ []) ≡ n ∷ [] = ap (λ b. cond b (n ∷ []) []) (lt-ltb n (length jobs) right.0) in
    record {
      right = All-push (IsRight answer jobs) answers (n, a) are.right right;
      numbers = map-append (λ it. it.0) answers ((n, a) ∷ []) ∙ ap (λ l. l ++ n ∷ []) are.numbers ∙ ap (λ l. filter below drawn ++ l) (sym taken) ∙ sym (filter-append below drawn (n ∷ []));
    }

-- a number past the jobs has no answer
pub none_more : {J O : Type 0} (answer : J → O) (jobs : List J) (drawn : List ℕ) (answers : List (ℕ × O)) (n : ℕ) → AreAnswers answer jobs drawn answers → length jobs ≤ n
    → AreAnswers answer jobs (drawn ++ n ∷ []) answers
none_more answer jobs drawn answers n are past =
    let below : ℕ → Bool = λ m. ltb m (length jobs) in
    let left : filter below (n ∷ []) ≡ [] = ap (λ b. cond b (n ∷ []) []) (le-ltb n (length jobs) past) in
    record {
      right = are.right;
      numbers = are.numbers ∙ sym (append_nil (filter below drawn)) ∙ ap (λ l. filter below drawn ++ l) (sym left) ∙ sym (filter-append below drawn (n ∷ []));
    }
  where
    append_nil : (l : List ℕ) → l ++ [] ≡ l
    append_nil [] = refl
    append_nil (x ∷ xs) = ap (λ r. x ∷ r) (append_nil xs)

-- the answers of two workers
pub both_answers : {J O : Type 0} (answer : J → O) (jobs : List J) (drawn more : List ℕ) (answers others : List (ℕ × O)) → AreAnswers answer jobs drawn answers → AreAnswers answer jobs more others
    → AreAnswers answer jobs (drawn ++ more) (answers ++ others)
both_answers answer jobs drawn more answers others a b =
    let below : ℕ → Bool = λ m. ltb m (length jobs) in
    record {
      right = All-append (IsRight answer jobs) answers others a.right b.right;
      numbers = map-append (λ it. it.0) answers others ∙ (λ k. a.numbers k ++ b.numbers k) ∙ sym (filter-append below drawn more);
    }

times_kept : (below : ℕ → Bool) (i : ℕ) (drawn : List ℕ) → below i ≡ true → times i (filter below drawn) ≡ times i drawn
times_kept below i [] yes_i = refl
times_kept below i (n ∷ drawn) yes_i =
    let p = times_kept below i drawn yes_i in
    let all = sum_by-cons (λ m. bit (eqb m i)) n drawn in
    go (below n) refl p all
  where
    go : (b : Bool) → below n ≡ b → times i (filter below drawn) ≡ times i drawn → times i (n ∷ drawn) ≡ bit (eqb n i) + times i drawn → times i (cond b (n ∷ filter below drawn) (filter below drawn)) ≡ times i (n ∷ drawn)
    go true e p all = let q = sum_by-cons (λ m. bit (eqb m i)) n (filter below drawn) in omega arith
    go false e p all =
        let other : n ≢ i = λ (same : n ≡ i). true≢false (sym yes_i ∙ ap below (sym same) ∙ e) in
        let z : bit (eqb n i) ≡ 0 = ap bit (ne_eqb n i other) in omega arith

-- each number that was drawn once below the jobs has an answer
pub each_answered : {J O : Type 0} (answer : J → O) (jobs : List J) (drawn : List ℕ) (answers : List (ℕ × O)) → AreAnswers answer jobs drawn answers → ((n : ℕ) → n < length jobs → times n drawn ≡ 1)
    → (i : ℕ) → i < length jobs → 0 < times i (map (λ it. it.0) answers)
each_answered answer jobs drawn answers are once i within =
    let below : ℕ → Bool = λ m. ltb m (length jobs) in
    let p : times i (filter below drawn) ≡ times i drawn = times_kept below i drawn (lt-ltb i (length jobs) within) in
    let q = once i within in
    let r : times i (numbers_of answers) ≡ times i (filter below drawn) = ap (times i) are.numbers in omega arith

any_default : {X : Type 0} (xs : List X) (i : ℕ) (d e : X) → i < length xs → get_or xs i d ≡ get_or xs i e
any_default [] i d e h = absurd (omega arith)
any_default (x ∷ xs) zero d e h = refl
any_default (x ∷ xs) (suc i) d e h = any_default xs i d e (omega arith)

-- the answer of the job that was read at a number is right
pub read_right : {J O : Type 0} (answer : J → O) (jobs : List J) (n : ℕ) (job : J) (a : O) → n < length jobs → job ≡ get_or jobs n job → a ≡ answer job → IsRight answer jobs (n, a)
read_right answer jobs n job a within read is = (within, λ d. is ∙ ap answer (read ∙ any_default jobs n job d within))

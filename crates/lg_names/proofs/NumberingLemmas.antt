-- Labels that are numbered one after the other.
use Rattle.std.proofs.Common.{◌≡◌, ℕ, ◌+◌, ◌<◌, ◌≤◌, List, [], ◌∷◌, ◌++◌, length, get_or, set, Option, Some, None, refl, sym, ap, subst, ◌∙◌, arith, inl, inr, ◌⊎◌, below_more}
use Rattle.std.specs.Prelude.{replicate}
use Rattle.std.proofs.lemmas.Bool.{cases_lt, cases_eq}
use Rattle.std.proofs.lemmas.List.{get_or-set_same, get_or-set_other, get_or_append_left, get_or_push, get_or-replicate, get_or_past, length-append, length-replicate, length-set}
use Rattle.std.proofs.lemmas.Option.{get_or_from_slice_get, slice_get_within, same_Some}
use Rattle.lg_names.specs.Numbering.{IsNumbering, NumbersNext}

-- the first labels have numbers below count, and known has the number of each label among them and of no other
pub record AreNumbered (bound : ℕ) (labels : List ℕ) (done : ℕ) (known : List (Option ℕ)) (numbers : List ℕ) (count : ℕ) : Type 0 where
  pub one_each : length numbers ≡ done
  pub as_many : length known ≡ bound
  pub few : count ≤ done
  pub of_label : (i : ℕ) → i < done → get_or known (get_or labels i 0) None ≡ Some (get_or numbers i 0)
  pub below : (label n : ℕ) → get_or known label None ≡ Some n → n < count
  pub one_label : (a b n : ℕ) → get_or known a None ≡ Some n → get_or known b None ≡ Some n → a ≡ b
  pub in_order : (i n : ℕ) → i < done → n < get_or numbers i 0 → (j : ℕ) × (j < i) × (get_or numbers j 0 ≡ n)
  pub all_appear : (n : ℕ) → n < count → (j : ℕ) × (j < done) × (get_or numbers j 0 ≡ n)

abbrev some : ℕ → Option ℕ
some n = Some n

none_is_not : (n : ℕ) → some n ≡ None → ⊥
none_is_not n e = cc

abbrev none : Option ℕ
none = None

nothing_known : (n label m : ℕ) → get_or (replicate {A = Option ℕ} n None) label None ≡ some m → ⊥
nothing_known n label m e = by_place (cases_lt label n)
  where
    by_place : (label < n) ⊎ (n ≤ label) → ⊥
    by_place (inl less) = none_is_not m (sym e ∙ get_or-replicate n label None None less)
    by_place (inr past) = none_is_not m (sym e ∙ get_or_past (replicate {A = Option ℕ} n None) label None (omega (arith, length-replicate {A = Option ℕ} n None)))

-- at the start nothing is known
pub AreNumbered-start : (bound : ℕ) (labels : List ℕ) (known : List (Option ℕ)) → known ≡ replicate bound None → AreNumbered bound labels 0 known [] 0
AreNumbered-start bound labels known e = record {
  one_each = refl;
  as_many = ap length e ∙ length-replicate bound None;
  few = omega arith;
  of_label = λ i less. absurd (omega arith);
  below = λ label n h. absurd (nothing_known bound label n (subst (λ (k : List (Option ℕ)). get_or k label None ≡ some n) e h));
  one_label = λ a b n h _. absurd (nothing_known bound a n (subst (λ (k : List (Option ℕ)). get_or k a None ≡ some n) e h));
  in_order = λ i n less _. absurd (omega arith);
  all_appear = λ n less. absurd (omega arith);
}

-- the numbers before the last one stay
kept : (numbers : List ℕ) (number i : ℕ) → i < length numbers → get_or (numbers ++ number ∷ []) i 0 ≡ get_or numbers i 0
kept numbers number i less = get_or_append_left numbers (number ∷ []) 0 i less

length_more : (numbers : List ℕ) (number : ℕ) → length (numbers ++ number ∷ []) ≡ length numbers + 1
length_more numbers number = length-append numbers (number ∷ [])

abbrev Appears : List ℕ → ℕ → ℕ → Type 0
Appears numbers i n = (j : ℕ) × (j < i) × (get_or numbers j 0 ≡ n)

-- what appeared before appears still
still : (numbers : List ℕ) (number i k n : ℕ) → i ≤ length numbers → i ≤ k → Appears numbers i n → Appears (numbers ++ number ∷ []) k n
still numbers number i k n few more w = (w.0, omega (arith, w.1), kept numbers number w.0 (omega (arith, w.1)) ∙ w.2)

abbrev InOrder : List ℕ → ℕ → Type 0
InOrder numbers i = (n : ℕ) → n < get_or numbers i 0 → Appears numbers i n

in_order_more : (numbers : List ℕ) (number done count : ℕ) → length numbers ≡ done → number ≤ count
    → ((i n : ℕ) → i < done → n < get_or numbers i 0 → Appears numbers i n) → ((n : ℕ) → n < count → Appears numbers done n)
    → (i : ℕ) → i < done + 1 → InOrder (numbers ++ number ∷ []) i
in_order_more numbers number done count len few before all =
    below_more (InOrder (numbers ++ number ∷ [])) done
    (λ i less n low. still numbers number i i n (omega arith) (omega arith) (before i n less (subst (λ (m : ℕ). n < m) (kept numbers number i (omega arith)) low)))
    (λ n low.
    let last : get_or (numbers ++ number ∷ []) done 0 ≡ number = get_or_push numbers number 0 done len in
    still numbers number done done n (omega arith) (omega arith) (all n (omega arith)))

-- a label that has a number already
pub AreNumbered-known : (bound : ℕ) (labels : List ℕ) (done : ℕ) (known : List (Option ℕ)) (numbers : List ℕ) (count number : ℕ) → AreNumbered bound labels done known numbers count
    → get_or known (get_or labels done 0) None ≡ some number → AreNumbered bound labels (done + 1) known (numbers ++ number ∷ []) count
AreNumbered-known bound labels done known numbers count number a found =
    let less_count : number < count = a.below (get_or labels done 0) number found in
    let len : length numbers ≡ done = a.one_each in
    let last : get_or (numbers ++ number ∷ []) done 0 ≡ number = get_or_push numbers number 0 done len in
    record {
      one_each = omega (arith, length_more numbers number);
      as_many = a.as_many;
      few = omega (arith, a.few);
      of_label = below_more (λ i. get_or known (get_or labels i 0) None ≡ some (get_or (numbers ++ number ∷ []) i 0)) done
          (λ i less. a.of_label i less ∙ ap some (sym (kept numbers number i (omega arith)))) (found ∙ ap some (sym last));
      below = a.below;
      one_label = a.one_label;
      in_order = λ i n less. in_order_more numbers number done count len (omega arith) a.in_order a.all_appear i less n;
      all_appear = λ n less. still numbers number done (done + 1) n (omega arith) (omega arith) (a.all_appear n less);
    }

-- what is known of one label does not change what is known of another
other_label : (known : List (Option ℕ)) (label count b : ℕ) → (b ≡ label → ⊥) → get_or (set known label (some count)) b None ≡ get_or known b None
other_label known label count b ne = get_or-set_other known label b (some count) None ne

-- what is below the next count, label by label
below_at : (known : List (Option ℕ)) (label count : ℕ) → ((b n : ℕ) → get_or known b None ≡ some n → n < count) → get_or (set known label (some count)) label None ≡ some count
    → (b n : ℕ) → get_or (set known label (some count)) b None ≡ some n → (b ≡ label) ⊎ (b ≡ label → ⊥) → n < count + 1
below_at known label count below here b n h (inl e) =
    let same : count ≡ n = same_Some count n (sym here ∙ (ap (λ l. get_or (set known label (some count)) l None) (sym e) ∙ h)) in
    omega arith
below_at known label count below here b n h (inr ne) =
    let old : n < count = below b n (sym (other_label known label count b ne) ∙ h) in
    omega arith

-- a number of one label alone, after one label got the next number
one_at : (known : List (Option ℕ)) (label count : ℕ) → ((b c n : ℕ) → get_or known b None ≡ some n → get_or known c None ≡ some n → b ≡ c)
    → ((b n : ℕ) → get_or known b None ≡ some n → n < count) → get_or (set known label (some count)) label None ≡ some count
    → (b c n : ℕ) → get_or (set known label (some count)) b None ≡ some n → get_or (set known label (some count)) c None ≡ some n
    → (b ≡ label) ⊎ (b ≡ label → ⊥) → (c ≡ label) ⊎ (c ≡ label → ⊥) → b ≡ c
one_at known label count one below here b c n h k (inl e) (inl d) = e ∙ sym d
one_at known label count one below here b c n h k (inl e) (inr nd) =
    let same : count ≡ n = same_Some count n (sym here ∙ (ap (λ l. get_or (set known label (some count)) l None) (sym e) ∙ h)) in
    let old : n < count = below c n (sym (other_label known label count c nd) ∙ k) in
    absurd (omega arith)
one_at known label count one below here b c n h k (inr ne) (inl d) =
    let same : count ≡ n = same_Some count n (sym here ∙ (ap (λ l. get_or (set known label (some count)) l None) (sym d) ∙ k)) in
    let old : n < count = below b n (sym (other_label known label count b ne) ∙ h) in
    absurd (omega arith)
one_at known label count one below here b c n h k (inr ne) (inr nd) =
    one b c n (sym (other_label known label count b ne) ∙ h) (sym (other_label known label count c nd) ∙ k)

-- a label that gets the next number
pub AreNumbered-next : (bound : ℕ) (labels : List ℕ) (done : ℕ) (known : List (Option ℕ)) (numbers : List ℕ) (count : ℕ) → AreNumbered bound labels done known numbers count
    → get_or labels done 0 < bound → get_or known (get_or labels done 0) None ≡ none
    → AreNumbered bound labels (done + 1) (set known (get_or labels done 0) (some count)) (numbers ++ count ∷ []) (count + 1)
AreNumbered-next bound labels done known numbers count a small unknown =
    let label = get_or labels done 0 in
    let len : length numbers ≡ done = a.one_each in
    let last : get_or (numbers ++ count ∷ []) done 0 ≡ count = get_or_push numbers count 0 done len in
    let here : get_or (set known label (some count)) label None ≡ some count = get_or-set_same known label (some count) None (omega (arith, a.as_many)) in
    record {
      one_each = omega (arith, length_more numbers count);
      as_many = length-set known label (some count) ∙ a.as_many;
      few = omega (arith, a.few);
      of_label = below_more (λ i. get_or (set known label (some count)) (get_or labels i 0) None ≡ some (get_or (numbers ++ count ∷ []) i 0)) done
          (λ i less.
          other_label known label count (get_or labels i 0) (λ e. none_is_not (get_or numbers i 0) (sym (a.of_label i less) ∙ (ap (λ b. get_or known b None) e ∙ unknown)))
          ∙ (a.of_label i less ∙ ap some (sym (kept numbers count i (omega arith)))))
          (here ∙ ap some (sym last));
      below = λ b n h. below_at known label count a.below here b n h (cases_eq b label);
      one_label = λ b c n h k. one_at known label count a.one_label a.below here b c n h k (cases_eq b label) (cases_eq c label);
      in_order = λ i n less. in_order_more numbers count done count len (omega arith) a.in_order a.all_appear i less n;
      all_appear = below_more (Appears (numbers ++ count ∷ []) (done + 1)) count
          (λ n less. still numbers count done (done + 1) n (omega arith) (omega arith) (a.all_appear n less)) (done, omega arith, last);
    }

-- the count goes up where the number is the next one
pub record Counts (count number after : ℕ) : Type 0 where
  pub up : number ≡ count → after ≡ count + 1
  pub same : (number ≡ count → ⊥) → after ≡ count

-- one label more
pub AreNumbered-more : (bound : ℕ) (labels : List ℕ) (done : ℕ) (known after : List (Option ℕ)) (numbers : List ℕ) (count number count' : ℕ) → AreNumbered bound labels done known numbers count
    → get_or labels done 0 < bound → NumbersNext known after (get_or labels done 0) count number → Counts count number count'
    → AreNumbered bound labels (done + 1) after (numbers ++ number ∷ []) count'
AreNumbered-more bound labels done known after numbers count number count' a small (inl found) counts =
    let less : number < count = a.below (get_or labels done 0) number found.0 in
    let stays : count' ≡ count = counts.same (λ e. omega arith) in
    rw (stays, found.1) (AreNumbered-known bound labels done known numbers count number a found.0)
AreNumbered-more bound labels done known after numbers count number count' a small (inr fresh) counts =
    let goes_up : count' ≡ count + 1 = counts.up fresh.1 in
    rw (goes_up, fresh.1, fresh.2) (AreNumbered-next bound labels done known numbers count a small fresh.0)

-- the finished numbering
pub IsNumbering-from_all : (bound : ℕ) (labels numbers : List ℕ) (known : List (Option ℕ)) (count : ℕ) → AreNumbered bound labels (length labels) known numbers count → IsNumbering ◌≡◌ labels numbers count
IsNumbering-from_all bound labels numbers known count a = record {
  one_each = a.one_each;
  classes = λ i j x y at_i at_j.
      let i_in = slice_get_within labels i x at_i in
      let j_in = slice_get_within labels j y at_j in
      let i_is : get_or known x None ≡ some (get_or numbers i 0) = ap (λ l. get_or known l None) (sym (get_or_from_slice_get labels i x 0 at_i)) ∙ a.of_label i i_in in
      let j_is : get_or known y None ≡ some (get_or numbers j 0) = ap (λ l. get_or known l None) (sym (get_or_from_slice_get labels j y 0 at_j)) ∙ a.of_label j j_in in
      (λ e. a.one_label x y (get_or numbers j 0) (i_is ∙ ap some e) j_is, λ e. same_Some (get_or numbers i 0) (get_or numbers j 0) (sym i_is ∙ (ap (λ l. get_or known l None) e ∙ j_is)));
  below = λ i less. a.below (get_or labels i 0) (get_or numbers i 0) (a.of_label i (omega (arith, a.one_each)));
  in_order = λ i n less low. a.in_order i n (omega (arith, a.one_each)) low;
  all_appear = λ n less. let w = a.all_appear n less in (w.0, omega (arith, w.1, a.one_each), w.2);
}

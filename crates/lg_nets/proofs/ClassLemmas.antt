-- A forest that the links so far made, and the classes that it gives.
use Rattle.std.proofs.Common.{◌≡◌, ℕ, ◌+◌, ◌<◌, ◌≤◌, ◌⊎◌, List, length, get_or, Some, refl, sym, ap, subst, ◌∙◌, arith, inl, inr, below_more}
use Rattle.std.specs.Prelude.{Contains, slice_get}
use Rattle.std.proofs.lemmas.Bool.{cases_lt}
use Rattle.std.proofs.lemmas.Option.{same_Some, slice_get-get_or}
use Rattle.lg_nets.specs.declared.components.Link.{Link}
use Rattle.lg_nets.specs.Links.{Chained, AreClasses}
use Rattle.lg_nets.specs.Forest.{Represents, merged}
use Rattle.lg_nets.proofs.ChainLemmas.{Chained-refl, Chained-same, Chained-link, Chained-trans, Chained-sym}
use Rattle.lg_nets.proofs.ForestLemmas.{MergedCases, merged_cases, merged_same}

-- a choice that the parents represent: the first links join one class each, and links chain each number to its choice
pub record IsForest (links : List Link) (done : ℕ) (parents : List ℕ) : Type 0 where
  pub rep : ℕ → ℕ
  pub represents : Represents rep parents
  pub linked : (k : ℕ) → k < done → (link : Link) → slice_get links k ≡ Some link → rep link.from ≡ rep link.to
  pub chained : (i : ℕ) → Chained links i (rep i)

-- at first each number is alone
pub IsForest-alone : (links : List Link) (parents : List ℕ) → ((k : ℕ) → k < length parents → get_or parents k 0 ≡ k) → IsForest links 0 parents
IsForest-alone links parents own = record {
  rep = λ i. i;
  represents = record { keeps = own; roots = λ i less e. refl; low = λ i. omega arith };
  linked = λ k less. absurd (omega arith);
  chained = Chained-refl links;
}

-- links chain each number to its merged choice too
merged_chained : (links : List Link) (rep : ℕ → ℕ) (link : Link) → Contains links link → ((i : ℕ) → Chained links i (rep i)) → (i : ℕ) → Chained links i (merged rep link.from link.to i)
merged_chained links rep link has chained i = by_case (merged_cases rep link.from link.to i) (cases_lt (rep link.from) (rep link.to))
  where
    -- the choices of the two numbers of the link
    two : Chained links (rep link.from) (rep link.to)
    two = Chained-trans links (rep link.from) link.from (rep link.to) (Chained-sym links link.from (rep link.from) (chained link.from))
        (Chained-trans links link.from link.to (rep link.to) (Chained-link links link has) (chained link.to))

    on : (n : ℕ) → Chained links (rep i) n → merged rep link.from link.to i ≡ n → Chained links i (merged rep link.from link.to i)
    on n c e = subst (Chained links i) (sym e) (Chained-trans links i (rep i) n (chained i) c)

    by_case : MergedCases rep link.from link.to i
        → (rep link.from < rep link.to) ⊎ (rep link.to ≤ rep link.from) → Chained links i (merged rep link.from link.to i)
    by_case (inr h) order = on (rep i) (Chained-refl links (rep i)) h.1
    by_case (inl h) (inl less) =
        let e = h.0 in let f = h.1 in
        let here : rep i ≡ rep link.to = omega arith in
        on (rep link.from) (Chained-trans links (rep i) (rep link.to) (rep link.from) (Chained-same links (rep i) (rep link.to) here) (Chained-sym links (rep link.from) (rep link.to) two)) (omega arith)
    by_case (inl h) (inr le) =
        let e = h.0 in let f = h.1 in
        let here : rep i ≡ rep link.from = omega arith in
        on (rep link.to) (Chained-trans links (rep i) (rep link.from) (rep link.to) (Chained-same links (rep i) (rep link.from) here) two) (omega arith)

-- the two numbers of the link have one merged choice
merged_link : (rep : ℕ → ℕ) (a b : ℕ) → merged rep a b a ≡ merged rep a b b
merged_link rep a b = by_case (merged_cases rep a b a) (merged_cases rep a b b)
  where
    by_case : MergedCases rep a b a
        → MergedCases rep a b b → merged rep a b a ≡ merged rep a b b
    by_case (inl g) (inl h) = g.1 ∙ sym h.1
    by_case (inl g) (inr h) = let e = g.0 in let f = g.1 in let i = h.0 in let j = h.1 in omega arith
    by_case (inr g) (inl h) = let e = g.0 in let f = g.1 in let i = h.0 in let j = h.1 in omega arith
    by_case (inr g) (inr h) = let e = g.0 in let i = h.0 in absurd (omega arith)

-- one link more
pub IsForest-more : (links : List Link) (done : ℕ) (link : Link) (parents next : List ℕ) → slice_get links done ≡ Some link → Contains links link
    → ((rep : ℕ → ℕ) → Represents rep parents → Represents (merged rep link.from link.to) next) → IsForest links done parents → IsForest links (done + 1) next
IsForest-more links done link parents next at has step f = record {
  rep = merged f.rep link.from link.to;
  represents = step f.rep f.represents;
  linked = below_more (λ k. (l : Link) → slice_get links k ≡ Some l → merged f.rep link.from link.to l.from ≡ merged f.rep link.from link.to l.to) done
      (λ k less l e. merged_same f.rep link.from link.to l.from l.to (f.linked k less l e))
      (λ l e. subst (λ (m : Link). merged f.rep link.from link.to m.from ≡ merged f.rep link.from link.to m.to) (same_Some link l (sym at ∙ e)) (merged_link f.rep link.from link.to));
  chained = merged_chained links f.rep link has f.chained;
}

-- labels that are the choices are those of the classes
pub AreClasses-from : (links : List Link) (count : ℕ) (parents labels : List ℕ) → length labels ≡ count → ((link : Link) → Contains links link → (link.from < count) × (link.to < count))
    → (f : IsForest links (length links) parents) → ((k : ℕ) → k < count → get_or labels k 0 ≡ f.rep k) → AreClasses links count labels
AreClasses-from links count parents labels len within f is = record {
  one_each = len;
  linked = λ link h.
      let w = within link h in
      let at : slice_get links h.0 ≡ Some link = slice_get-get_or links h.0 link h.1 ∙ ap (λ (l : Link). Some l) h.2 in
      is link.from w.0 ∙ (f.linked h.0 h.1 link at ∙ sym (is link.to w.1));
  chained = λ i less. subst (Chained links i) (sym (is i less)) (f.chained i);
  least = λ i less. rw (is i less) (f.represents.low i);
}

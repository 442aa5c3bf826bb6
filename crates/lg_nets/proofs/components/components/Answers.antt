-- Each link merges two classes, and at the end each number has the label that represents its class.
use Rattle.std.proofs.Common.{◌≡◌, ℕ, ◌<◌, List, ◌∷◌, [], ◌++◌, length, get_or, take, drop, sym, subst, ◌∙◌, arith, below_more}
use Rattle.std.proofs.lemmas.List.{take_at, get_or_push, get_or_append_left}
use Rattle.std.proofs.lemmas.List.Elements.{All-contains, Contains-get_or}
use Rattle.std.proofs.lemmas.Option.{slice_get-get_or}
use Rattle.lg_nets.specs.declared.components.Link.{Link}
use Rattle.lg_nets.specs.Forest.{Represents}
use Rattle.lg_nets.proofs.ClassLemmas.{IsForest, IsForest-alone, IsForest-more, AreClasses-from}
use Rattle.lg_nets.proofs.components.components.Goals as goal

pub loop-link-init : goal.loop-link-init
loop-link-init c =
    let len : length c.in_ok-parents.parents.items ≡ c.args.count = omega (arith, c.in_ok-parents.ensures.len, c.in_ok-parents.parents.ok.0) in
    record {
      len = c.in_ok-parents.ensures.len;
      down = record { down = λ i less. omega (arith, c.in_ok-parents.ensures.own i (omega arith)) };
      forest = IsForest-alone c.args.links.now c.in_ok-parents.parents.items (λ k less. c.in_ok-parents.ensures.own k (omega arith));
    }

pub loop-link-preserved : goal.loop-link-preserved
loop-link-preserved c =
    let links = c.args.links.now in
    let i = c.loop-link.link-index in
    let so_far = c.loop-link.invariant in
    let same : take c.loop-link.parents.len (c.join.new.parents ++ drop (length c.join.new.parents) c.loop-link.parents.items) ≡ c.join.new.parents =
    take_at c.join.new.parents (drop (length c.join.new.parents) c.loop-link.parents.items) c.loop-link.parents.len (omega arith) in
    rw same (record {
      len = so_far.len;
      down = c.join.ensures.down;
      forest = IsForest-more links i (get_or links i _) c.loop-link.parents.items c.join.new.parents (slice_get-get_or links i _ c.loop-link-test.true)
          (Contains-get_or links i _ c.loop-link-test.true)
          (λ rep r. c.join.ensures.merges rep (subst (Represents rep) (sym c.deref_mut.ensures.value) r)) so_far.forest;
    })

pub loop-number-preserved : goal.loop-number-preserved
loop-number-preserved c =
    let so_far = c.loop-number.invariant in
    let n = c.loop-number.number in
    let labels = c.loop-number.labels.items in
    let before : List ℕ → Type 0 = λ xs. (rep : ℕ → ℕ) → Represents rep c.loop-link.parents.items → Represents rep xs in
    let kept = subst before (sym c.deref_mut-in-loop-number.ensures.value) so_far.keeps in
    let same : take c.loop-number.parents.len (c.find.new.parents ++ drop (length c.find.new.parents) c.loop-number.parents.items) ≡ c.find.new.parents =
    take_at c.find.new.parents (drop (length c.find.new.parents) c.loop-number.parents.items) c.loop-number.parents.len (omega arith) in
    rw same (record {
      len = so_far.len;
      down = c.find.ensures.down;
      labelled = omega (arith, c.in_ok-push.ensures.len);
      keeps = λ rep r. c.find.ensures.keeps rep (kept rep r);
      value = λ rep r. rw c.in_ok-push.ensures.items (below_more (λ k. get_or (labels ++ c.find.result ∷ []) k 0 ≡ rep k) n
          (λ k less. get_or_append_left labels (c.find.result ∷ []) 0 k (omega arith) ∙ so_far.value rep r k less)
          (get_or_push labels c.find.result 0 n (omega arith) ∙ c.find.ensures.value rep (kept rep r)));
    })

pub returns : goal.returns
returns c =
    let links = c.args.links.now in
    let so_far = c.loop-number.invariant in
    let done : c.loop-link.link-index ≡ length links = omega arith in
    let numbered : c.loop-number.number ≡ c.args.count = omega arith in
    let forest : IsForest links (length links) c.loop-link.parents.items = subst (λ (k : ℕ). IsForest links k c.loop-link.parents.items) done c.loop-link.invariant.forest in
    AreClasses-from links c.args.count c.loop-link.parents.items c.loop-number.labels.items (omega arith)
    (λ link h. All-contains (λ (l : Link). (l.from < c.args.count) × (l.to < c.args.count)) links link c.requires.within h)
    forest (λ k less. so_far.value forest.rep forest.represents k (omega arith))

-- Each turn makes the link of one node more.
use Rattle.std.proofs.Common.{◌≡◌, ℕ, ◌+◌, ◌<◌, true, false, List, [], ◌∷◌, ◌++◌, length, get_or, drop, sym, ap, ◌∙◌, append_assoc}
use Rattle.std.proofs.lemmas.List.{at_drop_more}
use Rattle.std.proofs.lemmas.Bool.{cond-true, cond-false}
use Rattle.lg_nets.specs.declared.components.Link.{Link}
use Rattle.lg_nets.specs.declared.rows.Node.{Node}
use Rattle.lg_nets.specs.Rows.{goes_on, carried, link, links_from}
use Rattle.lg_nets.proofs.rows.links_of.Goals as goal
use Rattle.lg_nets.proofs.rows.links_of.Goals.{then-goes_on+in_ok-push, else-goes_on}

took : (made : List Link) (last : Node) (ns : List Node) (i : ℕ) (d : Node) → i < length ns → goes_on last (get_or ns i d) ≡ true
    → (made ++ link last (get_or ns i d) ∷ []) ++ links_from (carried last (get_or ns i d)) (drop (i + 1) ns) ≡ made ++ links_from last (drop i ns)
took made last ns i d less goes =
    let n = get_or ns i d in
    let rest = links_from (carried last n) (drop (i + 1) ns) in
    append_assoc made (link last n ∷ []) rest
    ∙ ap (λ (l : List Link). made ++ l) (sym (at_drop_more (links_from last) ns i d less ∙ cond-true (goes_on last n) (link last n ∷ rest) rest goes))

skipped : (made : List Link) (last : Node) (ns : List Node) (i : ℕ) (d : Node) → i < length ns → goes_on last (get_or ns i d) ≡ false
    → made ++ links_from (carried last (get_or ns i d)) (drop (i + 1) ns) ≡ made ++ links_from last (drop i ns)
skipped made last ns i d less goes =
    let n = get_or ns i d in
    let rest = links_from (carried last n) (drop (i + 1) ns) in
    ap (λ (l : List Link). made ++ l) (sym (at_drop_more (links_from last) ns i d less ∙ cond-false (goes_on last n) (link last n ∷ rest) rest goes))

pub loop-node-preserved : goal.loop-node-preserved
loop-node-preserved c =
    let made = c.loop-node.links.items in
    let last = c.loop-node.last in
    let rest = c.in-Some.rest.now in
    elim c.if-goes_on.branch [
      | then-goes_on+in_ok-push w ↦ rw (w.links-is, w.in_ok-push.ensures.items, c.carried-last.ensures)
          (took made last rest c.loop-node.node-index _ c.loop-node-test.true (sym c.goes_on.ensures ∙ w.if-goes_on.true) ∙ c.loop-node.invariant)
      | else-goes_on w ↦ rw (w.links-is, c.carried-last.ensures)
          (skipped made last rest c.loop-node.node-index _ c.loop-node-test.true (sym c.goes_on.ensures ∙ w.if-goes_on.false) ∙ c.loop-node.invariant)
    ]

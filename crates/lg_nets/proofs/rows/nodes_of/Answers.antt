-- Each turn makes the node of one ray more.
use Rattle.std.proofs.Common.{◌≡◌, ℕ, ◌+◌, ◌<◌, List, [], ◌∷◌, ◌++◌, length, get_or, drop, sym, ap, ◌∙◌, append_assoc}
use Rattle.std.proofs.lemmas.List.{drop_more}
use Rattle.lg_nets.specs.declared.rays.Segment.{Segment}
use Rattle.lg_nets.specs.declared.rows.Node.{Node}
use Rattle.lg_nets.specs.Rows.{node_of, nodes_from}
use Rattle.lg_nets.proofs.rows.nodes_of.Goals as goal

one_more : (made : List Node) (rays : List Segment) (place : ℕ) (d : Segment) → place < length rays
    → (made ++ node_of place (get_or rays place d) ∷ []) ++ nodes_from (place + 1) (drop (place + 1) rays) ≡ made ++ nodes_from place (drop place rays)
one_more made rays place d less =
    append_assoc made (node_of place (get_or rays place d) ∷ []) (nodes_from (place + 1) (drop (place + 1) rays))
    ∙ sym (ap (λ (ws : List Segment). made ++ nodes_from place ws) (drop_more rays place d less))

pub loop-place-preserved : goal.loop-place-preserved
loop-place-preserved c = rw (c.in_ok-push.ensures.items, c.node_of.ensures) (one_more c.loop-place.nodes.items c.args.rays.now c.loop-place.place _ c.loop-place-test.true ∙ c.loop-place.invariant)

-- One port more has its net bits.
use Rattle.std.proofs.Common.{◌≡◌, ◌+◌, Bool, [], ◌∷◌, ◌++◌, ℕ, List, false, get_or, take, drop, sym, ap, ◌∙◌, append_assoc}
use Rattle.std.proofs.lemmas.List.{at_drop_more}
use Rattle.lg_flatten.proofs.BitLemmas.{by_port_step}
use Rattle.lg_flatten.specs.Flat.{by_port}
use Rattle.lg_flatten.proofs.bits.by_port.Goals as goal

pub loop-flag-preserved : goal.loop-flag-preserved
loop-flag-preserved c =
    let flags = c.args.takes.now in
    let i = c.loop-flag.flag-index in
    let rest = c.loop-flag.rest.now in
    let flag = get_or flags i false in
    let k = c.own_count.result in
    let ports = c.loop-flag.ports in
    let more = by_port (drop (i + 1) flags) in
    let step = at_drop_more (λ (fs : List Bool). by_port fs rest) flags i false c.loop-flag-test.true ∙ by_port_step flag (drop (i + 1) flags) rest k c.own_count.ensures in
    let own : c.in_ok-from_slice.field-0 ≡ take k rest = c.in_ok-from_slice.ensures ∙ c.split_at.ensures.front in
    let pushed : c.push.new.self ≡ ports ++ take k rest ∷ [] = c.in_ok-push.ensures.ok ∙ ap (λ (bits : List ℕ). ports ++ bits ∷ []) own in
    ap (λ (made : List (List ℕ)). made ++ more c.split_at.result.1.now) pushed
    ∙ (ap (λ (left : List ℕ). (ports ++ take k rest ∷ []) ++ more left) c.split_at.ensures.back
    ∙ (append_assoc ports (take k rest ∷ []) (more (drop k rest)) ∙ (ap (λ (others : List (List ℕ)). ports ++ others) (sym step) ∙ c.loop-flag.invariant)))

use Rattle.std.proofs.Common.{◌≡◌, ◌∙◌, ap, subst, sym, take, drop, ℕ, List}
use Rattle.std.specs.Str.{IsCharBoundary}
use Rattle.std.specs.List.{prefix_len}
use Rattle.lg_circ.specs.Reading.{passes}
use Rattle.lg_circ.proofs.Spans.{take-front, drop-front, front_cut}
use Rattle.lg_circ.proofs.class.split_after.Goals as goal

pub split_at-requires : goal.split_at-requires
split_at-requires c =
    let end : c.front_len.result ≡ prefix_len (passes c.args.class) c.args.text.now = c.front_len.ensures ∙ ap (λ (t : List ℕ). prefix_len (passes c.args.class) t) c.as_bytes.ensures.value in
    subst (λ (n : ℕ). IsCharBoundary c.args.text.now n) (sym end) (front_cut c.args.class c.args.text.now c.utf8.text)

pub returns-clause-front : goal.returns-clause-front
returns-clause-front c =
    let end : c.front_len.result ≡ prefix_len (passes c.args.class) c.args.text.now = c.front_len.ensures ∙ ap (λ (t : List ℕ). prefix_len (passes c.args.class) t) c.as_bytes.ensures.value in
    c.split_at.ensures.front ∙ ap (λ (n : ℕ). take n c.args.text.now) end ∙ take-front (passes c.args.class) c.args.text.now

pub returns-clause-rest : goal.returns-clause-rest
returns-clause-rest c =
    let end : c.front_len.result ≡ prefix_len (passes c.args.class) c.args.text.now = c.front_len.ensures ∙ ap (λ (t : List ℕ). prefix_len (passes c.args.class) t) c.as_bytes.ensures.value in
    c.split_at.ensures.back ∙ ap (λ (n : ℕ). drop n c.args.text.now) end ∙ drop-front (passes c.args.class) c.args.text.now

use Rattle.std.proofs.Common.{◌≡◌, sym, ◌∙◌, List, ℕ, [], Option, Some, Bor, lit<}
use Rattle.std.proofs.lemmas.Bool.{eqb-true}
use Rattle.std.proofs.lemmas.List.{nil_from_length}
use Rattle.std.proofs.lemmas.Str.Pattern.{split_parts, split_once_first}
use Rattle.lg_circ.proofs.Numbers.{ends_there}
use Rattle.lg_circ.proofs.point.inside.Goals as goal

pub returns-then-is_empty : goal.returns-then-is_empty
returns-then-is_empty c =
    let found : Option (Bor (List ℕ) × Bor (List ℕ)) = Some (c.in_ok-front.front, c.in_ok-front.end) in
    let parts = split_parts 41 c.args.text.now found c.in_ok-front.ensures.cases (lit< tt) in
    let first = split_once_first 41 c.args.text.now found c.in_ok-front.ensures.cases (lit< tt) in
    let last : c.in_ok-front.end.now ≡ [] = nil_from_length c.in_ok-front.end.now (eqb-true _ _ (sym c.is_empty.ensures ∙ c.if-is_empty.true)) in
    sym (ends_there c.args.text.now c.in_ok-front.front.now c.in_ok-front.end.now first.1 parts.0 last)

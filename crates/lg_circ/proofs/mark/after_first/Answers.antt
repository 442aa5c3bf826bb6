use Rattle.std.proofs.Common.{◌≡◌, ◌∙◌, sym, ap, ℕ, List, Option, Bor}
use Rattle.std.specs.Prelude.{option_map}
use Rattle.lg_circ.specs.Reading.{now_of, after_first}
use Rattle.lg_circ.proofs.First.{splits}
use Rattle.lg_circ.proofs.mark.after_first.Goals as goal

abbrev behind : Option (Bor (List ℕ) × Bor (List ℕ)) → Option (List ℕ)
behind r = option_map (λ (x : Bor (List ℕ) × Bor (List ℕ)). x.1.now) r

pub returns-in_err-rest : goal.returns-in_err-rest
returns-in_err-rest c =
    let whole : after_first c.args.mark.now c.args.text.now ≡ behind c.split_once.result = splits c.args.mark.now c.args.text.now c.split_once.result c.split_once.ensures.cases in
    ap now_of c.from_residual.ensures ∙ sym (whole ∙ ap behind c.in_err-rest.was)

pub returns : goal.returns
returns c =
    let whole : after_first c.args.mark.now c.args.text.now ≡ behind c.split_once.result = splits c.args.mark.now c.args.text.now c.split_once.result c.split_once.ensures.cases in
    sym (whole ∙ ap behind c.in_ok-rest.was)

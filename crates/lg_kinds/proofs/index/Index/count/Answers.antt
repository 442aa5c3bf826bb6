-- As many names as different ones among those that are found.
use Rattle.std.proofs.Common.{◌≡◌, ◌∙◌, sym, ap, Some, None, is_some}
use Rattle.std.specs.BTreeMap.{get_by_text}
use Rattle.std.specs.Option.{option_and_then, option_copied}
use Rattle.lg_kinds.proofs.IndexLemmas.{texts_counted, none_counted}
use Rattle.lg_kinds.proofs.index.Index.count.Goals as goal

pub returns-in-Some : goal.returns-in-Some
returns-in-Some c names has =
    let there : get_by_text c.args.self.now.places c.args.first.now ≡ Some c.in-Some.inside.now = sym c.get.ensures.value ∙ ap option_copied c.in-Some.is in
    c.len.ensures.len ∙ texts_counted c.in-Some.inside.now names c.len.ensures.ordered (λ q. has q ∙ ap (λ o. is_some (option_and_then (λ m. get_by_text m q) o)) there)

pub returns-in-None : goal.returns-in-None
returns-in-None c names has =
    let there : get_by_text c.args.self.now.places c.args.first.now ≡ None = sym c.get.ensures.value ∙ ap option_copied c.in-None.is in
    none_counted names (λ q. has q ∙ ap (λ o. is_some (option_and_then (λ m. get_by_text m q) o)) there)

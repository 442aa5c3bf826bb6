use Rattle.std.proofs.Common.{◌≡◌, ℕ, List, true, false, Some, sym, ap, subst, ◌∙◌}
use Rattle.std.specs.Str.{IsAscii}
use Rattle.lg_vtree.specs.Token.{is_name}
use Rattle.lg_vread.specs.Lexing.{behind}
use Rattle.lg_vread.proofs.Taking.{name_comes, no_name, name_small}
use Rattle.lg_vread.proofs.reader.Reader.name.Goals as goal

pub returns-then-not-is_name : goal.returns-then-not-is_name
returns-then-not-is_name c =
    let not_name : is_name c.args.self.now.token.now ≡ false = cc in
    no_name c.args.self.now not_name

pub from_ascii-requires : goal.from_ascii-requires
from_ascii-requires c =
    let name : is_name c.args.self.now.token.now ≡ true = cc in
    let items = c.in_ok-to_vec.ensures.items_if_clones_equal (λ x y e. e) in
    subst IsAscii (sym items) (name_small c.args.self.now.token.now name)

pub returns : goal.returns
returns c =
    let name : is_name c.args.self.now.token.now ≡ true = cc in
    let items = c.in_ok-to_vec.ensures.items_if_clones_equal (λ x y e. e) in
    let made = c.new-name.ensures ∙ c.from_ascii.ensures ∙ items in
    name_comes c.args.self.now name ∙ ap (λ (n : List ℕ). Some (n, behind c.args.self.now)) (sym made) ∙ ap (λ r. Some (c.new-name.result, r)) (sym c.advance.ensures)

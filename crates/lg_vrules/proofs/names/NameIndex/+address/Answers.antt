use Rattle.std.proofs.Common.{◌≡◌, Bool, ◌&&◌, List, map, sym, ap, ◌∙◌}
use Rattle.std.specs.List.{list_all}
use Rattle.lg_vtree.specs.declared.expr.Expr.{Expr}
use Rattle.lg_vrules.specs.Known.{sort_under, width_under}
use Rattle.lg_vrules.specs.Rules.{addresses, all_address}
use Rattle.lg_vrules.proofs.AddressWidthLemmas.{address-Item, address-Join}
use Rattle.lg_vrules.proofs.names.NameIndex.+address.Goals as goal

both : {a b x y : Bool} → a ≡ x → b ≡ y → (a && b) ≡ (x && y)
both e f = λ i. e i && f i

pub all_address-returns-in-Item : goal.all_address-returns-in-Item
all_address-returns-in-Item t c =
    let sort = sort_under c.args.self.now in
    let width = width_under c.args.self.now in
    let m = c.in-Item in
    both (c.addresses.ensures ∙ ap (addresses sort width m.name) c.get.ensures) (c.all_address.ensures ∙ ap (all_address sort width) c.get-in-Item.ensures)
    ∙ (sym (address-Item sort width m.name m.address) ∙ ap (all_address sort width) (sym m.is))

pub all_address-returns-in-Join : goal.all_address-returns-in-Join
all_address-returns-in-Join t c =
    let sort = sort_under c.args.self.now in
    let width = width_under c.args.self.now in
    let fits : Expr → Bool = all_address sort width in
    let j = c.in-Join in
    both (c.each_address.ensures ∙ ap (λ (es : List Expr). list_all (λ fit. fit) (map fits es)) c.as_slice.ensures)
    (both (c.all_address-in-Join.ensures ∙ ap fits c.get-in-Join.ensures) (c.all_address-in-Join-2.ensures ∙ ap fits c.get-in-Join-2.ensures))
    ∙ (sym (address-Join sort width j.first j.second j.more) ∙ ap fits (sym j.is))

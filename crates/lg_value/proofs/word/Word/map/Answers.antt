use Rattle.std.proofs.Common.{◌≡◌, get_or, sym, subst}
use Rattle.std.proofs.lemmas.List.{get_or-map}
use Rattle.lg_value.specs.declared.bit.Bit.{Bit}
use Rattle.lg_value.specs.declared.bit.Bit.TheVariants.{Unknown}
use Rattle.lg_value.specs.Storage.{picked}
use Rattle.lg_value.proofs.StorageLemmas.{at_picked}
use Rattle.lg_value.proofs.word.Word.map.Goals as goal

pub returns-clause-bits : goal.returns-clause-bits
returns-clause-bits g c = λ k inside.
    let word = c.args.self.now in
    let pick = picked c.change.result c.change-2.result c.change-3.result c.change-4.result in
    let bit : get_or c.replaced.result k Unknown ≡ pick (get_or word k Unknown) =
    rw c.replaced.ensures.bits (get_or-map pick word k Unknown Unknown inside) in
    subst (λ (b : Bit). g.F.Fn.post c.args.change (get_or word k Unknown, tt) b) (sym bit)
    (at_picked (λ b r. g.F.Fn.post c.args.change (b, tt) r) c.change.result c.change-2.result c.change-3.result c.change-4.result c.change.ensures c.change-2.ensures c.change-3.ensures c.change-4.ensures (get_or word k Unknown))

use Rattle.std.proofs.Common.{ℕ, List, [], ◌∷◌, ◌++◌, get_or, Option, sym, ap, ◌∙◌, Bor}
use Rattle.std.proofs.lemmas.List.{map_more}
use Rattle.lg_vmachine.specs.declared.machine.Write.{Write}
use Rattle.lg_vmeaning.specs.Compiled.{write_by}
use Rattle.lg_vmeaning.specs.ByName.{term_by, stmt_under}
use Rattle.lg_vmeaning.proofs.stores.Stores.writes.Goals as goal

pub loop-name-preserved : goal.loop-name-preserved
loop-name-preserved c =
    let names = c.args.memories.now in
    let i = c.loop-name.name-index in
    let none : Bor (List ℕ) = record { ref_ptr = (0, 0); now = [] } in
    let write = λ (name : Bor (List ℕ)). write_by (term_by c.args.self.now.resolver) (stmt_under c.args.self.now name.now) in
    c.in_ok-push.ensures.ok
    ∙ (ap (λ (t : Option Write). c.loop-name.writes ++ t ∷ []) c.in_ok-write.ensures
    ∙ (ap (λ (some : List (Option Write)). some ++ write (get_or names i none) ∷ []) c.loop-name.invariant ∙ sym (map_more write names i none c.loop-name-test.true)))

use Rattle.std.proofs.Common.{ℕ, List, [], ◌∷◌, ◌++◌, get_or, Option, sym, ap, ◌∙◌, Bor}
use Rattle.std.proofs.lemmas.List.{map_more}
use Rattle.lg_vmachine.specs.declared.term.Term.{Term}
use Rattle.lg_vmeaning.specs.Compiled.{next_by}
use Rattle.lg_vmeaning.specs.ByName.{term_by, stmt_under}
use Rattle.lg_vmeaning.proofs.stores.Stores.nexts.Goals as goal

pub loop-name-preserved : goal.loop-name-preserved
loop-name-preserved c =
    let names = c.args.registers.now in
    let i = c.loop-name.name-index in
    let none : Bor (List ℕ) = record { ref_ptr = (0, 0); now = [] } in
    let next = λ (name : Bor (List ℕ)). next_by (term_by c.args.self.now.resolver) (stmt_under c.args.self.now name.now) in
    c.in_ok-push.ensures.ok
    ∙ (ap (λ (t : Option Term). c.loop-name.terms ++ t ∷ []) c.in_ok-next.ensures
    ∙ (ap (λ (some : List (Option Term)). some ++ next (get_or names i none) ∷ []) c.loop-name.invariant ∙ sym (map_more next names i none c.loop-name-test.true)))

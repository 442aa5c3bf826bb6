use Rattle.std.proofs.Common.{◌≡◌, ℕ, List, [], ◌∷◌, ◌++◌, Vec, Global, Option, None, refl, sym, ap, ◌∙◌}
use Rattle.lg_vtree.specs.declared.expr.Constant.{Constant}
use Rattle.lg_vtree.specs.declared.module.Decl.{Decl}
use Rattle.lg_vtree.specs.declared.module.Decl.TheVariants as decl
use Rattle.lg_vmeaning.specs.Rows.{start_number}
use Rattle.lg_vmeaning.proofs.WordLemmas.{drawn_more, drawn_same}
use Rattle.lg_vmeaning.proofs.starting.start_numbers.Goals as goal
use Rattle.lg_vmeaning.proofs.starting.start_numbers.Goals.{in-Reg+in_ok-push, in_default}

-- what is no register starts with no number
no_number : (d : Decl) → ((range : Option ℕ) (name : List ℕ) (start : Constant) → d ≡ decl.Reg range name start → ⊥) → start_number d ≡ None
no_number (decl.Wire range name) other = refl
no_number (decl.Reg range name start) other = absurd (other range name start refl)
no_number (decl.Memory range name last) other = refl

pub loop-decl-preserved : goal.loop-decl-preserved
loop-decl-preserved c =
    let decls = c.args.decls.now in
    let i = c.loop-decl.decl-index in
    let d = c.decl-item.result in
    elim c.match-decl.branch [
      | in-Reg+in_ok-push w ↦
          let number = w.in-Reg.start.value in
          let more = drawn_more start_number decls i d number c.loop-decl-test.true c.decl-item.is (ap start_number w.in-Reg.is) in
          ap (λ (numbers : Vec ℕ Global). numbers.items) w.numbers-is
          ∙ (w.in_ok-push.ensures.items ∙ (ap (λ (numbers : List ℕ). numbers ++ number ∷ []) c.loop-decl.invariant ∙ sym more))
      | in_default w ↦
          let same = drawn_same start_number decls i d c.loop-decl-test.true c.decl-item.is (no_number d w.in_default.not-Reg) in
          ap (λ (numbers : Vec ℕ Global). numbers.items) w.numbers-is ∙ (c.loop-decl.invariant ∙ sym same)
    ]

use Rattle.std.proofs.Common.{◌≡◌, ◌<◌, ◌+◌, ◌++◌, ℕ, suc, List, [], ◌∷◌, length, get_or, drop, drop-cons, add-one, sym, ap, ◌∙◌, rules}
use Rattle.lg_vmachine.specs.declared.term.Term.{Term}
use Rattle.lg_vmachine.specs.Machine.{run}
use Rattle.lg_vmachine.specs.Terms.{term_number}
use Rattle.lg_vmachine.proofs.machine.Machine.solve.Goals as goal

-- the first equation that is left is run first
next_equation : (memories : List (List ℕ)) (numbers : List ℕ) (terms : List Term) (i : ℕ) (d : Term) → i < length terms
    → run memories numbers (drop i terms) ≡ run memories (numbers ++ term_number numbers memories (get_or terms i d) ∷ []) (drop (i + 1) terms)
next_equation memories numbers terms i d within =
    ap (run memories numbers) (drop-cons terms i d within)
    ∙ ap (λ (n : ℕ). run memories (numbers ++ term_number numbers memories (get_or terms i d) ∷ []) (drop n terms)) (sym (add-one i))

pub loop-term-preserved : goal.loop-term-preserved
loop-term-preserved c =
    let memories = c.args.regs.now.memories in
    let known = c.loop-term.numbers.items in
    let terms = c.as_slice-term-items.result.now in
    let index = c.loop-term.term-index in
    let first : c.as_slice.result.now ≡ known = first_of (cc, search rules) in
    let second : c.as_slice-in-loop-term.result.now ≡ memories = first_of (cc, search rules) in
    let number : c.number-number.result ≡ term_number known memories (get_or terms index c.term-item.result) =
    c.number-number.ensures ∙ (λ i. term_number (first i) (second i) (c.term-item.is i)) in
    let pushed : c.push-in-loop-term.new.self.items ≡ known ++ c.number-number.result ∷ [] = first_of (cc, search rules) in
    ap (λ (numbers : List ℕ). run memories numbers (drop (index + 1) terms)) (pushed ∙ ap (λ (n : ℕ). known ++ n ∷ []) number)
    ∙ (sym (next_equation memories known terms index c.term-item.result c.loop-term-test.true) ∙ c.loop-term.invariant)

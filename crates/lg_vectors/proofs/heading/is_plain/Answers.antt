use Rattle.std.proofs.Common.{◌≡◌, false, ℕ, List, take, sym, subst, ◌∙◌, refl}
use Rattle.std.specs.List.{All}
use Rattle.std.proofs.lemmas.List.{take_all}
use Rattle.std.proofs.lemmas.List.Elements.{All-more}
use Rattle.lg_vectors.specs.VectorText.{is_mark}
use Rattle.lg_vectors.proofs.heading.is_plain.Goals as goal

pub loop-byte-preserved : goal.loop-byte-preserved
loop-byte-preserved c = All-more (λ x. is_mark x ≡ false) c.args.name.now c.loop-byte.byte-index 0 c.loop-byte-test.true c.loop-byte.invariant (sym c.is_mark.ensures ∙ c.if-is_mark.false)

pub returns : goal.returns
returns c =
    let whole : take c.loop-byte.byte-index c.args.name.now ≡ c.args.name.now = take_all c.loop-byte.byte-index c.args.name.now c.loop-byte-test.false in
    let all : All (λ x. is_mark x ≡ false) c.args.name.now = subst (λ (t : List ℕ). All (λ x. is_mark x ≡ false) t) whole c.loop-byte.invariant in
    (λ _. all, λ _. refl)

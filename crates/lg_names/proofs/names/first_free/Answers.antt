-- Among more numbered names than are taken one is free.
use Rattle.std.proofs.Common.{◌≡◌, ℕ, List, true, false, is_some, sym, ◌∙◌, arith}
use Rattle.std.specs.BTreeMap.{get_by_text}
use Rattle.lg_names.proofs.NameLemmas.{one_is_free}
use Rattle.lg_names.proofs.NextLemmas.{IsFirstFreeNumber-here, before_more}
use Rattle.lg_names.proofs.names.first_free.Goals as goal

pub returns-then-not-contains_key : goal.returns-then-not-contains_key
returns-then-not-contains_key c =
    let found = c.as_str.result.now in
    let free : is_some (get_by_text c.args.next.now found) ≡ false = sym c.contains_key.ensures ∙ c.if-not-contains_key.true in
    IsFirstFreeNumber-here c.args.taken.now (λ (q : List ℕ). get_by_text c.args.next.now q) c.args.name.now found c.args.tried c.loop-number.number c.requires.known c.requires.tried (omega arith) (omega arith) c.loop-number.invariant (c.as_str.ensures ∙ c.in_ok-found.ensures) free

pub loop-number-preserved : goal.loop-number-preserved
loop-number-preserved c =
    let found = c.as_str.result.now in
    let here : is_some (get_by_text c.args.next.now found) ≡ true = sym c.contains_key.ensures ∙ c.if-not-contains_key.false in
    before_more c.args.taken.now (λ (q : List ℕ). get_by_text c.args.next.now q) c.args.name.now found c.loop-number.number c.requires.known c.loop-number.invariant (c.as_str.ensures ∙ c.in_ok-found.ensures) here

pub unreachable-requires : goal.unreachable-requires
unreachable-requires c = one_is_free c.args.taken.now c.args.name.now (omega arith) (λ n low high. c.loop-number.invariant n low (omega arith))

use Rattle.std.proofs.Common.{◌≡◌, ◌≤◌, ℕ, List, [], length, slice_index_or, sym, ap, ◌∙◌, arith}
use Rattle.std.proofs.lemmas.Bool.{ltb-true}
use Rattle.std.proofs.lemmas.List.{get_or_past, get_or_default}
use Rattle.lg_vmachine.proofs.term.word_at.Goals as goal

past_end : (words list : List ℕ) (address : ℕ) → words ≡ list → length words ≤ address → 0 ≡ slice_index_or list address 0
past_end words list address same past = sym (ap (λ (ws : List ℕ). slice_index_or ws address 0) (sym same) ∙ get_or_past words address 0 past)

pub returns-in-Err : goal.returns-in-Err
returns-in-Err c =
    let long : length c.in-Some.words.now ≤ c.args.address = (let e = ap length c.as_slice-words.ensures in omega arith) in
    let found = c.in-Some.ensures.lookup in
    let within = ltb-true c.args.memory (length c.args.memories.now) (sym found.0) in
    past_end c.in-Some.words.now (slice_index_or c.args.memories.now c.args.memory []) c.args.address
    (found.1 ∙ get_or_default c.args.memories.now c.args.memory c.in-Some.words.now [] within) long

use Rattle.std.proofs.Common.{ℕ, length, arith, subst, ap, ◌∙◌, ◌/◌}
use Rattle.std.proofs.lemmas.List.{with_items_is}
use Rattle.lg_queue.specs.Row.{HasTaken, HasNoneIn, HasSomeIn}
use Rattle.lg_queue.proofs.LevelLemmas.{there, summary_taken, summary_kept}
use Rattle.lg_queue.proofs.levels.remove.Goals as goal

pub take-requires : goal.take-requires
take-requires c = omega (arith, (there c.args.levels.now c.requires.levels c.args.number c.requires.there).in_numbers, c.deref_mut.ensures.len)

pub is_none_in-requires : goal.is_none_in-requires
is_none_in-requires c = omega (arith, (there c.args.levels.now c.requires.levels c.args.number c.requires.there).in_numbers, ap (length {A = ℕ}) c.deref_mut.ensures.value, c.take.ensures.length, c.deref.ensures.len)

pub take-requires-2 : goal.take-requires-2
take-requires-2 c = omega (arith, (there c.args.levels.now c.requires.levels c.args.number c.requires.there).in_words, ap (length {A = ℕ}) c.deref_mut-2.ensures.value)

pub is_none_in-requires-2 : goal.is_none_in-requires-2
is_none_in-requires-2 c = omega (arith, (there c.args.levels.now c.requires.levels c.args.number c.requires.there).in_words, ap (length {A = ℕ}) c.deref_mut-2.ensures.value, c.deref_mut-2.ensures.len, c.deref-2.ensures.len)

pub take-requires-3 : goal.take-requires-3
take-requires-3 c = omega (arith, (there c.args.levels.now c.requires.levels c.args.number c.requires.there).in_blocks, ap (length {A = ℕ}) c.deref_mut-3.ensures.value)

pub is_none_in-requires-3 : goal.is_none_in-requires-3
is_none_in-requires-3 c = omega (arith, (there c.args.levels.now c.requires.levels c.args.number c.requires.there).in_blocks, ap (length {A = ℕ}) c.deref_mut-3.ensures.value, c.deref_mut-3.ensures.len, c.deref-3.ensures.len)

pub take-requires-4 : goal.take-requires-4
take-requires-4 c = (there c.args.levels.now c.requires.levels c.args.number c.requires.there).in_top

pub returns-then-not-is_none_in-2-clause-levels : goal.returns-then-not-is_none_in-2-clause-levels
returns-then-not-is_none_in-2-clause-levels c =
    let s = c.args.levels.now in
    let at = there s c.requires.levels c.args.number c.requires.there in
    let back_1 = with_items_is s.numbers c.take.new.words (c.take.ensures.length ∙ c.deref_mut.ensures.len) in
    let taken_1 : HasTaken c.args.number s.numbers.items c.take.new.words = subst (λ xs. HasTaken c.args.number xs c.take.new.words) c.deref_mut.ensures.value c.take.ensures in
    let back_2 = with_items_is s.words c.take-2.new.words (c.take-2.ensures.length ∙ c.deref_mut-2.ensures.len) in
    let taken_2 : HasTaken (c.args.number / 64) s.words.items c.take-2.new.words = subst (λ xs. HasTaken (c.args.number / 64) xs c.take-2.new.words) c.deref_mut-2.ensures.value c.take-2.ensures in
    let none_1 : HasNoneIn c.take.new.words (c.args.number / 64) = subst (λ xs. HasNoneIn xs (c.args.number / 64)) (c.deref.ensures.value ∙ back_1) c.if-not-is_none_in.ensures in
    let some_2 : HasSomeIn c.take-2.new.words (c.args.number / 64 / 64) = subst (λ xs. HasSomeIn xs (c.args.number / 64 / 64)) (c.deref-2.ensures.value ∙ back_2) c.if-not-is_none_in-2.ensures in
    record {
      words = rw (back_1, back_2) (summary_taken s.numbers.items s.words.items c.take.new.words c.take-2.new.words c.args.number c.requires.levels.words taken_1 none_1 taken_2);
      blocks = rw back_2 (summary_kept s.words.items s.blocks.items c.take-2.new.words (c.args.number / 64) c.requires.levels.blocks at.word taken_2 some_2);
      top = c.requires.levels.top;
    }

pub returns-then-not-is_none_in-3-clause-levels : goal.returns-then-not-is_none_in-3-clause-levels
returns-then-not-is_none_in-3-clause-levels c =
    let s = c.args.levels.now in
    let at = there s c.requires.levels c.args.number c.requires.there in
    let back_1 = with_items_is s.numbers c.take.new.words (c.take.ensures.length ∙ c.deref_mut.ensures.len) in
    let taken_1 : HasTaken c.args.number s.numbers.items c.take.new.words = subst (λ xs. HasTaken c.args.number xs c.take.new.words) c.deref_mut.ensures.value c.take.ensures in
    let back_2 = with_items_is s.words c.take-2.new.words (c.take-2.ensures.length ∙ c.deref_mut-2.ensures.len) in
    let taken_2 : HasTaken (c.args.number / 64) s.words.items c.take-2.new.words = subst (λ xs. HasTaken (c.args.number / 64) xs c.take-2.new.words) c.deref_mut-2.ensures.value c.take-2.ensures in
    let back_3 = with_items_is s.blocks c.take-3.new.words (c.take-3.ensures.length ∙ c.deref_mut-3.ensures.len) in
    let taken_3 : HasTaken (c.args.number / 64 / 64) s.blocks.items c.take-3.new.words = subst (λ xs. HasTaken (c.args.number / 64 / 64) xs c.take-3.new.words) c.deref_mut-3.ensures.value c.take-3.ensures in
    let none_1 : HasNoneIn c.take.new.words (c.args.number / 64) = subst (λ xs. HasNoneIn xs (c.args.number / 64)) (c.deref.ensures.value ∙ back_1) c.if-not-is_none_in.ensures in
    let none_2 : HasNoneIn c.take-2.new.words (c.args.number / 64 / 64) = subst (λ xs. HasNoneIn xs (c.args.number / 64 / 64)) (c.deref-2.ensures.value ∙ back_2) c.if-not-is_none_in-2.ensures in
    let some_3 : HasSomeIn c.take-3.new.words (c.args.number / 64 / 64 / 64) = subst (λ xs. HasSomeIn xs (c.args.number / 64 / 64 / 64)) (c.deref-3.ensures.value ∙ back_3) c.if-not-is_none_in-3.ensures in
    record {
      words = rw (back_1, back_2) (summary_taken s.numbers.items s.words.items c.take.new.words c.take-2.new.words c.args.number c.requires.levels.words taken_1 none_1 taken_2);
      blocks = rw (back_2, back_3) (summary_taken s.words.items s.blocks.items c.take-2.new.words c.take-3.new.words (c.args.number / 64) c.requires.levels.blocks taken_2 none_2 taken_3);
      top = rw back_3 (summary_kept s.blocks.items s.top c.take-3.new.words (c.args.number / 64 / 64) c.requires.levels.top at.block taken_3 some_3);
    }

pub returns-clause-levels : goal.returns-clause-levels
returns-clause-levels c =
    let s = c.args.levels.now in
    let at = there s c.requires.levels c.args.number c.requires.there in
    let back_1 = with_items_is s.numbers c.take.new.words (c.take.ensures.length ∙ c.deref_mut.ensures.len) in
    let taken_1 : HasTaken c.args.number s.numbers.items c.take.new.words = subst (λ xs. HasTaken c.args.number xs c.take.new.words) c.deref_mut.ensures.value c.take.ensures in
    let back_2 = with_items_is s.words c.take-2.new.words (c.take-2.ensures.length ∙ c.deref_mut-2.ensures.len) in
    let taken_2 : HasTaken (c.args.number / 64) s.words.items c.take-2.new.words = subst (λ xs. HasTaken (c.args.number / 64) xs c.take-2.new.words) c.deref_mut-2.ensures.value c.take-2.ensures in
    let back_3 = with_items_is s.blocks c.take-3.new.words (c.take-3.ensures.length ∙ c.deref_mut-3.ensures.len) in
    let taken_3 : HasTaken (c.args.number / 64 / 64) s.blocks.items c.take-3.new.words = subst (λ xs. HasTaken (c.args.number / 64 / 64) xs c.take-3.new.words) c.deref_mut-3.ensures.value c.take-3.ensures in
    let none_1 : HasNoneIn c.take.new.words (c.args.number / 64) = subst (λ xs. HasNoneIn xs (c.args.number / 64)) (c.deref.ensures.value ∙ back_1) c.if-not-is_none_in.ensures in
    let none_2 : HasNoneIn c.take-2.new.words (c.args.number / 64 / 64) = subst (λ xs. HasNoneIn xs (c.args.number / 64 / 64)) (c.deref-2.ensures.value ∙ back_2) c.if-not-is_none_in-2.ensures in
    let none_3 : HasNoneIn c.take-3.new.words (c.args.number / 64 / 64 / 64) = subst (λ xs. HasNoneIn xs (c.args.number / 64 / 64 / 64)) (c.deref-3.ensures.value ∙ back_3) c.if-not-is_none_in-3.ensures in
    record {
      words = rw (back_1, back_2) (summary_taken s.numbers.items s.words.items c.take.new.words c.take-2.new.words c.args.number c.requires.levels.words taken_1 none_1 taken_2);
      blocks = rw (back_2, back_3) (summary_taken s.words.items s.blocks.items c.take-2.new.words c.take-3.new.words (c.args.number / 64) c.requires.levels.blocks taken_2 none_2 taken_3);
      top = rw back_3 (summary_taken s.blocks.items s.top c.take-3.new.words c.take-4.new.words (c.args.number / 64 / 64) c.requires.levels.top taken_3 none_3 c.take-4.ensures);
    }

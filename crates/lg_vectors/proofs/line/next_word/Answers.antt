use Rattle.std.proofs.Common.{◌≡◌, ◌-◌, ◌≤◌, [], length, take, drop, rules}
use Rattle.lg_vectors.proofs.LineLemmas.{no_words, first_word}
use Rattle.lg_vectors.proofs.line.next_word.Goals as goal

pub returns-then-is_empty-clause-words : goal.returns-then-is_empty-clause-words
returns-then-is_empty-clause-words c =
    let text = c.args.text.now in
    let g = c.gap_len.result in
    let none : take (length text - g) (drop g text) ≡ [] = search rules in
    no_words text g c.gap_len.ensures.gap none

pub returns-clause-words : goal.returns-clause-words
returns-clause-words c =
    let text = c.args.text.now in
    let g = c.gap_len.result in
    let some : 1 ≤ length (take (length text - g) (drop g text)) = search rules in
    first_word text c.split_at.result.0.now c.split_at.result.1.now g c.word_len.result c.gap_len.ensures.gap some c.word_len.ensures.word c.split_at.ensures.front c.split_at.ensures.back

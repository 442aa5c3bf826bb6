use Rattle.std.proofs.Common.{◌≡◌, take, fold}
use Rattle.lg_vmeaning.specs.Starting.{with_word_by}
use Rattle.lg_vmeaning.proofs.starting.put_words.Given as goal

-- the memories after the words so far
abbrev pub invariant-loop-word : goal.invariant-loop-word
invariant-loop-word l = l.memories.items ≡ fold (with_word_by l.indexes) l.fn.memories.items (take l.word-index l.words)

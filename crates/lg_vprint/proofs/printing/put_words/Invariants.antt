use Rattle.std.proofs.Common.{◌≡◌, ◌++◌, drop}
use Rattle.std.specs.Prelude.{IsTrue}
use Rattle.std.specs.List.{flat_map, list_all}
use Rattle.lg_vtree.specs.Printed.{word_text}
use Rattle.lg_vtree.specs.Grammar.{is_token, word_tokens}
use Rattle.lg_vprint.proofs.printing.put_words.Given as goal

-- what is printed and what is left are all, and all are of the subset where what is left is
abbrev pub invariant-loop-word : goal.invariant-loop-word
invariant-loop-word l =
    (l.out.items ++ flat_map word_text (drop l.word-index l.words) ≡ l.fn.out.items ++ flat_map word_text l.words)
    × (IsTrue (list_all is_token (flat_map word_tokens (drop l.word-index l.words))) → IsTrue (list_all is_token (flat_map word_tokens l.words)))

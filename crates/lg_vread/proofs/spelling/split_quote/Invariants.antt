use Rattle.std.proofs.Common.{◌≡◌, ◌++◌, drop, take}
use Rattle.lg_vread.specs.Lexing.{before_quote, after_quote}
use Rattle.lg_vread.proofs.spelling.split_quote.Given as goal

-- there is no quote before the index
abbrev pub invariant-loop-at : goal.invariant-loop-at
invariant-loop-at l = record {
  before : before_quote l.word ≡ take l.at l.word ++ before_quote (drop l.at l.word);
  after : after_quote l.word ≡ after_quote (drop l.at l.word);
}

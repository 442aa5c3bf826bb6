use Rattle.std.proofs.Common.{◌≡◌, ◌+◌, ◌≤◌, drop}
use Rattle.std.specs.Prelude.{sum_by}
use Rattle.lg_vrules.specs.Rules.{decl_words}
use Rattle.lg_vrules.proofs.addressing.words_fit.Given as goal

-- the words so far and those that are left are all
abbrev pub invariant-loop-decl : goal.invariant-loop-decl
invariant-loop-decl l = record {
  all : l.words + sum_by decl_words (drop l.decl-index l.decls) ≡ sum_by decl_words l.decls;
  few : l.words ≤ 1048576;
}

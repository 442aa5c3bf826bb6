use Rattle.std.proofs.Common.{◌≡◌, drop}
use Rattle.lg_vmachine.specs.Machine.{put_words}
use Rattle.lg_vmachine.proofs.machine.put_words.Given as goal

-- the words that are left give the same from here
abbrev pub invariant-loop-at : goal.invariant-loop-at
invariant-loop-at l = put_words l.at (drop l.at l.words) l.memories.items ≡ put_words 0 l.fn.words l.fn.memories.items

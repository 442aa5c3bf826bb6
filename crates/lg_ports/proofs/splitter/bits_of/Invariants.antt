use Rattle.std.proofs.Common.{◌≡◌, ◌≤◌, take}
use Rattle.std.specs.Prelude.{count_by}
use Rattle.lg_ports.specs.SplitterEnds.{is_end}
use Rattle.lg_ports.proofs.splitter.bits_of.Given as goal

-- the bits of the end so far
abbrev pub invariant-loop-end : goal.invariant-loop-end
invariant-loop-end l = (l.bits ≡ count_by (λ end. is_end end l.i) (take l.end-index l.ends)) × (l.bits ≤ l.end-index)

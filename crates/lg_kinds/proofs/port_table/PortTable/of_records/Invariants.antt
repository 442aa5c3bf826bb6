use Rattle.std.proofs.Common.{take}
use Rattle.lg_kinds.specs.Latest.{KnowsLatest}
use Rattle.lg_kinds.proofs.port_table.PortTable.of_records.Given as goal

-- where the last of the records so far stand is known
abbrev pub invariant-loop-place : goal.invariant-loop-place
invariant-loop-place l = KnowsLatest (take l.place l.record-items) l.latest

use Rattle.lg_kinds.proofs.TableLemmas.{IsReading}
use Rattle.lg_kinds.proofs.table_file.read_port_table.Given as goal

abbrev pub invariant-loop-row : goal.invariant-loop-row
invariant-loop-row l = IsReading l.bytes l.number l.records l.row-iterator.rdr l.row-iterator.left

-- The ports of a component.
use Rattle.std.specs.Prelude.{ℕ, ℤ, List, ◌++◌, map, unwrap_or}
use Rattle.std.specs.List.{flat_map, range_with_len}
use Rattle.lg_kinds.specs.declared.port.Port.{Port}
use Rattle.lg_ports.specs.Given.{Given, count_of, facing_of}
use Rattle.lg_ports.specs.Places.{size_of, place_at, turned}
use Rattle.lg_kinds.specs.PortTable.{place_of}
use Rattle.lg_kinds.specs.Rows.{PortForm, name_at}
use Rattle.lg_ports.specs.SplitterEnds.{end_ports}
use Rattle.lg_kinds.specs.Table.{entry}

-- where port number k of a row stands, with the part facing east: where the last record for it says, else where the
-- table of kinds says
abbrev pub offset_at : Given → PortForm → ℕ → ℤ × ℤ
offset_at given row k =
    unwrap_or (place_of given.records given.kind (name_at row.name row.count k)) (place_at given row.place k)

-- port number k of a row
abbrev pub port_at : Given → PortForm → ℕ → Port
port_at given row k =
    let place = turned (facing_of given) (offset_at given row k) in
    record { dx = place.0; dy = place.1; width = size_of given row.size; side = row.side; loose = row.loose }

-- the ports of a row
abbrev pub row_ports : Given → PortForm → List Port
row_ports given row = map (port_at given row) (range_with_len 0 (count_of given row.count))

-- the ports of a component: those of its kind's rows, and the ends of a splitter; other kinds have no `fanout` and so
-- no ends
abbrev pub ports_of : Given → List Port
ports_of given = flat_map (row_ports given) (entry given.kind).ports ++ end_ports given

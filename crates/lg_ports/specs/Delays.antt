-- How many instants a part takes. The numbers are this project's.
use Rattle.std.specs.Prelude.{ℕ, ◌+◌, ◌*◌, min, Option, Some, None, option_map, codes}
use Rattle.std.specs.Int.NonZero.{non_zero_u8_get}
use Rattle.std.specs.Option.{option_map_or}
use Rattle.lg_kinds.specs.declared.rows.Delay.{Delay}
use Rattle.lg_kinds.specs.declared.rows.Delay.TheVariants as delay
use Rattle.lg_kinds.specs.PortTable.{delay_in_table}
use Rattle.lg_kinds.specs.Table.{entry}
use Rattle.lg_ports.specs.Given.{Given, number}

-- the delay of what goes over the bits of one operand once for each bit of the other
abbrev pub product : ℕ → ℕ
product width = min (width * (width + 2)) 255

-- how many instants a form of delay gives a part
abbrev pub instants : Given → Delay → Option ℕ
instants given delay.None = None
instants given (delay.Instants n) = Some n
instants given delay.Sum = Some (number given (codes "width") + 2)
instants given delay.Product = Some (product (number given (codes "width")))

-- the delay that the table of kinds gives a part
abbrev pub usual_delay : Given → Option ℕ
usual_delay given = instants given (entry given.kind).delay

-- how many instants a part takes: what the last record for its kind says, else what the table of kinds says; what is no
-- part takes none
abbrev pub delay_of : Given → Option ℕ
delay_of given =
    option_map (λ usual. option_map_or non_zero_u8_get (delay_in_table given.records given.kind) usual) (usual_delay given)

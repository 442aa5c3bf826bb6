-- Several drivers of one wire, after the Logisim-evolution user guide, "Wire colors": the wire floats
-- where nothing drives it, and is in error where two components send different values onto it.
use Rattle.std.specs.Prelude.{Bool, ◌&&◌, ◌||◌, if◌then◌else◌, List}
use Rattle.std.specs.List.{fold, list_all, list_any}
use Rattle.lg_value.specs.declared.bit.Bit.{Bit}
use Rattle.lg_value.specs.declared.bit.Bit.TheVariants.{Zero, One, Unknown, Error}
use Rattle.lg_value.specs.Bit.{same_bit, join_bits}

-- whether every driver is unknown, or there is none
abbrev pub all_unknown : List Bit → Bool
all_unknown drivers = list_all (same_bit Unknown) drivers

-- whether this value is the only one among the drivers other than unknown
abbrev pub is_only_value : Bit → List Bit → Bool
is_only_value value drivers =
    list_any (same_bit value) drivers && list_all (λ driver. same_bit Unknown driver || same_bit value driver) drivers

-- the join of the drivers of a wire. An unknown driver has no say: where the rest all say one value the
-- wire has that one, with none left it is unknown, and where they do not agree it is in error.
unfoldable pub join_of_drivers : List Bit → Bit
join_of_drivers drivers =
    if all_unknown drivers then Unknown
    else (if is_only_value Zero drivers then Zero
    else (if is_only_value One drivers then One
    else Error))

-- the drivers joined two at a time, from a wire that floats
abbrev pub joined_in_turn : List Bit → Bit
joined_in_turn drivers = fold join_bits Unknown drivers

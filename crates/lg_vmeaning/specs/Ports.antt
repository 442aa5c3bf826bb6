-- The ports of a module as its users see them, and what it keeps.
use Rattle.std.specs.Prelude.{ℕ, Bool, List, map}
use Rattle.lg_vtree.specs.declared.module.Direction.{Direction}
use Rattle.lg_vtree.specs.declared.module.Direction.TheVariants.{Input as input, Output as output}
use Rattle.lg_vtree.specs.declared.module.Module.{Module}
use Rattle.lg_vrules.specs.declared.names.Sort.{Sort}
use Rattle.lg_vrules.specs.Things.{lines_of, is_input, is_output, is_reg, is_memory}
use Rattle.lg_vmeaning.specs.declared.ports.PortLine.{PortLine}
use Rattle.lg_vmeaning.specs.declared.kept_names.Storage.{Storage}
use Rattle.lg_vmeaning.specs.declared.kept_names.Storage.TheVariants as storage

-- the sort of the ports that go this way; the clock is none of them
abbrev pub is_going : Direction → Sort → Bool
is_going input = is_input
is_going output = is_output

abbrev pub port_line : List ℕ × ℕ → PortLine
port_line l = record { name = l.0; width = l.1 }

-- ports of one sort with their widths, in order
abbrev pub port_lines : (Sort → Bool) → Module → List PortLine
port_lines is m = map port_line (lines_of is m)

-- what is kept from row to row: registers or memories
abbrev pub is_kept_as : Storage → Sort → Bool
is_kept_as storage.Register = is_reg
is_kept_as storage.Memory = is_memory

-- What a module declares: its ports, wires, registers and memories, each with its name, its sort and its width.
-- Source: IEEE 1364-2005, 12.3 (ports), 4.2 (nets and variables), 4.9 (arrays).
use Rattle.std.specs.Prelude.{ℕ, ◌+◌, Bool, true, false, List, ◌++◌, map, filter, Option, Some, None, option_map, unwrap_or, codes, if◌then◌else◌}
use Rattle.std.specs.Map.{lookup}
use Rattle.std.specs.Str.{bytes_eq}
use Rattle.lg_vtree.specs.declared.module.Direction.{Direction}
use Rattle.lg_vtree.specs.declared.module.Direction.TheVariants.{Input as input, Output as output}
use Rattle.lg_vtree.specs.declared.module.Port.{Port}
use Rattle.lg_vtree.specs.declared.module.Decl.{Decl}
use Rattle.lg_vtree.specs.declared.module.Decl.TheVariants as decl
use Rattle.lg_vtree.specs.declared.module.Module.{Module}
use Rattle.lg_vrules.specs.declared.names.Sort.{Sort}
use Rattle.lg_vrules.specs.declared.names.Sort.TheVariants as sort
use Rattle.lg_vrules.specs.declared.names.Thing.{Thing}

-- how many bits a range has: those from its high index down to 0, and one where there is none
abbrev pub range_width : Option ℕ → ℕ
range_width None = 1
range_width (Some high) = high + 1

-- an input `clk` is the clock
abbrev pub port_sort : Direction → List ℕ → Sort
port_sort input name = if bytes_eq name (codes "clk") then sort.Clock else sort.Input
port_sort output name = sort.Output

-- a name with what it is declared as
abbrev pub port_thing : Port → List ℕ × Thing
port_thing p = (p.name, record { sort = port_sort p.direction p.name; high = p.range })

abbrev pub decl_thing : Decl → List ℕ × Thing
decl_thing (decl.Wire range name) = (name, record { sort = sort.Wire; high = range })
decl_thing (decl.Reg range name start) = (name, record { sort = sort.Reg; high = range })
decl_thing (decl.Memory range name last) = (name, record { sort = sort.Memory last; high = range })

-- all that a module declares, the ports first
abbrev pub things : Module → List (List ℕ × Thing)
things m = map port_thing m.ports ++ map decl_thing m.decls

abbrev pub names : Module → List (List ℕ)
names m = map (λ (t : List ℕ × Thing). t.0) (things m)

-- what a name is declared as; of a name twice the first counts
abbrev pub thing_of : Module → List ℕ → Option Thing
thing_of m name = lookup (λ other. bytes_eq other name) (things m)

abbrev pub sort_of : Module → List ℕ → Option Sort
sort_of m name = option_map (λ (t : Thing). t.sort) (thing_of m name)

-- the width of a name, and 0 of one that is not declared
abbrev pub width_of : Module → List ℕ → ℕ
width_of m name = unwrap_or (option_map (λ (t : Thing). range_width t.high) (thing_of m name)) 0

abbrev pub is_input : Sort → Bool
is_input sort.Input = true
is_input _ = false

abbrev pub is_output : Sort → Bool
is_output sort.Output = true
is_output _ = false

abbrev pub is_reg : Sort → Bool
is_reg sort.Reg = true
is_reg _ = false

abbrev pub is_memory : Sort → Bool
is_memory (sort.Memory last) = true
is_memory _ = false

-- what an `assign` gives its numbers: a wire or an output
abbrev pub is_assignable : Sort → Bool
is_assignable sort.Wire = true
is_assignable sort.Output = true
is_assignable _ = false

-- what has one number that an expression may read: neither the clock nor a memory
abbrev pub is_readable : Sort → Bool
is_readable sort.Clock = false
is_readable (sort.Memory last) = false
is_readable _ = true

-- the names of one sort, in order, each with its width
abbrev pub lines_of : (Sort → Bool) → Module → List (List ℕ × ℕ)
lines_of is m = map (λ (t : List ℕ × Thing). (t.0, range_width t.1.high)) (filter (λ (t : List ℕ × Thing). is t.1.sort) (things m))

abbrev pub names_of : (Sort → Bool) → Module → List (List ℕ)
names_of is m = map (λ (l : List ℕ × ℕ). l.0) (lines_of is m)

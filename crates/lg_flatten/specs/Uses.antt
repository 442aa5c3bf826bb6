-- What the components of a sheet are, so far: pins of one bit, and NOT, AND and OR gates of one bit.
-- Source: the library reference of Logisim-evolution, Wiring (Pin) and Gates, with the places of this project.
use Rattle.std.specs.Prelude.{◌≡◌, ℕ, ◌==◌, ◌≤◌, Bool, true, false, ◌&&◌, List, [], ◌∷◌, ◌++◌, Option, Some, None, option_map, if◌then◌else◌, codes, ℤ, pos, ◌+ℤ◌, ◌-ℤ◌}
use Rattle.std.specs.Str.{bytes_eq}
use Rattle.lg_circ.specs.declared.project.Point.{Point}
use Rattle.lg_circ.specs.declared.project.Comp.{Comp}
use Rattle.lg_attrs.specs.Pairs.{value_under, has_only}
use Rattle.lg_circ.specs.Meaning.{◌>>=◌, each}
use Rattle.lg_flatten.specs.declared.role.Role.{Role}
use Rattle.lg_flatten.specs.declared.role.Role.TheVariants.{Pin, Gate}
use Rattle.lg_netlist.specs.declared.netlist.Cell.TheVariants as cell

-- a component with what it is
abbrev pub Use : Type 0
Use = Comp × Role

-- the description of a component's library
abbrev pub description : List (List ℕ × List ℕ) → Comp → Option (List ℕ)
description libs c = c.lib >>= λ lib. value_under lib libs

abbrev pub is_from : List ℕ → List (List ℕ × List ℕ) → Comp → Bool
is_from wanted libs c = is_text wanted (description libs c)
  where
    is_text : List ℕ → Option (List ℕ) → Bool
    is_text wanted None = false
    is_text wanted (Some text) = bytes_eq text wanted

-- an output pin has `output` true, an input pin false or nothing
abbrev pub pin_role : Option (List ℕ) → Option Role
pin_role None = Some (Pin true)
pin_role (Some flag) = if bytes_eq flag (codes "true") then Some (Pin false) else (if bytes_eq flag (codes "false") then Some (Pin true) else None)

-- the size that a text says, where it is one of these spellings
abbrev pub size_in : List (List ℕ × ℕ) → List ℕ → Option ℕ
size_in sizes text = value_of sizes
  where
    value_of : List (List ℕ × ℕ) → Option ℕ
    value_of [] = None
    value_of (s ∷ more) = if bytes_eq text s.0 then Some s.1 else value_of more

-- the size of a gate: the default where none is set
abbrev pub gate_size : ℕ → List (List ℕ × ℕ) → Option (List ℕ) → Option ℕ
gate_size default sizes None = Some default
gate_size default sizes (Some text) = size_in sizes text

abbrev pub not_sizes : List (List ℕ × ℕ)
not_sizes = (codes "20", 20) ∷ (codes "30", 30) ∷ []

abbrev pub wide_sizes : List (List ℕ × ℕ)
wide_sizes = (codes "30", 30) ∷ (codes "50", 50) ∷ (codes "70", 70) ∷ []

-- a gate by its name and its size
abbrev pub gate_role : List ℕ → Option (List ℕ) → Option Role
gate_role name size =
    if bytes_eq name (codes "NOT Gate") then option_map (Gate cell.Not) (gate_size 30 not_sizes size)
    else (if bytes_eq name (codes "AND Gate") then option_map (Gate cell.And) (gate_size 50 wide_sizes size)
    else (if bytes_eq name (codes "OR Gate") then option_map (Gate cell.Or) (gate_size 50 wide_sizes size)
    else None))

-- what a component is, where it is one of these
abbrev pub role_of : List (List ℕ × List ℕ) → Comp → Option Role
role_of libs c =
    let settings = c.attrs.list in
    if is_from (codes "#Wiring") libs c && bytes_eq c.name (codes "Pin") && has_only (codes "label" ∷ codes "output" ∷ []) settings
    then pin_role (value_under (codes "output") settings)
    else (if is_from (codes "#Gates") libs c && has_only (codes "size" ∷ []) settings
    then gate_role c.name (value_under (codes "size") settings)
    else None)

-- what the components of a sheet are, in file order, where each is one of these
abbrev pub roles_of : List (List ℕ × List ℕ) → List Comp → Option (List Role)
roles_of libs comps = each (role_of libs) comps

-- what these components are, with some libraries
abbrev pub AreRoles : List Comp → List Role → Type 0
AreRoles comps roles = (libs : List (List ℕ × List ℕ)) × (roles_of libs comps ≡ Some roles)

-- a gate's size is at most 70
abbrev pub IsSmall : Role → Type 0
IsSmall (Pin input) = Unit {0}
IsSmall (Gate cell size) = size ≤ 70

-- one role for each component, each gate small
abbrev pub AreFit : List Comp → List Role → Type 0
AreFit [] [] = Unit {0}
AreFit (c ∷ comps) (r ∷ roles) = IsSmall r × AreFit comps roles
AreFit [] (r ∷ roles) = ⊥
AreFit (c ∷ comps) [] = ⊥

-- a point moved by an offset
abbrev pub moved : Point → ℤ → ℤ → Point
moved p dx dy = record { x = p.x +ℤ dx; y = p.y +ℤ dy }

-- how far the two inputs of a gate lie from its middle
abbrev pub spread : ℕ → ℕ
spread size = if size == 30 then 10 else 20

-- the two inputs of a gate of this size at a point
abbrev pub two_inputs : Point → ℕ → List Point
two_inputs p size =
    moved p (pos 0 -ℤ pos size) (pos 0 -ℤ pos (spread size)) ∷ moved p (pos 0 -ℤ pos size) (pos (spread size)) ∷ []

-- the points of the inputs at a point
abbrev pub role_inputs : Point → Role → List Point
role_inputs p (Pin input) = []
role_inputs p (Gate cell.Not size) = moved p (pos 0 -ℤ pos size) (pos 0) ∷ []
role_inputs p (Gate cell.And size) = two_inputs p size
role_inputs p (Gate cell.Or size) = two_inputs p size

-- the points of a use's inputs
abbrev pub input_points : Use → List Point
input_points u = role_inputs u.0.loc u.1

-- the points of all ports of a use: inputs before outputs; a pin has one
abbrev pub port_points : Use → List Point
port_points u = input_points u ++ u.0.loc ∷ []

-- The circuits that are built: one sheet of pins and gates.
use Rattle.std.specs.Prelude.{◌≡◌, ℕ, Bool, true, not, ◌&&◌, IsTrue, List, [], ◌∷◌, Some, unwrap_or, option_map}
use Rattle.std.specs.List.{list_all, zip}
use Rattle.std.specs.Str.{bytes_eq}
use Rattle.lg_circ.specs.Straight.{is_straight}
use Rattle.lg_circ.specs.declared.project.Sheet.{Sheet}
use Rattle.lg_circ.specs.declared.project.Project.{Project}
use Rattle.lg_netlist.specs.declared.netlist.Netlist.{Netlist}
use Rattle.lg_flatten.specs.declared.role.Role.{Role}
use Rattle.lg_flatten.specs.Uses.{roles_of}
use Rattle.lg_flatten.specs.Flat.{IsNetlistOf}

-- the project names no other sheet to open with, and does not ask for the error of unattached inputs
abbrev pub opens_with : Project → Sheet → Bool
opens_with project sheet = not project.strict && unwrap_or (option_map (λ (main : List ℕ). bytes_eq main sheet.name) project.main) true

-- the project's one sheet holds pins and gates alone, and this is its netlist
pub record IsBuilt (project : Project) (n : Netlist) : Type 0 where
  pub sheet : Sheet
  pub roles : List Role
  pub only_sheet : project.sheets ≡ sheet ∷ []
  -- the project opens with it, and a gate with an unattached input gives no error
  pub opens : IsTrue (opens_with project sheet)
  -- each component is a pin or a gate, with attributes of its kind alone, each at most once and in its range
  pub roles_are : roles_of project.libs sheet.comps ≡ Some roles
  -- wires lie along an axis
  pub straight : IsTrue (list_all is_straight sheet.wires)
  pub netlist : IsNetlistOf sheet (zip sheet.comps roles) n

-- the project has no other netlist
abbrev pub IsOnlyBuilt : Project → Netlist → Type 0
IsOnlyBuilt project n = (other : Netlist) → IsBuilt project other → other ≡ n

-- the project's circuit is not one that is built
abbrev pub IsNotBuilt : Project → Type 0
IsNotBuilt project = (n : Netlist) → IsBuilt project n → ⊥

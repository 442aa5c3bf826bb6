-- A sheet has one netlist, which has no clock.
use Rattle.std.proofs.Common.{◌≡◌, true, List, [], ◌∷◌, length, get_or, Some, refl, sym, ap, subst, ◌∙◌, arith}
use Rattle.std.proofs.lemmas.Option.{same_Some}
use Rattle.std.specs.List.{zip}
use Rattle.lg_circ.specs.declared.project.Comp.{Comp}
use Rattle.lg_circ.specs.declared.project.Sheet.{Sheet}
use Rattle.lg_circ.specs.declared.project.Project.{Project}
use Rattle.lg_netlist.specs.declared.netlist.Netlist.{Netlist}
use Rattle.lg_netlist.specs.Static.{has_no_clock}
use Rattle.lg_flatten.specs.declared.role.Role.{Role}
use Rattle.lg_flatten.specs.Uses.{roles_of}
use Rattle.lg_flatten.specs.Flat.{IsNetlistOf}
use Rattle.lg_run.specs.OneSheet.{IsBuilt}

pub head_is : (a b : Sheet) → a ∷ [] ≡ b ∷ [] → a ≡ b
head_is a b e = cc

-- a list of one item
pub one_item : (sheets : List Sheet) (sheet : Sheet) → length sheets ≡ 1 → sheet ≡ get_or sheets 0 sheet → sheets ≡ sheet ∷ []
one_item [] sheet e is = absurd (omega (arith, e))
one_item (s ∷ []) sheet e is = ap (λ (x : Sheet). x ∷ []) (sym is)
one_item (s ∷ t ∷ more) sheet e is = absurd (omega (arith, e))

-- what the project has built is the one netlist of its sheet
pub one_built : (project : Project) (sheet : Sheet) (roles : List Role) (n : Netlist) → project.sheets ≡ sheet ∷ [] → roles_of project.libs sheet.comps ≡ Some roles
    → ((other : Netlist) → IsNetlistOf sheet (zip sheet.comps roles) other → other ≡ n) → (other : Netlist) → IsBuilt project other → other ≡ n
one_built project sheet roles n one known only other built =
    let same : built.sheet ≡ sheet = head_is built.sheet sheet (sym built.only_sheet ∙ one) in
    let as_roles : built.roles ≡ roles = same_Some built.roles roles (sym built.roles_are ∙ (ap (λ (s : Sheet). roles_of project.libs s.comps) same ∙ known)) in
    let moved : IsNetlistOf sheet (zip sheet.comps built.roles) other = subst (λ (s : Sheet). IsNetlistOf s (zip s.comps built.roles) other) same built.netlist in
    only other (subst (λ (rs : List Role). IsNetlistOf sheet (zip sheet.comps rs) other) as_roles moved)

-- no sheet of pins and gates has a clock
pub clockless : (sheet : Sheet) (uses : List (Comp × Role)) (n : Netlist) → IsNetlistOf sheet uses n → has_no_clock n ≡ true
clockless sheet uses n is = rw (is.no_clock, is.no_clock_pin) refl

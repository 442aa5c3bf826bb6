-- The sheet's one netlist is what is built.
use Rattle.std.proofs.Common.{◌≡◌, ℕ, Vec, Global, List, sym, ap, ◌∙◌, arith}
use Rattle.std.specs.Prelude.{option_map, Some}
use Rattle.lg_flatten.specs.declared.role.Role.{Role}
use Rattle.lg_flatten.specs.Uses.{roles_of}
use Rattle.lg_run.proofs.OneSheetLemmas.{one_item, one_built}
use Rattle.lg_run.proofs.one_sheet.one_sheet.Goals as goal

pub returns-clause-only : goal.returns-clause-only
returns-clause-only c =
    let sheet = c.sheet-item.result in
    let sheets = one_item c.as_slice.result.now sheet (omega (arith, c.in-len1.len_at_least, c.in-len1.len_below)) c.sheet-item.is in
    let libs : c.as_slice-3.result.now ≡ c.args.project.now.libs = c.as_slice-3.ensures in
    let comps : c.as_slice-comps.result.now ≡ sheet.comps = c.as_slice-comps.ensures in
    let found : roles_of c.as_slice-3.result.now c.as_slice-comps.result.now ≡ Some c.in-Some.roles.items =
    sym c.in_ok-roles.ensures.value ∙ ap (option_map (λ (roles : Vec Role Global). roles.items)) c.in-Some.is in
    let known : roles_of c.args.project.now.libs sheet.comps ≡ Some c.as_slice-4.result.now =
    sym (ap (λ (ls : List (List ℕ × List ℕ)). roles_of ls sheet.comps) libs) ∙ (sym (ap (roles_of c.as_slice-3.result.now) comps) ∙ (found ∙ ap (λ (rs : List Role). Some rs) (sym c.as_slice-4.ensures.value))) in
    one_built c.args.project.now sheet c.as_slice-4.result.now c.in_ok-netlist.netlist (sym c.as_slice.ensures ∙ sheets) known c.in_ok-netlist.ensures.only

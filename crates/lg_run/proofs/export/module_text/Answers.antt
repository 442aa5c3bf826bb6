-- The text is that of the project's module, or there is none.
use Rattle.std.proofs.Common.{refl, sym, ap, subst, ◌∙◌}
use Rattle.std.proofs.lemmas.Result.{err_from_is_err_and}
use Rattle.lg_circ.specs.declared.project.Project.{Project}
use Rattle.lg_export.specs.Agreement.{Agrees}
use Rattle.lg_export.specs.InTime.{AgreesInTime}
use Rattle.lg_export.specs.Layout.{module_of}
use Rattle.lg_netlist.specs.declared.netlist.Netlist.{Netlist}
use Rattle.lg_vtree.specs.declared.module.Module.{Module}
use Rattle.lg_vtree.specs.Grammar.{IsModuleText as IsTextOf}
use Rattle.lg_vtree.specs.Printed.{module_text}
use Rattle.lg_run.specs.OneSheet.{IsBuilt}
use Rattle.lg_run.proofs.Making.{unread, unbuilt, unaccepted}
use Rattle.lg_run.proofs.export.module_text.Goals as goal

pub returns-in_err-project : goal.returns-in_err-project
returns-in_err-project c =
    let p = err_from_is_err_and c.from_residual.result c.from_residual.ensures.1 in
    rw (p.1, p.2) (unread c.args.bytes.now c.in_err-project.field-0.0 c.in_err-project.ensures.too_long.0 c.in_err-project.ensures.too_deep c.in_err-project.ensures.not_project)

pub returns-in_err-netlist : goal.returns-in_err-netlist
returns-in_err-netlist c =
    let p = err_from_is_err_and c.from_residual-in_err-netlist.result c.from_residual-in_err-netlist.ensures.1 in
    rw (p.1, p.2) (unbuilt c.args.bytes.now c.in_ok-project.project c.in_err-netlist.field-0.0 c.in_ok-project.ensures.within
    c.in_ok-project.ensures.found c.in_err-netlist.ensures.not_built)

pub returns-in_err-module : goal.returns-in_err-module
returns-in_err-module c =
    let p = err_from_is_err_and c.from_residual-in_err-module.result c.from_residual-in_err-module.ensures.1 in
    rw (p.1, p.2) (unaccepted c.args.bytes.now c.in_ok-project.project c.in_ok-netlist.netlist c.in_err-module.field-0.0 c.in_ok-project.ensures.within
    c.in_ok-project.ensures.found c.in_ok-netlist.ensures.found c.in_err-module.ensures.refused)

pub returns : goal.returns
returns c =
    let project = c.in_ok-project.project in
    let netlist = c.in_ok-netlist.netlist in (
      c.in_ok-project.ensures.within,
      record {
        made = record {
          project = project;
          netlist = netlist;
          says = c.in_ok-project.ensures.found;
          built = c.in_ok-netlist.ensures.found;
          accepted = c.in_ok-module.ensures.accepted refl;
          printed = c.in_ok-print.ensures.text ∙ ap module_text c.in_ok-module.ensures.layout;
        };
        only = λ other t.
            let same = c.in_ok-project.ensures.only t.project t.says c.in_ok-project.ensures.within in
            let one = c.in_ok-netlist.ensures.only t.netlist (subst (λ (p : Project). IsBuilt p t.netlist) (sym same) t.built) in
            t.printed ∙ (ap (λ (n : Netlist). module_text (module_of n)) one ∙ sym (c.in_ok-print.ensures.text ∙ ap module_text c.in_ok-module.ensures.layout));
        in_grammar = subst (IsTextOf c.in_ok-print.field-0.items) c.in_ok-module.ensures.layout c.in_ok-print.ensures.read_again;
        agrees = subst (λ (m : Module). Agrees netlist m) c.in_ok-module.ensures.layout c.in_ok-module.ensures.agrees;
        in_time = subst (λ (m : Module). AgreesInTime netlist m) c.in_ok-module.ensures.layout c.in_ok-module.ensures.in_time;
      },
    )

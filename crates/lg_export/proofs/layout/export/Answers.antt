-- An accepted netlist can be laid out, and its module agrees with it.
use Rattle.std.proofs.Common.{refl, sym, subst}
use Rattle.lg_vtree.specs.declared.module.Module.{Module}
use Rattle.lg_export.specs.Agreement.{Agrees}
use Rattle.lg_export.specs.InTime.{AgreesInTime}
use Rattle.lg_export.proofs.Accepted.{CanBeLaidOut-accepted}
use Rattle.lg_export.proofs.Agreeing.{agrees}
use Rattle.lg_export.proofs.InTime.{agrees_in_time}
use Rattle.lg_export.proofs.layout.export.Goals as goal

pub laid_out-requires : goal.laid_out-requires
laid_out-requires c = CanBeLaidOut-accepted c.args.netlist.now c.requires (c.in_ok-check_export.ensures.accepted refl)

pub returns-clause-agrees : goal.returns-clause-agrees
returns-clause-agrees c =
    let n = c.args.netlist.now in
    subst (λ (m : Module). Agrees n m) (sym c.in_ok-laid_out.ensures) (agrees n c.requires (c.in_ok-check_export.ensures.accepted refl))

pub returns-clause-in_time : goal.returns-clause-in_time
returns-clause-in_time c =
    let n = c.args.netlist.now in
    subst (λ (m : Module). AgreesInTime n m) (sym c.in_ok-laid_out.ensures) (agrees_in_time n c.requires (c.in_ok-check_export.ensures.accepted refl))

use Rattle.std.proofs.Common.{sym, subst}
use Rattle.lg_ports.specs.Bounds.{AreBounded}
use Rattle.lg_ports.specs.Given.{component}
use Rattle.lg_ports.proofs.BoundLemmas.{ports_bounded}
use Rattle.lg_ports.proofs.listing.ports.Goals as goal

pub returns-clause-bounded : goal.returns-clause-bounded
returns-clause-bounded c =
    subst (AreBounded c.args.kind) (sym c.in_ok-list_ports.ensures)
    (ports_bounded (component c.args.kind c.args.attrs.now.list c.args.table.now.records) c.in_ok-judge.ensures.fit c.args.table.now.near)

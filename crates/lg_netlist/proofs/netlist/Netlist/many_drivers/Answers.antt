-- Nothing was said of the net.
use Rattle.std.proofs.Common.{◌≡◌, ◌<◌, ℕ, Option, None, Some, sym, subst, ◌∙◌, ap, arith}
use Rattle.lg_netlist.specs.declared.acceptance.NotAccepted.{NotAccepted}
use Rattle.lg_netlist.specs.Drivers.{drivers}
use Rattle.lg_netlist.specs.Acceptance.{contested_by}
use Rattle.lg_netlist.proofs.AcceptanceLemmas.{said_later}
use Rattle.lg_netlist.proofs.netlist.Netlist.many_drivers.Goals as goal

pub loop-net-preserved : goal.loop-net-preserved
loop-net-preserved c =
    let n = c.args.self.now in
    let less : c.loop-net.net < n.nets = let each = c.requires.one_each in let test = c.loop-net-test.true in omega arith in
    let none : contested_by n c.loop-net.net (drivers n c.loop-net.net) ≡ None = sym c.in_ok-fault.ensures ∙ c.in_default.is in
    said_later NotAccepted (λ net. contested_by n net (drivers n net)) c.loop-net.net n.nets less none ∙ c.loop-net.invariant

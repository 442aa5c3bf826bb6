-- One port more.
use Rattle.std.proofs.Common.{◌∷◌, [], ◌≤◌, ℕ, List, length, arith}
use Rattle.std.proofs.lemmas.List.{length-append}
use Rattle.std.proofs.lemmas.List.Elements.{All-push}
use Rattle.lg_netlist.specs.Valid.{IsPort}
use Rattle.lg_netlists_tests.proofs.samples.ports.Goals as goal

pub loop-net-preserved : goal.loop-net-preserved
loop-net-preserved g c =
    let port = c.in_ok-port.field-0 in
    record {
      one_each = rw c.in_ok-push.ensures.ok (omega (arith, length-append c.loop-net.ports (port ∷ []), c.loop-net.invariant.one_each));
      fit = rw c.in_ok-push.ensures.ok (All-push (IsPort 8) c.loop-net.ports port c.loop-net.invariant.fit c.in_ok-port.ensures.fits);
      narrow = rw c.in_ok-push.ensures.ok (All-push (λ (bits : List ℕ). length bits ≤ 1) c.loop-net.ports port c.loop-net.invariant.narrow c.in_ok-port.ensures.narrow);
    }

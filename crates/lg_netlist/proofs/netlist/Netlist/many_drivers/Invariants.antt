use Rattle.std.proofs.Common.{◌≡◌, ◌-◌}
use Rattle.std.specs.List.{range_with_len}
use Rattle.lg_netlist.specs.Drivers.{drivers}
use Rattle.lg_netlist.specs.Acceptance.{first_said, contested_by, many_drivers}
use Rattle.lg_netlist.proofs.netlist.Netlist.many_drivers.Given as goal

-- what is said of the nets that are left
abbrev pub invariant-loop-net : goal.invariant-loop-net
invariant-loop-net l =
    first_said (λ net. contested_by l.self net (drivers l.self net)) (range_with_len l.net (l.self.nets - l.net)) ≡ many_drivers l.self

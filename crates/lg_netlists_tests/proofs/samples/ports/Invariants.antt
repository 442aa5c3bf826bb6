use Rattle.std.proofs.Common.{◌≡◌, ◌≤◌, length}
use Rattle.std.specs.Prelude.{All}
use Rattle.lg_netlist.specs.Valid.{IsPort}
use Rattle.lg_netlists_tests.proofs.samples.ports.Given as goal

-- one port for each net so far
abbrev pub invariant-loop-net : goal.invariant-loop-net
invariant-loop-net g l = record { one_each : length l.ports ≡ l.net-index; fit : All (IsPort 8) l.ports; narrow : All (λ bits. length bits ≤ 1) l.ports }

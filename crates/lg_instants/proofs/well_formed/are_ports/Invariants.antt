use Rattle.std.proofs.Common.{◌≡◌, true, take}
use Rattle.std.specs.List.{list_all}
use Rattle.lg_instants.specs.Plain.{is_port}
use Rattle.lg_instants.proofs.well_formed.are_ports.Given as goal

abbrev pub invariant-loop-port : goal.invariant-loop-port
invariant-loop-port l = list_all is_port (take l.port-index l.ports) ≡ true

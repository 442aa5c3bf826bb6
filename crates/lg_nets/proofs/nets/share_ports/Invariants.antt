use Rattle.lg_nets.specs.Shares.{Marks, PortShares}
use Rattle.lg_nets.proofs.nets.share_ports.Given as goal

abbrev pub invariant-loop-port : goal.invariant-loop-port
invariant-loop-port l = Marks l.initial.shared l.shared (PortShares l.labels l.port)

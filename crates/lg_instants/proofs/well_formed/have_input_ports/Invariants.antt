use Rattle.std.proofs.Common.{◌≡◌, true, take}
use Rattle.std.specs.List.{list_all}
use Rattle.lg_instants.specs.Plain.{is_port}
use Rattle.lg_instants.proofs.well_formed.have_input_ports.Given as goal

abbrev pub invariant-loop-part : goal.invariant-loop-part
invariant-loop-part g l = list_all (λ part. list_all is_port (g.P.Behaviour.meaning part).inputs) (take l.part-index l.parts) ≡ true

use Rattle.std.proofs.Common.{◌≡◌, ℕ, List, length, true, take}
use Rattle.std.specs.List.{list_all}
use Rattle.lg_instants.specs.Plain.{is_width}
use Rattle.lg_instants.proofs.well_formed.are_pins.Given as goal

abbrev pub invariant-loop-nets : goal.invariant-loop-nets
invariant-loop-nets l = list_all (λ (nets : List ℕ). is_width (length nets)) (take l.nets-index l.pins) ≡ true

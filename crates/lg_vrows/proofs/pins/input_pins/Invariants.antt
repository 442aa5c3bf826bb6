use Rattle.std.proofs.Common.{◌≡◌, map, take}
use Rattle.lg_vrows.specs.Rows.{input_pin}
use Rattle.lg_vrows.specs.Steps.{lines}
use Rattle.lg_vrows.proofs.pins.input_pins.Given as goal

-- the pins so far
abbrev pub invariant-loop-line : goal.invariant-loop-line
invariant-loop-line l = l.pins ≡ map input_pin (lines (take l.line-index l.inputs))

use Rattle.std.proofs.Common.{◌≡◌, ◌+◌, ◌-◌}
use Rattle.lg_vrules.specs.Rules.{width_from, address_width}
use Rattle.lg_vrules.proofs.addressing.address_width.Given as goal

-- the widths that are left decide
abbrev pub invariant-loop-width : goal.invariant-loop-width
invariant-loop-width l = width_from (21 - l.width) l.width (l.last + 1) ≡ address_width l.last

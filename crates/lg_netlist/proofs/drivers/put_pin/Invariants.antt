-- The drivers so far and those of the bits that are left.
use Rattle.std.proofs.Common.{◌≡◌, ◌++◌, ℕ, drop}
use Rattle.std.specs.Prelude.{map}
use Rattle.std.specs.List.{enumerate_from}
use Rattle.lg_netlist.specs.declared.drivers.Driver.TheVariants.{Pin}
use Rattle.lg_netlist.proofs.drivers.put_pin.Given as goal

abbrev pub invariant-loop-bit : goal.invariant-loop-bit
invariant-loop-bit l =
    l.found.items ++ map (λ (b : ℕ × ℕ). (b.1, Pin l.pin b.0)) (enumerate_from l.bit (drop l.bit l.used.bits))
    ≡ l.fn.found.items ++ map (λ (b : ℕ × ℕ). (b.1, Pin l.pin b.0)) (enumerate_from 0 l.used.bits)

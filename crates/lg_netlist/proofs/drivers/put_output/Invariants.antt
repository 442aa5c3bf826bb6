-- The drivers so far and those of the bits that are left.
use Rattle.std.proofs.Common.{◌≡◌, ◌++◌, ℕ, drop}
use Rattle.std.specs.Prelude.{map}
use Rattle.std.specs.List.{enumerate_from}
use Rattle.lg_netlist.specs.declared.drivers.Driver.TheVariants.{Part}
use Rattle.lg_netlist.proofs.drivers.put_output.Given as goal

abbrev pub invariant-loop-bit : goal.invariant-loop-bit
invariant-loop-bit l =
    l.found.items ++ map (λ (b : ℕ × ℕ). (b.1, Part l.part l.output b.0)) (enumerate_from l.bit (drop l.bit l.bits))
    ≡ l.fn.found.items ++ map (λ (b : ℕ × ℕ). (b.1, Part l.part l.output b.0)) (enumerate_from 0 l.bits)

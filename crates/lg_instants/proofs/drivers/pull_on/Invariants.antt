use Rattle.std.proofs.Common.{◌≡◌, ◌==◌, ℕ, fold, take, map, filter}
use Rattle.lg_value.specs.declared.bit.Bit.{Bit}
use Rattle.lg_value.specs.declared.bit.Bit.TheVariants.{Unknown}
use Rattle.lg_value.specs.Bit.{join_bits}
use Rattle.lg_instants.proofs.drivers.pull_on.Given as goal

abbrev pub invariant-loop-n : goal.invariant-loop-n
invariant-loop-n l =
    l.joined ≡ fold join_bits Unknown (map (λ (p : ℕ × Bit). p.1) (filter (λ (p : ℕ × Bit). p.0 == l.net) (take l.n-index l.pulls)))

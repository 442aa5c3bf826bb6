use Rattle.std.proofs.Common.{◌<◌, ◌≤◌, ℕ, sym}
use Rattle.lg_memory.specs.Image.{Spells}
use Rattle.lg_ports.proofs.NumberLemmas.{number_of-spelled, number_of-none}
use Rattle.lg_ports.proofs.given.number_of.Goals as goal

pub returns-in-Some-clause-number : goal.returns-in-Some-clause-number
returns-in-Some-clause-number c =
    let read : Spells 10 c.as_bytes.result.now c.in-Some.number × (c.in-Some.number ≤ 99) = c.in-Some.ensures in
    sym (number_of-spelled c.args.text.now c.in-Some.number (rw c.as_bytes.ensures.value at read.0) read.1)

pub returns-in-None-clause-number : goal.returns-in-None-clause-number
returns-in-None-clause-number c =
    let none : (n : ℕ) → Spells 10 c.as_bytes.result.now n → 99 < n = c.in-None.ensures in
    sym (number_of-none c.args.text.now (rw c.as_bytes.ensures.value at none))

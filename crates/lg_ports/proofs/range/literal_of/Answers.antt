use Rattle.std.proofs.Common.{◌≡◌, ◌++◌, ◌<◌, ◌≤◌, ℕ, List}
use Rattle.std.specs.Prelude.{codes, MatchOption}
use Rattle.lg_memory.specs.Image.{Spells}
use Rattle.lg_ports.proofs.LiteralLemmas.{literal_marked, literal_unmarked}
use Rattle.lg_ports.proofs.range.literal_of.Goals as goal

pub returns-in-Some : goal.returns-in-Some
returns-in-Some c =
    let behind : c.as_bytes-bytes.result.now ≡ codes "0x" ++ c.in-Some.digits.now = c.in-Some.ensures in
    literal_marked c.args.text.now c.in-Some.digits.now c.read_number.result (rw c.as_bytes-bytes.ensures.value at behind) c.read_number.ensures

pub returns-in-None : goal.returns-in-None
returns-in-None c =
    let none : (digits : List ℕ) → c.as_bytes-bytes.result.now ≡ codes "0x" ++ digits → ⊥ = c.in-None.ensures in
    let number : MatchOption c.read_number-in-None.result ((n : ℕ) → Spells 10 c.as_bytes-bytes.result.now n → 18446744073709551615 < n) (λ n. Spells 10 c.as_bytes-bytes.result.now n × (n ≤ 18446744073709551615)) = c.read_number-in-None.ensures in
    literal_unmarked c.args.text.now c.read_number-in-None.result (rw c.as_bytes-bytes.ensures.value at none) (rw c.as_bytes-bytes.ensures.value at number)

use Rattle.std.proofs.Common.{◌≡◌, ◌+◌, ◌<◌, ◌≤◌, ℕ, None, Some, drop, take, eqb, arith, ◌∙◌, sym}
use Rattle.std.specs.List.{position}
use Rattle.lg_memory.specs.Image.{Spells}
use Rattle.lg_memory.proofs.RunLemmas.{star_none, no_value, no_times, no_word, is_times, Spells-same, tail_slice}
use Rattle.lg_memory.proofs.run.read_run.Goals as goal

pub returns-in_err-value-in-None : goal.returns-in_err-value-in-None
returns-in_err-value-in-None c =
    let found : position (λ c. eqb c 42) c.args.text.now ≡ None = sym c.star_place.ensures ∙ c.in-None.is in
    rw c.from_residual.ensures (no_value c.args.most c.args.text.now (star_none c.args.text.now found) c.in_err-value-in-None.ensures)

pub returns-in_err-count-in-Some : goal.returns-in_err-count-in-Some
returns-in_err-count-in-Some c =
    let text = c.args.text.now in
    let found : position (λ c. eqb c 42) text ≡ Some c.in-Some.star = sym c.star_place.ensures ∙ c.in-Some.is in
    let none : (n : ℕ) → Spells 10 (take c.in-Some.star text) n → 1 ≤ n → n ≤ 1048576 → ⊥ =
    λ n s some most. let past : 1048576 < n = c.in_err-count-in-Some.ensures n s in omega arith in
    rw c.from_residual-in_err-count-in-Some.ensures (no_times (c.args.most + 1) text c.in-Some.star found none)

pub returns-then-count-eq0 : goal.returns-then-count-eq0
returns-then-count-eq0 c =
    let text = c.args.text.now in
    let found : position (λ c. eqb c 42) text ≡ Some c.in-Some.star = sym c.star_place.ensures ∙ c.in-Some.is in
    let zero : Spells 10 (take c.in-Some.star text) c.in_ok-count-in-Some.count = c.in_ok-count-in-Some.ensures.0 in
    no_times (c.args.most + 1) text c.in-Some.star found
    (λ n s some most. let same : n ≡ c.in_ok-count-in-Some.count = Spells-same 10 (take c.in-Some.star text) n c.in_ok-count-in-Some.count s zero in omega arith)

pub returns-in_err-value-in-Some : goal.returns-in_err-value-in-Some
returns-in_err-value-in-Some c =
    let text = c.args.text.now in
    let found : position (λ c. eqb c 42) text ≡ Some c.in-Some.star = sym c.star_place.ensures ∙ c.in-Some.is in
    let none : (n : ℕ) → Spells 16 (drop (c.in-Some.star + 1) text) n → c.args.most < n =
    rw (tail_slice (c.in-Some.star + 1) text) at c.in_err-value-in-Some.ensures in
    rw c.from_residual-in_err-value-in-Some.ensures (no_word c.args.most text c.in-Some.star found none)

pub returns-in_ok-value-in-Some : goal.returns-in_ok-value-in-Some
returns-in_ok-value-in-Some c =
    let text = c.args.text.now in
    let found : position (λ c. eqb c 42) text ≡ Some c.in-Some.star = sym c.star_place.ensures ∙ c.in-Some.is in
    let count = c.in_ok-count-in-Some.ensures in
    let value : Spells 16 (drop (c.in-Some.star + 1) text) c.in_ok-value-in-Some.value =
    rw (tail_slice (c.in-Some.star + 1) text) at c.in_ok-value-in-Some.ensures.0 in
    is_times c.args.most text c.in-Some.star record { count = c.in_ok-count-in-Some.count; value = c.in_ok-value-in-Some.value }
    found count.0 (omega arith) count.1 value c.in_ok-value-in-Some.ensures.1

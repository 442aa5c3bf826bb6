-- Each turn numbers one label more.
use Rattle.std.proofs.Common.{◌≡◌, ℕ, ◌<◌, ◌++◌, List, length, get_or, take, drop, Option, subst, arith}
use Rattle.std.proofs.lemmas.List.{take_at}
use Rattle.std.proofs.lemmas.List.Elements.{All-get_or}
use Rattle.lg_names.specs.Numbering.{NumbersNext}
use Rattle.lg_names.proofs.NumberingLemmas.{Counts, AreNumbered, AreNumbered-more, IsNumbering-from_all}
use Rattle.lg_names.proofs.numbering.numbered.Goals as goal
use Rattle.lg_names.proofs.numbering.numbered.Goals.{then-number-count, else-number-count}

pub loop-label-preserved : goal.loop-label-preserved
loop-label-preserved c =
    let i = c.loop-label.label-index in
    let labels = c.args.labels.now in
    let number = c.number_for-number.result in
    let new = c.number_for-number.new.known in
    let next : NumbersNext c.loop-label.known.items new (get_or labels i 0) c.loop-label.count number =
    subst (λ (k : List (Option ℕ)). NumbersNext k new (get_or labels i 0) c.loop-label.count number) c.deref_mut.ensures.value c.number_for-number.ensures in
    let counts : Counts c.loop-label.count number c.if-number-count.count =
    elim c.if-number-count.branch [ then-number-count w ↦ record { up = λ e. w.count-is; same = λ ne. absurd (ne w.if-number-count.true) } | else-number-count w ↦ record { up = λ e. absurd (w.if-number-count.false e); same = λ ne. w.count-is } ] in
    let small : get_or labels i 0 < c.args.bound = All-get_or (λ label. label < c.args.bound) labels i 0 c.loop-label-test.true c.requires.small in
    let whole : take c.loop-label.known.len (new ++ drop (length new) c.loop-label.known.items) ≡ new = take_at new (drop (length new) c.loop-label.known.items) c.loop-label.known.len (omega arith) in
    rw (whole, c.in_ok-push.ensures.items) (AreNumbered-more c.args.bound labels i c.loop-label.known.items new c.loop-label.numbers.items c.loop-label.count number c.if-number-count.count c.loop-label.invariant small next counts)

pub returns : goal.returns
returns c =
    let done : c.loop-label.label-index ≡ length c.args.labels.now = omega arith in
    IsNumbering-from_all c.args.bound c.args.labels.now c.loop-label.numbers.items c.loop-label.known.items c.loop-label.count
    (subst (λ (n : ℕ). AreNumbered c.args.bound c.args.labels.now n c.loop-label.known.items c.loop-label.numbers.items c.loop-label.count) done c.loop-label.invariant)

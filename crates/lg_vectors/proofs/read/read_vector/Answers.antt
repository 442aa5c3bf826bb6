-- One line more, the first line outside the form, and the end.
use Rattle.std.proofs.Common.{◌≡◌, []}
use Rattle.lg_vectors.specs.Reading.{Stops}
use Rattle.lg_vectors.proofs.LineLemmas.{nothing_left}
use Rattle.lg_vectors.proofs.ReadingLemmas.{reading_goes_on, reading_stops, reading_no, finish_found, finish_only, finish_fault}
use Rattle.lg_vectors.proofs.read.read_vector.Goals as goal

pub returns-then-not-branch-clause-only : goal.returns-then-not-branch-clause-only
returns-then-not-branch-clause-only c = λ named all h.
    let draft = c.loop-rest.draft in
    let so_far = c.loop-rest.invariant.reading in
    let stops : Stops draft.columns c.split_line.result.0.now = rw c.if-not-branch.true at (c.in_ok-add_line.ensures.line so_far.rows so_far.stands) in
    absurd (reading_no c.args.bytes.now c.split_line.result.0.now c.loop-rest.rest.now c.split_line.result.1.now draft.columns draft.rows draft.over c.loop-rest.number so_far c.split_line.ensures.lines stops named all h)

pub returns-then-not-branch-clause-fault : goal.returns-then-not-branch-clause-fault
returns-then-not-branch-clause-fault c =
    let draft = c.loop-rest.draft in
    let so_far = c.loop-rest.invariant.reading in
    let stops : Stops draft.columns c.split_line.result.0.now = rw c.if-not-branch.true at (c.in_ok-add_line.ensures.line so_far.rows so_far.stands) in
    reading_stops c.args.bytes.now c.split_line.result.0.now c.loop-rest.rest.now c.split_line.result.1.now draft.columns draft.rows draft.over c.loop-rest.number c.saturating_add-number.result so_far c.split_line.ensures.lines c.saturating_add-number.ensures stops

pub loop-rest-preserved : goal.loop-rest-preserved
loop-rest-preserved c =
    let draft = c.loop-rest.draft in
    let new = c.add_line.new.draft in
    let so_far = c.loop-rest.invariant.reading in
    let step = rw c.if-not-branch.false at (c.in_ok-add_line.ensures.line so_far.rows so_far.stands) in
    record {
      reading = reading_goes_on c.args.bytes.now c.split_line.result.0.now c.loop-rest.rest.now c.split_line.result.1.now draft.columns new.columns draft.rows new.rows draft.over new.over c.loop-rest.number c.saturating_add-number.result so_far c.split_line.ensures.lines c.saturating_add-number.ensures step;
      fits = c.in_ok-add_line.ensures.fits;
    }

pub returns-clause-found : goal.returns-clause-found
returns-clause-found c =
    let draft = c.loop-rest.draft in
    let none : c.loop-rest.rest.now ≡ [] = nothing_left c.loop-rest.rest.now c.is_empty.result c.is_empty.ensures c.loop-rest-test.false in
    finish_found c.args.bytes.now c.loop-rest.rest.now draft.columns draft.rows draft.over c.loop-rest.number c.loop-rest.invariant.reading none c.finish.result c.finish.ensures.whole

pub returns-clause-only : goal.returns-clause-only
returns-clause-only c =
    let draft = c.loop-rest.draft in
    let none : c.loop-rest.rest.now ≡ [] = nothing_left c.loop-rest.rest.now c.is_empty.result c.is_empty.ensures c.loop-rest-test.false in
    finish_only c.args.bytes.now c.loop-rest.rest.now draft.columns draft.rows draft.over c.loop-rest.number c.loop-rest.invariant.reading none c.finish.result c.finish.ensures.whole c.finish.ensures.over

pub returns-clause-fault : goal.returns-clause-fault
returns-clause-fault c =
    let draft = c.loop-rest.draft in
    let none : c.loop-rest.rest.now ≡ [] = nothing_left c.loop-rest.rest.now c.is_empty.result c.is_empty.ensures c.loop-rest-test.false in
    finish_fault c.args.bytes.now c.loop-rest.rest.now draft.columns draft.rows draft.over c.loop-rest.number c.loop-rest.invariant.reading none c.finish.result c.finish.ensures.over

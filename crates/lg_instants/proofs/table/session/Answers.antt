use Rattle.std.proofs.Common.{List, ◌+◌, Option, Some, drop, sym, subst, arith}
use Rattle.lg_timing.specs.Configuration.{Configuration}
use Rattle.lg_timing.specs.Session.{Line}
use Rattle.lg_instants.specs.Plain.{circuit_of}
use Rattle.lg_instants.specs.Rows.{RowEnds}
use Rattle.lg_instants.proofs.Tables.{Begins, table-done, table-stops, table-more}
use Rattle.lg_instants.proofs.table.session.Goals as goal

pub returns-in-Stops : goal.returns-in-Stops
returns-in-Stops g c =
    let circuit = circuit_of g.P.Behaviour.meaning c.args.circuit.now in
    let words = c.index-rows-i.result in
    let ended = subst (λ (o : Option Configuration). RowEnds circuit c.args.limit o words c.in_ok-line.field-0) c.as_ref.ensures.value c.in_ok-line.ensures in
    let ends = subst (RowEnds circuit c.args.limit c.loop-i.stood words) c.in-Stops.is ended in
    table-stops circuit c.args.limit c.args.rows.now c.loop-i.lines.items c.loop-i.stood (c.loop-i.i + 1) c.loop-i.i words c.in-Stops.phase
    (omega arith) c.index-rows-i.is ends c.loop-i.invariant.begins

pub loop-i-preserved : goal.loop-i-preserved
loop-i-preserved g c =
    let circuit = circuit_of g.P.Behaviour.meaning c.args.circuit.now in
    let words = c.index-rows-i.result in
    let line = c.in-Done.line in
    let ended = subst (λ (o : Option Configuration). RowEnds circuit c.args.limit o words c.in_ok-line.field-0) c.as_ref.ensures.value c.in_ok-line.ensures in
    let ends = subst (RowEnds circuit c.args.limit c.loop-i.stood words) c.in-Done.is ended in
    let more = table-more circuit c.args.limit c.args.rows.now c.loop-i.lines.items c.loop-i.stood (c.loop-i.i + 1) c.loop-i.i words line c.in-Done.last
    (omega arith) c.index-rows-i.is ends.0 c.loop-i.invariant.begins in
    record {
      begins = subst (λ (l : List Line). Begins circuit c.args.limit c.args.rows.now l (Some c.in-Done.last) (c.loop-i.i + 1 + 1) (drop (c.loop-i.i + 1) c.args.rows.now)) (sym c.in_ok-push-in-Done.ensures.items) more;
      stood = ends.1;
    }

pub returns : goal.returns
returns g c =
    let circuit = circuit_of g.P.Behaviour.meaning c.args.circuit.now in
    table-done circuit c.args.limit c.args.rows.now c.loop-i.lines.items c.loop-i.stood (c.loop-i.i + 1) c.loop-i.i (omega arith) c.loop-i.invariant.begins

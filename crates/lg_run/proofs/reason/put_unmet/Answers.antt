-- The texts of each condition make up its line.
use Rattle.std.proofs.Common.{ℕ, List, subst}
use Rattle.lg_io.specs.Sink.{Wrote}
use Rattle.lg_run.proofs.RefusalLines.{many_drivers_line, undriven_line, cycle_line}
use Rattle.lg_run.proofs.reason.put_unmet.Goals as goal

pub returns-in-ManyDrivers : goal.returns-in-ManyDrivers
returns-in-ManyDrivers g c =
    let condition = c.in-ManyDrivers in
    subst (λ (line : List ℕ). Wrote c.put_all.result (g.E.Sink.seen c.args.err.now) (g.E.Sink.seen c.put_all.new.err) line)
    (many_drivers_line c.args.condition.now condition.net condition.first condition.second c.format-net.result.now c.as_str-first.result.now c.as_str-second.result.now
    condition.is c.format-net.ensures.text c.as_str-first.ensures c.as_str-second.ensures) c.put_all.ensures

pub returns-in-Undriven : goal.returns-in-Undriven
returns-in-Undriven g c =
    subst (λ (line : List ℕ). Wrote c.put_all-in-Undriven.result (g.E.Sink.seen c.args.err.now) (g.E.Sink.seen c.put_all-in-Undriven.new.err) line)
    (undriven_line c.args.condition.now c.in-Undriven.part c.in-Undriven.port c.as_str.result.now c.as_str-in-Undriven.result.now c.in-Undriven.is c.as_str.ensures
    c.as_str-in-Undriven.ensures) c.put_all-in-Undriven.ensures

pub returns-in-Cycle : goal.returns-in-Cycle
returns-in-Cycle g c =
    subst (λ (line : List ℕ). Wrote c.put_all-in-Cycle.result (g.E.Sink.seen c.args.err.now) (g.E.Sink.seen c.put_all-in-Cycle.new.err) line)
    (cycle_line c.args.condition.now c.in-Cycle.part c.as_str-in-Cycle.result.now c.in-Cycle.is c.as_str-in-Cycle.ensures) c.put_all-in-Cycle.ensures

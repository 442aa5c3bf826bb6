use Rattle.std.proofs.Common.{ℕ, List, ◌≤◌, take, Bor}
use Rattle.std.specs.List.{flat_map}
use Rattle.lg_io.specs.Sink.{Took}
use Rattle.lg_run.proofs.line.put_all.Given as goal

abbrev pub invariant-loop-text : goal.invariant-loop-text
invariant-loop-text g l =
    record {
      taken : Took (g.E.Sink.seen l.fn.err) (g.E.Sink.seen l.err) (flat_map (λ (t : Bor (List ℕ)). t.now) (take l.text-index l.texts));
      never_falls : (g.E.Sink.seen l.fn.err).faults ≤ (g.E.Sink.seen l.err).faults;
    }

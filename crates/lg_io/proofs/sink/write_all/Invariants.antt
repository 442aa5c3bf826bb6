use Rattle.std.proofs.Common.{length, take, ◌-◌, ◌≡◌, ◌≤◌}
use Rattle.lg_io.specs.Sink.{Took}
use Rattle.lg_io.proofs.sink.write_all.Given as goal

abbrev pub invariant-loop-done : goal.invariant-loop-done
invariant-loop-done g l =
    record {
      within : l.done ≤ length l.bytes;
      taken : Took (g.S.Sink.seen l.initial.sink) (g.S.Sink.seen l.sink) (take l.done l.bytes);
      never_falls : (g.S.Sink.seen l.initial.sink).faults ≤ (g.S.Sink.seen l.sink).faults;
      empty : l.done ≡ 0 → l.sink ≡ l.initial.sink;
    }

abbrev pub decreases-loop-done : goal.decreases-loop-done
decreases-loop-done g l = length l.bytes - l.done
